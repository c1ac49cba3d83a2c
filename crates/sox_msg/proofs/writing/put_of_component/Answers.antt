use Rattle.std.proofs.Common.{[], ◌∷◌}
use Rattle.sed_wire.proofs.WritingLemmas.{appends-then}
use Rattle.sox_msg.specs.Command.{u2}
use Rattle.sox_msg.proofs.writing.put_of_component.Goals as goal

pub returns : goal.returns
returns c =
    appends-then _ _ _ (u2 c.args.id.0) (c.args.which ∷ c.args.bytes.now) c.put_id.ensures
    (appends-then _ _ _ (c.args.which ∷ []) c.args.bytes.now c.put_bytes.ensures c.put_bytes-2.ensures)
