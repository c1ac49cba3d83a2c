use Rattle.std.proofs.Common.{[], ◌∷◌}
use Rattle.sed_wire.proofs.WritingLemmas.{appends-then}
use Rattle.app_parts.proofs.put.put_text.Goals as goal

pub returns : goal.returns
returns c = appends-then _ _ _ c.args.text.now (0 ∷ []) c.put_bytes.ensures c.put_bytes-2.ensures
