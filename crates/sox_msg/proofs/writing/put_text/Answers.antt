use Rattle.std.proofs.Common.{ℕ, List, [], ◌∷◌, length, subst, ap, arith}
use Rattle.sed_wire.specs.Writing.{Appends}
use Rattle.sed_wire.proofs.WritingLemmas.{appends-then, room-after}
use Rattle.sox_msg.proofs.writing.put_text.Goals as goal

pub put_bytes-requires-2 : goal.put_bytes-requires-2
put_bytes-requires-2 c =
    omega (arith, room-after _ _ _ c.put_bytes.ensures, c.requires, ap length c.as_bytes.ensures.value)

pub returns : goal.returns
returns c =
    let first = subst (λ (t : List ℕ). Appends c.args.writer.now c.put_bytes.new.self t) c.as_bytes.ensures.value
    c.put_bytes.ensures in
    appends-then _ _ _ c.args.text.now (0 ∷ []) first c.put_bytes-2.ensures
