use Rattle.std.proofs.Common.{ℕ, ℤ, List, ◌++◌, ap, ◌∙◌, w32}
use Rattle.std.specs.Int.{to_be_bytes, cast_unsigned}
use Rattle.std.proofs.lemmas.Int.{to_z-of_z}
use Rattle.scode_image.proofs.Putting.{signed_puts}
use Rattle.scode_image.proofs.put.put_i4.Goals as goal

pub returns : goal.returns
returns c =
    signed_puts c.args.number _ _ (c.in_ok-extend_from_slice.ensures.items
    ∙ ap (λ (s : List ℕ). c.args.into.now.items ++ s) c.to_be_bytes.ensures
    ∙ ap (λ (n : ℤ). c.args.into.now.items ++ to_be_bytes w32 (cast_unsigned w32 n)) (to_z-of_z w32 c.args.number c.ranges.number))
