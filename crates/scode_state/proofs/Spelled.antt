-- The numbers that primitives are kept as.
use Rattle.std.proofs.Common.{◌≡◌, ◌<◌, ◌≤◌, ◌+◌, ◌^◌, ℕ, ℤ, true, false, List, length, nat_le, nat_lt, Option, Some, None, Result, Ok, Err, refl, sym, ap, subst, ◌∙◌, arith}
use Rattle.std.specs.Prelude.{IsTrue, FitsSigned}
use Rattle.std.specs.Int.{bytes_high_first, cast_signed, cast_unsigned, w32, w64}
use Rattle.std.proofs.lemmas.Bool.{leb-true, ltb-true}
use Rattle.std.proofs.lemmas.Int.{to_z-of_z}
use Rattle.byteorder.specs.Numbers.{length-bytes_high_first}
use Rattle.sed_value.specs.declared.slot_type.Primitive.{Primitive}
use Rattle.sed_value.specs.declared.slot_type.Primitive.TheVariants as prim
use Rattle.sed_value.specs.declared.slot_type.SlotType.TheVariants as slot
use Rattle.sed_value.specs.declared.value.Value.{Value}
use Rattle.sed_value.specs.declared.value.Value.TheVariants as kept
use Rattle.sed_value.specs.SlotType.{width_of}
use Rattle.sed_value.specs.Value.{is_of_type, is_signed}
use Rattle.sed_wire.specs.Number.{number_of}
use Rattle.sed_wire.proofs.NumberLemmas.{written_spells, written_spells_signed}
use Rattle.sed_engine.proofs.Ranges.{fits_of}
use Rattle.scode_code.specs.Contents.{primitive_from}
use Rattle.scode_whole.proofs.Truths.{no_truth}
use Rattle.scode_state.specs.Cells.{value_number}

-- a number in so many bytes is itself
pub spelled : (width number : ℕ) → number < 256 ^ width → number_of (bytes_high_first width number) ≡ number
spelled width number below = (written_spells width number below).is_number

-- a value of a primitive type is what its number in as many bytes stands for
pub value_again : (p : Primitive) (v : Value) → is_of_type (slot.Prim p) v ≡ true
    → primitive_from p (bytes_high_first (width_of p) (value_number v)) ≡ v
value_again prim.Bool (kept.Bool t) h =
    let few = leb-true t 2 h in ap kept.Bool (spelled 1 t (omega (arith, few)))
value_again prim.Byte (kept.Byte n) h = ap kept.Byte (spelled 1 n (ltb-true n 256 h))
value_again prim.Short (kept.Short n) h = ap kept.Short (spelled 2 n (ltb-true n 65536 h))
value_again prim.Int (kept.Int n) h =
    let s = written_spells_signed w32 n (fits_of w32 n h) in
    ap (λ (k : ℕ). kept.Int (cast_signed w32 k)) s.complement.is_number ∙ ap kept.Int (to_z-of_z w32 n s.fits)
value_again prim.Long (kept.Long n) h =
    let s = written_spells_signed w64 n (fits_of w64 n h) in
    ap (λ (k : ℕ). kept.Long (cast_signed w64 k)) s.complement.is_number ∙ ap kept.Long (to_z-of_z w64 n s.fits)
value_again p v h = no_truth h
