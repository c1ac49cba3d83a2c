-- Numbers of classes.
use Rattle.std.proofs.Common.{◌≡◌, ℕ, Option, Some, None, refl, ap, ◌∙◌}
use Rattle.std.specs.Option.{option_map}
use Rattle.sed_typed.specs.declared.number.TypeNo.{TypeNo}
use Rattle.sed_program.specs.Types.{type_no}

again : (o : Option TypeNo) → o ≡ option_map type_no (option_map (λ (t : TypeNo). t.0) o)
again None = refl
again (Some t) = refl

pub as_number : (o : Option TypeNo) (p : Option ℕ) → option_map (λ (t : TypeNo). t.0) o ≡ p → o ≡ option_map type_no p
as_number o p e = again o ∙ ap (option_map type_no) e
