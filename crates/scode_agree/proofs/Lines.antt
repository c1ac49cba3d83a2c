-- A class is at or below itself and its base.
use Rattle.std.proofs.Common.{◌≡◌, ℕ, zero, suc, ◌<◌, ◌==◌, true, List, length, Option, Some, refl, ap, ◌∙◌, arith}
use Rattle.std.specs.List.{list_any}
use Rattle.std.proofs.lemmas.Bool.{eq-eqb, or_left, or_right}
use Rattle.sed_typed.specs.declared.program.Program.{Program}
use Rattle.sed_typed.specs.declared.schema.ClassInfo.{ClassInfo}
use Rattle.sed_typed.specs.Classes.{base_of, lineage, reached}
use Rattle.sed_typed.specs.Typed.{Typed}
use Rattle.sed_typed.specs.TypedSchema.{is_below}
use Rattle.sed_typed.proofs.Lineages.{lineage_of_base}

first_reached : (next : ℕ → Option ℕ) (n class : ℕ) → class < n
    → list_any (λ (c : ℕ). c == class) (reached next n (Some class)) ≡ true
first_reached next zero class h = absurd (omega (arith, h))
first_reached next (suc n) class h =
    or_left (class == class) (list_any (λ (c : ℕ). c == class) (reached next n (next class))) (eq-eqb class class refl)

pub below_itself : (classes : List ClassInfo) (class : ℕ) → class < length classes → is_below classes class class ≡ true
below_itself classes class h = first_reached (base_of classes) (length classes) class h

pub below_base : (program : Program) → Typed program → (class base : ℕ)
    → base_of program.schema.classes class ≡ Some base → base < length program.schema.classes →
    is_below program.schema.classes base class ≡ true
below_base program typed class base e h =
    ap (list_any (λ (c : ℕ). c == base)) (lineage_of_base program typed class base e)
    ∙ or_right (class == base) (list_any (λ (c : ℕ). c == base) (lineage program.schema.classes base))
    (below_itself program.schema.classes base h)
