-- The rule on `? :`. Its operands are the two branches; before it stands a condition.
use Rattle.std.specs.Prelude.{ℕ, ◌&&◌, if◌then◌else◌, Option, Some, None}
use Rattle.sed_terms.specs.declared.judged.Judged.{Judged}
use Rattle.sed_terms.specs.declared.judged.Judged.TheVariants.{Sound}
use Rattle.sed_terms.specs.declared.sign.Sign.TheVariants as sign
use Rattle.sed_terms.specs.Faults.{Marks, broken, joined, some_or}
use Rattle.sed_terms.specs.Sorts.{sort_of, term_kind, is_value}
use Rattle.sed_terms.specs.Term.{Term, Node}
use Rattle.sed_body_rules.specs.Conversions.{is_number, is_operand, same_kind, meeting, in_width, beside}
use Rattle.sed_body_rules.specs.Wants.{wants, truth}

-- the branches, where their kinds are equal once an int beside a long is a long
abbrev pub equal_branches : Term → Term → Option (Term × Term)
equal_branches x y =
    if is_number (sort_of x) && is_number (sort_of y) then Some (in_width (meeting x y) x, in_width (meeting x y) y)
    else if is_value x && is_value y && same_kind (term_kind x) (term_kind y) then Some (x, y)
    else None

abbrev pub branches : Term → Term → Option (Term × Term)
branches x y = equal_branches (beside (sort_of y) (sort_of x) x) (beside (sort_of x) (sort_of y) y)

-- branches of unequal kinds are a fault at the second one
abbrev pub branched : {F : Type 0} → Marks F → ℕ → ℕ → Judged Term F → Judged Term F → Judged (Term × Term) F
branched m left right x y =
    joined m (wants m is_operand left x) (wants m is_operand right y)
    (λ u v. some_or {A = Term × Term} m (broken 13 right) (branches u v))

-- `at` is the place of the condition, `left` and `right` those of the branches
abbrev pub chosen : {F : Type 0} → Marks F → ℕ → ℕ → ℕ → Judged Term F → Judged Term F → Judged Term F → Judged Term F
chosen m at left right t x y =
    joined {B = Term × Term} m (truth m at t) (branched m left right x y)
    (λ test both. Sound (Node sign.Choose test (Node sign.Pair both.0 both.1)))
