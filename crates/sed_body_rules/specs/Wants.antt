-- What is wanted of an operand. Rule 13 is broken at each operand of a wrong kind.
use Rattle.std.specs.Prelude.{ℕ, Bool}
use Rattle.sed_typed.specs.declared.kind.Kind.TheVariants as kind
use Rattle.sed_terms.specs.declared.judged.Judged.{Judged}
use Rattle.sed_terms.specs.declared.sort.Sort.{Sort}
use Rattle.sed_terms.specs.declared.sort.Sort.TheVariants.{Of}
use Rattle.sed_terms.specs.Faults.{Marks, broken, after, unless}
use Rattle.sed_terms.specs.Sorts.{sort_of}
use Rattle.sed_terms.specs.Term.{Term}
use Rattle.sed_body_rules.specs.Conversions.{is_bool, beside}

-- an operand of which a test holds; `at` is the place of its first byte
abbrev pub wants : {F : Type 0} → Marks F → (Sort → Bool) → ℕ → Judged Term F → Judged Term F
wants m test at x = after x (λ t. unless m (test (sort_of t)) (broken 13 at) t)

-- a bool: a condition, or an operand of `!`, `&&` and `||`; `null` is one there
abbrev pub as_bool : Term → Term
as_bool t = beside (Of kind.Bool) (sort_of t) t

abbrev pub truth : {F : Type 0} → Marks F → ℕ → Judged Term F → Judged Term F
truth m at x = after x (λ t. unless m (is_bool (sort_of (as_bool t))) (broken 13 at) (as_bool t))
