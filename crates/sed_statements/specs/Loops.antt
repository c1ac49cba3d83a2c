-- What `if` and the loops come to, by their parts. Their conditions are bools, by rule 13.
use Rattle.std.specs.Prelude.{ℕ, Option, Some}
use Rattle.std.specs.Option.{option_map}
use Rattle.sed_terms.specs.declared.judged.Judged.{Judged}
use Rattle.sed_terms.specs.declared.judged.Judged.TheVariants.{Sound}
use Rattle.sed_terms.specs.declared.sign.Sign.TheVariants as sign
use Rattle.sed_terms.specs.Faults.{Marks, after, joined, paired}
use Rattle.sed_terms.specs.Forms.{discarded}
use Rattle.sed_terms.specs.Term.{Term, Node, optional}
use Rattle.sed_body_rules.specs.Wants.{truth}

-- a condition, with its place
abbrev pub conditional : {F : Type 0} → Marks F → ℕ → Judged Term F → Judged Term F → Judged Term F → Judged Term F
conditional m at t x y =
    joined {B = Term × Term} m (truth m at t) (paired m x y) (λ c both.
    Sound (Node sign.If c (Node sign.Pair both.0 both.1)))

abbrev pub repeated : {F : Type 0} → Marks F → ℕ → Judged Term F → Judged Term F → Judged Term F
repeated m at t x = joined m (truth m at t) x (λ c u. Sound (Node sign.While c u))

abbrev pub done_while : {F : Type 0} → Marks F → Judged Term F → ℕ → Judged Term F → Judged Term F
done_while m x at t = joined m x (truth m at t) (λ u c. Sound (Node sign.DoWhile u c))

-- the parts of the head of a `for` that may be missing; a missing condition is true
abbrev pub test_of : {F : Type 0} → Marks F → ℕ → Judged Term F → Judged (Option Term) F
test_of m at t = after (truth m at t) (λ c. Sound (Some c))

abbrev pub last_of : {F : Type 0} → Judged Term F → Judged (Option Term) F
last_of x = after x (λ t. Sound (Some t))

abbrev pub repeated_for : {F : Type 0} → Marks F → Judged Term F → Judged (Option Term) F
    → Judged (Option Term) F → Judged Term F → Judged Term F
repeated_for m first test last x =
    joined {A = Term × (Option Term × Option Term)} m
    (paired {B = Option Term × Option Term} m first (paired m test last)) x
    (λ head u. Sound (Node sign.For
    (Node sign.Pair head.0 (Node sign.Pair (optional head.1.0) (optional (option_map discarded head.1.1)))) u))
