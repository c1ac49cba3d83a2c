-- Rule 19: a value is returned exactly where the method has a result, and goes to it. Of a result that is declared with
-- a fault the rule does not speak. Nothing asks that a body returns: where its end is reached, the answer is 0, false
-- or null.
use Rattle.std.specs.Prelude.{ℕ, Option, Some, None}
use Rattle.sed_typed.specs.declared.kind.Kind.{Kind}
use Rattle.sed_typed.specs.declared.kind.Kind.TheVariants as kind
use Rattle.sed_names.specs.Names.{Names}
use Rattle.sed_terms.specs.declared.judged.Judged.{Judged}
use Rattle.sed_terms.specs.declared.judged.Judged.TheVariants.{Sound, Unknown}
use Rattle.sed_terms.specs.declared.sign.Sign.TheVariants as sign
use Rattle.sed_terms.specs.Faults.{Marks, broken, after, joined, some_or}
use Rattle.sed_terms.specs.Term.{Term, Absent, Node, leaf}
use Rattle.sed_body_rules.specs.Conversions.{placed}

-- `return` alone, at its place: a missing value
abbrev pub returned_nothing : {F : Type 0} → Marks F → Option Kind → ℕ → Judged Term F
returned_nothing m (Some kind.Void) at = Sound (leaf sign.Return)
returned_nothing m (Some k) at = Unknown (m.one (broken 19 at))
returned_nothing m None at = Unknown m.none

-- a result to which a value may go; in a method without one the value at this place is too much
abbrev pub has_result : {F : Type 0} → Marks F → Option Kind → ℕ → Judged Kind F
has_result m (Some kind.Void) at = Unknown (m.one (broken 19 at))
has_result m (Some k) at = Sound k
has_result m None at = Unknown m.none

-- a value that goes to the result
abbrev pub answering : {F : Type 0} → Marks F → Names → Kind → ℕ → Term → Judged Term F
answering m n to at t = some_or m (broken 19 at) (placed n.below to t)

abbrev pub returned : {F : Type 0} → Marks F → Names → Option Kind → ℕ → Judged Term F → Judged Term F
returned m n k at x =
    joined m (has_result m k at) x (λ to t. after (answering m n to at t) (λ v. Sound (Node sign.Return v Absent)))
