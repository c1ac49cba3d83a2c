-- The rules on declarations of locals and parameters. They are broken at the first byte of the declaration, but rule 1
-- at the name that has no class, and rule 15 at the initial value.
use Rattle.std.specs.Prelude.{ℕ, ◌==◌, Bool, nat_lt, not, if◌then◌else◌, is_some, List, [], ◌∷◌}
use Rattle.sed_units.specs.declared.leaves.Param.{Param}
use Rattle.sed_units.specs.declared.leaves.TypeRef.{TypeRef}
use Rattle.sed_typed.specs.declared.kind.Kind.{Kind}
use Rattle.sed_names.specs.Names.{Names}
use Rattle.sed_terms.specs.declared.judged.Judged.{Judged}
use Rattle.sed_terms.specs.declared.judged.Judged.TheVariants.{Sound, Unknown}
use Rattle.sed_terms.specs.declared.sign.Sign.TheVariants as sign
use Rattle.sed_terms.specs.Faults.{Marks, broken, after, joined, unless}
use Rattle.sed_terms.specs.Term.{Term, Absent, Node, leaf}
use Rattle.sed_body_rules.specs.Stores.{going}
use Rattle.sed_body_rules.specs.declared.local.TypeMeaning.{TypeMeaning}
use Rattle.sed_body_rules.specs.declared.local.TypeMeaning.TheVariants.{Is, NoClass, Outside}
use Rattle.sed_body_rules.specs.LocalTypes.{type_meaning}
use Rattle.sed_body_rules.specs.Scope.{Scope, local_named, with_local}

-- rule 1: its type has a class; and rule 10: it is one that a local may have
abbrev pub is_storable : {F : Type 0} → Marks F → ℕ → TypeMeaning → Judged Kind F
is_storable m at (Is k) = Sound k
is_storable m at (NoClass name_at) = Unknown (m.one (broken 1 name_at))
is_storable m at Outside = Unknown (m.one (broken 10 at))

-- Rule 22: there is a number left for it. It is broken at the first local past the limit; those behind that one have no
-- number either, and no fault of their own.
abbrev pub has_number : {F : Type 0} → Marks F → ℕ → ℕ → ℕ → Judged ℕ F
has_number m at limit next =
    if nat_lt next limit then Sound next else if next == limit then Unknown (m.one (broken 22 at)) else Unknown m.none

-- rule 23: no local or parameter in scope has its name
abbrev pub is_free : Scope → List ℕ → Bool
is_free s name = not (is_some (local_named s.entries name))

abbrev pub has_free_name : {F : Type 0} → Marks F → ℕ → Bool → Judged Bool F
has_free_name m at free = unless m free (broken 23 at) free

abbrev pub new_number : {F : Type 0} → Marks F → ℕ → Scope → List ℕ → Judged ℕ F
new_number m at s name =
    joined {B = Bool} m (has_number m at s.limit s.next) (has_free_name m at (is_free s name)) (λ i free. Sound i)

-- a local that is declared at a place: its kind and its number
abbrev pub declared : {F : Type 0} → Marks F → Names → Scope → ℕ → TypeRef → List ℕ → Judged (Kind × ℕ) F
declared m n s at type name =
    joined m (is_storable m at (type_meaning n type)) (new_number m at s name) (λ k i. Sound (k, i))

-- ---- the statement

-- without an initial value
abbrev pub begun_bare : {F : Type 0} → Judged (Kind × ℕ) F → Judged Term F
begun_bare l = after {A = Kind × ℕ} l (λ p. Sound (leaf (sign.Begin p.0 p.1)))

-- with one, which stands at this place and goes to the local by rule 15
abbrev pub begun : {F : Type 0} → Marks F → Names → Judged (Kind × ℕ) F → ℕ → Judged Term F → Judged Term F
begun m n l at x =
    joined {A = Kind × ℕ} m l x (λ p t.
    after (going m n.below p.0 at t) (λ v. Sound (Node (sign.Begin p.0 p.1) v Absent)))

-- ---- parameters

-- Their names alone are judged here; what else is asked of them is asked of members.
abbrev pub free_too : {F : Type 0} → Marks F → Judged Bool F → Judged Bool F → Judged Bool F
free_too m x y = joined m x y (λ a b. Sound b)

-- those so far, with a row of parameters behind them
abbrev pub are_free_names : {F : Type 0} → Marks F → Names → Scope → Judged Bool F → List Param → Judged Bool F
are_free_names m n s x [] = x
are_free_names m n s x (p ∷ ps) =
    are_free_names m n (with_local n s p.kind p.name.bytes)
    (free_too m x (has_free_name m p.at (is_free s p.name.bytes))) ps
