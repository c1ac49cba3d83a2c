-- Rule 20: a case is an int literal or a define of an int, no two cases of a `switch` are of one value, and it has one
-- default at most. The rule is broken at the expression of a case, and at a `default`.
use Rattle.std.specs.Prelude.{ℕ, ℤ, Bool, not, List, [], ◌∷◌, ◌++◌, Option}
use Rattle.std.specs.List.{list_any}
use Rattle.sed_typed.specs.declared.statement.Label.{Label}
use Rattle.sed_typed.specs.declared.statement.Label.TheVariants.{Case, Default}
use Rattle.sed_typed.specs.TypedStmt.{same_label, is_default}
use Rattle.sed_terms.specs.declared.judged.Judged.{Judged}
use Rattle.sed_terms.specs.declared.judged.Judged.TheVariants.{Sound, Unknown}
use Rattle.sed_terms.specs.declared.sign.Sign.TheVariants as sign
use Rattle.sed_terms.specs.Faults.{Marks, broken, after, joined, paired, unless, some_or}
use Rattle.sed_terms.specs.Term.{Term, Absent, Node, appended}
use Rattle.sed_body_rules.specs.Conversions.{is_int}
use Rattle.sed_body_rules.specs.Wants.{wants}

-- ---- each label

abbrev pub is_new_case : List Label → ℤ → Bool
is_new_case labels i = not (list_any (same_label i) labels)

abbrev pub is_new_default : List Label → Bool
is_new_default labels = not (list_any is_default labels)

abbrev pub new_case : {F : Type 0} → Marks F → List Label → ℕ → ℤ → Judged Label F
new_case m labels at i = unless m (is_new_case labels i) (broken 20 at) (Case i)

-- a case by the int that its expression spells, if it spells one
abbrev pub spelled_case : {F : Type 0} → Marks F → List Label → ℕ → Option ℤ → Judged Label F
spelled_case m labels at spelled = after (some_or m (broken 20 at) spelled) (λ i. new_case m labels at i)

-- A case at a place, behind these labels, with what its expression comes to. Of one with a fault inside the rule does
-- not speak.
abbrev pub case_of : {F : Type 0} → Marks F → List Label → ℕ → Option ℤ → Judged Term F → Judged Label F
case_of m labels at spelled x = after x (λ t. spelled_case m labels at spelled)

abbrev pub default_of : {F : Type 0} → Marks F → List Label → ℕ → Judged Label F
default_of m labels at = unless m (is_new_default labels) (broken 20 at) Default

-- the labels so far, with one more where it is sound
abbrev pub with_label : {F : Type 0} → List Label → Judged Label F → List Label
with_label labels (Sound l) = labels ++ l ∷ []
with_label labels (Unknown f) = labels

-- ---- the statement

-- the labels so far and their statements, with one more label and the row of statements behind it
abbrev pub with_case : {F : Type 0} → Marks F → Judged Term F → Judged Label F → Judged Term F → Judged Term F
with_case m xs l all =
    joined {B = Label × Term} m xs (paired m l all) (λ ts p.
    Sound (appended ts (Node (sign.Label p.0) (Node sign.Block p.1 Absent) Absent)))

-- the value, with its place, is an int by rule 13
abbrev pub switched : {F : Type 0} → Marks F → ℕ → Judged Term F → Judged Term F → Judged Term F
switched m at x cases = joined m (wants m is_int at x) cases (λ v cs. Sound (Node sign.Switch v cs))
