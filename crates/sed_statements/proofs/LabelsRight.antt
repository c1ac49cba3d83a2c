-- The labels of a `switch`: each case once, and one default at most.
use Rattle.std.proofs.Common.{◌≡◌, ◌≤◌, ℕ, ℤ, ◌+◌, Bool, true, false, ◌||◌, List, [], ◌∷◌, ◌++◌, Option, Some, None, count_by, cond, refl, sym, ap, subst, arith}
use Rattle.std.specs.List.{list_any}
use Rattle.std.proofs.lemmas.Bool.Decides.{Decides-int_eq}
use Rattle.std.proofs.lemmas.List.Sums.{sum_by-append, sum_by-cons}
use Rattle.sed_typed.specs.declared.statement.Label.{Label}
use Rattle.sed_typed.specs.declared.statement.Label.TheVariants.{Case, Default}
use Rattle.sed_typed.specs.TypedExpr.{Context}
use Rattle.sed_typed.specs.TypedStmt.{Around as TypedAround, same_label, is_default, AreLabels}
use Rattle.sed_terms.specs.declared.sign.Sign.TheVariants as sign
use Rattle.sed_terms.specs.Faults.{all_faults, broken, Right}
use Rattle.sed_terms.specs.Term.{Term, Absent, Node, appended}
use Rattle.sed_terms.specs.TypedStmtTerm.{AreStmtTerms, AreCaseTerms, labels_of}
use Rattle.sed_bodies.specs.Inside.{IsReady}
use Rattle.sed_statements.specs.Labels.{is_new_case, is_new_default, new_case, spelled_case, case_of, default_of}
use Rattle.sed_statements.proofs.FormsRight.{All}
use Rattle.sed_statements.proofs.Right.{one_right, after_right, unless_right}
use Rattle.std.proofs.lemmas.Bool.{not-true as not_any}

-- a label that is none of these
abbrev pub IsNew : List Label → Label → Type 0
IsNew labels (Case i) = list_any (same_label i) labels ≡ false
IsNew labels Default = list_any is_default labels ≡ false

new_case_right : (labels : List Label) (at : ℕ) (i : ℤ) → Right (IsNew labels) (new_case all_faults labels at i)
new_case_right labels at i = unless_right (IsNew labels) (is_new_case labels i) (broken 20 at) (Case i) (λ e. not_any
    (list_any (same_label i) labels) e)

spelled_right : (labels : List Label) (at : ℕ) (spelled : Option ℤ) →
    Right (IsNew labels) (spelled_case all_faults labels at spelled)
spelled_right labels at None = one_right (IsNew labels) (broken 20 at)
spelled_right labels at (Some i) = new_case_right labels at i

pub case_right : (c : Context) (labels : List Label) (at : ℕ) (spelled : Option ℤ) (x : All) → Right (IsReady c) x →
    Right (IsNew labels) (case_of all_faults labels at spelled x)
case_right c labels at spelled x h = after_right {A = Term} {B = Label} (IsReady c) (IsNew labels) x _ h
    (λ t _. spelled_right labels at spelled)

pub default_right : (labels : List Label) (at : ℕ) → Right (IsNew labels) (default_of all_faults labels at)
default_right labels at = unless_right (IsNew labels) (is_new_default labels) (broken 20 at) Default (λ e. not_any
    (list_any is_default labels) e)

-- ---- one label more

or_parts : (a b : Bool) → a || b ≡ false → (a ≡ false) × (b ≡ false)
or_parts true b h = absurd (let k : true ≡ false = h in cc)
or_parts false b h = (refl, h)

abbrev counted : (Label → Bool) → Label → ℕ
counted test l = cond (test l) 1 0

counted_once : (test : Label → Bool) (l : Label) → test l ≡ true → counted test l ≡ 1
counted_once test l h = ap (λ b. cond b 1 0) h

not_counted : (test : Label → Bool) (l : Label) → test l ≡ false → counted test l ≡ 0
not_counted test l h = ap (λ b. cond b 1 0) h

count_cons : (test : Label → Bool) (l : Label) (labels : List Label) →
    count_by test (l ∷ labels) ≡ counted test l + count_by test labels
count_cons test l labels = sum_by-cons (counted test) l labels

count_append : (test : Label → Bool) (labels more : List Label) →
    count_by test (labels ++ more) ≡ count_by test labels + count_by test more
count_append test labels more = sum_by-append (counted test) labels more

count_none : (test : Label → Bool) → count_by test [] ≡ 0
count_none test = refl

none_counted : (test : Label → Bool) (labels : List Label) → list_any test labels ≡ false → count_by test labels ≡ 0
none_counted test [] h = refl
none_counted test (x ∷ xs) h =
    let p = or_parts (test x) (list_any test xs) h in
    omega (arith, count_cons test x xs, not_counted test x p.0, none_counted test xs p.1)

one_at_most : (test : Label → Bool) (labels : List Label) (l : Label) → count_by test labels ≤ 1 → (test l ≡ true →
    count_by test labels ≡ 0) →
    count_by test (labels ++ l ∷ []) ≤ 1
one_at_most test labels l h none = by_test (test l) refl
  where
    by_test : (b : Bool) → test l ≡ b → count_by test (labels ++ l ∷ []) ≤ 1
    by_test true e = omega (
      arith,
      count_append test labels
          (l ∷ []),
      count_cons test l [],
      count_none test,
      counted_once test l e,
      none e,
    )
    by_test false e = omega (
      arith,
      count_append test labels
          (l ∷ []),
      count_cons test l [],
      count_none test,
      not_counted test l e,
      h,
    )

pub none_labels : AreLabels []
none_labels = record {
  cases = λ n. omega (arith, count_none (same_label n));
  default = omega
      (arith, count_none is_default);
}

case_more : (labels : List Label) (i n : ℤ) → list_any (same_label i) labels ≡ false → same_label n (Case i) ≡ true →
    count_by (same_label n) labels ≡ 0
case_more labels i n h e = let same : n ≡ i = (Decides-int_eq n i).0 e in subst (λ (m : ℤ). count_by
    (same_label m) labels ≡ 0) (sym same) (none_counted (same_label i) labels h)

pub labels_more : (labels : List Label) (l : Label) → AreLabels labels → IsNew labels l → AreLabels (labels ++ l ∷ [])
labels_more labels (Case i) a h = record {
  cases = λ n. one_at_most (same_label n) labels (Case i) (a.cases n) (λ e. case_more labels i n h e);
  default = one_at_most is_default labels (Case i) a.default (λ e. absurd (let k : false ≡ true = e in cc));
}
labels_more labels Default a h = record {
  cases = λ n. one_at_most (same_label n) labels Default (a.cases n) (λ e. absurd (let k : false ≡ true = e in cc));
  default = one_at_most is_default labels Default a.default (λ _. none_counted is_default labels h);
}

-- ---- the terms of labels

pub labels_appended : (c : Context) (a : TypedAround) (ts : Term) (l : Label) (block : Term) → AreCaseTerms c a ts →
    labels_of (appended ts (Node (sign.Label l) block Absent)) ≡ labels_of ts ++ l ∷ []
labels_appended c a Absent l block h = refl
labels_appended c a (Node (sign.Label k) x rest) l block h = ap (λ ls. k ∷ ls) (labels_appended c a rest l block h.1)
labels_appended c a (Node s x rest) l block h = absurd h

pub cases_appended : (c : Context) (a : TypedAround) (ts : Term) (l : Label) (all : Term) → AreCaseTerms c a ts →
    AreStmtTerms c a all →
    AreCaseTerms c a (appended ts (Node (sign.Label l) (Node sign.Block all Absent) Absent))
cases_appended c a Absent l all h g = (g, tt)
cases_appended c a (Node (sign.Label k) x rest) l all h g = (h.0, cases_appended c a rest l all h.1 g)
cases_appended c a (Node s x rest) l all h g = absurd h
