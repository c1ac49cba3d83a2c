-- The forms of statements, with all faults and with the least.
use Rattle.std.proofs.Common.{◌≡◌, ℕ, ℤ, ◌==◌, Bool, true, false, if◌then◌else◌, nat_lt, List, [], ◌∷◌, Option, Some, None, refl, ap, ◌∙◌}
use Rattle.sed_units.specs.declared.leaves.Param.{Param}
use Rattle.sed_units.specs.declared.leaves.TypeRef.{TypeRef}
use Rattle.sed_typed.specs.declared.kind.Kind.{Kind}
use Rattle.sed_typed.specs.declared.kind.Kind.TheVariants as kind
use Rattle.sed_typed.specs.declared.statement.Label.{Label}
use Rattle.sed_typed.specs.declared.statement.Label.TheVariants.{Case, Default}
use Rattle.sed_names.specs.Names.{Names}
use Rattle.sed_faults.specs.declared.fault.Fault.{Fault}
use Rattle.sed_terms.specs.declared.judged.Judged.{Judged}
use Rattle.sed_terms.specs.declared.judged.Judged.TheVariants.{Sound, Unknown}
use Rattle.sed_terms.specs.declared.sign.Sign.TheVariants as sign
use Rattle.sed_terms.specs.declared.sort.Sort.{Sort}
use Rattle.sed_terms.specs.Faults.{all_faults, least_fault, broken, told, paired}
use Rattle.sed_terms.specs.Sorts.{sort_of}
use Rattle.sed_terms.specs.Term.{Term, leaf}
use Rattle.sed_body_rules.specs.Conversions.{is_int, is_bool, placed}
use Rattle.sed_body_rules.specs.Wants.{wants, as_bool, truth}
use Rattle.sed_body_rules.specs.Stores.{going}
use Rattle.sed_body_rules.specs.declared.local.TypeMeaning.{TypeMeaning}
use Rattle.sed_body_rules.specs.declared.local.TypeMeaning.TheVariants.{Is, NoClass, Outside}
use Rattle.sed_body_rules.specs.LocalTypes.{type_meaning}
use Rattle.sed_body_rules.specs.Scope.{Scope, with_local}
use Rattle.sed_statements.specs.declared.leaving.Around.{Around}
use Rattle.sed_statements.specs.Declarations.{is_storable, has_number, is_free, has_free_name, new_number, declared, begun_bare, begun, free_too, are_free_names}
use Rattle.sed_statements.specs.Labels.{is_new_case, is_new_default, spelled_case, case_of, default_of, with_label, with_case, switched}
use Rattle.sed_statements.specs.Leaving.{broken_off, continued}
use Rattle.sed_statements.specs.Loops.{conditional, repeated, done_while, test_of, last_of, repeated_for}
use Rattle.sed_statements.specs.Returns.{returned_nothing, has_result, answering, returned}
use Rattle.sed_statements.specs.Rows.{evaluated, followed, blocked}
use Rattle.sed_statements.proofs.Told.{Both, after_told, paired_told, joined_told, unless_told, some_told}

abbrev pub All : Type 0
All = Judged Term (List Fault)

-- ---- expressions in them

truth_told : (at : ℕ) (x : All) → told (truth all_faults at x) ≡ truth least_fault at (told x)
truth_told at x = after_told x (told x) _ _ refl (λ t. unless_told (is_bool (sort_of (as_bool t))) (broken 13 at)
    (as_bool t))

wants_told : (test : Sort → Bool) (at : ℕ) (x : All) → told (wants all_faults test at x)
    ≡ wants least_fault test at (told x)
wants_told test at x = after_told x (told x) _ _ refl (λ t. unless_told (test (sort_of t)) (broken 13 at) t)

pub evaluated_told : (x : All) → told (evaluated x) ≡ evaluated (told x)
evaluated_told x = after_told x (told x) _ _ refl (λ t. refl)

-- ---- rows

pub followed_told : Both → (xs x : All) → told (followed all_faults xs x) ≡ followed least_fault (told xs) (told x)
followed_told both xs x = joined_told both xs x (told xs) (told x) _ _ refl refl (λ ts t. refl)

pub blocked_told : (xs : All) → told (blocked xs) ≡ blocked (told xs)
blocked_told xs = after_told xs (told xs) _ _ refl (λ ts. refl)

-- ---- declarations

storable_told : (at : ℕ) (t : TypeMeaning) → told (is_storable all_faults at t) ≡ is_storable least_fault at t
storable_told at (Is k) = refl
storable_told at (NoClass name_at) = refl
storable_told at Outside = refl

number_told : (at limit next : ℕ) → told (has_number all_faults at limit next) ≡ has_number least_fault at limit next
number_told at limit next = by_tests (nat_lt next limit) (next == limit)
  where
    by_tests : (below equal : Bool) →
        told (if below then Sound next else if equal then Unknown (all_faults.one (broken 22 at))
        else Unknown all_faults.none)
        ≡ (if below then Sound next else if equal then Unknown (least_fault.one (broken 22 at))
        else Unknown least_fault.none)
    by_tests true equal = refl
    by_tests false true = refl
    by_tests false false = refl

free_told : (at : ℕ) (free : Bool) → told (has_free_name all_faults at free) ≡ has_free_name least_fault at free
free_told at free = unless_told free (broken 23 at) free

new_number_told : Both → (at : ℕ) (s : Scope) (name : List ℕ) →
    told (new_number all_faults at s name) ≡ new_number least_fault at s name
new_number_told both at s name =
    joined_told {A = ℕ} {B = Bool} {C = ℕ} both (has_number all_faults at s.limit s.next) (has_free_name all_faults at
    (is_free s name))
    (has_number least_fault at s.limit s.next) (has_free_name least_fault at (is_free s name)) _ _
    (number_told at s.limit s.next) (free_told at (is_free s name)) (λ i free. refl)

pub declared_told : Both → (n : Names) (s : Scope) (at : ℕ) (type : TypeRef) (name : List ℕ) →
    told (declared all_faults n s at type name) ≡ declared least_fault n s at type name
declared_told both n s at type name =
    joined_told {A = Kind} {B = ℕ} {C = Kind × ℕ} both (is_storable all_faults at (type_meaning n type))
    (new_number all_faults at s name)
    (is_storable least_fault at (type_meaning n type)) (new_number least_fault at s name) _ _
    (storable_told at (type_meaning n type)) (new_number_told both at s name) (λ k i. refl)

pub begun_bare_told : (l : Judged (Kind × ℕ) (List Fault)) → told (begun_bare l) ≡ begun_bare (told l)
begun_bare_told l = after_told {A = Kind × ℕ} {B = Term} l (told l) _ _ refl (λ p. refl)

pub begun_told : Both → (n : Names) (l : Judged (Kind × ℕ) (List Fault)) (at : ℕ) (x : All) →
    told (begun all_faults n l at x) ≡ begun least_fault n (told l) at (told x)
begun_told both n l at x =
    joined_told {A = Kind × ℕ} {B = Term} {C = Term} both l x (told l) (told x) _ _ refl refl
    (λ p t. after_told (going all_faults n.below p.0 at t) (going least_fault n.below p.0 at t) _ _ (some_told
    (broken 15 at) (placed n.below p.0 t)) (λ v. refl))

free_too_told : Both → (x y : Judged Bool (List Fault)) →
    told (free_too all_faults x y) ≡ free_too least_fault (told x) (told y)
free_too_told both x y = joined_told {A = Bool} {B = Bool} {C = Bool} both x y (told x) (told y) _ _ refl refl
    (λ a b. refl)

pub free_names_told : Both → (n : Names) (s : Scope) (x : Judged Bool (List Fault)) (ps : List Param) →
    told (are_free_names all_faults n s x ps) ≡ are_free_names least_fault n s (told x) ps
free_names_told both n s x [] = refl
free_names_told both n s x (p ∷ ps) =
    let free = is_free s p.name.bytes in
    let z = with_local n s p.kind p.name.bytes in
    free_names_told both n z (free_too all_faults x (has_free_name all_faults p.at free)) ps
    ∙ ap (λ y. are_free_names least_fault n z y ps)
    (free_too_told both x (has_free_name all_faults p.at free)
    ∙ ap (free_too least_fault (told x)) (free_told p.at free))

-- ---- leaving and returning

pub broken_off_told : (around : Around) (at : ℕ) → told (broken_off all_faults around at)
    ≡ broken_off least_fault around at
broken_off_told around at = unless_told around.breaks (broken 18 at) (leaf sign.Break)

pub continued_told : (around : Around) (at : ℕ) → told (continued all_faults around at)
    ≡ continued least_fault around at
continued_told around at = unless_told around.continues (broken 18 at) (leaf sign.Continue)

pub returned_nothing_told : (k : Option Kind) (at : ℕ) →
    told (returned_nothing all_faults k at) ≡ returned_nothing least_fault k at
returned_nothing_told None at = refl
returned_nothing_told (Some kind.Void) at = refl
returned_nothing_told (Some k) at = refl

result_told : (k : Option Kind) (at : ℕ) → told (has_result all_faults k at) ≡ has_result least_fault k at
result_told None at = refl
result_told (Some kind.Void) at = refl
result_told (Some k) at = refl

pub returned_told : Both → (n : Names) (k : Option Kind) (at : ℕ) (x : All) →
    told (returned all_faults n k at x) ≡ returned least_fault n k at (told x)
returned_told both n k at x =
    joined_told {A = Kind} {B = Term} {C = Term} both (has_result all_faults k at) x (has_result least_fault k at)
    (told x) _ _ (result_told k at) refl
    (λ to t. after_told (answering all_faults n to at t) (answering least_fault n to at t) _ _ (some_told
    (broken 19 at) (placed n.below to t)) (λ v. refl))

-- ---- choices and loops

pub conditional_told : Both → (at : ℕ) (t x y : All) → told (conditional all_faults at t x y)
    ≡ conditional least_fault at (told t) (told x) (told y)
conditional_told both at t x y =
    joined_told {A = Term} {B = Term × Term} {C = Term} both (truth all_faults at t) (paired all_faults x y)
    (truth least_fault at (told t))
    (paired least_fault (told x) (told y)) _ _ (truth_told at t) (paired_told both x y) (λ c p. refl)

pub repeated_told : Both → (at : ℕ) (t x : All) → told (repeated all_faults at t x)
    ≡ repeated least_fault at (told t) (told x)
repeated_told both at t x = joined_told both (truth all_faults at t) x (truth least_fault at (told t)) (told x) _ _
    (truth_told at t) refl (λ c u. refl)

pub done_while_told : Both → (x : All) (at : ℕ) (t : All) →
    told (done_while all_faults x at t) ≡ done_while least_fault (told x) at (told t)
done_while_told both x at t = joined_told both x (truth all_faults at t) (told x) (truth least_fault at
    (told t)) _ _ refl (truth_told at t) (λ u c. refl)

pub test_told : (at : ℕ) (t : All) → told (test_of all_faults at t) ≡ test_of least_fault at (told t)
test_told at t = after_told {A = Term} {B = Option Term} (truth all_faults at t) (truth least_fault at (told t)) _ _
    (truth_told at t) (λ c. refl)

pub last_told : (x : All) → told (last_of x) ≡ last_of (told x)
last_told x = after_told {A = Term} {B = Option Term} x (told x) _ _ refl (λ t. refl)

abbrev Part : Type 0
Part = Judged (Option Term) (List Fault)

pub repeated_for_told : Both → (first : All) (test last : Part) (x : All) →
    told (repeated_for all_faults first test last x) ≡ repeated_for least_fault (told first) (told test) (told last)
    (told x)
repeated_for_told both first test last x =
    joined_told {A = Term × (Option Term × Option Term)} {B = Term} {C = Term} both
    (paired {B = Option Term × Option Term} all_faults first (paired all_faults test last)) x
    (paired {B = Option Term × Option Term} least_fault (told first) (paired least_fault (told test) (told last)))
    (told x) _ _
    (paired_told {A = Term} {B = Option Term × Option Term} both first (paired all_faults test last)
    ∙ ap (λ z. paired {B = Option Term × Option Term} least_fault (told first) z) (paired_told both test last)) refl
    (λ head u. refl)

-- ---- labels

abbrev pub OneLabel : Type 0
OneLabel = Judged Label (List Fault)

spelled_told : (labels : List Label) (at : ℕ) (spelled : Option ℤ) →
    told (spelled_case all_faults labels at spelled) ≡ spelled_case least_fault labels at spelled
spelled_told labels at None = refl
spelled_told labels at (Some i) = unless_told (is_new_case labels i) (broken 20 at) (Case i)

pub case_told : (labels : List Label) (at : ℕ) (spelled : Option ℤ) (x : All) →
    told (case_of all_faults labels at spelled x) ≡ case_of least_fault labels at spelled (told x)
case_told labels at spelled x = after_told {A = Term} {B = Label} x (told x) _ _ refl
    (λ t. spelled_told labels at spelled)

pub default_told : (labels : List Label) (at : ℕ) → told (default_of all_faults labels at)
    ≡ default_of least_fault labels at
default_told labels at = unless_told (is_new_default labels) (broken 20 at) Default

-- the labels that are sound are the same
pub labels_told : (labels : List Label) (l : OneLabel) → with_label labels l ≡ with_label labels (told l)
labels_told labels (Sound l) = refl
labels_told labels (Unknown f) = refl

pub with_case_told : Both → (xs : All) (l : OneLabel) (all : All) →
    told (with_case all_faults xs l all) ≡ with_case least_fault (told xs) (told l) (told all)
with_case_told both xs l all =
    joined_told {A = Term} {B = Label × Term} {C = Term} both xs (paired all_faults l all) (told xs)
    (paired least_fault (told l) (told all)) _ _
    refl (paired_told both l all) (λ ts p. refl)

pub switched_told : Both → (at : ℕ) (x cases : All) → told (switched all_faults at x cases)
    ≡ switched least_fault at (told x) (told cases)
switched_told both at x cases =
    joined_told both (wants all_faults is_int at x) cases (wants least_fault is_int at (told x)) (told cases) _ _
    (wants_told is_int at x) refl (λ v cs. refl)
