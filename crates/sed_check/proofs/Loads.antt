-- What is read, and then checked.
use Rattle.std.proofs.Common.{◌≡◌, ℕ, Bool, List, [], ◌++◌, Option, Some, None, Result, Ok, Err, refl, sym, ap, subst, ◌∙◌, inl, inr}
use Rattle.std.specs.Prelude.{◌⊎◌, IsSomeAnd}
use Rattle.std.proofs.lemmas.List.{append-nil}
use Rattle.sed_outside.specs.declared.files.Files.{Ghosts}
use Rattle.sed_outside.specs.Steps.{Read, Decides, AndThen, stops, goes_on, UnlessFree, Agree}
use Rattle.sed_outside.specs.Reads.{HasReads, failed_names}
use Rattle.sed_outside.proofs.Joining.{same_reads, decides_then, stops_then}
use Rattle.sed_outside.proofs.One.{IsOne, one_then, one_decides}
use Rattle.sed_classes.specs.Faults.{first_of}
use Rattle.sed_classes.specs.declared.source_type.PlacedFault.{PlacedFault}
use Rattle.sed_typed.specs.declared.program.Program.{Program}
use Rattle.kit_sources.specs.declared.refusal.SourcesRefusal.{SourcesRefusal}
use Rattle.kit_sources.specs.declared.refusal.SourcesRefusal.TheVariants as sources
use Rattle.kit_sources.specs.declared.sources.Sources.{Sources}
use Rattle.kit_sources.specs.Refusals as before
use Rattle.kit_sources.specs.Refusals.{name_at}
use Rattle.sed_check.specs.Checked.{faults, first_fault, IsFault}
use Rattle.sed_check.specs.declared.refusal.KitsRefusal.{KitsRefusal}
use Rattle.sed_check.specs.declared.refusal.KitsRefusal.TheVariants.{FileFault, Refused, Rule, Memory}
use Rattle.sed_check.specs.Refusals.{is_want, of_sources, HasRefusalOf, failed_of, failed_in}
use Rattle.sed_check.specs.Loading.{Told, HasRule, IsChecked}

-- ---- the calls

-- a rule that is broken, or want of memory
pub broken_there : (input : Sources) (cycles : Bool) (number at rule : ℕ) (refusal : KitsRefusal)
    → (refusal ≡ Rule (name_at input.files number) at rule) ⊎ (refusal ≡ Memory) → IsSomeAnd (first_fault input.kits cycles) (IsFault input.kits rule number at)
    → UnlessFree is_want (IsChecked cycles input) (Err refusal)
broken_there input cycles number at rule refusal (inl is) first =
    subst (λ (r : KitsRefusal). UnlessFree is_want (IsChecked cycles input) (Err r)) (sym is) (record { number = number; first = first; name = refl })
broken_there input cycles number at rule refusal (inr is) first =
    subst (λ (r : KitsRefusal). UnlessFree is_want (IsChecked cycles input) (Err r)) (sym is) tt

-- what is read is checked
pub goes_checked : {T X : Type 0} (F : Ghosts T) (a b : T) (first : List Read → Result X SourcesRefusal → Type 0) (Holds : X → Result Program KitsRefusal → Type 0)
    (value : X) (end : Result Program KitsRefusal) → HasReads F a b (λ reads. UnlessFree before.is_want (first reads) (Ok value)) → UnlessFree is_want (Holds value) end
    → HasReads F a b (λ reads. UnlessFree is_want (AndThen (Told of_sources first) (λ x. Decides (Holds x)) reads) end)
goes_checked F a b first Holds value end done holds = decides_then F a b is_want (Told of_sources first) Holds value end done holds

told_end : {X : Type 0} (first : List Read → Result X SourcesRefusal → Type 0) (reads : List Read) (inner : SourcesRefusal)
    → UnlessFree before.is_want (first reads) (Err inner) → UnlessFree is_want (Told of_sources first reads) (Err (of_sources inner))
told_end first reads (sources.FileFault file) held = (sources.FileFault file, held, refl)
told_end first reads (sources.Refused file why) held = (sources.Refused file why, held, refl)
told_end first reads sources.Memory held = tt

-- it is not read
pub stops_checked : {T X : Type 0} (F : Ghosts T) (a b : T) (first : List Read → Result X SourcesRefusal → Type 0) (Holds : X → Result Program KitsRefusal → Type 0)
    (inner : SourcesRefusal) (refusal : KitsRefusal) → refusal ≡ of_sources inner → HasReads F a b (λ reads. UnlessFree before.is_want (first reads) (Err inner))
    → HasReads F a b (λ reads. UnlessFree is_want (AndThen (Told of_sources first) (λ x. Decides (Holds x)) reads) (Err refusal))
stops_checked F a b first Holds inner refusal is done =
    subst (λ (r : KitsRefusal). HasReads F a b (λ reads. UnlessFree is_want (AndThen (Told of_sources first) (λ x. Decides (Holds x)) reads) (Err r))) (sym is)
    (stops_then F a b is_want (Told of_sources first) (λ x. Decides (Holds x)) (of_sources inner)
    (same_reads F a b (λ reads. UnlessFree before.is_want (first reads) (Err inner)) (λ reads. UnlessFree is_want (Told of_sources first reads) (Err (of_sources inner)))
    (λ reads held. told_end first reads inner held) done))

-- ---- what is loaded is one

told_one : {X : Type 0} (first : List Read → Result X SourcesRefusal → Type 0) → IsOne first → IsOne (Told of_sources first)
told_one {X} first one reads others (Ok x) (Ok y) h k agree =
    let (same, ends) = one reads others (Ok x) (Ok y) h k agree in
    let value : x ≡ y = (let e : ◌≡◌ {A = Result X SourcesRefusal} (Ok x) (Ok y) = ends in cc) in
    (same, ap Ok value)
told_one {X} first one reads others (Ok x) (Err r) h (inner, k, is) agree =
    let e : ◌≡◌ {A = Result X SourcesRefusal} (Ok x) (Err inner) = (one reads others (Ok x) (Err inner) h k agree).1 in absurd (cc)
told_one {X} first one reads others (Err r) (Ok y) (inner, h, is) k agree =
    let e : ◌≡◌ {A = Result X SourcesRefusal} (Err inner) (Ok y) = (one reads others (Err inner) (Ok y) h k agree).1 in absurd (cc)
told_one {X} first one reads others (Err r) (Err s) (inner, h, is) (other, k, are) agree =
    let (same, ends) = one reads others (Err inner) (Err other) h k agree in
    let refusal : inner ≡ other = (let e : ◌≡◌ {A = Result X SourcesRefusal} (Err inner) (Err other) = ends in cc) in
    (same, ap Err (is ∙ ap of_sources refusal ∙ sym are))

-- the program left out
forget : Result Program KitsRefusal → Result ℕ KitsRefusal
forget (Ok program) = Ok 0
forget (Err refusal) = Err refusal

-- what is checked, but for the program
IsJudged : Bool → Sources → Result ℕ KitsRefusal → Type 0
IsJudged cycles input (Ok n) = (faults input.kits cycles ≡ []) × (n ≡ 0)
IsJudged cycles input (Err (Rule file at rule)) = HasRule input cycles file at rule
IsJudged cycles input (Err (FileFault file)) = ⊥
IsJudged cycles input (Err (Refused file why)) = ⊥
IsJudged cycles input (Err Memory) = ⊥

judged : (cycles : Bool) (input : Sources) (end : Result Program KitsRefusal) → IsChecked cycles input end → IsJudged cycles input (forget end)
unfolding IsJudged forget
judged cycles input (Ok program) h = (h.0, refl)
judged cycles input (Err (Rule file at rule)) h = h
judged cycles input (Err (FileFault file)) h = absurd h
judged cycles input (Err (Refused file why)) h = absurd h
judged cycles input (Err Memory) h = absurd h

no_first : (input : Sources) (cycles : Bool) (P : PlacedFault → Type 0) → faults input.kits cycles ≡ [] → IsSomeAnd (first_fault input.kits cycles) P → ⊥
no_first input cycles P none some = subst (λ (fs : List PlacedFault). IsSomeAnd (first_of fs) P) none some

one_fault : (o : Option PlacedFault) (input : Sources) (rule number at reason other place : ℕ) → IsSomeAnd o (IsFault input.kits rule number at) → IsSomeAnd o (IsFault input.kits reason other place)
    → (rule ≡ reason) × (number ≡ other) × (at ≡ place)
one_fault (Some f) input rule number at reason other place h k = (sym h.rule_is ∙ k.rule_is, sym h.file_is ∙ k.file_is, sym h.at_is ∙ k.at_is)
one_fault None input rule number at reason other place h k = absurd h

rule_one : (input : Sources) (cycles : Bool) (file other : List ℕ) (at rule place reason : ℕ) → HasRule input cycles file at rule → HasRule input cycles other place reason
    → Rule file at rule ≡ Rule other place reason
rule_one input cycles file other at rule place reason h k =
    let (rules, numbers, places) = one_fault (first_fault input.kits cycles) input rule h.number at reason k.number place h.first k.first in
    let files : file ≡ other = h.name ∙ ap (name_at input.files) numbers ∙ sym k.name in
    ap (λ (f : List ℕ). Rule f at rule) files ∙ ap (λ (p : ℕ). Rule other p rule) places ∙ ap (λ (r : ℕ). Rule other place r) rules

judged_one : (cycles : Bool) (input : Sources) (end other : Result ℕ KitsRefusal) → IsJudged cycles input end → IsJudged cycles input other → end ≡ other
unfolding IsJudged
judged_one cycles input (Ok n) (Ok m) h k = ap Ok (h.1 ∙ sym k.1)
judged_one cycles input (Ok n) (Err (Rule file at rule)) h k = absurd (no_first input cycles (IsFault input.kits rule k.number at) h.0 k.first)
judged_one cycles input (Err (Rule file at rule)) (Ok m) h k = absurd (no_first input cycles (IsFault input.kits rule h.number at) k.0 h.first)
judged_one cycles input (Err (Rule file at rule)) (Err (Rule other place reason)) h k = ap Err (rule_one input cycles file other at rule place reason h k)
judged_one cycles input (Err (FileFault file)) other h k = absurd h
judged_one cycles input (Err (Refused file why)) other h k = absurd h
judged_one cycles input (Err Memory) other h k = absurd h
judged_one cycles input (Ok n) (Err (FileFault file)) h k = absurd k
judged_one cycles input (Ok n) (Err (Refused file why)) h k = absurd k
judged_one cycles input (Ok n) (Err Memory) h k = absurd k
judged_one cycles input (Err (Rule file at rule)) (Err (FileFault other)) h k = absurd k
judged_one cycles input (Err (Rule file at rule)) (Err (Refused other why)) h k = absurd k
judged_one cycles input (Err (Rule file at rule)) (Err Memory) h k = absurd k

forgotten : {X : Type 0} (first : List Read → Result X SourcesRefusal → Type 0) (input : X → Sources) (cycles : Bool) (reads : List Read) (end : Result Program KitsRefusal)
    → AndThen (Told of_sources first) (λ x. Decides (IsChecked cycles (input x))) reads end
    → AndThen (Told of_sources first) (λ x. Decides (IsJudged cycles (input x))) reads (forget end)
unfolding forget
forgotten first input cycles reads end (stops refusal held is) = stops refusal held (ap forget is)
forgotten first input cycles reads end (goes_on front back x parts held rest) =
    goes_on front back x parts held (record { none = rest.none; holds = judged cycles (input x) end rest.holds })

same_refusal : (end other : Result Program KitsRefusal) → forget end ≡ forget other → HasRefusalOf end other
unfolding forget
same_refusal (Ok p) (Ok q) same = refl
same_refusal (Ok p) (Err s) same = absurd (cc)
same_refusal (Err r) (Ok q) same = absurd (cc)
same_refusal (Err r) (Err s) same = let is : r ≡ s = cc in ap Some (sym is)

pub load_one : {X : Type 0} (first : List Read → Result X SourcesRefusal → Type 0) (input : X → Sources) (cycles : Bool) → IsOne first
    → (reads others : List Read) (end other : Result Program KitsRefusal)
    → AndThen (Told of_sources first) (λ x. Decides (IsChecked cycles (input x))) reads end
    → AndThen (Told of_sources first) (λ x. Decides (IsChecked cycles (input x))) others other
    → Agree reads others → (reads ≡ others) × HasRefusalOf end other
load_one first input cycles one reads others end other h k agree =
    let both = one_then (Told of_sources first) (λ x. Decides (IsJudged cycles (input x))) (told_one first one)
    (λ x. one_decides (IsJudged cycles (input x)) (judged_one cycles (input x))) reads others (forget end) (forget other)
    (forgotten first input cycles reads end h) (forgotten first input cycles others other k) agree in
    (both.0, same_refusal end other both.1)

-- ---- which reads failed

same_failed : (inner : SourcesRefusal) → before.failed_of inner ≡ failed_of (of_sources inner)
same_failed (sources.FileFault file) = refl
same_failed (sources.Refused file why) = refl
same_failed sources.Memory = refl

check_failed : (cycles : Bool) (input : Sources) (end : Result Program KitsRefusal) → IsChecked cycles input end → failed_in end ≡ []
check_failed cycles input (Ok program) h = refl
check_failed cycles input (Err (Rule file at rule)) h = refl
check_failed cycles input (Err (FileFault file)) h = absurd h
check_failed cycles input (Err (Refused file why)) h = absurd h
check_failed cycles input (Err Memory) h = absurd h

pub load_failed : {X : Type 0} (first : List Read → Result X SourcesRefusal → Type 0) (input : X → Sources) (cycles : Bool)
    → ((reads : List Read) (end : Result X SourcesRefusal) → first reads end → failed_names reads ≡ before.failed_in end)
    → (reads : List Read) (end : Result Program KitsRefusal) → AndThen (Told of_sources first) (λ x. Decides (IsChecked cycles (input x))) reads end
    → failed_names reads ≡ failed_in end
load_failed first input cycles told reads end (stops refusal (inner, held, is) same) =
    told reads (Err inner) held ∙ same_failed inner ∙ ap failed_of (sym is) ∙ ap failed_in (sym same)
load_failed first input cycles told reads end (goes_on front back x parts held rest) =
    ap failed_names (parts ∙ ap (λ (rs : List Read). front ++ rs) rest.none ∙ append-nil front) ∙ told front (Ok x) held ∙ sym (check_failed cycles (input x) end rest.holds)
