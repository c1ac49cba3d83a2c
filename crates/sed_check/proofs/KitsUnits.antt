-- What the check asks of units holds of those that are read.
use Rattle.std.proofs.Common.{◌≡◌, ◌+◌, ◌≤◌, ℕ, zero, suc, Bool, true, false, List, [], ◌∷◌, length, Result, Ok, Err, refl, sym, ap, subst, ◌∙◌, arith}
use Rattle.std.specs.Prelude.{All, IfOk, IsTrue, codes, count_by, if◌then◌else◌}
use Rattle.std.specs.Str.{bytes_eq}
use Rattle.std.proofs.lemmas.List.Sums.{sum_by-cons}
use Rattle.sed_value.specs.Value.{are_bytes}
use Rattle.sed_value.specs.Names.{is_kit_name}
use Rattle.sed_lexer.specs.Token.{Token}
use Rattle.sed_lexer.specs.Lexes.{Lexes}
use Rattle.sed_parser.specs.Derives.{Derives}
use Rattle.sed_units.specs.declared.classes.Unit.{Unit as TheUnit}
use Rattle.sed_outside.specs.Steps.{UnlessFree}
use Rattle.sed_classes.specs.declared.kit_units.KitUnits.{KitUnits}
use Rattle.sed_class_laws.specs.Kits.{KitsNamed}
use Rattle.sed_typed.specs.declared.program.Program.{Program}
use Rattle.kit_sources.specs.declared.sources.Sources.{Sources}
use Rattle.kit_sources.specs.Text.{IsUnit, IsOfBytes, AreOfBytes}
use Rattle.sed_check.specs.Read.{IsReadUnit, AreRead}
use Rattle.sed_check.specs.Checked.{faults, IsSpelled}
use Rattle.sed_engine.specs.Runnable.{IsRunnable}
use Rattle.sed_check.specs.declared.refusal.KitsRefusal.{KitsRefusal}
use Rattle.sed_check.specs.Refusals.{is_want}
use Rattle.sed_check.specs.Loading.{IsChecked, local}
use Rattle.sed_value.proofs.Lists.{same_bytes as eq_of}

abbrev pub ReadLaw : Type 0
ReadLaw = (text : List ℕ) (tokens : List Token) (u : TheUnit) → IsTrue (are_bytes text) → Lexes text tokens → Derives tokens u → IsReadUnit u

pub unit_read : ReadLaw → (u : TheUnit) → IsOfBytes u → IsReadUnit u
unfolding IsUnit
unit_read law u (text, bytes, (tokens, lexes, derives)) = law text tokens u bytes lexes derives

pub all_read : ReadLaw → (kits : List KitUnits) → AreOfBytes kits → AreRead kits
all_read law kits are k d within i e inside = unit_read law _ (are k d within i e inside)

-- ---- one source

all_one : {X : Type 0} (P : X → Type 0) (x : X) → P x → All P (x ∷ [])
all_one P x one zero d within = one
all_one P x one (suc k) d within = absurd (omega arith)

alone_read : ReadLaw → (name : List ℕ) (unit : TheUnit) → IsOfBytes unit → AreRead (local name unit).kits
alone_read law name unit of =
    all_one (λ (k : KitUnits). All IsReadUnit k.units) _ (all_one IsReadUnit unit (unit_read law unit of))

formed : All (λ name. IsTrue (is_kit_name name)) (codes "sys" ∷ codes "local" ∷ [])
formed zero d within = refl
formed (suc zero) d within = refl
formed (suc (suc k)) d within = absurd (omega (arith, within))

weight : Bool → ℕ
weight b = if b then 1 else 0

count_two : (name a b : List ℕ) → count_by (λ n. bytes_eq n name) (a ∷ b ∷ []) ≡ weight (bytes_eq a name) + weight (bytes_eq b name)
unfolding weight
count_two name a b =
    let first : count_by (λ n. bytes_eq n name) (a ∷ b ∷ []) ≡ weight (bytes_eq a name) + count_by (λ n. bytes_eq n name) (b ∷ []) =
    sum_by-cons (λ n. if bytes_eq n name then 1 else 0) a (b ∷ []) in
    let second : count_by (λ n. bytes_eq n name) (b ∷ []) ≡ weight (bytes_eq b name) + count_by (λ n. bytes_eq n name) [] =
    sum_by-cons (λ n. if bytes_eq n name then 1 else 0) b [] in
    let none : count_by (λ n. bytes_eq n name) [] ≡ 0 = refl in
    omega (arith, first, second, none)

once : (name : List ℕ) → count_by (λ n. bytes_eq n name) (codes "sys" ∷ codes "local" ∷ []) ≤ 1
unfolding weight
once name = by_tests (bytes_eq (codes "sys") name) (bytes_eq (codes "local") name) refl refl where
  by_tests : (b d : Bool) → bytes_eq (codes "sys") name ≡ b → bytes_eq (codes "local") name ≡ d
      → count_by (λ n. bytes_eq n name) (codes "sys" ∷ codes "local" ∷ []) ≤ 1
  by_tests true true is also =
      let same : codes "sys" ≡ codes "local" = eq_of (codes "sys") name is ∙ sym (eq_of (codes "local") name also) in
      let lengths : 3 ≡ 5 = ap length same in
      absurd (omega (arith, lengths))
  by_tests true false is also = omega (arith, count_two name (codes "sys") (codes "local"), ap weight is, ap weight also)
  by_tests false true is also = omega (arith, count_two name (codes "sys") (codes "local"), ap weight is, ap weight also)
  by_tests false false is also = omega (arith, count_two name (codes "sys") (codes "local"), ap weight is, ap weight also)

alone_named : (name : List ℕ) (unit : TheUnit) → KitsNamed (local name unit).kits
alone_named name unit = record { names = formed; once = once }

-- what is made is that kit
pub local_few : (input : Sources) (name : List ℕ) (unit : TheUnit) → input ≡ local name unit → length input.kits ≤ 15
local_few input name unit is = subst (λ (s : Sources). length s.kits ≤ 15) (sym is) (omega arith)

pub local_named : (input : Sources) (name : List ℕ) (unit : TheUnit) → input ≡ local name unit → KitsNamed input.kits
local_named input name unit is = subst (λ (s : Sources). KitsNamed s.kits) (sym is) (alone_named name unit)

pub local_read : ReadLaw → (input : Sources) (name : List ℕ) (unit : TheUnit) → input ≡ local name unit → IsOfBytes unit → AreRead input.kits
local_read law input name unit is of = subst (λ (s : Sources). AreRead s.kits) (sym is) (alone_read law name unit of)

pub local_checked : (input : Sources) (name : List ℕ) (unit : TheUnit) (end : Result Program KitsRefusal) → input ≡ local name unit
    → UnlessFree is_want (IsChecked true input) end → UnlessFree is_want (IsChecked true (local name unit)) end
local_checked input name unit end is said = subst (λ (s : Sources). UnlessFree is_want (IsChecked true s) end) is said

abbrev pub RunLaw : Type 0
RunLaw = (unit : TheUnit) (name : List ℕ) (program : Program)
    → AreRead ((record { kit = name; depends = []; units = unit ∷ [] }) ∷ [])
    → faults ((record { kit = name; depends = []; units = unit ∷ [] }) ∷ []) true ≡ []
    → IsSpelled ((record { kit = name; depends = []; units = unit ∷ [] }) ∷ []) program → IsRunnable program

-- its first class runs
pub local_runs : ReadLaw → RunLaw → (input : Sources) (name : List ℕ) (unit : TheUnit) (end : Result Program KitsRefusal) → input ≡ local name unit → IsOfBytes unit
    → UnlessFree is_want (IsChecked true input) end → IfOk end IsRunnable
local_runs law runs input name unit end is of said = by_end end (local_checked input name unit end is said) where
  by_end : (e : Result Program KitsRefusal) → UnlessFree is_want (IsChecked true (local name unit)) e → IfOk e IsRunnable
  by_end (Ok program) held = runs unit (codes "local") program (alone_read law name unit of) held.0 held.1
  by_end (Err refusal) held = tt
