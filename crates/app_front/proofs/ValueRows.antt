-- Values that are read slot by slot, as a loop does.
use Rattle.std.proofs.Common.{◌≡◌, ℕ, zero, suc, ◌+◌, ◌<◌, ◌≤◌, drop, List, [], ◌∷◌, ◌++◌, length, Result, Ok, Err, refl, sym, ◌∙◌, ap, append_assoc, arith}
use Rattle.std.specs.Prelude.{Option, Some, None, slice_get}
use Rattle.std.specs.Option.{option_and_then}
use Rattle.std.proofs.lemmas.List.{append-nil}
use Rattle.sed_value.specs.declared.slot_type.SlotType.{SlotType}
use Rattle.sed_value.specs.declared.value.Value.{Value}
use Rattle.sed_typed.specs.declared.schema.SlotInfo.{SlotInfo}
use Rattle.sed_wire.specs.Reading.{Reads}
use Rattle.sed_wire.specs.Spelling.{Spells}
use Rattle.node_table.specs.Read.{config_type_of, types_in}
use Rattle.node_table.proofs.ConfigLemmas.{IsNext, asked_next, next_slot}
use Rattle.sed_wire.specs.Form.{pair_reads}
use Rattle.sed_wire.specs.FormReading.{Reading, Found, Stuck, read_on}
use Rattle.sed_wire.proofs.Rows.{with_front}
use Rattle.sed_wire.specs.Gives.{Gives}
use Rattle.app_front.specs.ValueForm as form
use Rattle.sed_value.specs.declared.halt.Halt.{Halt}
use Rattle.sed_value.specs.declared.halt.Halt.TheVariants.{Fault, Memory}

-- ---- a value

pub value_read : (t : SlotType) (v : Value) (old new : List ℕ) → Reads (Spells t) v old new → (form.value t).reads old ≡ Found v new
unfolding form.value
value_read t v old new r = ap (form.value t).reads r.front ∙ (form.value t).whole v r.spelling new r.spelled

pub value_none : {E : Type 0} (t : SlotType) (e : E) (old new : List ℕ)
    → ((v : Value) (spelling follows : List ℕ) → Spells t v spelling → old ≡ spelling ++ follows → (◌≡◌ {A = Result Value E} (Err e) (Ok v)) × (new ≡ follows))
    → (form.value t).reads old ≡ Stuck old
unfolding form.value
value_none {E} t e old new again =
    (form.value t).fault old old
    ((λ v rest begun. absurd (let no : ◌≡◌ {A = Result Value E} (Err e) (Ok v) = (again v begun.0 rest begun.1 begun.2).0 in cc)), refl)

-- ---- values

-- what is still to be read of these slots, behind the front
abbrev pub LeftOf : List Value → List SlotInfo → List ℕ → Reading (List Value) → Type 0
LeftOf front slots bytes all = with_front front ((form.values (types_in slots)).reads bytes) ≡ all

abbrev types_with : Option SlotType → List SlotType → List SlotType
types_with None types = types
types_with (Some t) types = t ∷ types

types_next : (slots : List SlotInfo) (n : ℕ) (next : IsNext slots n) (r : Option SlotType) → config_type_of next.slot ≡ r → types_in (drop n slots) ≡ types_with r (types_in (drop (n + 1) slots))
types_next slots n next None is = ap types_in next.first ∙ (rw is refl)
types_next slots n next (Some t) is = ap types_in next.first ∙ (rw is refl)

pub no_value_there : (front : List Value) (slots : List SlotInfo) (n : ℕ) (bytes : List ℕ) (all : Reading (List Value)) (r : Option SlotType) → n < length slots
    → r ≡ option_and_then config_type_of (slice_get slots n) → r ≡ None → LeftOf front (drop n slots) bytes all → LeftOf front (drop (n + 1) slots) bytes all
no_value_there front slots n bytes all r below is none so_far =
    let next = next_slot slots n below in
    let same = types_next slots n next None (asked_next slots n next r is ∙ none) in
    ap (λ (types : List SlotType). with_front front ((form.values types).reads bytes)) (sym same) ∙ so_far

one_more : (front : List Value) (t : SlotType) (types : List SlotType) (bytes rest : List ℕ) (v : Value) → (form.value t).reads bytes ≡ Found v rest
    → with_front front ((form.values (t ∷ types)).reads bytes) ≡ with_front (front ++ v ∷ []) ((form.values types).reads rest)
unfolding form.values
one_more front t types bytes rest v e = rw e (moved front v ((form.values types).reads rest))
  where
    moved : (front : List Value) (x : Value) (reading : Reading (List Value))
        → with_front front (read_on (pair_reads x reading) (λ both rest. Found (both.0 ∷ both.1) rest)) ≡ with_front (front ++ x ∷ []) reading
    moved front x (Found ys r) = ap (λ (xs : List Value). Found xs r) (simp append_assoc)
    moved front x (Stuck r) = refl

pub value_there : (front : List Value) (slots : List SlotInfo) (n : ℕ) (bytes rest : List ℕ) (all : Reading (List Value)) (r : Option SlotType) (t : SlotType) (v : Value) → n < length slots
    → r ≡ option_and_then config_type_of (slice_get slots n) → r ≡ Some t → (form.value t).reads bytes ≡ Found v rest
    → LeftOf front (drop n slots) bytes all → LeftOf (front ++ v ∷ []) (drop (n + 1) slots) rest all
value_there front slots n bytes rest all r t v below is some e so_far =
    let next = next_slot slots n below in
    let same = types_next slots n next (Some t) (asked_next slots n next r is ∙ some) in
    sym (one_more front t (types_in (drop (n + 1) slots)) bytes rest v e)
    ∙ ap (λ (types : List SlotType). with_front front ((form.values types).reads bytes)) (sym same) ∙ so_far

stuck_there : (front : List Value) (t : SlotType) (types : List SlotType) (bytes rest : List ℕ) → (form.value t).reads bytes ≡ Stuck rest
    → with_front front ((form.values (t ∷ types)).reads bytes) ≡ Stuck rest
unfolding form.values
stuck_there front t types bytes rest e = rw e refl

pub refused_there : (front : List Value) (slots : List SlotInfo) (n : ℕ) (bytes rest : List ℕ) (all : Reading (List Value)) (r : Option SlotType) (t : SlotType) (halt : Halt) → n < length slots
    → r ≡ option_and_then config_type_of (slice_get slots n) → r ≡ Some t → Gives (Err halt) rest ((form.value t).reads bytes)
    → LeftOf front (drop n slots) bytes all → Gives (Err halt) rest all
refused_there front slots n bytes rest all r t Fault below is some e so_far =
    let next = next_slot slots n below in
    let same = types_next slots n next (Some t) (asked_next slots n next r is ∙ some) in
    sym so_far ∙ ap (λ (types : List SlotType). with_front front ((form.values types).reads bytes)) same
    ∙ stuck_there front t (types_in (drop (n + 1) slots)) bytes rest e
refused_there front slots n bytes rest all r t Memory below is some e so_far = tt

past : (slots : List SlotInfo) (n : ℕ) → length slots ≤ n → drop n slots ≡ []
past [] zero le = refl
past [] (suc n) le = refl
past (s ∷ ss) zero le = absurd (omega (arith, le))
past (s ∷ ss) (suc n) le = past ss n (omega (arith, le))

pub all_there : (front : List Value) (slots : List SlotInfo) (n : ℕ) (bytes : List ℕ) (all : Reading (List Value)) → length slots ≤ n → LeftOf front (drop n slots) bytes all → all ≡ Found front bytes
unfolding form.values
all_there front slots n bytes all above so_far =
    let here : with_front front ((form.values (types_in (drop n slots))).reads bytes) ≡ Found front bytes = rw (past slots n above) (ap (λ (vs : List Value). Found vs bytes) (append-nil front)) in
    sym so_far ∙ here
