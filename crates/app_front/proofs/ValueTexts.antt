-- Values of slots, as their forms spell them.
use Rattle.std.proofs.Common.{◌≡◌, ℕ, ◌≤◌, IsTrue, List, [], ◌∷◌, ◌++◌, length, refl, ◌∙◌, ap₂, arith}
use Rattle.std.specs.Int.{w32, w64}
use Rattle.std.specs.List.{AllByRecursion}
use Rattle.std.proofs.lemmas.Bool.Decides.{nat_tests}
use Rattle.sed_value.specs.Value.{is_of_type}
use Rattle.sed_value.specs.declared.slot_type.SlotType.{SlotType}
use Rattle.sed_value.specs.declared.value.Value.{Value}
use Rattle.sed_wire.specs.Spelling.{SpellsValue, can_be_held}
use Rattle.sed_wire.proofs.NumberLemmas.{written_spells, written_spells_signed}
use Rattle.sed_wire.proofs.ValueLemmas.{OfType, of_bool, of_byte, of_short, of_int, of_long, of_buf, of_type, one_value}
use Rattle.node_table.specs.Values.{spelling_of, spelling_of_all}
use Rattle.app_front.specs.Rows.{AreOfTypes}
use Rattle.app_front.specs.ValueForm as form
use Rattle.app_front.proofs.Texts.{Texts}

spelled_value : (t : SlotType) (v : Value) → IsTrue (can_be_held t) → OfType t v → SpellsValue v (spelling_of v)
spelled_value t v held (of_bool x below) = (written_spells 1 x (omega (arith, below)), below)
spelled_value t v held (of_byte x below) = written_spells 1 x (omega (arith, below))
spelled_value t v held (of_short x below) = written_spells 2 x (omega (arith, below))
spelled_value t v held (of_int x fits) = written_spells_signed w32 x fits
spelled_value t v held (of_long x fits) = written_spells_signed w64 x fits
spelled_value t v held (of_buf most x within) =
    let short : most ≤ 128 = grind (arith, nat_tests) in
    record { count = _; counts = written_spells 2 (length x) (omega (arith, within, short)); front = refl }

-- a reader holds a value of each
abbrev pub AreHeld : List SlotType → Type 0
AreHeld types = AllByRecursion (λ t. IsTrue (can_be_held t)) types

pub value_texts : (t : SlotType) → IsTrue (can_be_held t) → Texts (form.value t).spells (λ v. IsTrue (is_of_type t v)) spelling_of
unfolding form.value
value_texts t held = record {
  said = λ v bytes is. (is.of_type, one_value v bytes (spelling_of v) is.spelled (spelled_value t v held (of_type t v is.of_type)));
  spelled = λ v is. record { of_type = is; spelled = spelled_value t v held (of_type t v is) };
}

none_said : (values : List Value) (bytes : List ℕ) → values ≡ [] → bytes ≡ [] → AreOfTypes [] values × (bytes ≡ spelling_of_all values)
none_said [] bytes none empty = (tt, empty)
none_said (v ∷ values) bytes none empty = absurd (let no : v ∷ values ≡ [] = none in cc)

pub values_said : (types : List SlotType) → AreHeld types → (values : List Value) (bytes : List ℕ) → (form.values types).spells values bytes → AreOfTypes types values × (bytes ≡ spelling_of_all values)
unfolding form.values
values_said [] held values bytes is = none_said values bytes is.0 is.1
values_said (t ∷ types) held [] bytes is = absurd is
values_said (t ∷ types) held (v ∷ values) bytes is =
    let one = (value_texts t held.0).said v is.0 is.2 in
    let others = values_said types held.1 values is.1 is.3 in
    ((one.0, others.0), is.4 ∙ ap₂ (λ (a b : List ℕ). a ++ b) one.1 others.1)

pub values_spelled : (types : List SlotType) → AreHeld types → (values : List Value) → AreOfTypes types values → (form.values types).spells values (spelling_of_all values)
unfolding form.values
values_spelled [] held [] are = (refl, refl)
values_spelled [] held (v ∷ values) are = absurd are
values_spelled (t ∷ types) held [] are = absurd are
values_spelled (t ∷ types) held (v ∷ values) are =
    (_, _, (value_texts t held.0).spelled v are.0, values_spelled types held.1 values are.1, refl)
