-- The field behind a slot of a program.
use Rattle.std.proofs.Common.{◌≡◌, ℕ, ◌==◌, true, false, List, [], ◌∷◌, get_or, inl, inr, refl, sym, ◌∙◌, ap}
use Rattle.std.specs.Prelude.{Option, Some, None, IfSome, IsSomeAnd, IsTrue, position}
use Rattle.std.specs.Option.{option_map_or}
use Rattle.std.proofs.lemmas.Bool.{cases_eq, eq-eqb, eqb-true, ne_eqb}
use Rattle.std.proofs.lemmas.List.Quantifiers.{position-Some}
use Rattle.std.proofs.lemmas.Option.{none-some}
use Rattle.sed_value.specs.declared.slot_type.SlotType.{SlotType}
use Rattle.sed_typed.specs.declared.number.SlotNo.{SlotNo}
use Rattle.sed_typed.specs.declared.program.Field.{Field}
use Rattle.sed_typed.specs.declared.program.Program.{Program}
use Rattle.sed_typed.specs.Classes.{fields}
use Rattle.sed_typed.specs.TypedSchema.{in_slot}
use Rattle.sed_engine.specs.Code.{Meaning, is_property, is_same_field, slot_type}
use Rattle.sed_engine.specs.Fits.{form_at}
use Rattle.sed_engine.specs.Program.{meaning_of}
use Rattle.sed_engine.specs.Whole.{HasTables, field_form}

abbrev HasForm : Meaning → ℕ → SlotType → ℕ → Type 0
HasForm m class t i = form_at (m.fields class) i ≡ Some (field_form t)

-- a property has a field
field_there : (m : Meaning) → HasTables m → (class n : ℕ) → IsTrue (is_property m class n) → (i : ℕ) × (m.slot_field class n ≡ Some i)
field_there m tables class n h = go (slot_type m class n) (tables.slot_fields class n) h
  where
    some_of : (o : Option ℕ) (P : ℕ → Type 0) → IsSomeAnd o P → (i : ℕ) × (o ≡ Some i)
    some_of None P h = absurd h
    some_of (Some i) P h = (i, refl)

    go : (o : Option SlotType) → IfSome o (λ t. IsSomeAnd (m.slot_field class n) (HasForm m class t)) → option_map_or (λ (t : SlotType). true) o false ≡ true → (i : ℕ) × (m.slot_field class n ≡ Some i)
    go None f h = absurd (let never : false ≡ true = h in cc)
    go (Some t) f h = some_of (m.slot_field class n) (HasForm m class t) f

-- a field is behind one slot at most
slot_once : (a b : ℕ) (f : Field) → in_slot a f ≡ true → in_slot b f ≡ true → a ≡ b
slot_once a b f first other = go f.slot first other
  where
    go : (o : Option SlotNo) → option_map_or (λ s. s.0 == a) o false ≡ true → option_map_or (λ s. s.0 == b) o false ≡ true → a ≡ b
    go None first other = absurd (let never : false ≡ true = first in cc)
    go (Some s) first other = sym (eqb-true s.0 a first) ∙ eqb-true s.0 b other

found_once : (all : List Field) (a b i : ℕ) → position (in_slot a) all ≡ Some i → position (in_slot b) all ≡ Some i → a ≡ b
found_once [] a b i first other = absurd (none-some i first)
found_once (f ∷ fs) a b i first other =
    slot_once a b (get_or (f ∷ fs) i f) (position-Some (in_slot a) (f ∷ fs) i f first).1 (position-Some (in_slot b) (f ∷ fs) i f other).1

some_is : (i j : ℕ) → ◌≡◌ {A = Option ℕ} (Some i) (Some j) → i ≡ j
some_is i j e = cc

-- two properties have one field where they are one
pub same_field_is : (program : Program) → HasTables (meaning_of program) → (class a b : ℕ) → IsTrue (is_property (meaning_of program) class a) → IsTrue (is_property (meaning_of program) class b) →
    (a == b) ≡ is_same_field (meaning_of program) class a b
same_field_is program tables class a b first other =
    let m : Meaning = meaning_of program in
    let i = field_there m tables class a first in
    let j = field_there m tables class b other in
    let fields_are : is_same_field m class a b ≡ (i.0 == j.0) =
    ap (λ (o : Option ℕ). option_map_or (λ i. option_map_or (λ j. i == j) (m.slot_field class b) false) o false) i.1 ∙ ap (λ (o : Option ℕ). option_map_or (λ j. i.0 == j) o false) j.1 in
    elim (cases_eq a b) [
      | inl e ↦ eq-eqb a b e ∙ sym (eq-eqb i.0 j.0 (some_is i.0 j.0 (sym i.1 ∙ ap (m.slot_field class) e ∙ j.1))) ∙ sym fields_are
      | inr ne ↦ ne_eqb a b ne ∙ sym (ne_eqb i.0 j.0 (λ e. ne (found_once (fields program class) a b i.0 i.1 (j.1 ∙ ap (λ (n : ℕ). Some n) (sym e))))) ∙ sym fields_are
    ]
