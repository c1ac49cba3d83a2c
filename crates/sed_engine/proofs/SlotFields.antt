-- The field behind each slot of a typed program.
use Rattle.std.proofs.Common.{◌≡◌, ◌⊎◌, inl, inr, ℕ, zero, suc, ◌<◌, ◌≤◌, ◌==◌, Bool, false, cond, List, [], ◌∷◌, ◌++◌, map, length, reverse, Option, Some, None, refl, sym, ap, subst, ◌∙◌, arith}
use Rattle.std.specs.Prelude.{All, IfSome, IsSomeAnd, slice_get, slice_index_or, position}
use Rattle.std.specs.List.{flat_map}
use Rattle.std.specs.Option.{option_and_then, option_map, option_map_or}
use Rattle.std.proofs.lemmas.Bool.{ne_eqb}
use Rattle.std.proofs.lemmas.List.Elements.{All-head, All-tail}
use Rattle.std.proofs.lemmas.Option.{slice_get-map, slice_get_past}
use Rattle.sed_value.specs.declared.slot_type.SlotType.{SlotType}
use Rattle.sed_value.specs.declared.slot_type.SlotType.TheVariants as slot
use Rattle.sed_typed.specs.declared.number.SlotNo.{SlotNo}
use Rattle.sed_typed.specs.declared.program.Field.{Field}
use Rattle.sed_typed.specs.declared.program.Program.{Program}
use Rattle.sed_typed.specs.declared.schema.ClassInfo.{ClassInfo}
use Rattle.sed_typed.specs.declared.schema.SlotForm.{SlotForm}
use Rattle.sed_typed.specs.declared.schema.SlotForm.TheVariants.{Prop, Action}
use Rattle.sed_typed.specs.declared.schema.SlotInfo.{SlotInfo}
use Rattle.sed_typed.specs.Classes.{base_of, reached, declared_fields, fields}
use Rattle.sed_typed.specs.Typed.{Typed}
use Rattle.sed_typed.specs.TypedSchema.{HasSlot, HasSlots, IsProperty, in_slot}
use Rattle.sed_engine.specs.Code.{property_type, slot_type}
use Rattle.sed_engine.specs.Fits.{form_at}
use Rattle.sed_engine.specs.Program.{code_of, shape_of}
use Rattle.sed_engine.specs.Whole.{field_form}
use Rattle.sed_engine.proofs.FieldLists.{fields_of_base, none_is}
use Rattle.sed_engine.proofs.Positions.{alone_at, none_at, none_left, found_before}

-- ---- a property has a field of its form

-- the form of a field of a class
abbrev pub HasForm : Program → ℕ → SlotType → ℕ → Type 0
HasForm program class t i = form_at (map shape_of (fields program class)) i ≡ Some (field_form t)

abbrev HasField : Program → ℕ → ℕ → Option SlotType → Type 0
HasField program class n o = IfSome o (λ t. IsSomeAnd (position (in_slot n) (fields program class)) (HasForm program class t))

form_is : (s : SlotInfo) (t : SlotType) (f : Field) → IsProperty s t f → f.form ≡ field_form t
form_is s (slot.Prim p) f h = h.0
form_is s (slot.Buf n) f h = h.0

of_form : (program : Program) (class n : ℕ) (s : SlotInfo) (f : SlotForm) → HasSlot program class n s f → HasField program class n (property_type (Some f))
of_form program class n s (Prop t) h =
    let at = alone_at (in_slot n) (fields program class) h.0 h.1 in
    let form : HasForm program class t at.0 =
    ap (option_map (λ s. s.form)) (slice_get-map shape_of (fields program class) at.0) ∙ ap (λ (o : Option Field). option_map (λ s. s.form) (option_map shape_of o)) at.2
    ∙ ap Some (form_is s t h.0 h.2) in
    subst (λ (o : Option ℕ). IsSomeAnd o (HasForm program class t)) (sym at.1) form
of_form program class n s (Action a) h = tt

of_slot : (program : Program) (class n : ℕ) (o : Option SlotInfo) → IfSome o (λ s. HasSlot program class n s s.form) → HasField program class n (property_type (option_map (λ s. s.form) o))
of_slot program class n None h = tt
of_slot program class n (Some s) h = of_form program class n s s.form h

of_class : (program : Program) (class n : ℕ) (o : Option ClassInfo) → IfSome o (HasSlots program class) →
    HasField program class n (property_type (option_map (λ s. s.form) (slice_get (option_map_or (λ info. info.slots) o []) n)))
of_class program class n None h = tt
of_class program class n (Some info) h = of_slot program class n (slice_get info.slots n) (h.each n)

pub slot_fields_of : (program : Program) → Typed program → (class n : ℕ) →
    IfSome (slot_type (code_of program) class n) (λ t. IsSomeAnd (position (in_slot n) (fields program class)) (HasForm program class t))
slot_fields_of program typed class n = of_class program class n (slice_get program.schema.classes class) (typed.slots class)

-- ---- what is no class has no fields

none_declared : (n : ℕ) (all : List Field) (class : ℕ) → All (λ f. f.class.0 < n) all → n ≤ class → declared_fields all class ≡ []
none_declared n [] class h far = refl
none_declared n (f ∷ fs) class h far =
    let first : f.class.0 < n = All-head (λ (f : Field). f.class.0 < n) f fs h in
    let apart : (f.class.0 == class) ≡ false = ne_eqb f.class.0 class (λ e. omega (arith, first, far, e)) in
    ap (λ (b : Bool). cond b (f ∷ declared_fields fs class) (declared_fields fs class)) apart
    ∙ none_declared n fs class (All-tail (λ (f : Field). f.class.0 < n) f fs h) far

-- without a base a class alone is reached from itself
alone : (next : ℕ → Option ℕ) (at : ℕ) → next at ≡ None → (k : ℕ) → (reached next k (Some at) ≡ []) ⊎ (reached next k (Some at) ≡ at ∷ [])
alone next at h zero = inl refl
alone next at h (suc k) = inr (ap (λ (o : Option ℕ). at ∷ reached next k o) h ∙ ap (λ (rest : List ℕ). at ∷ rest) (none_on k))
  where
    none_on : (k : ℕ) → reached next k None ≡ []
    none_on zero = refl
    none_on (suc k) = refl

pub fields_beyond : (program : Program) → Typed program → (class : ℕ) → length program.schema.classes ≤ class → fields program class ≡ []
fields_beyond program typed class h =
    let base : base_of program.schema.classes class ≡ None = ap (option_and_then (λ info. option_map (λ b. b.0) info.base)) (slice_get_past program.schema.classes class h) in
    let none : declared_fields program.fields class ≡ [] = none_declared (length program.schema.classes) program.fields class (λ k d w. (typed.fields k d w).class) h in
    elim (alone (base_of program.schema.classes) class base (length program.schema.classes)) [
      | inl e ↦ ap (λ (all : List ℕ). flat_map (declared_fields program.fields) (reverse all)) e
      | inr e ↦ ap (λ (all : List ℕ). flat_map (declared_fields program.fields) (reverse all)) e ∙ ap (λ (all : List Field). all ++ []) none
    ]

-- ---- what is no property has no field

not_in : (most n : ℕ) (o : Option SlotNo) → most ≤ n → IfSome o (λ s. s.0 < most) → option_map_or (λ s. s.0 == n) o false ≡ false
not_in most n None far h = refl
not_in most n (Some s) far h = ne_eqb s.0 n (λ e. omega (arith, far, h, e))

past_of : {X : Type 0} (xs : List X) (n : ℕ) → slice_get xs n ≡ None → length xs ≤ n
past_of [] n e = omega arith
past_of (x ∷ xs) zero e = none_is x (sym e)
past_of (x ∷ xs) (suc n) e = let h : length xs ≤ n = past_of xs n e in omega (arith, h)

none_of_form : (program : Program) (class n : ℕ) (s : SlotInfo) (f : SlotForm) → HasSlot program class n s f → property_type (Some f) ≡ None → position (in_slot n) (fields program class) ≡ None
none_of_form program class n s (Prop t) h e = none_is t (sym e)
none_of_form program class n s (Action a) h e = none_left (in_slot n) (fields program class) h.0

none_of_slot : (program : Program) (class n : ℕ) (info : ClassInfo) → HasSlots program class info → (o : Option SlotInfo) → slice_get info.slots n ≡ o → IfSome o (λ s. HasSlot program class n s s.form) →
    property_type (option_map (λ s. s.form) o) ≡ None → position (in_slot n) (fields program class) ≡ None
none_of_slot program class n info has None is h e =
    none_at (in_slot n) (fields program class) (λ k d w. not_in (length info.slots) n (slice_index_or (fields program class) k d).slot (past_of info.slots n is) (has.within k d w))
none_of_slot program class n info has (Some s) is h e = none_of_form program class n s s.form h e

none_of_class : (program : Program) → Typed program → (class n : ℕ) (o : Option ClassInfo) → slice_get program.schema.classes class ≡ o → IfSome o (HasSlots program class) →
    property_type (option_map (λ s. s.form) (slice_get (option_map_or (λ info. info.slots) o []) n)) ≡ None → position (in_slot n) (fields program class) ≡ None
none_of_class program typed class n None is h e = ap (position (in_slot n)) (fields_beyond program typed class (past_of program.schema.classes class is))
none_of_class program typed class n (Some info) is h e = none_of_slot program class n info h (slice_get info.slots n) refl (h.each n) e

pub no_fields_of : (program : Program) → Typed program → (class n : ℕ) → slot_type (code_of program) class n ≡ None → position (in_slot n) (fields program class) ≡ None
no_fields_of program typed class n e = none_of_class program typed class n (slice_get program.schema.classes class) refl (typed.slots class) e

-- ---- an inherited slot has the field that it has at the base

pub base_slot_fields : (program : Program) → Typed program → (class base : ℕ) → base_of program.schema.classes class ≡ Some base → (n : ℕ) →
    IfSome (position (in_slot n) (fields program base)) (λ i. position (in_slot n) (fields program class) ≡ Some i)
base_slot_fields program typed class base e n = go (position (in_slot n) (fields program base)) refl
  where
    go : (o : Option ℕ) → position (in_slot n) (fields program base) ≡ o → IfSome o (λ i. position (in_slot n) (fields program class) ≡ Some i)
    go None is = tt
    go (Some i) is =
        ap (position (in_slot n)) (fields_of_base program typed class base e)
        ∙ found_before (in_slot n) (fields program base) (flat_map (declared_fields program.fields) (class ∷ [])) i is
