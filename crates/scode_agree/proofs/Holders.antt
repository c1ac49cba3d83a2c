-- No class leads back to itself through a field, since each object lies less deep than what holds it, at whatever class
-- below.
use Rattle.std.proofs.Common.{◌≡◌, ℕ, zero, suc, ◌<◌, ◌≤◌, ◌==◌, ◌&&◌, ◌||◌, Bool, true, false, not, inl, inr, List}
use Rattle.std.proofs.Common.{length, Option, Some, refl, ap, sym, subst, ◌∙◌, arith}
use Rattle.std.specs.Prelude.{slice_get}
use Rattle.std.specs.List.{list_any}
use Rattle.std.specs.Option.{option_map_or}
use Rattle.std.proofs.lemmas.Bool.{and_parts, eqb-true, false_from_ne_true, ne_eqb, or_from}
use Rattle.std.proofs.lemmas.Option.{slice_get_cases, slice_get_past, slice_get_within}
use Rattle.sed_value.specs.declared.slot_type.Primitive.TheVariants as prim
use Rattle.sed_typed.specs.declared.number.TypeNo.{TypeNo}
use Rattle.sed_typed.specs.declared.program.Field.{Field}
use Rattle.sed_typed.specs.declared.program.FieldForm.{FieldForm}
use Rattle.sed_typed.specs.declared.program.FieldForm.TheVariants as form
use Rattle.sed_typed.specs.declared.program.Program.{Program}
use Rattle.sed_typed.specs.declared.schema.ClassInfo.{ClassInfo}
use Rattle.sed_typed.specs.Classes.{fields}
use Rattle.sed_typed.specs.TypedSchema.{IsField, IsForm, LiesDeeper}
use Rattle.sed_engine.proofs.Below.{Based, Below, Itself, below_then, field_below}
use Rattle.sed_layout.specs.Offsets.{offset_of}
use Rattle.sed_layout.proofs.Inherited.{of_fields}
use Rattle.scode_image.specs.declared.image.ImageClass.{ImageClass}
use Rattle.scode_image.specs.declared.image.ImageField.{ImageField}
use Rattle.scode_code.specs.TableRules.{holds_no_holder, leads_to, leads_within}
use Rattle.scode_code.specs.Tables as tables
use Rattle.scode_gen.specs.Classes.{base_number, image_class}
use Rattle.scode_gen.specs.Generated.{image_of}
use Rattle.scode_gen.specs.ImageFields.{class_fields, image_field}
use Rattle.scode_made.proofs.MadeData.{made_fields}
use Rattle.scode_made.proofs.Places.{all_at}
use Rattle.scode_made.proofs.Rows.{class_at, fields_past}
use Rattle.scode_agree.proofs.Given.{IsGiven}
use Rattle.scode_agree.proofs.Infos as infos
use Rattle.scode_agree.proofs.Infos.{Bases, as_many_classes, its_base}
use Rattle.scode_agree.proofs.Tests.{Either, First, IsPassing, Second, made_of, not_so, numbered_pass, one_of}
use Rattle.scode_agree.proofs.Tests.{some_passes}

-- the class of a field that is an object
record IsObject (f : FieldForm) (o : ℕ) : Type 0 where
  class : TypeNo
  is : f ≡ form.Object class
  said : (image_field o f).n ≡ class.0

is_object : (f : FieldForm) (o : ℕ) → ((image_field o f).form == 8) ≡ true → IsObject f o
is_object (form.Prim prim.Bool) o h = not_so h
is_object (form.Prim prim.Byte) o h = not_so h
is_object (form.Prim prim.Short) o h = not_so h
is_object (form.Prim prim.Int) o h = not_so h
is_object (form.Prim prim.Long) o h = not_so h
is_object (form.Str n) o h = not_so h
is_object (form.Buf n) o h = not_so h
is_object (form.Object t) o h = record { class = t; is = refl; said = refl }
is_object (form.Array prim.Bool n) o h = not_so h
is_object (form.Array prim.Byte n) o h = not_so h
is_object (form.Array prim.Short n) o h = not_so h
is_object (form.Array prim.Int n) o h = not_so h
is_object (form.Array prim.Long n) o h = not_so h

module _ (program : Program) (is : IsGiven program) where
  abbrev Under : ℕ → ℕ → Type 0
  Under above class = Below program.schema.classes above class

  -- the class of an object in a field of a class lies deeper, and is there
  record Inside (class t : ℕ) : Type 0 where
    deeper : is.typed.depth t < is.typed.depth class
    there : t < length program.schema.classes

  inside : (class i : ℕ) (f : Field) (t : TypeNo) → slice_get (fields program class) i ≡ Some f → f.form ≡ form.Object t
      → Inside class t.0
  inside class i f t at object =
      let less : LiesDeeper is.typed.depth class (form.Object t) =
      subst (LiesDeeper is.typed.depth class) object
      (all_at (λ (x : Field). LiesDeeper is.typed.depth class x.form) (fields program class) i f at
      (is.typed.deeper class)) in
      let known : IsForm program f (form.Object t) =
      subst (IsForm program f) object (all_at (IsField program) (fields program class) i f at
      (of_fields (IsField program) program is.typed.fields class)).form in
      record { deeper = less; there = known.0 }

  -- A class that is led to is at or above one that lies no deeper.
  record Reaches (to class : ℕ) : Type 0 where
    low : ℕ
    below : Under to low
    level : is.typed.depth low ≤ is.typed.depth class

  -- beyond the classes nothing is led to
  leads_nowhere : (n to : ℕ) → to < length program.schema.classes → leads_within n (image_of program) to 0xffff ≡ false
  leads_nowhere n to h = by_steps n
    where
      few : length program.schema.classes ≤ 1024
      few = is.laid.few_classes

      other : (0xffff == to) ≡ false
      other = ne_eqb 0xffff to (λ same. omega (arith, same, few, h))

      by_steps : (k : ℕ) → leads_within k (image_of program) to 0xffff ≡ false
      by_steps zero = other
      by_steps (suc k) =
          let through : ImageField → Bool = λ f. (f.form == 8) && leads_within k (image_of program) to f.n in
          let up : Option ImageClass → Bool =
          λ o. option_map_or (λ (c : ImageClass). leads_within k (image_of program) to c.base) o false in
          or_from ((0xffff == to) || list_any through (tables.class_fields (image_of program) 0xffff))
          (up (slice_get (image_of program).classes 0xffff))
          (or_from (0xffff == to) (list_any through (tables.class_fields (image_of program) 0xffff)) other
          (ap (list_any through) (fields_past program 0xffff
          (slice_get_past program.schema.classes 0xffff (omega (arith, few))))))
          (ap up (slice_get_past (image_of program).classes 0xffff (omega (arith, few, as_many_classes program))))

  -- what is led to from a class that is at or above another
  abbrev LeadsOn : ℕ → ℕ → Type 0
  LeadsOn n to =
      (from class : ℕ) → from < length program.schema.classes → Under from class
      → leads_within n (image_of program) to from ≡ true → Reaches to class

  itself : (to from class : ℕ) → Under from class → from ≡ to → Reaches to class
  itself to from class under same =
      record { low = class; below = subst (λ (c : ℕ). Under c class) same under; level = omega arith }

  by_field : (n to from class : ℕ) → LeadsOn n to → Under from class →
      IsPassing (λ (f : ImageField). (f.form == 8) && leads_within n (image_of program) to f.n)
      (tables.class_fields (image_of program) from) → Reaches to class
  by_field n to from class again under p =
      let x : ImageField = p.value in
      let at : slice_get (class_fields program from) p.place ≡ Some x =
      ap (λ (xs : List ImageField). slice_get xs p.place) (sym (made_fields program is.typed from)) ∙ p.there in
      let one =
      made_of (λ (k : ℕ) (f : Field). image_field (offset_of program from k) f.form)
      (fields program from) p.place x at in
      let parts = and_parts (x.form == 8) (leads_within n (image_of program) to x.n) p.passes in
      let object =
      is_object one.source.form (offset_of program from p.place)
      (ap (λ (z : ImageField). z.form == 8) one.made ∙ parts.0) in
      let class_is : x.n ≡ object.class.0 = ap (λ (z : ImageField). z.n) (sym one.made) ∙ object.said in
      let deep =
      inside class p.place one.source object.class
      (field_below program is.typed from class p.place one.source under one.there) object.is in
      let rest =
      again object.class.0 object.class.0 deep.there Itself
      (subst (λ (m : ℕ). leads_within n (image_of program) to m ≡ true) class_is parts.1) in
      let level = rest.level in
      let deeper = deep.deeper in
      record { low = rest.low; below = rest.below; level = omega (arith, level, deeper) }

  by_base : (n to from class : ℕ) → to < length program.schema.classes → LeadsOn n to → Under from class
      → (info : ClassInfo) → slice_get program.schema.classes from ≡ Some info →
      Bases program from info → leads_within n (image_of program) to (base_number info) ≡ true → Reaches to class
  by_base n to from class known again under info there (infos.Alone none said) led =
      not_so (sym (leads_nowhere n to known) ∙ subst
      (λ (m : ℕ). leads_within n (image_of program) to m ≡ true) said led)
  by_base n to from class known again under info there (infos.Based base based) led =
      again base class based.within (below_then (Based base from based.is Itself) under)
      (subst (λ (m : ℕ). leads_within n (image_of program) to m ≡ true) based.said led)

  further : (n to : ℕ) → to < length program.schema.classes → LeadsOn n to → LeadsOn (suc n) to
  further n to known again from class there under led = by_way (one_of ((from == to) || list_any through own) up led)
    where
      through : ImageField → Bool
      through f = (f.form == 8) && leads_within n (image_of program) to f.n

      own : List ImageField
      own = tables.class_fields (image_of program) from

      up : Bool
      up =
          option_map_or (λ (c : ImageClass). leads_within n (image_of program) to c.base)
          (slice_get (image_of program).classes from) false

      by_front : Either (from == to) (list_any through own) → Reaches to class
      by_front (First same) = itself to from class under (eqb-true from to same)
      by_front (Second any) = by_field n to from class again under (some_passes through own any)

      by_way : Either ((from == to) || list_any through own) up → Reaches to class
      by_way (First front) = by_front (one_of (from == to) (list_any through own) front)
      by_way (Second led_up) = elim (slice_get_cases program.schema.classes from).1 [
        | inl (info, within, at, same) ↦
            by_base n to from class known again under info at (its_base program is.typed from info at)
            (sym (ap (λ (o : Option ImageClass). option_map_or
            (λ (c : ImageClass). leads_within n (image_of program) to c.base) o false) (class_at program from info at))
            ∙ led_up)
        | inr (past, none) ↦ absurd (omega (arith, past, there))
      ]

  reaches : (n to : ℕ) → to < length program.schema.classes → LeadsOn n to
  reaches zero to known from class there under led = itself to from class under (eqb-true from to led)
  reaches (suc n) to known from class there under led =
      further n to known (reaches n to known) from class there under led

  -- a class does not lead to what holds it
  leads_elsewhere : (class i : ℕ) (f : Field) (t : TypeNo) → class < length program.schema.classes
      → slice_get (fields program class) i ≡ Some f → f.form ≡ form.Object t →
      leads_to (image_of program) t.0 class ≡ true → ⊥
  leads_elsewhere class i f t known at object led =
      let deep = inside class i f t at object in
      let r = reaches (length (image_of program).classes) class known t.0 t.0 deep.there Itself led in
      let low = inside r.low i f t (field_below program is.typed class r.low i f r.below at) object in
      let level = r.level in
      let deeper = low.deeper in
      omega (arith, level, deeper)

  no_holder : (class i : ℕ) (f : Field) → class < length program.schema.classes
      → slice_get (fields program class) i ≡ Some f → (g : FieldForm) → f.form ≡ g → (o : ℕ) →
      (not ((image_field o g).form == 8) || not (leads_to (image_of program) (image_field o g).n class)) ≡ true
  no_holder class i f known at (form.Prim prim.Bool) e o = refl
  no_holder class i f known at (form.Prim prim.Byte) e o = refl
  no_holder class i f known at (form.Prim prim.Short) e o = refl
  no_holder class i f known at (form.Prim prim.Int) e o = refl
  no_holder class i f known at (form.Prim prim.Long) e o = refl
  no_holder class i f known at (form.Str n) e o = refl
  no_holder class i f known at (form.Buf n) e o = refl
  no_holder class i f known at (form.Object t) e o =
      ap not (false_from_ne_true (leads_to (image_of program) t.0 class) (leads_elsewhere class i f t known at e))
  no_holder class i f known at (form.Array prim.Bool n) e o = refl
  no_holder class i f known at (form.Array prim.Byte n) e o = refl
  no_holder class i f known at (form.Array prim.Short n) e o = refl
  no_holder class i f known at (form.Array prim.Int n) e o = refl
  no_holder class i f known at (form.Array prim.Long n) e o = refl

  pub none_held : (class : ℕ) (info : ClassInfo) → slice_get program.schema.classes class ≡ Some info
      → holds_no_holder (image_of program) class (image_class program class info) ≡ true
  none_held class info there =
      let known = slice_get_within program.schema.classes class info there in
      numbered_pass (λ (i : ℕ) (f : Field). image_field (offset_of program class i) f.form)
      (λ (f : ImageField). not (f.form == 8) || not (leads_to (image_of program) f.n class)) (fields program class)
      (λ i f at. no_holder class i f known at f.form refl (offset_of program class i))
