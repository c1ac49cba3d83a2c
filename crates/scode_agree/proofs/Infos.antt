-- What a typed program says of a class that is there, and what its image has of it.
use Rattle.std.proofs.Common.{◌≡◌, ℕ, ◌<◌, ◌≤◌, Bool, true, inl, inr, [], length, Option, Some, None, refl, ap, sym}
use Rattle.std.proofs.Common.{subst, ◌∙◌, arith}
use Rattle.std.specs.Prelude.{IfSome, slice_get}
use Rattle.std.specs.List.{enumerate_from, list_all}
use Rattle.std.specs.Option.{option_and_then, option_map, option_map_or}
use Rattle.std.proofs.lemmas.Bool.{lt-ltb}
use Rattle.std.proofs.lemmas.List.{length-map}
use Rattle.std.proofs.lemmas.List.FromFn.{length-enumerate_from}
use Rattle.std.proofs.lemmas.Option.{same_Some, slice_get-map, slice_get_cases, slice_get_past, slice_get_within}
use Rattle.sed_typed.specs.declared.number.TypeNo.{TypeNo}
use Rattle.sed_typed.specs.declared.program.Program.{Program}
use Rattle.sed_typed.specs.declared.schema.ClassInfo.{ClassInfo}
use Rattle.sed_typed.specs.declared.schema.Schema.{Schema}
use Rattle.sed_typed.specs.declared.schema.SlotInfo.{SlotInfo}
use Rattle.sed_typed.specs.Classes.{base_of, slots}
use Rattle.sed_typed.specs.Typed.{Typed}
use Rattle.sed_typed.specs.TypedSchema.{HasBase, HasSlot, HasSlots, IsClass}
use Rattle.scode_image.specs.declared.image.ImageClass.{ImageClass}
use Rattle.scode_code.specs.TableRules.{all_classes, has_class, none_or, with_base}
use Rattle.scode_code.specs.Tables.{class_of}
use Rattle.scode_gen.specs.Classes.{base_number, image_class}
use Rattle.scode_gen.specs.Generated.{image_of}
use Rattle.scode_made.proofs.MadeSchema.{schema_back}
use Rattle.scode_made.proofs.Rows.{class_at}
use Rattle.scode_agree.proofs.Tests.{each_numbered, made_of, numbered_pass}

-- ---- in the program

pub class_known : (program : Program) → Typed program → (class : ℕ) (info : ClassInfo)
    → slice_get program.schema.classes class ≡ Some info → IsClass program class info
class_known program typed class info there =
    subst (λ (o : Option ClassInfo). IfSome o (IsClass program class)) there (typed.classes class)

pub slots_known : (program : Program) → Typed program → (class : ℕ) (info : ClassInfo)
    → slice_get program.schema.classes class ≡ Some info → HasSlots program class info
slots_known program typed class info there =
    subst (λ (o : Option ClassInfo). IfSome o (HasSlots program class)) there (typed.slots class)

pub slot_known : (program : Program) (class : ℕ) (info : ClassInfo) → HasSlots program class info
    → (n : ℕ) (s : SlotInfo) → slice_get info.slots n ≡ Some s →
    HasSlot program class n s s.form
slot_known program class info has n s at =
    subst (λ (o : Option SlotInfo). IfSome o (λ x. HasSlot program class n x x.form)) at (has.each n)

pub slots_there : (program : Program) (class : ℕ) (info : ClassInfo)
    → slice_get program.schema.classes class ≡ Some info → slots program.schema.classes class ≡ info.slots
slots_there program class info there = ap (λ (o : Option ClassInfo). option_map_or (λ x. x.slots) o []) there

base_there : (program : Program) (class : ℕ) (info : ClassInfo) → slice_get program.schema.classes class ≡ Some info →
    base_of program.schema.classes class ≡ option_map (λ (t : TypeNo). t.0) info.base
base_there program class info there =
    ap (option_and_then (λ (x : ClassInfo). option_map (λ (t : TypeNo). t.0) x.base)) there

-- a class that is there, with its base, which is there too
pub record IsBased (program : Program) (class : ℕ) (info : ClassInfo) (base : ℕ) : Type 0 where
  pub above : ClassInfo
  pub is : base_of program.schema.classes class ≡ Some base
  pub there : slice_get program.schema.classes base ≡ Some above
  pub has : HasBase program class base
  pub said : base_number info ≡ base
  pub within : base < length program.schema.classes

-- a class has no base, and says 0xffff, or it has one
pub data Bases (program : Program) (class : ℕ) (info : ClassInfo) : Type 0 where
  Alone : base_of program.schema.classes class ≡ None → base_number info ≡ 0xffff → Bases program class info
  Based : (base : ℕ) → IsBased program class info base → Bases program class info

pub its_base : (program : Program) → Typed program → (class : ℕ) (info : ClassInfo)
    → slice_get program.schema.classes class ≡ Some info → Bases program class info
its_base program typed class info there = by_base info.base refl
  where
    within : class < length program.schema.classes
    within = slice_get_within program.schema.classes class info there

    said : (b : Option TypeNo) → info.base ≡ b → base_number info ≡ option_map_or (λ (t : TypeNo). t.0) b 0xffff
    said b e = ap (λ (o : Option TypeNo). option_map_or (λ (t : TypeNo). t.0) o 0xffff) e

    by_base : (b : Option TypeNo) → info.base ≡ b → Bases program class info
    by_base None e = Alone (base_there program class info there ∙ ap (option_map (λ (t : TypeNo). t.0)) e) (said None e)
    by_base (Some t) e =
        let is : base_of program.schema.classes class ≡ Some t.0 =
        base_there program class info there ∙ ap (option_map (λ (x : TypeNo). x.0)) e in
        let has : HasBase program class t.0 =
        subst (λ (o : Option ℕ). IfSome o (HasBase program class)) is
        (class_known program typed class info there).base in
        let before : t.0 < class = has.before in
        elim (slice_get_cases program.schema.classes t.0).1 [
          | inl (above, inside, at, same) ↦
              Based t.0 (record {
                above = above;
                is = is;
                there = at;
                has = has;
                said = said (Some t) e;
                within = inside;
              })
          | inr (past, none) ↦ absurd (omega (arith, before, within, past))
        ]

-- ---- in the image

pub as_many_classes : (program : Program) → length (image_of program).classes ≡ length program.schema.classes
as_many_classes program =
    length-map (enumerate_from 0 program.schema.classes) (λ (at : ℕ × ClassInfo). image_class program at.0 at.1)
    ∙ length-enumerate_from 0 program.schema.classes

pub class_there : (program : Program) (class : ℕ) → class < length program.schema.classes
    → has_class (image_of program) class ≡ true
class_there program class h =
    lt-ltb class (length (image_of program).classes) (subst (λ (n : ℕ). class < n) (sym (as_many_classes program)) h)

-- what the image tells of a class
pub told_back : (program : Program) → Typed program → length program.schema.classes ≤ 1024
    → (class : ℕ) (info : ClassInfo) → slice_get program.schema.classes class ≡ Some info →
    class_of (image_class program class info) ≡ info
told_back program typed few class info there =
    same_Some (class_of (image_class program class info)) info
    (sym (ap (option_map class_of) (class_at program class info there))
    ∙ sym (slice_get-map class_of (image_of program).classes class)
    ∙ ap (λ (s : Schema). slice_get s.classes class) (schema_back program typed few)
    ∙ there)

-- a test of each class of the image, with its number
pub classes_pass : (program : Program) (test : ℕ → ImageClass → Bool) →
    ((class : ℕ) (info : ClassInfo) → slice_get program.schema.classes class ≡ Some info
    → test class (image_class program class info) ≡ true) →
    all_classes (image_of program) test ≡ true
classes_pass program test h =
    each_numbered test (image_of program).classes
    (λ class c at.
    let one = made_of (image_class program) program.schema.classes class c at in
    subst (λ (x : ImageClass). test class x ≡ true) one.made (h class one.source one.there))

-- and without it
pub each_class : (program : Program) (test : ImageClass → Bool) →
    ((class : ℕ) (info : ClassInfo) → slice_get program.schema.classes class ≡ Some info
    → test (image_class program class info) ≡ true) →
    list_all test (image_of program).classes ≡ true
each_class program test h = numbered_pass (image_class program) test program.schema.classes h

-- a test of a class against its base
pub base_passes : (program : Program) → Typed program → length program.schema.classes ≤ 1024
    → (test : ImageClass → Bool) (class : ℕ) (info : ClassInfo) →
    slice_get program.schema.classes class ≡ Some info →
    ((base : ℕ) (based : IsBased program class info base) → test (image_class program base based.above) ≡ true) →
    with_base (image_of program) test (image_class program class info) ≡ true
base_passes program typed few test class info there h = by_base (its_base program typed class info there)
  where
    tested : Option ImageClass → Bool
    tested o = none_or (option_and_then (λ (b : ImageClass). Some (test b)) o)

    by_base : Bases program class info → with_base (image_of program) test (image_class program class info) ≡ true
    by_base (Alone none said) =
        ap (λ (n : ℕ). tested (slice_get (image_of program).classes n)) said
        ∙ ap tested (slice_get_past (image_of program).classes 0xffff (omega (arith, few, as_many_classes program)))
    by_base (Based base based) =
        ap (λ (n : ℕ). tested (slice_get (image_of program).classes n)) based.said
        ∙ ap tested (class_at program base based.above based.there)
        ∙ h base based
