-- The image has kit `sys` with its five types, as the program has them.
use Rattle.std.proofs.Common.{◌≡◌, ℕ, ◌+◌, ◌≤◌, ◌==◌, ◌&&◌, Bool, true, false, cond, List, [], ◌∷◌, length, codes}
use Rattle.std.proofs.Common.{Option, Some, None, refl, ap, sym, ◌∙◌}
use Rattle.std.specs.Prelude.{slice_get}
use Rattle.std.specs.Option.{option_and_then, option_map, option_map_or}
use Rattle.std.specs.Str.{bytes_eq}
use Rattle.std.proofs.lemmas.Bool.{eq-eqb}
use Rattle.std.proofs.lemmas.Option.{slice_get-map}
use Rattle.std.proofs.lemmas.Slice.Eq.{bytes_eq-Decides}
use Rattle.sed_value.specs.declared.kit.KitRef.{KitRef}
use Rattle.sed_typed.specs.declared.number.TypeNo.{TypeNo}
use Rattle.sed_typed.specs.declared.program.Program.{Program}
use Rattle.sed_typed.specs.declared.schema.ClassInfo.{ClassInfo}
use Rattle.sed_typed.specs.declared.schema.Schema.{Schema}
use Rattle.sed_typed.specs.declared.schema.SlotInfo.{SlotInfo}
use Rattle.sed_typed.specs.Schemas.{type_at}
use Rattle.sed_typed.specs.SysTypes.{HasSysType, IsSysType, meta_slot, save_slot}
use Rattle.sed_typed.specs.Typed.{Typed}
use Rattle.sed_engine.proofs.Below.{of_some}
use Rattle.sed_engine.proofs.SysMethods.{SysClass, sys_class}
use Rattle.scode_image.specs.declared.image.ImageClass.{ImageClass}
use Rattle.scode_image.specs.declared.image.ImageKit.{ImageKit}
use Rattle.scode_image.specs.declared.image.ImageSlot.{ImageSlot}
use Rattle.scode_code.specs.TableRules.{has_base, is_meta, is_save, is_sys_type, numbers_in_kit, slots_are}
use Rattle.scode_code.specs.TableRules.{sys_is_there}
use Rattle.scode_code.specs.Tables.{schema_of}
use Rattle.scode_gen.specs.Classes.{base_number, class_flags, image_class, image_kit}
use Rattle.scode_gen.specs.FirstBytes.{first_bytes}
use Rattle.scode_gen.specs.Generated.{image_of}
use Rattle.scode_gen.specs.ImageSlots.{image_slots}
use Rattle.scode_made.proofs.FirstBytes.{first_many}
use Rattle.scode_made.proofs.MadeSchema.{schema_back}
use Rattle.scode_made.proofs.Rows.{class_at}
use Rattle.scode_agree.proofs.Infos.{class_known}
use Rattle.scode_agree.proofs.Kits.{as_many_types, numbers_are}
use Rattle.scode_agree.proofs.Tests.{five, seven}

-- a type of the kit, where one is said, is there
abbrev IsThere : Program → Option ℕ → Type 0
IsThere program None = Unit {0}
IsThere program (Some number) = (class : ℕ) × (type_at program.schema.classes 0 number ≡ Some class)

base_said : (b : Option TypeNo) (o : Option ℕ) → option_map (λ (t : TypeNo). t.0) b ≡ o →
    option_map_or (λ (t : TypeNo). t.0) b 0xffff ≡ option_map_or (λ (n : ℕ). n) o 0xffff
base_said None o e = ap (λ (x : Option ℕ). option_map_or (λ (n : ℕ). n) x 0xffff) e
base_said (Some t) o e = ap (λ (x : Option ℕ). option_map_or (λ (n : ℕ). n) x 0xffff) e

module _ (program : Program) (typed : Typed program) (few : length program.schema.classes ≤ 1024) where
  pub type_told : (number : ℕ) → type_at (schema_of (image_of program)).classes 0 number ≡ type_at
      program.schema.classes 0 number
  type_told number = ap (λ (s : Schema). type_at s.classes 0 number) (schema_back program typed few)

  based : (base : Option ℕ) → IsThere program base → (class : ℕ) (info : ClassInfo) →
      option_map (λ (t : TypeNo). t.0) info.base ≡ option_and_then
      (λ (number : ℕ). type_at program.schema.classes 0 number) base →
      has_base (image_of program) base (image_class program class info) ≡ true
  based None h class info e = eq-eqb (base_number info) 0xffff (base_said info.base None e)
  based (Some number) h class info e =
      ap (λ (o : Option ℕ). option_map_or (λ (base : ℕ). base_number info == base) o false) (type_told number ∙ h.1)
      ∙ eq-eqb (base_number info) h.0 (base_said info.base (Some h.0) (e ∙ h.1))

  sys_type : (number : ℕ) (name : List ℕ) (base : Option ℕ) (abstract component : Bool) (size : ℕ) (all : List SlotInfo)
      (tests : List (ImageSlot → Bool)) →
      HasSysType program.schema.classes number (IsSysType program.schema.classes name base abstract component size all)
      → IsThere program base →
      ((class : ℕ) → slots_are tests (image_slots program class all) ≡ true) →
      is_sys_type (image_of program) number name base (cond abstract 1 0 + cond component 2 0) size tests ≡ true
  sys_type number name base abstract component size all tests h there same =
      ap (λ (o : Option ℕ). option_map_or test
      (option_and_then (λ (class : ℕ). slice_get (image_of program).classes class) o) false) (type_told number ∙ s.is)
      ∙ ap (λ (o : Option ImageClass). option_map_or test o false) (class_at program s.class s.info s.there)
      ∙ five (bytes_eq s.info.name name) (has_base (image_of program) base (image_class program s.class s.info))
      (class_flags s.info == flags)
      (length (first_bytes program s.class) == size) (slots_are tests (image_slots program s.class s.info.slots))
      ((bytes_eq-Decides s.info.name name).1 s.has.name_is)
      (based base there s.class s.info s.has.base_is)
      (eq-eqb (class_flags s.info) flags
      (ap (λ (a : Bool). cond a 1 0 + cond s.info.is_component 2 0) s.has.is_abstract
      ∙ ap (λ (b : Bool). cond abstract 1 0 + cond b 2 0) s.has.is_component))
      (eq-eqb (length (first_bytes program s.class)) size
      (first_many program typed s.class ∙ sym (class_known program typed s.class s.info s.there).size ∙ s.has.size_is))
      (ap (λ (ss : List SlotInfo). slots_are tests (image_slots program s.class ss)) s.has.slots ∙ same s.class)
    where
      s : SysClass program.schema.classes number
          (IsSysType program.schema.classes name base abstract component size all)
      s =
          sys_class program.schema.classes number (IsSysType program.schema.classes name base abstract component size
          all) h

      flags : ℕ
      flags = cond abstract 1 0 + cond component 2 0

      test : ImageClass → Bool
      test c =
          bytes_eq c.name name && has_base (image_of program) base c && (c.flags == flags)
          && (length c.contents == size) && slots_are tests c.slots

  is_there : (number : ℕ) (P : ClassInfo → Type 0) → HasSysType program.schema.classes number P
      → IsThere program (Some number)
  is_there number P h = let s = sys_class program.schema.classes number P h in (s.class, s.is)

  kit_named : option_map_or (λ (k : ImageKit). bytes_eq k.name (codes "sys"))
      (slice_get (image_of program).kits 0) false ≡ true
  kit_named =
      let kit = of_some {P = λ (k : KitRef). k.name ≡ codes "sys"} (slice_get program.schema.kits 0) typed.kits.sys in
      ap (λ (o : Option ImageKit). option_map_or (λ (k : ImageKit). bytes_eq k.name (codes "sys")) o false)
      (slice_get-map image_kit program.schema.kits 0 ∙ ap (option_map image_kit) kit.1)
      ∙ (bytes_eq-Decides kit.0.name (codes "sys")).1 kit.2

  pub sys_there : sys_is_there (image_of program) ≡ true
  sys_there =
      let image = image_of program in
      let types = typed.kits.sys_types in
      seven (option_map_or (λ (k : ImageKit). bytes_eq k.name (codes "sys")) (slice_get image.kits 0) false)
      (length (numbers_in_kit image 0) == 5)
      (is_sys_type image 0 (codes "Obj") None 1 0 [])
      (is_sys_type image 1 (codes "Virtual") (Some 0) 1 0 [])
      (is_sys_type image 2 (codes "Component") (Some 1) 3 4 (is_meta ∷ []))
      (is_sys_type image 3 (codes "App") (Some 2) 2 4 (is_meta ∷ is_save ∷ []))
      (is_sys_type image 4 (codes "Folder") (Some 2) 2 4 (is_meta ∷ []))
      kit_named
      (eq-eqb (length (numbers_in_kit image 0)) 5
      (ap length (numbers_are program typed few 0) ∙ as_many_types 0 program.schema.classes ∙ types.five))
      (sys_type 0 (codes "Obj") None true false 0 [] [] types.object tt (λ class. refl))
      (sys_type 1 (codes "Virtual") (Some 0) true false 0 [] [] types.virtual (is_there 0 _ types.object)
      (λ class. refl))
      (sys_type 2 (codes "Component") (Some 1) true true 4 (meta_slot ∷ []) (is_meta ∷ []) types.component
      (is_there 1 _ types.virtual) (λ class. refl))
      (sys_type 3 (codes "App") (Some 2) false true 4 (meta_slot ∷ save_slot ∷ []) (is_meta ∷ is_save ∷ []) types.app
      (is_there 2 _ types.component) (λ class. refl))
      (sys_type 4 (codes "Folder") (Some 2) false true 4 (meta_slot ∷ []) (is_meta ∷ []) types.folder
      (is_there 2 _ types.component) (λ class. refl))
