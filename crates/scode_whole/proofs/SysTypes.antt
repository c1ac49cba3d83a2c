-- The types of kit `sys` that an image has whose tables agree.
use Rattle.std.proofs.Common.{◌≡◌, ℕ, ◌<◌, ◌≤◌, ◌%◌, ◌==◌, ◌&&◌, nat_le, nat_lt, if◌then◌else◌, Bool, true, false, List, [], ◌∷◌, length, map, Option, Some, None, refl, sym, ap, subst, ◌∙◌, arith}
use Rattle.std.specs.Prelude.{IsSomeAnd, ◌^◌, slice_get, codes, position}
use Rattle.std.specs.Option.{option_and_then, option_map, option_map_or}
use Rattle.std.specs.Str.{bytes_eq}
use Rattle.std.proofs.lemmas.Bool.{and_parts, eqb-true, ne_eqb}
use Rattle.std.proofs.lemmas.List.{length-map}
use Rattle.std.proofs.lemmas.Option.{slice_get-map, slice_get_within}
use Rattle.std.proofs.lemmas.Slice.Eq.{bytes_eq-Decides}
use Rattle.sed_typed.specs.declared.number.TypeNo.{TypeNo}
use Rattle.sed_typed.specs.declared.schema.ClassInfo.{ClassInfo}
use Rattle.sed_typed.specs.declared.schema.SlotInfo.{SlotInfo}
use Rattle.sed_typed.specs.Schemas.{numbered, type_at}
use Rattle.sed_typed.specs.SysTypes.{HasSysType, HasSysTypes, IsSysType, meta_slot, save_slot}
use Rattle.sed_engine.proofs.Below.{IsPassed, position_passes}
use Rattle.scode_image.specs.declared.image.Image.{Image}
use Rattle.scode_image.specs.declared.image.ImageClass.{ImageClass}
use Rattle.scode_image.specs.declared.image.ImageKit.{ImageKit}
use Rattle.scode_image.specs.declared.image.ImageSlot.{ImageSlot}
use Rattle.scode_code.specs.Tables.{base_of, class_of, schema_of, slot_of}
use Rattle.scode_code.specs.TableRules as rule
use Rattle.scode_whole.proofs.Truths.{no_truth, no_value, same_value, two, three, five, seven, there, through}
use Rattle.scode_whole.proofs.Rule.{Agrees}
use Rattle.scode_whole.proofs.Kits.{classes_most}
use Rattle.scode_whole.proofs.Counts.{numbers_of, of_kit}

-- ---- slots

slot_with : List ℕ → ℕ → ℕ → ImageSlot → SlotInfo
slot_with name form config s =
    slot_of (record { name = name; form = form; place = s.place; n = s.n; config = config })

meta_is : (s : ImageSlot) → rule.is_meta s ≡ true → slot_of s ≡ meta_slot
unfolding slot_with
meta_is s h =
    let p = three (bytes_eq s.name (codes "meta")) (s.form == 4) (s.config == 1) h in
    ap (λ (k : List ℕ). slot_with k s.form s.config s) ((bytes_eq-Decides s.name (codes "meta")).0 p.0)
    ∙ ap (λ (k : ℕ). slot_with (codes "meta") k s.config s) (eqb-true s.form 4 p.1)
    ∙ ap (λ (k : ℕ). slot_with (codes "meta") 4 k s) (eqb-true s.config 1 p.2)

save_is : (s : ImageSlot) → rule.is_save s ≡ true → slot_of s ≡ save_slot
unfolding slot_with
save_is s h =
    let p = two (bytes_eq s.name (codes "save")) (s.form == 0x10) h in
    ap (λ (k : List ℕ). slot_with k s.form s.config s) ((bytes_eq-Decides s.name (codes "save")).0 p.0)
    ∙ ap (λ (k : ℕ). slot_with (codes "save") k s.config s) (eqb-true s.form 0x10 p.1)

-- the slots that pass such tests are these
abbrev pub Give : List (ImageSlot → Bool) → List SlotInfo → Type 0
Give tests slots = (ss : List ImageSlot) → rule.slots_are tests ss ≡ true → map slot_of ss ≡ slots

none_give : Give [] []
none_give [] h = refl
none_give (s ∷ ss) h = no_truth h

more_give : (test : ImageSlot → Bool) (slot : SlotInfo) (tests : List (ImageSlot → Bool)) (slots : List SlotInfo)
    → ((s : ImageSlot) → test s ≡ true → slot_of s ≡ slot) → Give tests slots → Give (test ∷ tests) (slot ∷ slots)
more_give test slot tests slots one rest [] h = no_truth h
more_give test slot tests slots one rest (s ∷ ss) h =
    let p = and_parts (test s) (rule.slots_are tests ss) h in
    ap (λ (x : SlotInfo). x ∷ map slot_of ss) (one s p.0) ∙ ap (λ (xs : List SlotInfo). slot ∷ xs) (rest ss p.1)

-- ---- types

-- the first class with a number in a kit is there
numbered_is : (place class : ℕ) → numbered place ≡ Some class → place ≡ class
numbered_is place class e = by_test (nat_lt place (2 ^ 16)) e
  where
    by_test : (b : Bool) → (if b then Some place else None) ≡ Some class → place ≡ class
    by_test true e = same_value place class e
    by_test false e = no_value class e

pub type_there : (classes : List ClassInfo) (kit number class : ℕ) → type_at classes kit number ≡ Some class
    → class < length classes
type_there classes kit number class e =
    let t = through numbered (position (λ (c : ClassInfo). (c.kit == kit) && (c.number == number)) classes) class e in
    let found : IsPassed (λ (c : ClassInfo). (c.kit == kit) && (c.number == number)) classes t.0 =
    position_passes (λ (c : ClassInfo). (c.kit == kit) && (c.number == number)) classes t.0 t.1 in
    subst (λ (k : ℕ). k < length classes) (numbered_is t.0 class t.2)
    (slice_get_within classes t.0 found.value found.is)

base_is : (image : Image) → Agrees image → (base : Option ℕ) (c : ImageClass) → rule.has_base image base c ≡ true
    → option_map (λ (t : TypeNo). t.0) (base_of c.base)
    ≡ option_and_then (λ (number : ℕ). type_at (schema_of image).classes 0 number) base
base_is image is None c h =
    ap (λ (b : Bool). option_map (λ (t : TypeNo). t.0) (if b then None else Some (record { 0 = c.base }))) h
base_is image is (Some number) c h =
    let t = there (λ (base : ℕ). c.base == base) (type_at (schema_of image).classes 0 number) h in
    let same : c.base ≡ t.0 = eqb-true c.base t.0 t.2 in
    let low : t.0 < length (schema_of image).classes = type_there (schema_of image).classes 0 number t.0 t.1 in
    let few : length image.classes ≤ 1024 = classes_most image is in
    let all : length (schema_of image).classes ≡ length image.classes = length-map image.classes class_of in
    let some : (c.base == 0xffff) ≡ false = ne_eqb c.base 0xffff (λ e. omega (arith, e, same, low, few, all)) in
    ap (λ (b : Bool). option_map (λ (t : TypeNo). t.0) (if b then None else Some (record { 0 = c.base }))) some
    ∙ ap (λ (k : ℕ). Some k) same ∙ sym t.1

sys_type : (image : Image) → Agrees image → (number : ℕ) (name : List ℕ) (base : Option ℕ) (flags size : ℕ)
    (tests : List (ImageSlot → Bool)) (slots : List SlotInfo) (abstract component : Bool)
    → (flags % 2 == 1) ≡ abstract → nat_le 2 flags ≡ component → Give tests slots
    → rule.is_sys_type image number name base flags size tests ≡ true
    → HasSysType (schema_of image).classes number
    (IsSysType (schema_of image).classes name base abstract component size slots)
sys_type image is number name base flags size tests slots abstract component is_abstract is_component give h =
    let classes = (schema_of image).classes in
    let k = there (λ (c : ImageClass). bytes_eq c.name name && rule.has_base image base c && (c.flags == flags)
    && (length c.contents == size) && rule.slots_are tests c.slots)
    (option_and_then (λ (class : ℕ). slice_get image.classes class) (type_at (schema_of image).classes 0 number)) h in
    let t = through (λ (class : ℕ). slice_get image.classes class)
    (type_at (schema_of image).classes 0 number) k.0 k.1 in
    let p = five (bytes_eq k.0.name name) (rule.has_base image base k.0) (k.0.flags == flags)
    (length k.0.contents == size) (rule.slots_are tests k.0.slots) k.2 in
    let same : k.0.flags ≡ flags = eqb-true k.0.flags flags p.2 in
    let all : IsSysType (schema_of image).classes name base abstract component size slots (class_of k.0) = record {
      name_is = (bytes_eq-Decides k.0.name name).0 p.0;
      base_is = base_is image is base k.0 p.1;
      is_abstract = ap (λ (f : ℕ). f % 2 == 1) same ∙ is_abstract;
      is_component = ap (λ (f : ℕ). nat_le 2 f) same ∙ is_component;
      size_is = eqb-true (length k.0.contents) size p.3;
      slots = give k.0.slots p.4;
    } in
    let stands : slice_get (schema_of image).classes t.0 ≡ Some (class_of k.0) =
    slice_get-map class_of image.classes t.0 ∙ ap (λ (o : Option ImageClass). option_map class_of o) t.2 in
    subst (λ (o : Option ℕ). IsSomeAnd o (λ (class : ℕ). IsSomeAnd (slice_get (schema_of image).classes class)
    (IsSysType (schema_of image).classes name base abstract component size slots)))
    (sym t.1)
    (subst (λ (o : Option ClassInfo). IsSomeAnd o (IsSysType (schema_of image).classes name base abstract component
    size slots))
    (sym stands) all)

-- ---- the kit

pub record Sys (image : Image) : Type 0 where
  pub named : option_map_or (λ (k : ImageKit). bytes_eq k.name (codes "sys")) (slice_get image.kits 0) false ≡ true
  pub types : HasSysTypes (schema_of image).classes

pub sys_of : (image : Image) → Agrees image → Sys image
sys_of image is =
    let p = seven (option_map_or (λ (k : ImageKit). bytes_eq k.name (codes "sys")) (slice_get image.kits 0) false)
    (length (rule.numbers_in_kit image 0) == 5)
    (rule.is_sys_type image 0 (codes "Obj") None 1 0 [])
    (rule.is_sys_type image 1 (codes "Virtual") (Some 0) 1 0 [])
    (rule.is_sys_type image 2 (codes "Component") (Some 1) 3 4 (rule.is_meta ∷ []))
    (rule.is_sys_type image 3 (codes "App") (Some 2) 2 4 (rule.is_meta ∷ rule.is_save ∷ []))
    (rule.is_sys_type image 4 (codes "Folder") (Some 2) 2 4 (rule.is_meta ∷ [])) is.sys in
    let meta : Give (rule.is_meta ∷ []) (meta_slot ∷ []) = more_give rule.is_meta meta_slot [] [] meta_is none_give in
    let save : Give (rule.is_save ∷ []) (save_slot ∷ []) = more_give rule.is_save save_slot [] [] save_is none_give in
    let both : Give (rule.is_meta ∷ rule.is_save ∷ []) (meta_slot ∷ save_slot ∷ []) =
    more_give rule.is_meta meta_slot (rule.is_save ∷ []) (save_slot ∷ []) meta_is save in
    record {
      named = p.0;
      types = record {
        five = of_kit 0 image.classes ∙ eqb-true (length (numbers_of 0 image.classes)) 5 p.1;
        object = sys_type image is 0 (codes "Obj") None 1 0 [] [] true false refl refl none_give p.2;
        virtual = sys_type image is 1 (codes "Virtual") (Some 0) 1 0 [] [] true false refl refl none_give p.3;
        component = sys_type image is 2 (codes "Component") (Some 1) 3 4 (rule.is_meta ∷ [])
            (meta_slot ∷ []) true true refl
            refl meta p.4;
        app = sys_type image is 3 (codes "App") (Some 2) 2 4 (rule.is_meta ∷ rule.is_save ∷ [])
            (meta_slot ∷ save_slot ∷ []) false true refl refl both p.5;
        folder = sys_type image is 4 (codes "Folder") (Some 2) 2 4 (rule.is_meta ∷ []) (meta_slot ∷ []) false true refl
            refl meta p.6;
      };
    }
