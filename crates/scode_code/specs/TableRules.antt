-- Rule 1: the tables of an image agree. Each part is a test with a name.
use Rattle.std.specs.Prelude.{ℕ, zero, suc, ◌+◌, ◌*◌, ◌-◌, ◌==◌, ◌&&◌, ◌||◌, nat_lt, nat_le, not, Bool, true, false}
use Rattle.std.specs.Prelude.{if◌then◌else◌, List, [], ◌∷◌, ◌++◌, map, filter, length, drop, slice_get, codes, is_some}
use Rattle.std.specs.Prelude.{Option, Some, None}
use Rattle.std.specs.List.{list_all, list_any, enumerate_from, range_with_len}
use Rattle.std.specs.Option.{option_map_or, option_and_then}
use Rattle.std.specs.Str.{bytes_eq}
use Rattle.sed_value.specs.Names.{is_kit_name, is_word}
use Rattle.sed_value.specs.SlotType.{width_of}
use Rattle.sed_value.specs.Value.{are_bytes}
use Rattle.sed_typed.specs.Schemas.{type_at}
use Rattle.sed_typed.specs.Sizes.{config_size, runtime_size}
use Rattle.sed_wire.specs.Number.{number_of}
use Rattle.scode_image.specs.declared.image.Image.{Image}
use Rattle.scode_image.specs.declared.image.ImageClass.{ImageClass}
use Rattle.scode_image.specs.declared.image.ImageEntry.{ImageEntry}
use Rattle.scode_image.specs.declared.image.ImageField.{ImageField}
use Rattle.scode_image.specs.declared.image.ImageKind.{ImageKind}
use Rattle.scode_image.specs.declared.image.ImageMethod.{ImageMethod}
use Rattle.scode_image.specs.declared.image.ImageSlot.{ImageSlot}
use Rattle.scode_image.specs.Grammar.{is_field_form, is_slot_form}
use Rattle.scode_code.specs.Tables.{class_fields, class_of, field_number, primitive_of, schema_of, slot_of}
use Rattle.scode_code.specs.Contents.{bytes_at}
use Rattle.scode_code.specs.Calls.{is_instance}
use Rattle.scode_code.specs.Kinds.{same_kind, object, void, bool, int, long, is_at_or_above}
use Rattle.scode_code.specs.CodeRules.{is_abstract}

-- ---- words

abbrev pub none_or : Option Bool → Bool
none_or o = option_map_or (λ b. b) o true

-- a test of a class against its base, if it has one that is there
abbrev pub with_base : Image → (ImageClass → Bool) → ImageClass → Bool
with_base image test c = none_or (option_and_then (λ b. Some (test b)) (slice_get image.classes c.base))

abbrev pub has_class : Image → ℕ → Bool
has_class image class = nat_lt class (length image.classes)

abbrev pub has_method : Image → ℕ → Bool
has_method image number = nat_lt number (length image.methods)

abbrev pub is_action : ImageSlot → Bool
is_action s = nat_le 0x10 s.form

abbrev pub is_component : ImageClass → Bool
is_component c = nat_le 2 c.flags

abbrev pub is_abstract_class : ImageClass → Bool
is_abstract_class c = (class_of c).is_abstract

-- each class with its number
abbrev pub all_classes : Image → (ℕ → ImageClass → Bool) → Bool
all_classes image test = list_all (λ (at : ℕ × ImageClass). test at.0 at.1) (enumerate_from 0 image.classes)

-- ---- numbers and names

-- a kind of a parameter, a local or an entry, and of a result
abbrev pub is_kind_of_cell : Image → Bool → ImageKind → Bool
is_kind_of_cell image statics k =
    nat_le 1 k.kind && nat_le k.kind 6
    && (if k.kind == 6 then has_class image k.class || (statics && (k.class == 0xffff)) else k.class == 0)

abbrev pub is_kind_of_result : Image → ImageKind → Bool
is_kind_of_result image k = ((k.kind == 0) && (k.class == 0)) || is_kind_of_cell image false k

-- kinds of signatures are of classes that are there; locals and entries may have the static block
abbrev pub kinds_are_there : Image → ImageMethod → Bool
kinds_are_there image m =
    list_all (is_kind_of_cell image false) m.params
    && is_kind_of_result image m.result
    && list_all (is_kind_of_cell image true) m.locals
    && list_all (λ e. list_all (is_kind_of_cell image true) e.locals && list_all (is_kind_of_cell image true) e.stack)
    m.entries

abbrev pub class_numbers_are_there : Image → ImageClass → Bool
class_numbers_are_there image c =
    nat_lt c.kit (length image.kits)
    && ((c.base == 0xffff) || has_class image c.base)
    && list_all (has_method image) c.table
    && list_all (λ s. not (is_action s) || nat_lt s.place (length c.table)) c.slots

abbrev pub object_fields_are_there : Image → List ImageField → Bool
object_fields_are_there image fields = list_all (λ f. not (f.form == 8) || has_class image f.n) fields

abbrev pub names_have_form : Image → Bool
names_have_form image =
    list_all (λ k. is_kit_name k.name) image.kits
    && list_all (λ c. is_word c.name && list_all (λ s. is_word s.name) c.slots) image.classes

-- ---- kits and types

-- the classes of a kit have the numbers from 0 on, each once
abbrev pub numbers_in_kit : Image → ℕ → List ℕ
numbers_in_kit image kit = map (λ c. c.number) (filter (λ c. c.kit == kit) image.classes)

abbrev pub each_once : List ℕ → Bool
each_once numbers = list_all (λ i. length (filter (λ n. n == i) numbers) == 1) (range_with_len 0 (length numbers))

abbrev pub types_are_numbered : Image → Bool
types_are_numbered image = list_all (λ kit. each_once (numbers_in_kit image kit)) (range_with_len 0 (length image.kits))

-- the slots that a type of `sys` has
abbrev pub is_meta : ImageSlot → Bool
is_meta s = bytes_eq s.name (codes "meta") && (s.form == 4) && (s.config == 1)

abbrev pub is_save : ImageSlot → Bool
is_save s = bytes_eq s.name (codes "save") && (s.form == 0x10)

abbrev pub slots_are : List (ImageSlot → Bool) → List ImageSlot → Bool
slots_are [] [] = true
slots_are (test ∷ tests) (s ∷ ss) = test s && slots_are tests ss
slots_are tests ss = false

-- the base of a type of `sys`, by its number in the kit
abbrev pub has_base : Image → Option ℕ → ImageClass → Bool
has_base image None c = c.base == 0xffff
has_base image (Some number) c = option_map_or (λ base. c.base == base) (type_at (schema_of image).classes 0 number)
    false

abbrev pub is_sys_type : Image → ℕ → List ℕ → Option ℕ → ℕ → ℕ → List (ImageSlot → Bool) → Bool
is_sys_type image number name base flags size tests =
    option_map_or (λ c. bytes_eq c.name name && has_base image base c && (c.flags == flags)
    && (length c.contents == size) && slots_are tests c.slots)
    (option_and_then (λ class. slice_get image.classes class) (type_at (schema_of image).classes 0 number)) false

-- kit 0 is `sys`, with its five types
abbrev pub sys_is_there : Image → Bool
sys_is_there image =
    option_map_or (λ k. bytes_eq k.name (codes "sys")) (slice_get image.kits 0) false
    && (length (numbers_in_kit image 0) == 5)
    && is_sys_type image 0 (codes "Obj") None 1 0 []
    && is_sys_type image 1 (codes "Virtual") (Some 0) 1 0 []
    && is_sys_type image 2 (codes "Component") (Some 1) 3 4 (is_meta ∷ [])
    && is_sys_type image 3 (codes "App") (Some 2) 2 4 (is_meta ∷ is_save ∷ [])
    && is_sys_type image 4 (codes "Folder") (Some 2) 2 4 (is_meta ∷ [])

abbrev pub same_kinds : List ImageKind → List ImageKind → Bool
same_kinds [] [] = true
same_kinds (k ∷ ks) (l ∷ ls) = same_kind k l && same_kinds ks ls
same_kinds ks ls = false

-- the table of `Component` has `execute` alone, or the callbacks `start`, `stop` and `changed(int)` behind it
abbrev pub has_signature : Image → List ImageKind → ImageKind → ℕ → Bool
has_signature image params result number =
    option_map_or (λ m. same_kinds m.params params && same_kind m.result result) (slice_get image.methods number) false

abbrev pub component_table_is : Image → List ℕ → Bool
component_table_is image (execute ∷ []) = has_signature image [] void execute
component_table_is image (execute ∷ start ∷ stop ∷ changed ∷ []) =
    has_signature image [] void execute && has_signature image [] void start && has_signature image [] void stop
    && has_signature image (int ∷ []) void changed
component_table_is image table = false

abbrev pub component_has_table : Image → Bool
component_has_table image =
    option_map_or (λ c. component_table_is image c.table)
    (option_and_then (λ class. slice_get image.classes class) (type_at (schema_of image).classes 0 2)) false

-- ---- classes and their bases

abbrev pub base_stands_before : ℕ → ImageClass → Bool
base_stands_before class c = (c.base == 0xffff) || nat_lt c.base class

abbrev pub are_equal : Bool → Bool → Bool
are_equal true b = b
are_equal false b = not b

-- a class is a component exactly where it is `Component` or below it
abbrev pub is_marked : Image → ℕ → ImageClass → Bool
is_marked image class c =
    option_map_or (λ component. are_equal (is_component c) (is_at_or_above image component class))
    (type_at (schema_of image).classes 0 2) false

abbrev pub same_field : ImageField → ImageField → Bool
same_field f g = (f.offset == g.offset) && (f.form == g.form) && (f.n == g.n)

abbrev pub same_slot : ImageSlot → ImageSlot → Bool
same_slot s t = bytes_eq s.name t.name && (s.form == t.form) && (s.place == t.place) && (s.n == t.n)
    && (s.config == t.config)

abbrev pub begins : {A : Type 0} → (A → A → Bool) → List A → List A → Bool
begins same [] ys = true
begins same (x ∷ xs) [] = false
begins same (x ∷ xs) (y ∷ ys) = same x y && begins same xs ys

abbrev pub grows_from_base : ImageClass → ImageClass → Bool
grows_from_base c base =
    nat_le (length base.contents) (length c.contents)
    && nat_le (length base.table) (length c.table)
    && begins same_field base.fields c.fields
    && begins same_slot base.slots c.slots

-- ---- fields

-- how many bytes a field takes
abbrev pub field_width : Image → ImageField → ℕ
field_width image f =
    if nat_le f.form 5 then width_of (primitive_of f.form)
    else if f.form == 6 then f.n
    else if f.form == 7 then f.n + 2
    else if f.form == 8 then option_map_or (λ c. length c.contents) (slice_get image.classes f.n) 0
    else f.n * width_of (primitive_of (f.form - 8))

abbrev pub are_apart : Image → ImageField → ImageField → Bool
are_apart image f g = nat_le (f.offset + field_width image f) g.offset
    || nat_le (g.offset + field_width image g) f.offset

abbrev pub all_apart : Image → List ImageField → Bool
all_apart image [] = true
all_apart image (f ∷ fs) = list_all (are_apart image f) fs && all_apart image fs

-- fields do not overlap, and lie in the data
abbrev pub fields_lie_apart : Image → ℕ → List ImageField → Bool
fields_lie_apart image size fields = list_all (λ f. nat_le (f.offset + field_width image f) size) fields
    && all_apart image fields

-- a class leads to those of its object fields, and to its base
abbrev pub leads_within : ℕ → Image → ℕ → ℕ → Bool
leads_within zero image to from = from == to
leads_within (suc depth) image to from =
    (from == to)
    || list_any (λ f. (f.form == 8) && leads_within depth image to f.n) (class_fields image from)
    || option_map_or (λ c. leads_within depth image to c.base) (slice_get image.classes from) false

abbrev pub leads_to : Image → ℕ → ℕ → Bool
leads_to image from to = leads_within (length image.classes) image to from

-- the class of an inline object is concrete, no component, and has data
abbrev pub may_be_inline : ImageClass → Bool
may_be_inline c = not (is_abstract_class c) && not (is_component c) && nat_lt 0 (length c.contents)

abbrev pub objects_may_be_inline : Image → List ImageField → Bool
objects_may_be_inline image fields =
    list_all (λ f. not (f.form == 8)
    || none_or (option_and_then (λ c. Some (may_be_inline c)) (slice_get image.classes f.n))) fields

-- no class leads back to itself through a field
abbrev pub holds_no_holder : Image → ℕ → ImageClass → Bool
holds_no_holder image class c = list_all (λ f. not (f.form == 8) || not (leads_to image f.n class)) c.fields

-- n is of the form
abbrev pub n_is_of_form : ImageField → Bool
n_is_of_form f =
    if nat_le f.form 5 then f.n == 0
    else if f.form == 6 then nat_le 1 f.n && nat_le f.n 255
    else if f.form == 7 then nat_le 1 f.n && nat_le f.n 128
    else if f.form == 8 then true
    else nat_le 1 f.n

-- ---- first bytes

-- a bool is at most 2; other numbers may be any
abbrev pub primitive_fits : ℕ → List ℕ → ℕ → Bool
primitive_fits form bytes offset = not (form == 1) || nat_le (number_of (bytes_at bytes offset 1)) 2

-- the last byte of a Str is 0
abbrev pub str_fits : ℕ → List ℕ → ℕ → Bool
str_fits n bytes offset = number_of (bytes_at bytes (offset + (n - 1)) 1) == 0

-- a Buf is at most as long as its room
abbrev pub buf_fits : ℕ → List ℕ → ℕ → Bool
buf_fits n bytes offset = nat_le (number_of (bytes_at bytes offset 2)) n

abbrev pub array_fits : ℕ → ℕ → List ℕ → ℕ → Bool
array_fits form n bytes offset = list_all (λ i. primitive_fits form bytes (offset + i * width_of (primitive_of form)))
    (range_with_len 0 n)

-- the bytes of an object fit the fields of its class, objects being inside one another at most so deep
abbrev pub field_fits : (ℕ → List ℕ → Bool) → List ℕ → ImageField → Bool
field_fits object bytes f =
    if nat_le f.form 5 then primitive_fits f.form bytes f.offset
    else if f.form == 6 then str_fits f.n bytes f.offset
    else if f.form == 7 then buf_fits f.n bytes f.offset
    else if f.form == 8 then object f.n (drop f.offset bytes)
    else array_fits (f.form - 8) f.n bytes f.offset

abbrev pub object_fits : ℕ → Image → ℕ → List ℕ → Bool
object_fits zero image class bytes = true
object_fits (suc depth) image class bytes =
    list_all (field_fits (object_fits depth image) bytes) (class_fields image class)

abbrev pub bytes_fit : Image → List ImageField → List ℕ → Bool
bytes_fit image fields bytes = list_all (field_fits (object_fits (length image.classes) image) bytes) fields

-- ---- slots and tables

-- a property has a field of its form, offset and n
abbrev pub property_has_field : ImageClass → ImageSlot → Bool
property_has_field c s = is_action s || is_some (field_number c.fields s.form s.place s.n)

-- the parameters of an action's method, by the slot's form
abbrev pub action_params : ℕ → List ImageKind
action_params form = if form == 0x10 then [] else if form == 0x11 then bool ∷ [] else if form == 0x12 then int ∷ [] else
    long ∷ []

abbrev pub action_has_method : Image → ImageClass → ImageSlot → Bool
action_has_method image c s = not (is_action s) || option_map_or (has_signature image (action_params s.form) void)
    (slice_get c.table s.place) false

abbrev pub slots_have_parts : Image → ImageClass → Bool
slots_have_parts image c = list_all (λ s. property_has_field c s && action_has_method image c s) c.slots

-- a table method is no static one, and is of this class or of one above it; an abstract one is in an abstract class
abbrev pub may_stand_in_table : Image → ℕ → ImageClass → ImageMethod → Bool
may_stand_in_table image class c m =
    is_instance m && is_at_or_above image m.class class && (not (is_abstract m) || is_abstract_class c)

abbrev pub table_methods_fit : Image → ℕ → ImageClass → Bool
table_methods_fit image class c =
    list_all (λ n. none_or
    (option_and_then (λ m. Some (may_stand_in_table image class c m)) (slice_get image.methods n))) c.table

-- it has the signature that stands at the same place of the base
abbrev pub same_signature : Image → ℕ → ℕ → Bool
same_signature image a b =
    none_or (option_and_then
    (λ m. option_and_then (λ n. Some (same_kinds m.params n.params && same_kind m.result n.result))
    (slice_get image.methods b)) (slice_get image.methods a))

abbrev pub table_keeps_signatures : Image → ImageClass → ImageClass → Bool
table_keeps_signatures image c base = begins (λ b a. same_signature image a b) base.table c.table

-- ---- methods

-- an abstract method has a receiver, and no code and no entries
abbrev pub abstract_is_empty : ImageMethod → Bool
abstract_is_empty m = not (is_abstract m) || (is_instance m && (length m.code == 0) && (length m.entries == 0))

-- the locals begin with the receiver and the parameters
abbrev pub locals_begin : ImageMethod → Bool
locals_begin m = begins same_kind ((if is_instance m then object m.class ∷ [] else []) ++ m.params) m.locals

abbrev pub method_agrees : Image → ImageMethod → Bool
method_agrees image m = has_class image m.class && kinds_are_there image m && abstract_is_empty m && locals_begin m

-- ---- what a text says

-- An image that was not read may have what no text has. It breaks rule 1 too: flags, forms, and entries that do not
-- ascend or have other locals than the method.
abbrev pub class_is_known : ImageClass → Bool
class_is_known c = nat_le c.flags 3 && list_all (λ f. is_field_form f.form) c.fields
    && list_all (λ s. is_slot_form s.form && nat_le s.config 1) c.slots
    && are_bytes c.contents

abbrev pub places_ascend : ℕ → List ImageEntry → Bool
places_ascend least [] = true
places_ascend least (e ∷ es) = nat_le least e.place && places_ascend (suc e.place) es

abbrev pub method_is_known : ImageMethod → Bool
method_is_known m = nat_le m.flags 3 && places_ascend 0 m.entries && list_all (λ e. length e.locals == length m.locals)
    m.entries
    && are_bytes m.code

-- a text has at most 255 bytes
abbrev pub text_is_known : List ℕ → Bool
text_is_known text = are_bytes text && nat_le (length text) 255

abbrev pub parts_are_known : Image → Bool
parts_are_known image =
    list_all class_is_known image.classes
    && list_all (λ f. is_field_form f.form) image.static_fields
    && are_bytes image.static_bytes
    && list_all text_is_known image.texts
    && list_all method_is_known image.methods

-- ---- limits

abbrev pub class_keeps_limits : Image → ℕ → ImageClass → Bool
class_keeps_limits image class c =
    nat_le (length c.contents) 65535
    && nat_le (length c.slots) 64
    && nat_le (length c.table) 255
    && nat_le (length (filter (λ m. m.class == class) image.methods)) 60
    && nat_le (config_size (map slot_of c.slots)) 400
    && nat_le (runtime_size (map slot_of c.slots)) 400

abbrev pub method_keeps_limits : ImageMethod → Bool
method_keeps_limits m = nat_le (length m.params) 8 && nat_le (length m.locals) 255 && nat_le (length m.code) 65535

-- 16 kits, 64 types to a kit, 4,096 texts, 65,535 bytes of statics; to a class 65,535 bytes of data, 64 slots, 60
-- methods of its own, 255 in its table, and 400 bytes each of config and runtime values; to a method 8 parameters, 255
-- locals and 65,535 bytes of code, and as many methods as can be numbered
abbrev pub keeps_limits : Image → Bool
keeps_limits image =
    nat_le (length image.kits) 16
    && list_all (λ kit. nat_le (length (numbers_in_kit image kit)) 64) (range_with_len 0 (length image.kits))
    && nat_le (length image.texts) 4096
    && nat_le (length image.static_bytes) 65535
    && all_classes image (class_keeps_limits image)
    && list_all method_keeps_limits image.methods
    && nat_le (length image.methods) 65535

-- ---- rule 1

abbrev pub fields_agree : Image → ℕ → List ImageField → List ℕ → Bool
fields_agree image size fields bytes =
    object_fields_are_there image fields
    && objects_may_be_inline image fields
    && list_all n_is_of_form fields
    && fields_lie_apart image size fields
    && bytes_fit image fields bytes

abbrev pub class_agrees : Image → ℕ → ImageClass → Bool
class_agrees image class c =
    class_numbers_are_there image c
    && base_stands_before class c
    && is_marked image class c
    && with_base image (grows_from_base c) c
    && with_base image (table_keeps_signatures image c) c
    && fields_agree image (length c.contents) c.fields c.contents
    && holds_no_holder image class c
    && slots_have_parts image c
    && table_methods_fit image class c

-- rule 1 is kept
abbrev pub tables_agree : Image → Bool
tables_agree image =
    parts_are_known image
    && names_have_form image
    && types_are_numbered image
    && sys_is_there image
    && component_has_table image
    && all_classes image (class_agrees image)
    && fields_agree image (length image.static_bytes) image.static_fields image.static_bytes
    && list_all (method_agrees image) image.methods
    && keeps_limits image
