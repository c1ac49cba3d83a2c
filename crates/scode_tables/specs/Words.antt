-- Names for parts of the rule's definitions.
use Rattle.std.specs.Prelude.{ℕ, ◌==◌, ◌&&◌, ◌||◌, nat_le, nat_lt, not, Bool, false, true, List, codes, filter, map}
use Rattle.std.specs.Prelude.{position, slice_get, Option, Some}
use Rattle.std.specs.List.{list_all}
use Rattle.std.specs.Option.{option_and_then, option_map_or}
use Rattle.std.specs.Str.{bytes_eq}
use Rattle.sed_value.specs.Names.{is_kit_name, is_word}
use Rattle.sed_typed.specs.Schemas.{type_at}
use Rattle.scode_image.specs.declared.image.Image.{Image}
use Rattle.scode_image.specs.declared.image.ImageClass.{ImageClass}
use Rattle.scode_image.specs.declared.image.ImageEntry.{ImageEntry}
use Rattle.scode_image.specs.declared.image.ImageField.{ImageField}
use Rattle.scode_image.specs.declared.image.ImageKind.{ImageKind}
use Rattle.scode_image.specs.declared.image.ImageKit.{ImageKit}
use Rattle.scode_image.specs.declared.image.ImageSlot.{ImageSlot}
use Rattle.scode_image.specs.Grammar.{is_field_form, is_slot_form}
use Rattle.scode_code.specs.Tables.{schema_of}
use Rattle.scode_code.specs.TableRules.{action_has_method, has_class, is_action, is_kind_of_cell, may_stand_in_table}
use Rattle.scode_code.specs.TableRules.{none_or, property_has_field, same_signature}

-- ---- kinds

-- the test of both of a pair
abbrev pub same_pair : {A : Type 0} → (A → A → Bool) → A × A → Bool
same_pair same pair = same pair.0 pair.1

abbrev pub has_object : Image → Bool → ImageKind → Bool
has_object image statics k = has_class image k.class || (statics && (k.class == 0xffff))

abbrev pub entry_kinds_are_there : Image → ImageEntry → Bool
entry_kinds_are_there image e =
    list_all (is_kind_of_cell image true) e.locals && list_all (is_kind_of_cell image true) e.stack

-- ---- forms and names

abbrev pub has_field_form : ImageField → Bool
has_field_form f = is_field_form f.form

abbrev pub slot_is_known : ImageSlot → Bool
slot_is_known s = is_slot_form s.form && nat_le s.config 1

abbrev pub kit_is_named : ImageKit → Bool
kit_is_named k = is_kit_name k.name

abbrev pub slot_is_named : ImageSlot → Bool
slot_is_named s = is_word s.name

abbrev pub class_is_named : ImageClass → Bool
class_is_named c = is_word c.name && list_all slot_is_named c.slots

-- ---- types

-- the numbers that the classes of a kit have
abbrev pub numbers_among : List ImageClass → ℕ → List ℕ
numbers_among classes kit = map (λ c. c.number) (filter (λ c. c.kit == kit) classes)

abbrev pub sys_type : Image → ℕ → Option ImageClass
sys_type image number =
    option_and_then (λ class. slice_get image.classes class) (type_at (schema_of image).classes 0 number)

abbrev pub is_named_sys : List ImageKit → Bool
is_named_sys kits = option_map_or (λ k. bytes_eq k.name (codes "sys")) (slice_get kits 0) false

-- ---- slots and tables

abbrev pub is_placed : ℕ → ImageSlot → Bool
is_placed size s = not (is_action s) || nat_lt s.place size

abbrev pub slot_has_parts : Image → ImageClass → ImageSlot → Bool
slot_has_parts image c s = property_has_field c s && action_has_method image c s

abbrev pub fits_in_table : Image → ℕ → ImageClass → ℕ → Bool
fits_in_table image class c n =
    none_or (option_and_then (λ m. Some (may_stand_in_table image class c m)) (slice_get image.methods n))

-- the method of a class's table has the signature of the base's
abbrev pub keeps_signature : Image → ℕ → ℕ → Bool
keeps_signature image b a = same_signature image a b

-- ---- types by their numbers

-- the place of the first class with this number in this kit
abbrev pub place_of_type : Image → ℕ → ℕ → Option ℕ
place_of_type image kit number = position (λ c. (c.kit == kit) && (c.number == number)) image.classes
