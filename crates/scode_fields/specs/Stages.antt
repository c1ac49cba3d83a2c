-- The parts of the rule in the order in which they are asked.
use Rattle.std.specs.Prelude.{ℕ, ◌&&◌, nat_lt, Bool, length}
use Rattle.std.specs.List.{list_all}
use Rattle.scode_image.specs.declared.image.Image.{Image}
use Rattle.scode_image.specs.declared.image.ImageClass.{ImageClass}
use Rattle.scode_code.specs.TableRules.{all_classes, base_stands_before, bytes_fit, class_numbers_are_there}
use Rattle.scode_code.specs.TableRules.{component_has_table, grows_from_base, is_marked, keeps_limits, method_agrees}
use Rattle.scode_code.specs.TableRules.{names_have_form, parts_are_known, slots_have_parts, sys_is_there}
use Rattle.scode_code.specs.TableRules.{table_keeps_signatures, table_methods_fit, types_are_numbered, with_base}
use Rattle.scode_fields.specs.Words.{fields_are_laid}

-- a class, but for its fields, slots and table methods
abbrev pub class_is_based : Image → ℕ → ImageClass → Bool
class_is_based image class c =
    class_numbers_are_there image c
    && base_stands_before class c
    && is_marked image class c
    && with_base image (grows_from_base c) c
    && with_base image (table_keeps_signatures image c) c

-- a class, but for its first bytes and for objects that hold it
abbrev pub class_is_laid : Image → ℕ → ImageClass → Bool
class_is_laid image class c =
    class_is_based image class c
    && fields_are_laid image (length c.contents) c.fields
    && slots_have_parts image c
    && table_methods_fit image class c

abbrev pub statics_are_laid : Image → Bool
statics_are_laid image = fields_are_laid image (length image.static_bytes) image.static_fields

-- the kit of each class is there
abbrev pub kit_is_there : Image → ImageClass → Bool
kit_is_there image c = nat_lt c.kit (length image.kits)

abbrev pub kits_are_there : Image → Bool
kits_are_there image = list_all (kit_is_there image) image.classes

abbrev pub names_and_types_agree : Image → Bool
names_and_types_agree image =
    names_have_form image
    && types_are_numbered image
    && sys_is_there image
    && component_has_table image

unfoldable pub is_laid : Image → Bool
is_laid image =
    parts_are_known image
    && kits_are_there image
    && keeps_limits image
    && names_and_types_agree image
    && all_classes image (class_is_laid image)
    && statics_are_laid image
    && list_all (method_agrees image) image.methods

abbrev pub contents_fit : Image → ImageClass → Bool
contents_fit image c = bytes_fit image c.fields c.contents

unfoldable pub first_bytes_fit : Image → Bool
first_bytes_fit image = list_all (contents_fit image) image.classes && bytes_fit image image.static_fields
    image.static_bytes
