-- The tables of the image of a typed program agree.
use Rattle.std.proofs.Common.{◌≡◌, ℕ, ◌&&◌, Bool, true}
use Rattle.std.specs.Prelude.{slice_get, Some}
use Rattle.std.specs.List.{list_all}
use Rattle.std.proofs.lemmas.Bool.{and_from}
use Rattle.sed_typed.specs.declared.program.Program.{Program}
use Rattle.sed_typed.specs.declared.schema.ClassInfo.{ClassInfo}
use Rattle.scode_image.specs.declared.image.ImageClass.{ImageClass}
use Rattle.scode_code.specs.TableRules.{all_classes, base_stands_before, class_agrees, class_numbers_are_there}
use Rattle.scode_code.specs.TableRules.{component_has_table, fields_agree, grows_from_base, holds_no_holder, is_marked}
use Rattle.scode_code.specs.TableRules.{keeps_limits, method_agrees, names_have_form, parts_are_known, slots_have_parts}
use Rattle.scode_code.specs.TableRules.{sys_is_there, table_keeps_signatures, table_methods_fit, tables_agree}
use Rattle.scode_code.specs.TableRules.{types_are_numbered, with_base}
use Rattle.scode_gen.specs.Classes.{image_class}
use Rattle.scode_gen.specs.FirstBytes.{first_bytes, static_bytes}
use Rattle.scode_gen.specs.Generated.{image_of}
use Rattle.scode_gen.specs.ImageFields.{class_fields, static_fields}
use Rattle.std.proofs.Common.{length}
use Rattle.scode_agree.proofs.Classes.{base_before, grown, marked, numbers_known}
use Rattle.scode_agree.proofs.ComponentTable.{component_tabled}
use Rattle.scode_agree.proofs.Fields.{class_fields_agree, statics_agree}
use Rattle.scode_agree.proofs.Given.{IsGiven}
use Rattle.scode_agree.proofs.Holders.{none_held}
use Rattle.scode_agree.proofs.Infos.{classes_pass}
use Rattle.scode_agree.proofs.Kits.{types_numbered}
use Rattle.scode_agree.proofs.Known.{parts_known}
use Rattle.scode_agree.proofs.Limits.{limits_kept}
use Rattle.scode_agree.proofs.Methods.{methods_agree}
use Rattle.scode_agree.proofs.Names.{names_formed}
use Rattle.scode_agree.proofs.Slots.{parts_there}
use Rattle.scode_agree.proofs.SysThere.{sys_there}
use Rattle.scode_agree.proofs.Tables.{methods_fit, signatures_kept}
use Rattle.scode_agree.proofs.Tests.{seven}

-- each part of the rule about one class
one_class : (program : Program) → IsGiven program → (class : ℕ) (info : ClassInfo)
    → slice_get program.schema.classes class ≡ Some info →
    class_agrees (image_of program) class (image_class program class info) ≡ true
one_class program is class info there =
    let image = image_of program in
    let own : ImageClass = image_class program class info in
    let a : Bool = class_numbers_are_there image own in
    let b : Bool = base_stands_before class own in
    let c : Bool = is_marked image class own in
    let d : Bool = with_base image (grows_from_base own) own in
    let e : Bool = with_base image (table_keeps_signatures image own) own in
    let f : Bool =
    fields_agree image (length (first_bytes program class)) (class_fields program class) (first_bytes program class) in
    let g : Bool = holds_no_holder image class own in
    let h : Bool = slots_have_parts image own in
    let i : Bool = table_methods_fit image class own in
    and_from (a && b && c && d && e && f && g && h) i
    (and_from (a && b && c && d && e && f && g) h
    (seven a b c d e f g (numbers_known program is class info there) (base_before program is class info there)
    (marked program is class info there)
    (grown program is class info there) (signatures_kept program is class info there)
    (class_fields_agree program is class) (none_held program is class info there))
    (parts_there program is class info there))
    (methods_fit program is class info there)

pub tables_made : (program : Program) → IsGiven program → tables_agree (image_of program) ≡ true
tables_made program is =
    let image = image_of program in
    let a : Bool = parts_are_known image in
    let b : Bool = names_have_form image in
    let c : Bool = types_are_numbered image in
    let d : Bool = sys_is_there image in
    let e : Bool = component_has_table image in
    let f : Bool = all_classes image (class_agrees image) in
    let g : Bool = fields_agree image (length (static_bytes program)) (static_fields program) (static_bytes program) in
    let h : Bool = list_all (method_agrees image) image.methods in
    let i : Bool = keeps_limits image in
    let few = is.laid.few_classes in
    and_from (a && b && c && d && e && f && g && h) i
    (and_from (a && b && c && d && e && f && g) h
    (seven a b c d e f g (parts_known program is) (names_formed program is.typed is.spelled)
    (types_numbered program is.typed few) (sys_there program is.typed few)
    (component_tabled program is.typed few is.tabled) (classes_pass program (class_agrees image) (one_class program is))
    (statics_agree program is))
    (methods_agree program is))
    (limits_kept program is)
