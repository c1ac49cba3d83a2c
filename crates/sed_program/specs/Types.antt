-- What the types of a source are in a program: the forms of fields, and the kinds of parameters and results. Classes
-- have their numbers in the schema there. A use finds less: nothing of a member whose type breaks rule 8.
use Rattle.std.specs.Prelude.{ℕ, Bool, ◌||◌, if◌then◌else◌, List, Option, Some, None, slice_get}
use Rattle.std.specs.Option.{option_map}
use Rattle.sed_value.specs.declared.slot_type.Primitive.{Primitive}
use Rattle.sed_value.specs.declared.slot_type.Primitive.TheVariants as prim
use Rattle.sed_units.specs.declared.classes.Member.{Member}
use Rattle.sed_units.specs.declared.leaves.Param.{Param}
use Rattle.sed_typed.specs.declared.kind.Kind.{Kind}
use Rattle.sed_typed.specs.declared.kind.Kind.TheVariants as kind
use Rattle.sed_typed.specs.declared.number.TypeNo.{TypeNo}
use Rattle.sed_typed.specs.declared.program.FieldForm.{FieldForm}
use Rattle.sed_typed.specs.declared.program.FieldForm.TheVariants as form
use Rattle.sed_classes.specs.declared.kit_units.KitUnits.{KitUnits}
use Rattle.sed_classes.specs.declared.source_type.SourceType.{SourceType}
use Rattle.sed_classes.specs.declared.source_type.SourceType.TheVariants.{Void, Prim, Text, SizedText, Buf, Array}
use Rattle.sed_classes.specs.declared.source_type.SourceType.TheVariants.{Object}
use Rattle.sed_classes.specs.MemberRules.{is_wrong_property, is_wrong_action}
use Rattle.sed_classes.specs.Objects.{has_form}
use Rattle.sed_classes.specs.Schema.{class_order, type_number}
use Rattle.sed_classes.specs.Types.{type_of}

-- ---- classes

abbrev pub type_no : ℕ → TypeNo
type_no n = record { 0 = n }

-- the number in the schema of the class at a place
abbrev pub number_of : List KitUnits → ℕ → Option TypeNo
number_of units class = option_map type_no (type_number units class)

-- the place of the class with a number in the schema
abbrev pub place_of : List KitUnits → ℕ → Option ℕ
place_of units class = slice_get (class_order units) class

-- ---- fields

abbrev pub form_of_type : List KitUnits → SourceType → Option FieldForm
form_of_type units (Prim p) = Some (form.Prim p)
form_of_type units (SizedText n) = Some (form.Str n)
form_of_type units (Buf n) = Some (form.Buf n)
form_of_type units (Array p n) = Some (form.Array p n)
form_of_type units (Object class) = option_map form.Object (number_of units class)
form_of_type units t = None

-- what a field of a class of a kit holds; nothing that is known where no field may be of its type
abbrev pub form_of : List KitUnits → ℕ → Member → Option FieldForm
form_of units kit m = if has_form units kit m then form_of_type units (type_of units kit m.kind) else None

-- ---- kinds

-- no parameter or result is a byte or a short
abbrev pub primitive_kind : Primitive → Option Kind
primitive_kind prim.Bool = Some kind.Bool
primitive_kind prim.Byte = None
primitive_kind prim.Short = None
primitive_kind prim.Int = Some kind.Int
primitive_kind prim.Long = Some kind.Long

abbrev pub kind_of_type : List KitUnits → SourceType → Option Kind
kind_of_type units (Prim p) = primitive_kind p
kind_of_type units Text = Some kind.Text
kind_of_type units (Object class) = option_map kind.Object (number_of units class)
kind_of_type units t = None

abbrev pub result_of_type : List KitUnits → SourceType → Option Kind
result_of_type units Void = Some kind.Void
result_of_type units t = kind_of_type units t

-- the kind of a parameter of a method in a kit
abbrev pub param_kind : List KitUnits → ℕ → Param → Option Kind
param_kind units kit p = kind_of_type units (type_of units kit p.kind)

-- the kind of what a method in a kit answers
abbrev pub result_kind : List KitUnits → ℕ → Member → Option Kind
result_kind units kit m = result_of_type units (type_of units kit m.kind)

-- ---- uses

-- the type of a member breaks rule 8: that of a property, or the result and the parameters of an action
abbrev pub is_wrong_slot : List KitUnits → ℕ → Member → Bool
is_wrong_slot units kit m = is_wrong_property units kit m || is_wrong_action units kit m

-- what a use finds of a member of a kit, where this is what its type says
abbrev pub used : {X : Type 0} → List KitUnits → ℕ → Member → Option X → Option X
used units kit m found = if is_wrong_slot units kit m then None else found

abbrev pub used_form : List KitUnits → ℕ → Member → Option FieldForm
used_form units kit m = used units kit m (form_of units kit m)

abbrev pub used_param : List KitUnits → ℕ → Member → Param → Option Kind
used_param units kit m p = used units kit m (param_kind units kit p)

abbrev pub used_result : List KitUnits → ℕ → Member → Option Kind
used_result units kit m = used units kit m (result_kind units kit m)
