-- What names mean to the bodies in a text of a kit. Classes have their numbers in the schema, and so have members in
-- the program.
use Rattle.std.specs.Prelude.{ℕ, Bool, false, ◌==◌, ◌||◌, if◌then◌else◌, List, Option, Some, None}
use Rattle.std.specs.Option.{option_and_then, option_map}
use Rattle.sed_value.specs.declared.value.Value.{Value}
use Rattle.sed_value.specs.declared.value.Value.TheVariants as value
use Rattle.sed_units.specs.declared.leaves.Init.{Init}
use Rattle.sed_typed.specs.declared.number.TypeNo.{TypeNo}
use Rattle.sed_names.specs.declared.member.Constant.{Constant}
use Rattle.sed_names.specs.declared.member.Constant.TheVariants as constant
use Rattle.sed_names.specs.declared.member.Member.{Member}
use Rattle.sed_names.specs.declared.member.Member.TheVariants as member
use Rattle.sed_names.specs.Names.{Names}
use Rattle.sed_classes.specs.declared.kit_units.KitUnits.{KitUnits}
use Rattle.sed_classes.specs.declared.source_type.Constant.{Constant as SourceConstant}
use Rattle.sed_classes.specs.declared.source_type.Constant.TheVariants as source
use Rattle.sed_classes.specs.Bases.{base_of, is_below}
use Rattle.sed_classes.specs.Members.{Owned, form_value, is_define, is_method, is_static, nearest}
use Rattle.sed_classes.specs.Names.{class_of_kit, plain_class}
use Rattle.sed_classes.specs.Types.{type_of}
use Rattle.sed_classes.specs.Values.{constant_of, read_constant}
use Rattle.sed_program.specs.Fields.{field_number, static_number}
use Rattle.sed_program.specs.Methods.{signature_of}
use Rattle.sed_program.specs.Texts.{text_number}
use Rattle.sed_program.specs.Types.{number_of, place_of, used, used_form}

-- ---- members

abbrev pub number_constant : Value → Option Constant
number_constant (value.Bool t) = Some (constant.Bool t)
number_constant (value.Int n) = Some (constant.Int n)
number_constant (value.Long n) = Some (constant.Long n)
number_constant v = None

-- what a define reads as; nothing that is known where it has no value of its type
abbrev pub plain_constant : SourceConstant → Option Constant
plain_constant (source.Number v) = number_constant v
plain_constant c = None

abbrev pub initial_value : List KitUnits → Owned → Init → SourceConstant
initial_value units o i = read_constant (type_of units o.kit o.member.kind) (constant_of units o.class i)

abbrev pub define_value : List KitUnits → Owned → Option Init → SourceConstant
define_value units o None = source.Unknown
define_value units o (Some i) = initial_value units o i

abbrev pub define_constant : List KitUnits → Owned → Option Constant
define_constant units o = plain_constant (define_value units o (form_value o.member.form))

-- and what a use of it finds
abbrev pub used_constant : List KitUnits → Owned → Option Constant
used_constant units o = used units o.kit o.member (define_constant units o)

abbrev pub member_of : List KitUnits → Owned → Member
member_of units o =
    if is_method o.member then member.Method
    else if is_define o.member then member.Define (used_constant units o)
    else if is_static o.member then member.Static (used_form units o.kit o.member)
    (static_number units o.class o.member.name.bytes)
    else member.Field (used_form units o.kit o.member) (field_number units o.class o.member.name.bytes)

-- ---- classes, by their numbers

-- a class is another or stands below it, where both are there
abbrev pub below_place : List KitUnits → Option ℕ → Option ℕ → Bool
below_place units (Some above) (Some class) = is_below units above class
below_place units above class = false

abbrev pub below_number : List KitUnits → ℕ → ℕ → Bool
below_number units above class = (above == class) || below_place units (place_of units above) (place_of units class)

abbrev pub base_number : List KitUnits → ℕ → Option TypeNo
base_number units class = option_and_then (λ c. option_and_then (number_of units) (base_of units c))
    (place_of units class)

-- ---- all that names mean in a kit

abbrev pub names_of : List KitUnits → ℕ → Names
names_of units kit = record {
  below = below_number units;
  base = base_number units;
  class = λ name. option_and_then (number_of units) (plain_class units kit name);
  class_in = λ other name. option_and_then (number_of units) (class_of_kit units kit other name);
  member = λ class name. option_and_then (λ c. option_map (member_of units) (nearest units c name))
      (place_of units class);
  method = λ class name. option_and_then (λ c. option_and_then (signature_of units) (nearest units c name))
      (place_of units class);
  text = text_number units;
}
