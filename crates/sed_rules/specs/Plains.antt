-- Plain values and the constants that they are.
use Rattle.std.specs.Prelude.{if◌then◌else◌}
use Rattle.sed_value.specs.declared.slot_type.Primitive.{Primitive}
use Rattle.sed_value.specs.declared.slot_type.Primitive.TheVariants as prim
use Rattle.sed_value.specs.declared.value.Value.TheVariants as value
use Rattle.sed_classes.specs.declared.source_type.Constant.{Constant}
use Rattle.sed_classes.specs.declared.source_type.Constant.TheVariants as constant
use Rattle.sed_classes.specs.Values.{takes}
use Rattle.sed_rules.specs.declared.plain.Plain.{Plain}
use Rattle.sed_rules.specs.declared.plain.Plain.TheVariants as plain

-- the constant that a plain value is
abbrev pub as_constant : Plain → Constant
as_constant (plain.Bool t) = constant.Number (value.Bool t)
as_constant (plain.Int n) = constant.Number (value.Int n)
as_constant (plain.Long n) = constant.Number (value.Long n)
as_constant plain.Null = constant.Null
as_constant (plain.Text n) = constant.Text n
as_constant plain.Nothing = constant.Nothing
as_constant plain.Unknown = constant.Unknown

-- what an expression reads of a value that went to a primitive
abbrev pub taken : Primitive → Plain → Plain
taken prim.Long (plain.Int n) = plain.Long n
taken p plain.Null = plain.Bool 2
taken p (plain.Text n) = plain.Unknown
taken p plain.Nothing = plain.Unknown
taken p x = x

-- the same, where a value that does not go there reads as unknown
abbrev pub read_plain : Primitive → Plain → Plain
read_plain p x = if takes p (as_constant x) then taken p x else plain.Unknown
