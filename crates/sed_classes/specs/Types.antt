-- What a type in a source stands for. A type whose name has no class is unknown: only the rule on names speaks of it.
use Rattle.std.specs.Prelude.{ℕ, ◌+◌, ◌≤◌, pos, Bool, true, false, ◌==◌, ◌&&◌, ◌||◌, nat_le, if◌then◌else◌, ℤ, negsuc}
use Rattle.std.specs.Prelude.{List, length, drop, take_while, Option, Some, None, codes}
use Rattle.std.specs.Int.{w32}
use Rattle.std.specs.List.{starts_with}
use Rattle.std.specs.Option.{option_map_or}
use Rattle.sed_value.specs.declared.slot_type.Primitive.{Primitive}
use Rattle.sed_value.specs.declared.slot_type.Primitive.TheVariants as prim
use Rattle.sed_lexer.specs.declared.numbers.Number.{Number}
use Rattle.sed_lexer.specs.declared.numbers.Number.TheVariants.{Int, Long}
use Rattle.sed_units.specs.declared.leaves.Base.{Base}
use Rattle.sed_units.specs.declared.leaves.Base.TheVariants as base
use Rattle.sed_units.specs.declared.leaves.Literal.{Literal}
use Rattle.sed_units.specs.declared.leaves.LiteralKind.{LiteralKind}
use Rattle.sed_units.specs.declared.leaves.LiteralKind.TheVariants as literal
use Rattle.sed_units.specs.declared.leaves.Size.{Size}
use Rattle.sed_units.specs.declared.leaves.Size.TheVariants.{Parens, Brackets}
use Rattle.sed_units.specs.declared.leaves.TypeName.{TypeName}
use Rattle.sed_units.specs.declared.leaves.TypeRef.{TypeRef}
use Rattle.sed_classes.specs.declared.kit_units.KitUnits.{KitUnits}
use Rattle.sed_classes.specs.declared.source_type.SourceType.{SourceType}
use Rattle.sed_classes.specs.declared.source_type.SourceType.TheVariants.{Void, Prim, Text, SizedText, Buf, Array}
use Rattle.sed_classes.specs.declared.source_type.SourceType.TheVariants.{Object, Unknown, Outside}
use Rattle.sed_names.specs.Spelled.{integer_of}
use Rattle.sed_classes.specs.Names.{class_of_name, is_text_name, is_buffer_name}

abbrev pub within : ℕ → ℕ → Option ℕ
within most n = if nat_le 1 n && nat_le n most then Some n else None

-- an int from 1 to a most
abbrev pub count_of : ℕ → Option Number → Option ℕ
count_of most (Some (Int (pos n))) = within most n
count_of most number = None

-- the number in the parentheses or brackets of a type, if it is an int from 1 to a most
abbrev pub size_within : ℕ → Literal → Option ℕ
size_within most l = count_of most (integer_of l.bytes)

abbrev pub array_type : Primitive → Option ℕ → SourceType
array_type p size = option_map_or (Array p) size Outside

abbrev pub primitive_type : Primitive → Option Size → SourceType
primitive_type p None = Prim p
primitive_type p (Some (Brackets l)) = array_type p (size_within 65535 l)
primitive_type p (Some (Parens l)) = Outside

abbrev pub void_type : Option Size → SourceType
void_type None = Void
void_type (Some s) = Outside

abbrev pub text_type : Option Size → SourceType
text_type None = Text
text_type (Some (Parens l)) = option_map_or SizedText (size_within 255 l) Outside
text_type (Some (Brackets l)) = Outside

-- a Buf without a size is of no form
abbrev pub buffer_type : Option Size → SourceType
buffer_type None = Outside
buffer_type (Some (Parens l)) = option_map_or Buf (size_within 128 l) Outside
buffer_type (Some (Brackets l)) = Outside

abbrev pub object_type : Option ℕ → Option Size → SourceType
object_type None size = Unknown
object_type (Some class) None = Object class
object_type (Some class) (Some s) = Outside

abbrev pub named_type : List KitUnits → ℕ → TypeName → Option Size → SourceType
named_type units kit name size =
    if is_text_name name then text_type size
    else if is_buffer_name name then buffer_type size
    else object_type (class_of_name units kit name) size

abbrev pub based_type : List KitUnits → ℕ → Base → Option Size → SourceType
based_type units kit (base.Primitive p) size = primitive_type p size
based_type units kit base.Void size = void_type size
based_type units kit (base.Named name) size = named_type units kit name size

-- what a type stands for in a kit
abbrev pub type_of : List KitUnits → ℕ → TypeRef → SourceType
type_of units kit t = based_type units kit t.base t.size

-- ---- which types may stand where

abbrev pub is_unknown : SourceType → Bool
is_unknown Unknown = true
is_unknown t = false

-- byte and short are read as ints
abbrev pub is_kept : Primitive → Bool
is_kept prim.Bool = true
is_kept prim.Byte = false
is_kept prim.Short = false
is_kept prim.Int = true
is_kept prim.Long = true

-- of a parameter or a local: bool, int, long, Str or a class
abbrev pub is_storable : SourceType → Bool
is_storable (Prim p) = is_kept p
is_storable Text = true
is_storable (Object class) = true
is_storable t = false

abbrev pub is_void : SourceType → Bool
is_void Void = true
is_void t = false

-- of a property: a primitive or a Buf
abbrev pub is_property_type : SourceType → Bool
is_property_type (Prim p) = true
is_property_type (Buf n) = true
is_property_type t = false

-- of a field that is no property: a primitive, or inline a Str with its size, an array or an object
abbrev pub is_field_type : Bool → SourceType → Bool
is_field_type inline (Prim p) = true
is_field_type inline (SizedText n) = inline
is_field_type inline (Array p n) = inline
is_field_type inline (Object class) = inline
is_field_type inline t = false

-- of an action's argument: bool, int or long
abbrev pub is_argument_type : SourceType → Bool
is_argument_type (Prim p) = is_kept p
is_argument_type t = false

-- ---- equal types

abbrev pub primitive_number : Primitive → ℕ
primitive_number prim.Bool = 0
primitive_number prim.Byte = 1
primitive_number prim.Short = 2
primitive_number prim.Int = 3
primitive_number prim.Long = 4

abbrev pub same_primitive : Primitive → Primitive → Bool
same_primitive p q = primitive_number p == primitive_number q

-- Two types of results or parameters are equal. What is unknown is equal to all, since another rule speaks of it; what
-- is of no form is equal to no other.
abbrev pub is_same_type : SourceType → SourceType → Bool
is_same_type Unknown u = true
is_same_type Outside u = is_unknown u
is_same_type Void u = is_unknown u || is_void u
is_same_type Text Text = true
is_same_type Text u = is_unknown u
is_same_type (Prim p) (Prim q) = same_primitive p q
is_same_type (Prim p) u = is_unknown u
is_same_type (SizedText m) (SizedText n) = m == n
is_same_type (SizedText m) u = is_unknown u
is_same_type (Buf m) (Buf n) = m == n
is_same_type (Buf m) u = is_unknown u
is_same_type (Array p m) (Array q n) = same_primitive p q && (m == n)
is_same_type (Array p m) u = is_unknown u
is_same_type (Object c) (Object d) = c == d
is_same_type (Object c) u = is_unknown u
