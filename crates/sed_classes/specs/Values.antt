-- What initial values come to.
use Rattle.std.specs.Prelude.{ℕ, zero, suc, ◌+◌, ℤ, pos, negsuc, ◌-ℤ◌, Bool, true, false, not, ◌==◌, ◌&&◌, ◌||◌, nat_lt}
use Rattle.std.specs.Prelude.{if◌then◌else◌, List, length, sum_by, Option, Some, None}
use Rattle.std.specs.Int.{w32, w64}
use Rattle.sed_value.specs.Wrap.{wrap}
use Rattle.sed_value.specs.Value.{kept, widened}
use Rattle.sed_value.specs.declared.slot_type.Primitive.{Primitive}
use Rattle.sed_value.specs.declared.slot_type.Primitive.TheVariants as prim
use Rattle.sed_value.specs.declared.slot_type.SlotType.TheVariants as slot
use Rattle.sed_value.specs.declared.value.Value.{Value}
use Rattle.sed_value.specs.declared.value.Value.TheVariants as value
use Rattle.sed_lexer.specs.declared.numbers.Number.{Number}
use Rattle.sed_lexer.specs.declared.numbers.Number.TheVariants.{Int, Long}
use Rattle.sed_units.specs.declared.leaves.Init.{Init}
use Rattle.sed_units.specs.declared.leaves.InitValue.{InitValue}
use Rattle.sed_units.specs.declared.leaves.InitValue.TheVariants as init
use Rattle.sed_units.specs.declared.leaves.Literal.{Literal}
use Rattle.sed_units.specs.declared.leaves.LiteralKind.{LiteralKind}
use Rattle.sed_units.specs.declared.leaves.LiteralKind.TheVariants as literal
use Rattle.sed_units.specs.declared.classes.Member.{Member}
use Rattle.sed_classes.specs.declared.kit_units.KitUnits.{KitUnits}
use Rattle.sed_classes.specs.declared.source_type.Constant.{Constant}
use Rattle.sed_classes.specs.declared.source_type.Constant.TheVariants as constant
use Rattle.sed_classes.specs.declared.source_type.SourceType.{SourceType}
use Rattle.sed_classes.specs.declared.source_type.SourceType.TheVariants.{Prim}
use Rattle.sed_classes.specs.Declarations.{all_classes}
use Rattle.sed_names.specs.Spelled.{integer_of, character_of}
use Rattle.sed_classes.specs.Literals.{text_of}
use Rattle.sed_classes.specs.Types.{type_of}
use Rattle.sed_classes.specs.Members.{Owned, is_define, form_value, nearest}

-- ---- literals

abbrev pub number_constant : Option Number → Constant
number_constant None = constant.Unknown
number_constant (Some (Int n)) = constant.Number (value.Int n)
number_constant (Some (Long n)) = constant.Number (value.Long n)

abbrev pub character_constant : Option ℕ → Constant
character_constant None = constant.Unknown
character_constant (Some c) = constant.Number (value.Int (pos c))

abbrev pub kind_constant : LiteralKind → List ℕ → Constant
kind_constant literal.Integer bytes = number_constant (integer_of bytes)
kind_constant literal.Character bytes = character_constant (character_of bytes)
kind_constant literal.Text bytes = constant.Text (length (text_of bytes))
kind_constant literal.True bytes = constant.Number (value.Bool 1)
kind_constant literal.False bytes = constant.Number (value.Bool 0)
kind_constant literal.Null bytes = constant.Null

abbrev pub literal_constant : Literal → Constant
literal_constant l = kind_constant l.kind l.bytes

-- `-` before an int or a long; before anything else it makes no value
abbrev pub negated : Constant → Constant
negated (constant.Number (value.Int n)) = constant.Number (value.Int (wrap w32 (pos 0 -ℤ n)))
negated (constant.Number (value.Long n)) = constant.Number (value.Long (wrap w64 (pos 0 -ℤ n)))
negated constant.Unknown = constant.Unknown
negated c = constant.Nothing

-- ---- which constants go to which primitives

-- a number goes there and fits: an int goes to byte, short and long too
abbrev pub number_fits : Primitive → Value → Bool
number_fits prim.Bool (value.Bool t) = true
number_fits prim.Byte (value.Int (pos n)) = nat_lt n 256
number_fits prim.Short (value.Int (pos n)) = nat_lt n 65536
number_fits prim.Int (value.Int n) = true
number_fits prim.Long (value.Int n) = true
number_fits prim.Long (value.Long n) = true
number_fits p v = false

-- what is unknown goes everywhere, since another rule speaks of it
abbrev pub takes : Primitive → Constant → Bool
takes p (constant.Number v) = number_fits p v
takes prim.Bool constant.Null = true
takes p constant.Null = false
takes p (constant.Text n) = false
takes p constant.Nothing = false
takes p constant.Unknown = true

-- a text of fewer characters than a Buf has bytes
abbrev pub is_text_below : ℕ → Constant → Bool
is_text_below most (constant.Text n) = nat_lt n most
is_text_below most constant.Unknown = true
is_text_below most c = false

-- what a primitive keeps of a constant that goes to it
abbrev pub kept_constant : Primitive → Constant → Constant
kept_constant p (constant.Number v) = constant.Number (kept (slot.Prim p) v)
kept_constant p constant.Null = constant.Number (value.Bool 2)
kept_constant p c = constant.Unknown

abbrev pub widened_constant : Constant → Constant
widened_constant (constant.Number v) = constant.Number (widened v)
widened_constant c = c

-- what a name in an expression reads of a define of a type with a value: a byte or a short reads as an int
abbrev pub read_constant : SourceType → Constant → Constant
read_constant (Prim p) c = if takes p c then widened_constant (kept_constant p c) else constant.Unknown
read_constant t c = constant.Unknown

-- ---- defines

-- the define that a name stands for in a class
abbrev pub define_among : Option Owned → Option Owned
define_among None = None
define_among (Some o) = if is_define o.member then Some o else None

abbrev pub define_named : List KitUnits → ℕ → List ℕ → Option Owned
define_named units class name = define_among (nearest units class name)

-- what an initial value in a class comes to, where defines are known
abbrev pub init_constant : (Owned → Constant) → List KitUnits → ℕ → InitValue → Constant
init_constant read units class (init.Literal l) = literal_constant l
init_constant read units class (init.Minus l) = negated (literal_constant l)
init_constant read units class (init.Name id) = read_of (define_named units class id.bytes)
  where
    read_of : Option Owned → Constant
    read_of None = constant.Nothing
    read_of (Some o) = read o

abbrev pub value_constant : (Owned → Constant) → List KitUnits → ℕ → Option Init → Constant
value_constant read units class None = constant.Unknown
value_constant read units class (Some i) = init_constant read units class i.value

-- what a define reads as, defines being named by one another at most so often
abbrev pub define_within : List KitUnits → ℕ → Owned → Constant
define_within units zero o = constant.Unknown
define_within units (suc steps) o =
    read_constant
    (type_of units o.kit o.member.kind)
    (value_constant (define_within units steps) units o.class (form_value o.member.form))

-- how many members there are in all
abbrev pub member_count : List KitUnits → ℕ
member_count units = sum_by (λ d. length d.class.members) (all_classes units)

-- what an initial value in a class comes to
abbrev pub constant_of : List KitUnits → ℕ → Init → Constant
constant_of units class i = init_constant (define_within units (member_count units)) units class i.value

-- the define that the value of a member names
abbrev pub next_define : List KitUnits → ℕ → Option Init → Option Owned
next_define units class None = None
next_define units class (Some i) = named_in i.value
  where
    named_in : InitValue → Option Owned
    named_in (init.Name id) = define_named units class id.bytes
    named_in v = None

-- going from define to define comes to the member at this place of this class, in at most so many steps
abbrev pub comes_to_member : List KitUnits → ℕ → ℕ → ℕ → Option Owned → Bool
comes_to_member units class at zero o = false
comes_to_member units class at (suc steps) None = false
comes_to_member units class at (suc steps) (Some o) =
    ((o.class == class) && (o.member.at == at))
    || comes_to_member units class at steps (next_define units o.class (form_value o.member.form))

-- a define whose value leads back to it has no value
abbrev pub define_leads_back : List KitUnits → ℕ → Member → Bool
define_leads_back units class m =
    comes_to_member units class m.at (member_count units) (next_define units class (form_value m.form))
