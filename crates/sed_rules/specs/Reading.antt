-- What a row of defines reads, each of which names the next.
use Rattle.std.specs.Prelude.{ℕ, Bool, false, not, ◌==◌, ◌&&◌, if◌then◌else◌, List, [], ◌∷◌, Option, Some, None}
use Rattle.sed_value.specs.declared.slot_type.Primitive.{Primitive}
use Rattle.sed_units.specs.declared.leaves.Init.{Init}
use Rattle.sed_units.specs.declared.leaves.InitValue.{InitValue}
use Rattle.sed_units.specs.declared.leaves.InitValue.TheVariants as init
use Rattle.sed_classes.specs.declared.source_type.Constant.{Constant}
use Rattle.sed_classes.specs.declared.source_type.Constant.TheVariants as constant
use Rattle.sed_classes.specs.declared.source_type.SourceType.{SourceType}
use Rattle.sed_classes.specs.declared.source_type.SourceType.TheVariants.{Prim, Buf}
use Rattle.sed_classes.specs.declared.kit_units.KitUnits.{KitUnits}
use Rattle.sed_classes.specs.Members.{Owned}
use Rattle.sed_classes.specs.Values.{define_within, literal_constant, negated, read_constant, takes, is_text_below}

-- a byte of a text is a backslash that begins an escape
abbrev pub begins_escape : Bool → ℕ → Bool
begins_escape slashed b = not slashed && (b == 92)

-- how many characters end with a byte
abbrev pub ended : Bool → ℕ
ended begins = if begins then 0 else 1

-- what an initial value comes to that names no define
abbrev pub plain_init : InitValue → Constant
plain_init (init.Literal l) = literal_constant l
plain_init (init.Minus l) = negated (literal_constant l)
plain_init (init.Name id) = constant.Nothing

abbrev pub plain_value : Option Init → Constant
plain_value None = constant.Unknown
plain_value (Some i) = plain_init i.value

-- what a name reads of a define of a primitive type
abbrev pub read_primitive : Primitive → Constant → Constant
read_primitive p c = read_constant (Prim p) c

-- the value of the last one, read through defines of these types
abbrev pub read_back : List SourceType → Constant → Constant
read_back [] c = c
read_back (t ∷ ts) c = read_constant t (read_back ts c)

-- what a value comes to does not go to a type: to a primitive, or as a text to a Buf
abbrev pub goes_not : SourceType → Constant → Bool
goes_not (Prim p) c = not (takes p c)
goes_not (Buf n) c = not (is_text_below n c)
goes_not t c = false

-- what a value comes to, told by the define that it names, if it names one, and by what it is by itself
abbrev pub reached : List KitUnits → ℕ → Option Owned → Constant → Constant
reached units left None last = last
reached units left (Some o) last = define_within units left o

-- the same, where no more defines are read
abbrev pub left_over : Option Owned → Constant → Constant
left_over None last = last
left_over (Some o) last = constant.Unknown
