-- The values that expressions come to, and how they are kept.
use Rattle.std.specs.Prelude.{ℕ, ◌-◌, ◌==◌, ◌&&◌, ◌||◌, ℤ, pos, Bool, true, false, not, if◌then◌else◌, List, length}
use Rattle.std.specs.Prelude.{slice_index, Result, Ok, Err}
use Rattle.std.specs.Str.{bytes_eq}
pub use Rattle.sed_value.specs.Value.{are_bytes}
use Rattle.sed_value.specs.Value.{stored, widened, is_of_type}
use Rattle.sed_value.specs.declared.slot_type.SlotType.TheVariants.{Prim}
use Rattle.sed_value.specs.declared.value.Value.{Value}
use Rattle.sed_value.specs.declared.value.Value.TheVariants as kept
use Rattle.sed_value.specs.declared.slot_type.Primitive.{Primitive}
use Rattle.sed_value.specs.declared.slot_type.Primitive.TheVariants as prim
use Rattle.sed_typed.specs.declared.kind.Kind.{Kind}
use Rattle.sed_typed.specs.declared.kind.Kind.TheVariants as kind
use Rattle.sed_typed.specs.declared.operators.Width.{Width}
use Rattle.sed_typed.specs.declared.operators.Width.TheVariants as width
use Rattle.sed_typed.specs.Contents.{Path}
use Rattle.sed_engine.specs.declared.trap.Trap.TheVariants.{NullReference}
use Rattle.sed_engine.specs.Stops.{Stop, Traps, Untyped, map_ok}

-- where a path begins: at the component that a root call was made on, or at the statics
pub data Base : Type 0 where
  Component : Base
  Statics : Base

-- a place in the state
pub record Spot : Type 0 where
  pub base : Base
  pub path : Path

-- a value; a reference is null, an object or a Str by its place, or a text literal by its number
pub data Val : Type 0 where
  Nothing : Val
  Truth : ℕ → Val
  Int : ℤ → Val
  Long : ℤ → Val
  Null : Val
  At : Spot → Val
  Literal : ℕ → Val

-- the whole number of an int or a long, whichever is wanted
abbrev pub whole : Width → Val → Result ℤ Stop
whole width.Int (Int n) = Ok n
whole width.Long (Long n) = Ok n
whole w v = Err Untyped

-- 0 false, 1 true, 2 null
abbrev pub truth_of : Val → Result ℕ Stop
truth_of (Truth t) = Ok t
truth_of v = Err Untyped

abbrev pub truth : Bool → Val
truth b = Truth (if b then 1 else 0)

-- a condition is met exactly where the bool is not false
abbrev pub is_met : Val → Result Bool Stop
is_met v = map_ok (λ t. not (t == 0)) (truth_of v)

-- what a reference refers to: null traps
abbrev pub spot_of : Val → Result Spot Stop
spot_of (At spot) = Ok spot
spot_of Null = Err (Traps NullReference)
spot_of v = Err Untyped

abbrev pub same_base : Base → Base → Bool
same_base Component Component = true
same_base Statics Statics = true
same_base a b = false

abbrev pub is_reference : Val → Bool
is_reference Null = true
is_reference (At spot) = true
is_reference (Literal n) = true
is_reference v = false

-- both null, the same object, the same Str or the same text
abbrev pub are_same : Val → Val → Bool
are_same Null Null = true
are_same (At a) (At b) = same_base a.base b.base && bytes_eq a.path b.path
are_same (Literal m) (Literal n) = m == n
are_same a b = false

abbrev pub same_reference : Val → Val → Result Bool Stop
same_reference a b = if is_reference a && is_reference b then Ok (are_same a b) else Err Untyped

-- a kept value as an expression: one that was widened is an int, a long or a truth value
abbrev pub val_of : Value → Result Val Stop
val_of (kept.Bool t) = Ok (Truth t)
val_of (kept.Int n) = Ok (Int n)
val_of (kept.Long n) = Ok (Long n)
val_of v = Err Untyped

-- what a read gives: byte and short widen to int
abbrev pub read_as : Value → Result Val Stop
read_as v = val_of (widened v)

-- a value of an expression as it is handed to a store
abbrev pub value_of : Val → Result Value Stop
value_of (Truth t) = Ok (kept.Bool t)
value_of (Int n) = Ok (kept.Int n)
value_of (Long n) = Ok (kept.Long n)
value_of v = Err Untyped

-- what a field or an element of a type keeps: byte and short keep the low bits
abbrev pub stored_as : Primitive → Val → Result Value Stop
stored_as p v = map_ok (λ x. stored (Prim p) x) (value_of v)

-- the bytes of a Str or a Buf
abbrev pub bytes_of : Value → Result (List ℕ) Stop
bytes_of (kept.Buf bytes) = Ok bytes
bytes_of v = Err Untyped

abbrev pub last_byte : List ℕ → ℕ
last_byte bytes = slice_index bytes (length bytes - 1)

-- bytes that may stand where others are: as many, and with a last 0 where there was one
abbrev pub are_alike : List ℕ → Value → Bool
are_alike old (kept.Buf new) = are_bytes new && (length new == length old)
    && (not (last_byte old == 0) || (last_byte new == 0))
are_alike old v = false

-- a value that may stand where another is: it is of the same type
abbrev pub is_alike : Value → Value → Bool
is_alike (kept.Bool t) v = is_of_type (Prim prim.Bool) v
is_alike (kept.Byte n) v = is_of_type (Prim prim.Byte) v
is_alike (kept.Short n) v = is_of_type (Prim prim.Short) v
is_alike (kept.Int n) v = is_of_type (Prim prim.Int) v
is_alike (kept.Long n) v = is_of_type (Prim prim.Long) v
is_alike (kept.Buf bytes) v = are_alike bytes v
is_alike kept.Nothing v = false

-- what a local without an initial value, and a method that does not return, have: 0, false or null
abbrev pub zero_of : Kind → Val
zero_of kind.Void = Nothing
zero_of kind.Bool = Truth 0
zero_of kind.Int = Int (pos 0)
zero_of kind.Long = Long (pos 0)
zero_of kind.Text = Null
zero_of (kind.Object class) = Null

-- a local that was not begun is 0, false or null too
abbrev pub begun : Kind → Val → Val
begun kind Nothing = zero_of kind
begun kind v = v

-- the receiver, which a typed method that names it has
abbrev pub receiver : Val → Result Val Stop
receiver Nothing = Err Untyped
receiver v = Ok v
