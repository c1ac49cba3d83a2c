-- What code is made for: the program, where its data lie, and the method.
use Rattle.std.specs.Prelude.{ℕ, ◌+◌, Bool, false, slice_get}
use Rattle.std.specs.Option.{option_map_or}
use Rattle.sed_value.specs.declared.slot_type.Primitive.{Primitive}
use Rattle.sed_value.specs.declared.slot_type.Primitive.TheVariants as prim
use Rattle.sed_typed.specs.declared.kind.Kind.{Kind}
use Rattle.sed_typed.specs.declared.program.Program.{Program}
use Rattle.sed_typed.specs.TypedExpr.{object_class}

-- Where the data of a program lie, and how much room they have: a field of a class in its objects, by class and number,
-- and a static in the static block; the room is the size of a Str, and the most bytes of a Buf. And the place of a
-- method in the table of a class, by class and number.
pub record Layout : Type 0 where
  pub offset : ℕ → ℕ → ℕ
  pub room : ℕ → ℕ → ℕ
  pub static_offset : ℕ → ℕ
  pub static_room : ℕ → ℕ
  pub table_place : ℕ → ℕ → ℕ

-- where an expression stands: in a method of this class, which has so many locals of its own. Those of the compiler
-- stand behind them.
pub record Site : Type 0 where
  pub program : Program
  pub layout : Layout
  pub class : ℕ
  pub locals : ℕ

-- ---- the compiler's locals: one for a bool, an int and a long that wait, and one for an index

abbrev pub waiting : Site → Primitive → ℕ
waiting w prim.Bool = w.locals
waiting w prim.Byte = w.locals + 1
waiting w prim.Short = w.locals + 1
waiting w prim.Int = w.locals + 1
waiting w prim.Long = w.locals + 2

abbrev pub waiting_index : Site → ℕ
waiting_index w = w.locals + 3

-- ---- fields

-- the class of an object's kind
abbrev pub class_of : Kind → ℕ
class_of k = option_map_or (λ c. c) (object_class k) 0

abbrev pub offset_in : Site → Kind → ℕ → ℕ
offset_in w k i = w.layout.offset (class_of k) i

abbrev pub room_in : Site → Kind → ℕ → ℕ
room_in w k i = w.layout.room (class_of k) i

-- ---- methods

-- whether a call looks into the table of the object's class
abbrev pub is_virtual : Site → ℕ → Bool
is_virtual w m = option_map_or (λ x. x.is_virtual) (slice_get w.program.methods m) false
