-- What the instructions do on the stack and the state, over the language's own operators, reads and writes.
--
-- A cell of another kind than the one needed stops the machine before anything else is tested.
use Rattle.std.specs.Prelude.{ℕ, zero, suc, pos, List, [], ◌∷◌, length, slice_index, if◌then◌else◌, Result, Ok, Err}
use Rattle.sed_value.specs.declared.slot_type.Primitive.{Primitive}
use Rattle.sed_value.specs.declared.slot_type.Primitive.TheVariants as prim
use Rattle.sed_typed.specs.declared.operators.Arithmetic.{Arithmetic}
use Rattle.sed_typed.specs.declared.operators.Binary.{Binary}
use Rattle.sed_typed.specs.declared.operators.Binary.TheVariants as binary
use Rattle.sed_typed.specs.declared.operators.Comparison.{Comparison}
use Rattle.sed_typed.specs.declared.operators.Unary.{Unary}
use Rattle.sed_typed.specs.declared.operators.Width.{Width}
use Rattle.sed_typed.specs.declared.operators.Width.TheVariants as width
use Rattle.sed_engine.specs.Operators.{binary_of, unary_of}
use Rattle.sed_engine.specs.Places.{element_spot}
use Rattle.sed_engine.specs.State.{State, End, gives, answers, then_do}
use Rattle.sed_engine.specs.Steps.{read_spot, read_bytes, write_spot}
use Rattle.sed_engine.specs.Stops.{Stop, Untyped, map_ok}
use Rattle.sed_engine.specs.Texts.{index_of}
use Rattle.sed_engine.specs.Values.{Val, Truth, Int, Long, At, whole, truth_of, is_reference}
use Rattle.scode_code.specs.Fields.{Setting, field_at, buf_at}
use Rattle.scode_code.specs.Machine.{Move, Onward, pushed}

-- ---- the stack

-- the top, and the rest of the stack
abbrev pub on_top : List Val → (Val → List Val → State → End Move) → State → End Move
on_top [] next s = answers (Err Untyped) s
on_top (v ∷ rest) next s = next v rest s

-- two and three off the stack, the lowest first
abbrev pub on_two : List Val → (Val → Val → List Val → State → End Move) → State → End Move
on_two stack next s = on_top stack (λ b rest s1. on_top rest (λ a more s2. next a b more s2) s1) s

abbrev pub on_three : List Val → (Val → Val → Val → List Val → State → End Move) → State → End Move
on_three stack next s = on_top stack (λ c rest s1. on_two rest (λ a b more s2. next a b c more s2) s1) s

-- so many cells off the stack, the topmost last
abbrev pub taken : ℕ → List Val → List Val → Result (List Val × List Val) Stop
taken zero stack args = Ok (args, stack)
taken (suc n) [] args = Err Untyped
taken (suc n) (v ∷ stack) args = taken n stack (v ∷ args)

-- what a step gives goes on the stack, or is not wanted
abbrev pub push : List Val → End Val → End Move
push stack e = then_do e (λ v s. gives (Onward (pushed v stack)) s)

abbrev pub no_push : List Val → End Val → End Move
no_push stack e = then_do e (λ v s. gives (Onward stack) s)

-- ---- kinds of cells

-- a cell of the kind that a field of this type wants
abbrev pub cell_for : Primitive → Val → Result Val Stop
cell_for prim.Bool v = map_ok Truth (truth_of v)
cell_for prim.Byte v = map_ok Int (whole width.Int v)
cell_for prim.Short v = map_ok Int (whole width.Int v)
cell_for prim.Int v = map_ok Int (whole width.Int v)
cell_for prim.Long v = map_ok Long (whole width.Long v)

abbrev pub int_cell : Val → Result Val Stop
int_cell v = cell_for prim.Int v

-- null, an object, a Str or a text
abbrev pub reference_cell : Val → Result Val Stop
reference_cell v = if is_reference v then Ok v else Err Untyped

-- ---- operators

abbrev pub of_one : Unary → List Val → State → End Move
of_one operator stack s = on_top stack (λ v rest s1. push rest (answers (unary_of operator v) s1)) s

abbrev pub of_two : Binary → List Val → State → End Move
of_two operator stack s = on_two stack (λ a b rest s1. push rest (answers (binary_of operator a b) s1)) s

abbrev pub computes : Arithmetic → Width → List Val → State → End Move
computes a w stack s = of_two (binary.Arithmetic a w) stack s

abbrev pub compares : Comparison → Width → List Val → State → End Move
compares c w stack s = of_two (binary.Compare c w) stack s

-- ---- fields

-- the number of a primitive's form, and of an array of it
abbrev pub form_number : Primitive → ℕ
form_number prim.Bool = 1
form_number prim.Byte = 2
form_number prim.Short = 3
form_number prim.Int = 4
form_number prim.Long = 5

abbrev pub array_number : Primitive → ℕ
array_number prim.Bool = 9
array_number prim.Byte = 10
array_number prim.Short = 11
array_number prim.Int = 12
array_number prim.Long = 13

abbrev pub get : Setting → Primitive → ℕ → List Val → State → End Move
get w p offset stack s =
    on_top stack (λ object rest s1. then_do (field_at w object (form_number p) offset 0 s1)
    (λ spot s2. push rest (read_spot spot s2))) s

abbrev pub put : Setting → Primitive → ℕ → List Val → State → End Move
put w p offset stack s =
    on_two stack (λ object v rest s1. then_do (answers (cell_for p v) s1)
    (λ x s2. then_do (field_at w object (form_number p) offset 0 s2)
    (λ spot s3. no_push rest (write_spot p spot x s3)))) s

-- a reference to what stands inside an object
abbrev pub part : Setting → ℕ → ℕ → ℕ → List Val → State → End Move
part w form offset n stack s =
    on_top stack (λ object rest s1. then_do (field_at w object form offset n s1)
    (λ spot s2. gives (Onward (At spot ∷ rest)) s2)) s

abbrev pub buf_size : Setting → ℕ → List Val → State → End Move
buf_size w offset stack s =
    on_top stack (λ object rest s1. then_do (buf_at w object offset s1)
    (λ spot s2. then_do (read_bytes spot s2) (λ bytes s3. gives (Onward (Int (pos (length bytes)) ∷ rest)) s3))) s

-- a byte of a Buf: the index is below its length
abbrev pub buf_get : Setting → ℕ → ℕ → List Val → State → End Move
buf_get w offset capacity stack s =
    on_two stack (λ object index rest s1. then_do (answers (int_cell index) s1)
    (λ i s2. then_do (field_at w object 7 offset capacity s2)
    (λ spot s3. then_do (read_bytes spot s3)
    (λ bytes s4. then_do (answers (index_of (length bytes) i) s4)
    (λ at s5. gives (Onward (Int (pos (slice_index bytes at)) ∷ rest)) s5))))) s

abbrev pub array_get : Setting → Primitive → ℕ → ℕ → List Val → State → End Move
array_get w p offset count stack s =
    on_two stack (λ object index rest s1. then_do (answers (int_cell index) s1)
    (λ i s2. then_do (field_at w object (array_number p) offset count s2)
    (λ array s3. then_do (element_spot count array i s3) (λ spot s4. push rest (read_spot spot s4))))) s

abbrev pub array_put : Setting → Primitive → ℕ → ℕ → List Val → State → End Move
array_put w p offset count stack s =
    on_three stack (λ object index v rest s1. then_do (answers (cell_for p v) s1)
    (λ x s2. then_do (answers (int_cell index) s2)
    (λ i s3. then_do (field_at w object (array_number p) offset count s3)
    (λ array s4. then_do (element_spot count array i s4) (λ spot s5. no_push rest (write_spot p spot x s5)))))) s
