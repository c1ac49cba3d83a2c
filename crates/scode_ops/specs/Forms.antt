-- Which operands the instruction of a number has: the code's own reading, for its private clauses. No public clause
-- rests on it.
use Rattle.std.specs.Prelude.{ℕ, Bool, ◌||◌, ◌==◌, if◌then◌else◌, Option, Some, None}
use Rattle.sed_value.specs.Characters.{is_between}
use Rattle.scode_ops.specs.declared.operands.Form.{Form}
use Rattle.scode_ops.specs.declared.operands.Form.TheVariants.{Empty, U1, U2, U2U1, U2U2, I4, I8}
use Rattle.scode_ops.specs.declared.operands.Operands.{Operands}
use Rattle.scode_ops.specs.declared.operands.Operands.TheVariants as operands

abbrev pub is_empty : ℕ → Bool
is_empty number =
    (number == 0x04) || (number == 0x06) || is_between 0x09 0x0a number
    || is_between 0x10 0x1b number || is_between 0x20 0x2b number || is_between 0x30 0x44 number
    || (number == 0x4b) || is_between 0x72 0x79 number

abbrev pub is_u1 : ℕ → Bool
is_u1 number = (number == 0x03) || is_between 0x07 0x08 number

abbrev pub is_u2 : ℕ → Bool
is_u2 number = (number == 0x05) || is_between 0x48 0x4a number || is_between 0x50 0x59 number
    || (number == 0x5c) || (number == 0x70)

abbrev pub is_u2u1 : ℕ → Bool
is_u2u1 number = (number == 0x71)

abbrev pub is_u2u2 : ℕ → Bool
is_u2u2 number = is_between 0x5a 0x5b number || (number == 0x5d) || is_between 0x60 0x69 number

abbrev pub is_i4 : ℕ → Bool
is_i4 number = (number == 0x01)

abbrev pub is_i8 : ℕ → Bool
is_i8 number = (number == 0x02)

-- the operands of the instruction of this number, if there is one
abbrev pub form_of : ℕ → Option Form
form_of number =
    if is_empty number then Some Empty
    else if is_u1 number then Some U1
    else if is_u2 number then Some U2
    else if is_u2u1 number then Some U2U1
    else if is_u2u2 number then Some U2U2
    else if is_i4 number then Some I4
    else if is_i8 number then Some I8
    else None

-- the form of operands
abbrev pub kind_of : Operands → Form
kind_of operands.Empty = Empty
kind_of (operands.U1 first) = U1
kind_of (operands.U2 first) = U2
kind_of (operands.U2U1 first second) = U2U1
kind_of (operands.U2U2 first second) = U2U2
kind_of (operands.I4 first) = I4
kind_of (operands.I8 first) = I8

-- how many bytes they have
abbrev pub width_of : Form → ℕ
width_of Empty = 0
width_of U1 = 1
width_of U2 = 2
width_of U2U1 = 3
width_of U2U2 = 4
width_of I4 = 4
width_of I8 = 8
