-- The printed form of a component: a line for each property, and its fault.
use Rattle.std.specs.Prelude.{ℕ, List, [], ◌∷◌, ◌++◌, if◌then◌else◌, ◌==◌, codes}
use Rattle.std.specs.Fmt.{decimal, signed_decimal}
use Rattle.hex.specs.Hex.{encode_lower}
use Rattle.sed_value.specs.declared.value.Value.{Value}
use Rattle.sed_value.specs.declared.value.Value.TheVariants.{Bool, Byte, Short, Int, Long, Buf, Nothing}

abbrev pub line_end : List ℕ
line_end = 10 ∷ []

-- null is what is neither false nor true
abbrev pub truth_text : ℕ → List ℕ
truth_text truth = if truth == 0 then codes "false" else if truth == 1 then codes "true" else codes "null"

-- a number in decimal, a truth value as a word, a Buf as two lower-case hexadecimal digits for each byte
abbrev pub value_text : Value → List ℕ
value_text (Bool truth) = truth_text truth
value_text (Byte n) = decimal n
value_text (Short n) = decimal n
value_text (Int n) = signed_decimal n
value_text (Long n) = signed_decimal n
value_text (Buf bytes) = encode_lower bytes
value_text Nothing = []

-- `NAME=VALUE`
abbrev pub property_line : List ℕ → Value → List ℕ
property_line name value = name ++ (codes "=" ++ (value_text value ++ line_end))

-- `fault=N`
abbrev pub fault_line : ℕ → List ℕ
fault_line fault = codes "fault=" ++ (decimal fault ++ line_end)
