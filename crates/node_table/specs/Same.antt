-- When two values are the same.
use Rattle.std.specs.Prelude.{◌==◌, Bool, true, false, ℤ, pos, negsuc}
use Rattle.std.specs.Str.{bytes_eq}
use Rattle.sed_value.specs.declared.value.Value.{Value}
use Rattle.sed_value.specs.declared.value.Value.TheVariants.{Bool as Truth, Byte, Short, Int, Long, Buf, Nothing}

abbrev pub is_same_number : ℤ → ℤ → Bool
is_same_number (pos n) (pos k) = n == k
is_same_number (negsuc n) (negsuc k) = n == k
is_same_number n k = false

abbrev pub is_same_value : Value → Value → Bool
is_same_value (Truth a) (Truth b) = a == b
is_same_value (Byte a) (Byte b) = a == b
is_same_value (Short a) (Short b) = a == b
is_same_value (Int a) (Int b) = is_same_number a b
is_same_value (Long a) (Long b) = is_same_number a b
is_same_value (Buf a) (Buf b) = bytes_eq a b
is_same_value Nothing Nothing = true
is_same_value a b = false
