-- What a schema's numbers stand for.
use Rattle.std.specs.Prelude.{ℕ, ◌==◌, ◌&&◌, ◌^◌, nat_lt, if◌then◌else◌, List, position, Option, Some, None}
use Rattle.std.specs.Option.{option_and_then}
use Rattle.sed_typed.specs.declared.schema.ClassInfo.{ClassInfo}

-- a place in a list of classes, where it is small enough to be a class's number
abbrev pub numbered : ℕ → Option ℕ
numbered place = if nat_lt place (2 ^ 16) then Some place else None

-- the number of the first class with this number in this kit
abbrev pub type_at : List ClassInfo → ℕ → ℕ → Option ℕ
type_at classes kit number = option_and_then numbered (position (λ c. (c.kit == kit) && (c.number == number)) classes)
