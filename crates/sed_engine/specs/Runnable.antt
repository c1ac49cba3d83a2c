-- Programs of which the first class behind `sys` may be run alone.
use Rattle.std.specs.Prelude.{ℕ, Bool, IsTrue, IsSomeAnd, ◌==◌, ◌&&◌, Option, position}
use Rattle.sed_typed.specs.declared.program.Program.{Program}
use Rattle.sed_typed.specs.declared.schema.ClassInfo.{ClassInfo}
use Rattle.sed_typed.specs.declared.schema.Schema.{Schema}
use Rattle.sed_engine.specs.Code.{is_creatable}
use Rattle.sed_engine.specs.Program.{meaning_of}

-- the first class of the first kit behind `sys`
abbrev pub is_first : ClassInfo → Bool
is_first c = (c.kit == 1) && (c.number == 0)

-- its number in the schema
abbrev pub first_class : Schema → Option ℕ
first_class schema = position is_first schema.classes

-- It is there, and there may be objects of it.
abbrev pub IsRunnable : Program → Type 0
IsRunnable program = IsSomeAnd (first_class program.schema) (λ class. IsTrue (is_creatable (meaning_of program) class))
