-- What is printed of the first class of a code after its cycles.
use Rattle.std.specs.Prelude.{ℕ, IsSomeAnd, IsTrue, List, []}
use Rattle.std.specs.Option.{option_map_or}
use Rattle.sed_engine.specs.Code.{Meaning, is_creatable}
use Rattle.sed_engine.specs.Runnable.{first_class}
use Rattle.sed_cycles.specs.Alone.{Alone, after_cycles, begun, component_text}

-- the turns that each execution may take
abbrev pub turns : ℕ
turns = 10000

-- The first class of a code is there, and there may be objects of it.
abbrev pub CanRun : Meaning → Type 0
CanRun m = IsSomeAnd (first_class m.schema) (λ class. IsTrue (is_creatable m class))

-- a component of a class after so many cycles
abbrev pub component_after : Meaning → ℕ → ℕ → Alone
component_after m cycles class = after_cycles m turns cycles (begun m class m.initial_statics)

abbrev pub printed : Meaning → Alone → List ℕ
printed m a = component_text m a.object a.fault

-- the component of the first class, as it is printed after so many cycles
abbrev pub text_after : Meaning → ℕ → List ℕ
text_after m cycles = option_map_or (λ class. printed m (component_after m cycles class)) (first_class m.schema) []
