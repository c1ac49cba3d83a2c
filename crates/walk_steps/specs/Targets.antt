-- Places that may be assigned to, texts, and what an evaluation stands in.
use Rattle.std.specs.Prelude.{ℕ, ◌-◌, length, List, Option, Some, None, Result, Ok, Err}
use Rattle.std.specs.Borrow.{Bor}
use Rattle.sed_typed.specs.declared.operators.Width.TheVariants as width
use Rattle.sed_engine.specs.declared.trap.Trap.TheVariants.{OutOfRange}
use Rattle.sed_engine.specs.Stops as stops
use Rattle.sed_engine.specs.Stops.{map_ok, and_then}
use Rattle.sed_engine.specs.Values as val
use Rattle.sed_engine.specs.Places as target
use Rattle.sed_engine.specs.State.{State, End, answers, then_do}
use Rattle.sed_engine.specs.Steps.{read_bytes, write_bytes}
use Rattle.sed_engine.specs.Expressions.{Setting, text_bytes}
use Rattle.sed_engine.specs.Root.{calls_with}
use Rattle.sed_engine.specs.Texts.{index_of, characters, literal_bytes, with_character, filled}
use Rattle.sed_cells.specs.Places.{Plan}
use Rattle.walk_steps.specs.declared.word.Stop.{Stop}
use Rattle.walk_steps.specs.declared.targets.Target.{Target}
use Rattle.walk_steps.specs.declared.targets.Target.TheVariants.{Local, Static, Field, Element, StaticElement}
use Rattle.walk_steps.specs.Seen.{seen, stop_seen}

-- what an evaluation stands in, in a root call on a component of this class, with so many frames left
abbrev pub setting_of : Plan → ℕ → ℕ → Setting
setting_of plan class frames =
    record { program = plan.program; class = class; calls = calls_with plan.program class frames }

abbrev pub target_seen : Plan → ℕ → Target → target.Target
target_seen plan class (Local kind i) = target.OfLocal kind i
target_seen plan class (Static p i) = target.OfStatic p i
target_seen plan class (Field p object i) = target.OfField p (seen plan class object) i
target_seen plan class (Element p count object i index) =
    target.OfElement p count (seen plan class object) i (seen plan class index)
target_seen plan class (StaticElement p count i index) = target.OfStaticElement p count i (seen plan class index)

-- how the look for a target ends
abbrev pub targets : Plan → ℕ → Result Target Stop → Result target.Target stops.Stop
targets plan class (Ok t) = Ok (target_seen plan class t)
targets plan class (Err stop) = Err (stop_seen stop)

-- bytes that are lent
abbrev pub lent : Result (Bor (List ℕ)) Stop → Result (List ℕ) stops.Stop
lent (Ok bytes) = Ok bytes.now
lent (Err stop) = Err (stop_seen stop)

-- the number of a text literal
abbrev pub literal_in : val.Val → Option ℕ
literal_in (val.Literal n) = Some n
literal_in v = None

-- a text literal by its characters, any other text by its bytes
abbrev pub as_text : val.Val → List ℕ → List ℕ
as_text (val.Literal n) characters = literal_bytes characters
as_text v bytes = bytes

abbrev pub text_lent : val.Val → Result (Bor (List ℕ)) Stop → Result (List ℕ) stops.Stop
text_lent v (Ok bytes) = Ok (as_text v bytes.now)
text_lent v (Err stop) = Err (stop_seen stop)

-- ---- calls of a Str, from where its place is known

-- the bytes with a character at an index
abbrev pub character_put : List ℕ → val.Val → val.Val → Result (List ℕ) stops.Stop
character_put bytes index character =
    and_then (index_of (length bytes - 1) index) (λ i.
    map_ok (λ c. with_character bytes i c) (val.whole width.Int character))

abbrev pub put_character : val.Spot → val.Val → val.Val → State → End val.Val
put_character spot index character s =
    then_do (read_bytes spot s) (λ bytes s1.
    then_do (answers (character_put bytes index character) s1) (λ new s2. write_bytes spot new s2))

-- a Str with the characters of a text
abbrev pub text_copied : List (List ℕ) → val.Spot → val.Val → State → End val.Val
text_copied texts spot other s =
    then_do (read_bytes spot s) (λ old s1.
    then_do (text_bytes texts other s1) (λ new s2. write_bytes spot (filled (length old) (characters new)) s2))

-- a literal is not changed
abbrev pub literal_copied : List (List ℕ) → val.Val → val.Val → State → End val.Val
literal_copied texts v other s =
    then_do (text_bytes texts v s) (λ old s1.
    then_do (text_bytes texts other s1) (λ new s2. answers (Err (stops.Traps OutOfRange)) s2))
