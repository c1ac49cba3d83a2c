-- Places that the walker finds.
use Rattle.std.specs.Prelude.{ℕ, ◌≡◌, List, Result, Ok, Err, None}
use Rattle.sed_value.specs.declared.value.Value.{Value}
use Rattle.sed_typed.specs.Contents.{Path, value_at}
use Rattle.sed_engine.specs.Stops as stops
use Rattle.sed_engine.specs.Values.{Spot}
use Rattle.sed_engine.specs.Values as val
use Rattle.sed_cells.specs.Places.{Plan, contents_of, classes_in}
use Rattle.walk_steps.specs.declared.word.Base.{Base}
use Rattle.walk_steps.specs.declared.word.Stop.{Stop}
use Rattle.walk_steps.specs.declared.word.Stop.TheVariants.{Trapped, Untyped}
use Rattle.walk_steps.specs.Seen.{spot_seen}

-- nothing is kept at a path from a base
abbrev pub NothingIn : Plan → ℕ → val.Base → Path → Type 0
NothingIn plan class val.Component path = (values : List Value) → value_at (contents_of plan class values) path ≡ None
NothingIn plan class val.Statics path = (values : List Value)
    → value_at (contents_of plan (classes_in plan) values) path ≡ None

-- no place, or one where nothing is kept
abbrev pub NothingAt : Plan → ℕ → Result Spot stops.Stop → Type 0
NothingAt plan class (Ok spot) = NothingIn plan class spot.base spot.path
NothingAt plan class (Err stop) = stop ≡ stops.Untyped

-- the place that is meant; what is not typed is found only where nothing is kept
abbrev pub IsFound : Plan → ℕ → Result (Base × ℕ) Stop → Result Spot stops.Stop → Type 0
IsFound plan class (Ok place) r = r ≡ Ok (spot_seen plan class place.0 place.1)
IsFound plan class (Err (Trapped trap)) r = r ≡ Err (stops.Traps trap)
IsFound plan class (Err Untyped) r = NothingAt plan class r
