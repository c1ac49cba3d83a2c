-- What a root call on a component gives, and what it leaves.
use Rattle.std.specs.Prelude.{ℕ, ℤ, List}
use Rattle.sed_value.specs.declared.value.Value.{Value}
use Rattle.sed_engine.specs.declared.call.Root.{Root}
use Rattle.sed_engine.specs.Code.{root_of}
use Rattle.sed_engine.specs.Program.{code_of}
use Rattle.sed_engine.specs.Root.{RootEnd}
use Rattle.sed_cells.specs.Places.{Plan, classes_in, contents_of}
use Rattle.sed_walker.specs.declared.calls.Left.{Left}
use Rattle.sed_walker.specs.declared.component.Component.{Component}
use Rattle.sed_walker.specs.Held.{object_seen}

-- what the program's root call gives, on a component and on statics with these values
abbrev pub asked : Plan → Component → List Value → Root → Value → ℕ → ℤ → RootEnd
asked plan c statics which argument turns moment =
    root_of (code_of plan.program) (object_seen plan c) (contents_of plan (classes_in plan) statics)
    which argument turns moment

-- the contents of a component and of the statics, and how the call ended
abbrev pub ended : Plan → Left → RootEnd
ended plan left = record {
  contents = contents_of plan left.component.class left.component.cells;
  statics = contents_of plan (classes_in plan) left.statics;
  end = left.end;
}
