-- A root call that is asked of a machine.
use Rattle.std.specs.Prelude.{ℤ, Option}
use Rattle.std.specs.FinMap as finite
use Rattle.sed_engine.specs.Code.{Object, root_of}
use Rattle.sed_engine.specs.Root.{RootEnd}
use Rattle.scode_code.specs.Image.{meaning_of}
use Rattle.scode_mem.specs.Blocks.{Held}
use Rattle.scode_engine.specs.declared.root_call.Asked.{Asked}
use Rattle.scode_engine.specs.declared.root_call.Code.{Code}
use Rattle.scode_engine.specs.Loaded.{live_of, statics_of}

-- the component that it is asked of
abbrev pub asked_object : Code → Asked → Held → Option Object
asked_object code asked h = finite.get (live_of code.image.now h) asked.place.0

-- how the image's own root call ends at a moment, of a component with these contents
abbrev pub root_end : Code → Asked → ℤ → Held → Object → RootEnd
root_end code asked moment h o =
    root_of (meaning_of code.image.now) o (statics_of code.image.now h) asked.which asked.argument.now asked.turns
    moment
