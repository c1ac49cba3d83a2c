-- The code of a whole method.
use Rattle.std.specs.Prelude.{ℕ, List, length}
use Rattle.sed_typed.specs.declared.program.Method.{Method}
use Rattle.sed_typed.specs.declared.program.Program.{Program}
use Rattle.sed_typed.specs.Typed.{locals_of}
use Rattle.scode_ops.specs.declared.op.Op.{Op}
use Rattle.scode_emit.specs.Site.{Site, Layout}
use Rattle.scode_emit.specs.Sizes.{body_size}
use Rattle.scode_emit.specs.Code.{body_code}

abbrev pub site_of : Program → Layout → Method → Site
site_of program layout m =
    record { program = program; layout = layout; class = m.class.0; locals = length (locals_of m) }

-- the instructions of a method, and how many bytes they have: an abstract one has none
abbrev pub code_of : Program → Layout → Method → List Op
code_of program layout m = body_code (site_of program layout m) m.result m.body

abbrev pub size_of : Program → Layout → Method → ℕ
size_of program layout m = body_size (site_of program layout m) m.result m.body
