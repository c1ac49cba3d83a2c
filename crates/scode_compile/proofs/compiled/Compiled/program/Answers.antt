use Rattle.std.proofs.Common.{subst}
use Rattle.std.specs.Prelude.{All}
use Rattle.sed_typed.specs.declared.program.Program.{Program}
use Rattle.scode_gen.specs.Generated.{IsShort}
use Rattle.scode_compile.proofs.compiled.Compiled.program.Goals as goal

pub returns-clause-short : goal.returns-clause-short
returns-clause-short c = subst (λ (p : Program). All (IsShort p) p.methods) c.self.view_is c.self.invariant.short
