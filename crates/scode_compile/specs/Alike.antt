-- Programs that are compiled alike.
use Rattle.std.specs.Prelude.{◌≡◌, map}
use Rattle.std.specs.Option.{option_map}
use Rattle.sed_typed.specs.declared.program.Method.{Method}
use Rattle.sed_typed.specs.declared.program.Program.{Program}
use Rattle.sed_typed.specs.Bare.{bare_stmt}

-- Methods have the same bodies, wherever these lie in memory, the same results, and the same ones are virtual.
pub record HaveSameMethods (p q : Program) : Type 0 where
  pub bodies : map (λ (m : Method). option_map bare_stmt m.body) p.methods
      ≡ map (λ (m : Method). option_map bare_stmt m.body) q.methods
  pub results : map (λ (m : Method). m.result) p.methods ≡ map (λ (m : Method). m.result) q.methods
  pub virtual : map (λ (m : Method). m.is_virtual) p.methods ≡ map (λ (m : Method). m.is_virtual) q.methods
