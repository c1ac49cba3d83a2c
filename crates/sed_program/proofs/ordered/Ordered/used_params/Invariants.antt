use Rattle.std.proofs.Common.{◌≡◌, map, take}
use Rattle.sed_program.specs.Types.{used_param}
use Rattle.sed_program.proofs.ordered.Ordered.used_params.Given as goal

-- the parameters so far
abbrev pub invariant-loop-param : goal.invariant-loop-param
invariant-loop-param l = l.all.items ≡ map (used_param l.self l.kit l.member) (take l.param-index l.params)
