use Rattle.std.proofs.Common.{◌≡◌, Some, map, take}
use Rattle.sed_program.specs.Types.{param_kind}
use Rattle.sed_check.proofs.heads.param_kinds.Given as goal

-- those of the parameters so far
abbrev pub invariant-loop-param : goal.invariant-loop-param
invariant-loop-param l =
    map (λ k. Some k) l.all.items ≡ map (param_kind l.ordered l.kit) (take l.param-index l.params)
