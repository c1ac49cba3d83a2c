use Rattle.std.proofs.Common.{◌≡◌, drop}
use Rattle.scode_emit.specs.Lists.{kind_behind}
use Rattle.scode_emit.proofs.kinds.+kinds.Given as goal

abbrev pub invariant-kind_behind-loop-link : goal.invariant-kind_behind-loop-link
invariant-kind_behind-loop-link l = kind_behind l.kind (drop l.link-index l.links) ≡ kind_behind l.fn.start l.links
