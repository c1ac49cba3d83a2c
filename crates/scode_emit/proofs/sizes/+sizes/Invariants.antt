use Rattle.std.proofs.Common.{◌≡◌, ◌+◌, ◌≤◌, min, drop}
use Rattle.scode_emit.specs.Lists.{args_size, behind_size}
use Rattle.scode_emit.specs.Rows.{seen}
use Rattle.scode_emit.proofs.sizes.+sizes.Given as goal

abbrev pub invariant-args_size-loop-arg : goal.invariant-args_size-loop-arg
invariant-args_size-loop-arg l = record {
  small : l.sum ≤ 65536;
  total : min (l.sum + args_size (seen l.site) (drop l.arg-index l.args)) 65536 ≡ min (args_size (seen l.site) l.args) 65536;
}

abbrev pub invariant-links_size-loop-link : goal.invariant-links_size-loop-link
invariant-links_size-loop-link l = record {
  small : l.sum ≤ 65536;
  total : min (l.sum + behind_size (seen l.site) l.kind (drop l.link-index l.links)) 65536
      ≡ min (behind_size (seen l.site) l.fn.start l.links) 65536;
}
