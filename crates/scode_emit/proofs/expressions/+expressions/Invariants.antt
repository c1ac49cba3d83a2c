use Rattle.std.specs.Prelude.{max}
use Rattle.std.proofs.Common.{◌≡◌, ◌+◌, ◌*◌, ◌++◌, ◌≤◌, drop}
use Rattle.sed_typed.specs.Height.{height_of, place_height, link_height}
use Rattle.scode_emit.specs.Lists.{args_size, args_code, behind_size, behind_code}
use Rattle.scode_emit.specs.Rows.{seen}
use Rattle.scode_emit.proofs.RowLemmas.{heights, link_heights}
use Rattle.scode_emit.proofs.expressions.+expressions.Given as goal

abbrev pub decreases-emit_expr : goal.decreases-emit_expr
decreases-emit_expr l = 8 * height_of l.e.now

abbrev pub decreases-emit_truth : goal.decreases-emit_truth
decreases-emit_truth l = 8 * height_of l.operand.now + 1

abbrev pub decreases-emit_args : goal.decreases-emit_args
decreases-emit_args l = 8 * heights l.args.now + 1

abbrev pub decreases-emit_call : goal.decreases-emit_call
decreases-emit_call l = 8 * heights l.args.now + 2

abbrev pub decreases-emit_place : goal.decreases-emit_place
decreases-emit_place l = 8 * place_height l.target.now + 1

abbrev pub decreases-emit_set : goal.decreases-emit_set
decreases-emit_set l = 8 * max (place_height l.target.now) (height_of l.value.now) + 2

abbrev pub decreases-emit_update : goal.decreases-emit_update
decreases-emit_update l = 8 * max (place_height l.target.now) (height_of l.operand.now) + 2

abbrev pub decreases-emit_choice : goal.decreases-emit_choice
decreases-emit_choice l = 8 * max (height_of l.test.now) (max (height_of l.met.now) (height_of l.unmet.now)) + 1

abbrev pub decreases-emit_link : goal.decreases-emit_link
decreases-emit_link l = 8 * link_height l.link.now + 2

abbrev pub decreases-emit_links : goal.decreases-emit_links
decreases-emit_links l = 8 * link_heights l.links.now + 3

abbrev pub decreases-emit_chain : goal.decreases-emit_chain
decreases-emit_chain l = 8 * max (height_of l.head.now) (link_heights l.links.now) + 4

abbrev pub invariant-emit_args-loop-arg : goal.invariant-emit_args-loop-arg
invariant-emit_args-loop-arg l = record {
  code : l.ops.items ++ args_code (seen l.site) l.place (drop l.arg-index l.args) ≡ l.initial.ops.items ++ args_code (seen l.site) l.fn.at l.args;
  place : l.place + args_size (seen l.site) (drop l.arg-index l.args) ≡ l.fn.at + args_size (seen l.site) l.args;
  inside : heights (drop l.arg-index l.args) ≤ heights l.args;
}

abbrev pub invariant-emit_links-loop-link : goal.invariant-emit_links-loop-link
invariant-emit_links-loop-link l = record {
  code : l.ops.items ++ behind_code (seen l.site) l.place l.kind (drop l.link-index l.links) ≡ l.initial.ops.items ++ behind_code (seen l.site) l.fn.at l.fn.start l.links;
  place : l.place + behind_size (seen l.site) l.kind (drop l.link-index l.links) ≡ l.fn.at + behind_size (seen l.site) l.fn.start l.links;
  inside : link_heights (drop l.link-index l.links) ≤ link_heights l.links;
}
