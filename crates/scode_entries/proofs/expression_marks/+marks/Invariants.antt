use Rattle.std.specs.Prelude.{max}
use Rattle.std.proofs.Common.{◌≡◌, ◌+◌, ◌*◌, ◌++◌, ◌≤◌, drop}
use Rattle.sed_typed.specs.Height.{height_of, place_height, link_height}
use Rattle.sed_typed.specs.Kinds.{kind_of}
use Rattle.scode_entries.specs.Below.{kinds_on}
use Rattle.scode_emit.specs.Lists.{args_size, behind_size}
use Rattle.scode_entries.specs.MarkLists.{behind_marks}
use Rattle.scode_emit.specs.Rows.{seen}
use Rattle.scode_emit.specs.Sizes.{expr_size, place_size, link_size}
use Rattle.scode_emit.proofs.RowLemmas.{heights, link_heights}
use Rattle.scode_entries.proofs.expression_marks.+marks.Given as goal

abbrev pub decreases-mark_expr : goal.decreases-mark_expr
decreases-mark_expr l = 8 * (expr_size (seen l.site.now) l.e.now + height_of l.e.now)

abbrev pub decreases-mark_truth : goal.decreases-mark_truth
decreases-mark_truth l = 8 * (expr_size (seen l.site.now) l.operand.now + height_of l.operand.now) + 1

abbrev pub decreases-mark_args : goal.decreases-mark_args
decreases-mark_args l = 8 * (args_size (seen l.site.now) l.args.now + heights l.args.now) + 1

abbrev pub decreases-mark_place : goal.decreases-mark_place
decreases-mark_place l = 8 * (place_size (seen l.site.now) l.target.now + place_height l.target.now) + 1

abbrev pub decreases-mark_set : goal.decreases-mark_set
decreases-mark_set l =
    8 * (place_size (seen l.site.now) l.target.now + expr_size (seen l.site.now) l.value.now
    + max (place_height l.target.now) (height_of l.value.now)) + 2

abbrev pub decreases-mark_update : goal.decreases-mark_update
decreases-mark_update l =
    8 * (place_size (seen l.site.now) l.target.now + expr_size (seen l.site.now) l.operand.now
    + max (place_height l.target.now) (height_of l.operand.now)) + 2

abbrev pub decreases-mark_choice : goal.decreases-mark_choice
decreases-mark_choice l =
    8 * (expr_size (seen l.site.now) l.test.now + expr_size (seen l.site.now) l.met.now
    + expr_size (seen l.site.now) l.unmet.now
    + max (height_of l.test.now) (max (height_of l.met.now) (height_of l.unmet.now))) + 1

abbrev pub decreases-mark_link : goal.decreases-mark_link
decreases-mark_link l = 8 * (link_size (seen l.site.now) l.kind l.link.now + link_height l.link.now) + 2

abbrev pub decreases-mark_links : goal.decreases-mark_links
decreases-mark_links l = 8 * (behind_size (seen l.site.now) l.start l.links.now + link_heights l.links.now) + 3

abbrev pub decreases-mark_chain : goal.decreases-mark_chain
decreases-mark_chain l =
    8 * (expr_size (seen l.site.now) l.head.now + behind_size (seen l.site.now) (kind_of l.head.now) l.links.now
    + max (height_of l.head.now) (link_heights l.links.now)) + 4

abbrev pub invariant-mark_links-loop-link : goal.invariant-mark_links-loop-link
invariant-mark_links-loop-link l = record {
  marks : l.marks.items ++ behind_marks (seen l.site) (kinds_on l.below) l.place l.kind (drop l.link-index l.links)
      ≡ l.initial.marks.items ++ behind_marks (seen l.site) (kinds_on l.below) l.fn.at l.fn.start l.links;
  place : l.place + behind_size (seen l.site) l.kind (drop l.link-index l.links) ≡ l.fn.at + behind_size (seen l.site) l.fn.start l.links;
  on : l.fn.at ≤ l.place;
  inside : link_heights (drop l.link-index l.links) ≤ link_heights l.links;
}
