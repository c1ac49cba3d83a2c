use Rattle.std.proofs.Common.{◌≡◌, false, take, length}
use Rattle.std.specs.Prelude.{nat_lt}
use Rattle.std.specs.List.{list_any}
use Rattle.comp_tree.specs.Application.{most_links_at_component}
use Rattle.sub_table.specs.Links.{links_at}
use Rattle.row_tree.specs.declared.tree_rows.TreeRow.{TreeRow}
use Rattle.app_reader.proofs.passed.has_many_links.Given as goal

abbrev pub invariant-loop-row : goal.invariant-loop-row
invariant-loop-row l = list_any (λ (r : TreeRow). nat_lt most_links_at_component (length (links_at r.id l.links))) (take l.row-index l.rows) ≡ false
