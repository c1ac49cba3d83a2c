use Rattle.std.proofs.Common.{◌≡◌}
use Rattle.comp_tree.specs.Cycle.{visit}
use Rattle.comp_tree.specs.Held.{components_of}
use Rattle.comp_tree.specs.SameCode.{SameCode}
use Rattle.link_prop.specs.Marks.{KeepsAppMarks, no_links}
use Rattle.link_prop.specs.CycleMarks.{values_of_any}
use Rattle.link_prop.proofs.CountedCalls.{CountedSoFar}
use Rattle.link_prop.proofs.cycles.visit_all.Given as goal

-- the components before this one have been visited
abbrev pub invariant-loop-id : goal.invariant-loop-id
invariant-loop-id g l = record {
  counted : CountedSoFar (visit (g.E.Engine.meaning l.fn.app.tree.engine) l.fn.app.links l.turns l.ticks) (components_of g.E.Engine l.fn.app.tree) (components_of g.E.Engine l.app.tree) l.ids l.id-index l.traps;
  marks : KeepsAppMarks g.E.Engine values_of_any no_links l.fn.app l.app;
  links : l.app.links ≡ l.fn.app.links;
  same : SameCode g.E.Engine l.fn.app.tree.engine l.app.tree.engine;
}
