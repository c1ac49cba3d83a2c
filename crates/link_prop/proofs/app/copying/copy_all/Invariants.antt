use Rattle.comp_tree.specs.Held.{components_of}
use Rattle.comp_tree.specs.Marks.{KeepsMarks, values_at}
use Rattle.comp_tree.specs.SameCode.{SameCode}
use Rattle.link_prop.proofs.CopiedLinks.{CopiedSoFar}
use Rattle.link_prop.proofs.app.copying.copy_all.Given as goal

-- the links before this one have been copied along
abbrev pub invariant-loop-at : goal.invariant-loop-at
invariant-loop-at g l = record {
  copied : CopiedSoFar (g.E.Engine.meaning l.fn.tree.engine) l.turns l.ticks (components_of g.E.Engine l.fn.tree) (components_of g.E.Engine l.tree) l.links l.at l.traps;
  marks : KeepsMarks g.E.Engine (values_at l.fn.id.0) l.fn.tree l.tree;
  same : SameCode g.E.Engine l.fn.tree.engine l.tree.engine;
}
