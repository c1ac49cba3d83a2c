use Rattle.std.proofs.Common.{◌≡◌, ℕ, drop}
use Rattle.sed_engine.specs.declared.call.Callback.TheVariants.{Stop}
use Rattle.comp_tree.specs.Application.{is_live}
use Rattle.comp_tree.specs.Held.{components_of}
use Rattle.comp_tree.specs.Marks.{KeepsMarks, values_of_all}
use Rattle.comp_tree.specs.SameCode.{SameCode}
use Rattle.comp_tree.proofs.DeleteLemmas.{calls}
use Rattle.comp_tree.proofs.tree.Tree.stop_each.Given as goal

-- what is still to be called leaves of this what all leave of the first
abbrev pub invariant-loop-id : goal.invariant-loop-id
invariant-loop-id g l = record {
  left : calls (g.E.Engine.meaning l.fn.self.engine) Stop l.turns l.ticks (components_of g.E.Engine l.self) (drop l.id-index l.ids) ≡ calls (g.E.Engine.meaning l.fn.self.engine) Stop l.turns l.ticks (components_of g.E.Engine l.fn.self) l.ids;
  live : (q : ℕ) → is_live (components_of g.E.Engine l.self).by_id q ≡ is_live (components_of g.E.Engine l.fn.self).by_id q;
  marks : KeepsMarks g.E.Engine (values_of_all l.ids) l.fn.self l.self;
  same : SameCode g.E.Engine l.fn.self.engine l.self.engine;
}
