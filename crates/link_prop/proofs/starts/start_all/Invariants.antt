use Rattle.std.proofs.Common.{◌≡◌, ℕ}
use Rattle.sed_engine.specs.declared.call.Callback.TheVariants.{Start}
use Rattle.comp_tree.specs.Application.{is_live}
use Rattle.comp_tree.specs.Calls.{Call, then_run}
use Rattle.comp_tree.specs.Held.{components_of}
use Rattle.comp_tree.specs.SameCode.{SameCode}
use Rattle.link_prop.specs.Marks.{KeepsAppMarks, no_links}
use Rattle.link_prop.specs.CycleMarks.{values_of_any}
use Rattle.link_prop.proofs.CountedCalls.{CountedSoFar}
use Rattle.link_prop.proofs.starts.start_all.Given as goal

-- the components before this one have been started
abbrev pub invariant-loop-id : goal.invariant-loop-id
invariant-loop-id g l = record {
  counted : CountedSoFar (λ s id. then_run s (λ a. Call (g.E.Engine.meaning l.fn.app.tree.engine) a id Start 0 l.turns l.ticks)) (components_of g.E.Engine l.fn.app.tree) (components_of g.E.Engine l.app.tree) l.ids l.id-index l.traps;
  live : (q : ℕ) → is_live (components_of g.E.Engine l.app.tree).by_id q ≡ is_live (components_of g.E.Engine l.fn.app.tree).by_id q;
  marks : KeepsAppMarks g.E.Engine values_of_any no_links l.fn.app l.app;
  links : l.app.links ≡ l.fn.app.links;
  same : SameCode g.E.Engine l.fn.app.tree.engine l.app.tree.engine;
}
