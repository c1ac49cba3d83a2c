use Rattle.std.proofs.Common.{◌≡◌, ℤ, IsTrue, Some, Err, is_some, to_z, of_z, w64, refl, sym, ap, ◌∙◌}
use Rattle.std.proofs.lemmas.Int.{to_z-of_z}
use Rattle.sed_engine.specs.declared.call.Callback.TheVariants.{Start}
use Rattle.comp_tree.specs.Calls.{Call}
use Rattle.comp_tree.specs.Held.{components_of}
use Rattle.comp_tree.proofs.AddLemmas.{add_done, add_fits, add_full, add_not_memory, same_refusal}
use Rattle.sed_engine.specs.declared.call.Root.TheVariants.{Callback}
use Rattle.comp_tree.specs.Application.{Components, is_live}
use Rattle.comp_tree.specs.Calls.{callback_argument}
use Rattle.comp_tree.specs.Marks.{added_at, is_among, marks_at, values_at}
use Rattle.comp_tree.proofs.MarkCalls.{all_of_them, keeps_then, values_in_added}
use Rattle.comp_tree.proofs.MarkSteps.{among_all}
use Rattle.comp_tree.proofs.RunLemmas.{run_alike}
use Rattle.comp_tree.proofs.tree.Tree.add.Goals as goal

pub returns-in-Err-clause-memory : goal.returns-in-Err-clause-memory
returns-in-Err-clause-memory g c = λ e. absurd (add_not_memory (g.E.Engine.meaning c.args.self.now.engine) (components_of g.E.Engine c.args.self.now) c.args.asked.parent.0 c.args.asked.kit c.args.asked.number c.args.asked.name.now c.args.asked.config.now (c.in-Err.ensures ∙ ap Some (same_refusal _ _ e)))

pub returns-in-Err-DataFull-clause-refused : goal.returns-in-Err-DataFull-clause-refused
returns-in-Err-DataFull-clause-refused g c = λ ne. add_full (g.E.Engine.meaning c.args.self.now.engine) (components_of g.E.Engine c.args.self.now) c.args.asked.parent.0 c.args.asked.kit c.args.asked.number c.args.asked.name.now c.args.asked.config.now c.in-Ok.new.kind.0 c.in-Ok.new.name c.in-Ok.ensures (c.grow.ensures.full.0 (c.in-Err-DataFull.is ∙ ap Err c.in-Err-DataFull.field-0-is))

pub returns-in-Err-Memory-clause-memory : goal.returns-in-Err-Memory-clause-memory
returns-in-Err-Memory-clause-memory g c = λ e. (
  c.grow.ensures.memory (c.in-Err-Memory.is ∙ ap Err c.in-Err-Memory.field-0-is),
  add_fits (g.E.Engine.meaning c.args.self.now.engine) (components_of g.E.Engine c.args.self.now) c.args.asked.parent.0 c.args.asked.kit c.args.asked.number c.args.asked.name.now c.args.asked.config.now c.in-Ok.new.kind.0 c.in-Ok.new.name c.in-Ok.ensures (λ lt. let is = c.grow.ensures.full.1 lt in let was = c.in-Err-Memory.is in let m = c.in-Err-Memory.field-0-is in cc),
)

pub returns-clause-allowed : goal.returns-clause-allowed
returns-clause-allowed g c = add_fits (g.E.Engine.meaning c.args.self.now.engine) (components_of g.E.Engine c.args.self.now) c.args.asked.parent.0 c.args.asked.kit c.args.asked.number c.args.asked.name.now c.args.asked.config.now c.in-Ok.new.kind.0 c.in-Ok.new.name c.in-Ok.ensures (λ lt. let is = c.grow.ensures.full.1 lt in let was = c.in-Ok-grow.is in cc)

pub returns-clause-done : goal.returns-clause-done
returns-clause-done g c =
    let same : to_z w64 (of_z w64 c.args.ticks) ≡ c.args.ticks = to_z-of_z w64 c.args.ticks c.ranges.ticks in
    add_done (g.E.Engine.meaning c.args.self.now.engine) (components_of g.E.Engine c.args.self.now) c.args.asked.parent.0 c.args.asked.kit c.args.asked.number c.args.asked.name.now c.args.asked.config.now c.in-Ok.new.kind.0 c.in-Ok.new.name c.in-Ok.ensures (g.E.Engine.meaning c.grow.new.self.engine) (components_of g.E.Engine c.grow.new.self) _ c.in-Ok-grow.id.0 c.args.turns c.args.ticks
    c.grow.ensures.same.meaning c.in-Ok-grow.ensures.id c.in-Ok-grow.ensures.done
    (c.callback-end.ensures.left ∙ ap (λ (k : ℤ). (Call (g.E.Engine.meaning c.grow.new.self.engine) (components_of g.E.Engine c.grow.new.self) c.in-Ok-grow.id.0 Start 0 c.args.turns k).left) same)

pub returns-clause-marks : goal.returns-clause-marks
returns-clause-marks g c =
    keeps_then g.E.Engine (added_at c.args.asked.parent.0 c.in-Ok-grow.id.0) (values_at c.in-Ok-grow.id.0) (added_at c.args.asked.parent.0 c.in-Ok-grow.id.0) c.args.self.now c.grow.new.self c.callback-end.new.self c.in-Ok-grow.ensures.marks c.callback-end.ensures.marks
    (λ q live. sym (run_alike is_some (λ k e. refl) (g.E.Engine.meaning c.grow.new.self.engine) (components_of g.E.Engine c.grow.new.self) c.in-Ok-grow.id.0 (Callback Start) (callback_argument Start 0) c.args.turns (to_z w64 (of_z w64 c.args.ticks)) q)
    ∙ ap (λ (a : Components). is_live a.by_id q) (sym c.callback-end.ensures.left) ∙ live)
    (λ q part live either. values_in_added c.args.asked.parent.0 c.in-Ok-grow.id.0 q part either)

pub returns-clause-set : goal.returns-clause-set
returns-clause-set g c = λ at.
    let live : IsTrue (is_live (components_of g.E.Engine c.callback-end.new.self).by_id c.in-Ok-grow.id.0) =
    ap (λ (a : Components). is_live a.by_id c.in-Ok-grow.id.0) c.callback-end.ensures.left
    ∙ run_alike is_some (λ k e. refl) (g.E.Engine.meaning c.grow.new.self.engine) (components_of g.E.Engine c.grow.new.self) c.in-Ok-grow.id.0 (Callback Start) (callback_argument Start 0) c.args.turns (to_z w64 (of_z w64 c.args.ticks)) c.in-Ok-grow.id.0
    ∙ c.in-Ok-grow.ensures.live in
    all_of_them (marks_at c.callback-end.new.self c.in-Ok-grow.id.0 at) (λ part. c.callback-end.ensures.marks.clears_none c.in-Ok-grow.id.0 at part live (ap (is_among part) (c.in-Ok-grow.ensures.set at) ∙ among_all part))
