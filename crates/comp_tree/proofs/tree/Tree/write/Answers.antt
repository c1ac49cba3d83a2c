use Rattle.std.proofs.Common.{is_some, refl, to_z, of_z, w64, sym, ap, ◌∙◌, subst}
use Rattle.sed_engine.specs.declared.call.Root.TheVariants.{Callback}
use Rattle.sed_engine.specs.declared.call.Callback.TheVariants.{Changed}
use Rattle.comp_tree.specs.Calls.{callback_argument}
use Rattle.std.specs.Prelude.{IsSome}
use Rattle.std.specs.FinMap as map
use Rattle.comp_tree.specs.Application.{Components, is_live}
use Rattle.comp_tree.specs.Held.{components_of}
use Rattle.comp_tree.proofs.EditLemmas.{store_live}
use Rattle.comp_tree.specs.Marks.{values_at}
use Rattle.comp_tree.proofs.MarkCalls.{keeps_then, same_either}
use Rattle.comp_tree.proofs.RunLemmas.{run_alike}
use Rattle.comp_tree.proofs.tree.Tree.write.Goals as goal

pub callback-end-requires : goal.callback-end-requires
callback-end-requires g c =
    subst (λ (a : Components). IsSome (map.get a.by_id c.args.id.0)) (sym c.assign.ensures.stored)
    (store_live (g.E.Engine.meaning c.args.self.now.engine) (components_of g.E.Engine c.args.self.now) c.args.id.0 c.args.slot _ _ c.in-Ok.ensures.may)

pub returns-then-assign-clause-marks : goal.returns-then-assign-clause-marks
returns-then-assign-clause-marks g c =
    keeps_then g.E.Engine (values_at c.args.id.0) (values_at c.args.id.0) (values_at c.args.id.0) c.args.self.now c.assign.new.self c.callback-end.new.self c.assign.ensures.marks c.callback-end.ensures.marks
    (λ q live. sym (run_alike is_some (λ k e. refl) (g.E.Engine.meaning c.assign.new.self.engine) (components_of g.E.Engine c.assign.new.self) c.args.id.0 (Callback Changed) (callback_argument Changed c.args.slot) c.args.turns (to_z w64 (of_z w64 c.args.ticks)) q)
    ∙ ap (λ (a : Components). is_live a.by_id q) (sym c.callback-end.ensures.left) ∙ live)
    (λ q part live either. same_either either)
