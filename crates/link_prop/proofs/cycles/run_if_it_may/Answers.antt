use Rattle.std.proofs.Common.{◌≡◌, None, IsSome, sym, ap, subst, ◌∙◌}
use Rattle.std.specs.FinMap as map
use Rattle.sed_value.specs.declared.value.Value.TheVariants.{Nothing}
use Rattle.sed_engine.specs.declared.call.Root.TheVariants.{Execute}
use Rattle.comp_tree.specs.Application.{Components, fault_of, is_live}
use Rattle.comp_tree.specs.Calls.{Ran, traps_of}
use Rattle.comp_tree.specs.Held.{Held, components_of}
use Rattle.link_prop.proofs.CallLemmas.{entry_fault, entry_live, run_faulted, run_live, run_none}
use Rattle.link_prop.proofs.CycleMarks.{marked_any, marked_none}
use Rattle.link_prop.proofs.cycles.run_if_it_may.Goals as goal

pub returns-in_default-clause-left : goal.returns-in_default-clause-left
returns-in_default-clause-left g c =
    let h = c.args.app.now.tree in
    let none = subst (λ (h : Held _). map.get (components_of g.E.Engine h).by_id c.args.id.0 ≡ None) c.tree.ensures c.in_default.ensures.told in
    sym (ap (λ (r : Ran). r.left) (run_none (g.E.Engine.meaning h.engine) (components_of g.E.Engine h) c.args.id.0 Execute Nothing c.args.turns c.args.ticks none))

pub returns-in_default-clause-traps : goal.returns-in_default-clause-traps
returns-in_default-clause-traps g c =
    let h = c.args.app.now.tree in
    let none = subst (λ (h : Held _). map.get (components_of g.E.Engine h).by_id c.args.id.0 ≡ None) c.tree.ensures c.in_default.ensures.told in
    sym (ap (λ (r : Ran). traps_of r.end) (run_none (g.E.Engine.meaning h.engine) (components_of g.E.Engine h) c.args.id.0 Execute Nothing c.args.turns c.args.ticks none))

pub returns-then-entry-ne0-clause-left : goal.returns-then-entry-ne0-clause-left
returns-then-entry-ne0-clause-left g c =
    let h = c.args.app.now.tree in
    let fault = sym (ap (λ (h : Held _). fault_of (components_of g.E.Engine h).by_id c.args.id.0) c.tree.ensures)
    ∙ entry_fault (g.E.Engine.live c.tree.result.now.engine) (map.get (components_of g.E.Engine c.tree.result.now).by_id c.args.id.0) c.in-Some.entry c.in-Some.ensures.told
    in
    sym (ap (λ (r : Ran). r.left) (run_faulted (g.E.Engine.meaning h.engine) (components_of g.E.Engine h) c.args.id.0 Execute Nothing c.args.turns c.args.ticks (λ none. c.if-entry-ne0.true (sym fault ∙ none))))

pub returns-then-entry-ne0-clause-traps : goal.returns-then-entry-ne0-clause-traps
returns-then-entry-ne0-clause-traps g c =
    let h = c.args.app.now.tree in
    let fault = sym (ap (λ (h : Held _). fault_of (components_of g.E.Engine h).by_id c.args.id.0) c.tree.ensures)
    ∙ entry_fault (g.E.Engine.live c.tree.result.now.engine) (map.get (components_of g.E.Engine c.tree.result.now).by_id c.args.id.0) c.in-Some.entry c.in-Some.ensures.told
    in
    sym (ap (λ (r : Ran). traps_of r.end) (run_faulted (g.E.Engine.meaning h.engine) (components_of g.E.Engine h) c.args.id.0 Execute Nothing c.args.turns c.args.ticks (λ none. c.if-entry-ne0.true (sym fault ∙ none))))

pub execute-requires-clause-live : goal.execute-requires-clause-live
execute-requires-clause-live g c =
    subst (λ (h : Held _). IsSome (map.get (components_of g.E.Engine h).by_id c.args.id.0)) c.tree.ensures
    (entry_live (g.E.Engine.live c.tree.result.now.engine) (map.get (components_of g.E.Engine c.tree.result.now).by_id c.args.id.0) c.in-Some.entry c.in-Some.ensures.told)

pub execute-requires-clause-no_fault : goal.execute-requires-clause-no_fault
execute-requires-clause-no_fault g c =
    sym (ap (λ (h : Held _). fault_of (components_of g.E.Engine h).by_id c.args.id.0) c.tree.ensures)
    ∙ entry_fault (g.E.Engine.live c.tree.result.now.engine) (map.get (components_of g.E.Engine c.tree.result.now).by_id c.args.id.0) c.in-Some.entry c.in-Some.ensures.told
    ∙ c.if-entry-ne0.false

pub returns-in_default-clause-marks : goal.returns-in_default-clause-marks
returns-in_default-clause-marks g c = marked_none g.E.Engine c.args.app.now

pub returns-then-entry-ne0-clause-marks : goal.returns-then-entry-ne0-clause-marks
returns-then-entry-ne0-clause-marks g c = marked_none g.E.Engine c.args.app.now

pub returns-clause-marks : goal.returns-clause-marks
returns-clause-marks g c = marked_any g.E.Engine c.args.id.0 c.args.app.now c.execute.new.self c.execute.ensures.marks

pub returns-clause-live : goal.returns-clause-live
returns-clause-live g c = λ q.
    ap (λ (b : Components). is_live b.by_id q) c.execute.ensures.left
    ∙ run_live (g.E.Engine.meaning c.args.app.now.tree.engine) (components_of g.E.Engine c.args.app.now.tree) c.args.id.0 Execute Nothing c.args.turns _ q
