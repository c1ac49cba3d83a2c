use Rattle.std.proofs.Common.{◌≡◌, ◌∙◌, ℕ, Option, Result, Ok, List, map, sym, ap, subst}
use Rattle.sed_typed.specs.declared.program.Program.{Program}
use Rattle.sed_engine.specs.Stops.{Stop}
use Rattle.sed_engine.specs.Values.{Val}
use Rattle.sed_engine.specs.State.{Shared}
use Rattle.sed_engine.specs.Expressions.{Called, Calls}
use Rattle.sed_engine.specs.Root.{calls_with, start_root, root_method}
use Rattle.walk_steps.specs.Seen.{seen, ends}
use Rattle.walk_steps.specs.Stored.{shared_of}
use Rattle.sed_walk.proofs.root.run.Goals as goal

pub returns-in-Some-clause-end : goal.returns-in-Some-clause-end
returns-in-Some-clause-end c =
    let plan = c.args.plan.now in
    let class = c.args.class in
    let calls : Calls = calls_with plan.program class 32 in
    let s : Shared = shared_of plan class c.args.store.now in
    let v = seen plan class c.in_ok-argument.argument in
    let ended : ℕ → Called = λ k. record { result = ends plan k c.call.result; shared = shared_of plan k c.call.new.store } in
    let q : ended class ≡ calls c.in-Some.method (map (seen plan class) c.root_frame-frame.result) s =
    subst (λ (k : ℕ). ended k ≡ calls_with plan.program k 32 c.in-Some.method (map (seen plan k) c.root_frame-frame.result) (shared_of plan k c.args.store.now)) c.from.ensures c.call.ensures.end in
    q
    ∙ ap (λ (frame : List Val). calls c.in-Some.method frame s) (c.root_frame-frame.ensures plan class)
    ∙ ap (λ (o : Option ℕ). start_root calls (Ok o) (Ok v) s) (sym c.in-Some.is)
    ∙ ap (λ (r : Result (Option ℕ) Stop). start_root calls r (Ok v) s) (c.in_ok-method.ensures ∙ ap (λ (p : Program). root_method p class c.args.which) c.program.ensures)
    ∙ ap (λ (r : Result Val Stop). start_root calls (root_method plan.program class c.args.which) r s) (c.in_ok-argument.ensures plan class)

pub returns-in-None-clause-end : goal.returns-in-None-clause-end
returns-in-None-clause-end c =
    let plan = c.args.plan.now in
    let class = c.args.class in
    let calls : Calls = calls_with plan.program class 32 in
    let s : Shared = shared_of plan class c.args.store.now in
    let v = seen plan class c.in_ok-argument.argument in
    ap (λ (o : Option ℕ). start_root calls (Ok o) (Ok v) s) (sym c.in-None.is)
    ∙ ap (λ (r : Result (Option ℕ) Stop). start_root calls r (Ok v) s) (c.in_ok-method.ensures ∙ ap (λ (p : Program). root_method p class c.args.which) c.program.ensures)
    ∙ ap (λ (r : Result Val Stop). start_root calls (root_method plan.program class c.args.which) r s) (c.in_ok-argument.ensures plan class)
