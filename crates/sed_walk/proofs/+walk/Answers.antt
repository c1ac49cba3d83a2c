use Rattle.std.proofs.Common.{◌≡◌, ◌∙◌, ◌<◌, ◌-◌, Option, map, sym, ap, arith, ◌+◌, Ok, rules, Result, Err, Some, List, ℕ, subst, suc}
use Rattle.std.specs.Prelude.{slice_get, max}
use Rattle.std.specs.Option.{option_copied}
use Rattle.sed_typed.specs.declared.program.Program.{Program}
use Rattle.sed_typed.specs.declared.program.Method.{Method}
use Rattle.sed_engine.specs.State.{Shared, State, gives, End, then_do}
use Rattle.sed_engine.specs.Expressions.{Setting, eval as eval_of, Called, frame_of, call_static, call_super, meaning as link_of, part_at, text_call, invoke as invoke_of}
use Rattle.sed_engine.specs.Root.{run_method}
use Rattle.walk_steps.specs.Seen.{stop_seen}
use Rattle.walk_steps.specs.Targets.{setting_of}
use Rattle.sed_walk.proofs.Rounds.{calls_in, update-goes, update-stores, put-next, body-runs, loop-again, loop-answer, loop-over, loop-stop, switch-goes}
use Rattle.sed_engine.specs.Steps.{with_local}
use Rattle.sed_engine.specs.Stops.{Stop}
use Rattle.sed_engine.specs.Values.{Val}
use Rattle.sed_engine.specs.Statements as flow
use Rattle.sed_walk.specs.Site.{setting_at, seen_at, shared_at, state_at, ended_at}
use Rattle.sed_walk.specs.Flows.{flow_seen, rounds_at, LeavesFewer}
use Rattle.sed_typed.specs.declared.tree.Expr.{Expr}
use Rattle.sed_typed.specs.declared.tree.Link.{Link}
use Rattle.sed_typed.specs.declared.tree.Place.{Place}
use Rattle.sed_walk.specs.Forms.{static_element_with, unary_with, choice_with, set_with, set_field_with, chain_with, text_call_with, update_with, update_local_with, call_from, asks_of, rest_of_round, round_with}
use Rattle.sed_walk.proofs.Rows.{evals_hidden, meanings_hidden, execs_hidden, heights_hidden, links_hidden, stmts_hidden}
use Rattle.sed_engine.specs.Places.{field_spot}
use Rattle.sed_engine.specs.Statements.{exec as exec_of, rounds, switch, follows, in_order, leaves}
use Rattle.sed_walk.specs.declared.ends.Round.{Round}
use Rattle.sed_typed.specs.declared.statement.Label.{Label}
use Rattle.sed_typed.specs.declared.statement.Stmt.{Stmt}
use Rattle.sed_walk.specs.declared.ends.Flow.{Flow as Own}
use Rattle.std.proofs.lemmas.List.{drop-map}
use Rattle.sed_typed.specs.Height.{height_of, link_height, stmt_height}
use Rattle.sed_walk.specs.Heights.{heights, link_heights, stmt_heights, left_at}
use Rattle.sed_walk.proofs.Measures.{lower-by, lower-alike}
use Rattle.sed_walk.proofs.+walk.Goals as goal

pub expressions::eval-eval_static-requires : goal.expressions::eval-eval_static-requires
expressions::eval-eval_static-requires t c =
    let left = left_at c.args.site.now in
    let es = c.deref-in-Call.result.now in
    let e : height_of c.args.e.now ≡ suc (heights es) =
    ap height_of c.in-Call.is ∙ ap suc (heights_hidden c.in-Call.args ∙ ap heights (sym c.deref-in-Call.ensures.value)) in
    let h = lower-by left (heights es) (height_of c.args.e.now) 3 e (omega arith) in
    (omega (arith, h), tt)

pub expressions::eval-eval_super-requires : goal.expressions::eval-eval_super-requires
expressions::eval-eval_super-requires t c =
    let left = left_at c.args.site.now in
    let es = c.deref-in-Super.result.now in
    let e : height_of c.args.e.now ≡ suc (heights es) =
    ap height_of c.in-Super.is ∙ ap suc (heights_hidden c.in-Super.args ∙ ap heights (sym c.deref-in-Super.ensures.value)) in
    let h = lower-by left (heights es) (height_of c.args.e.now) 3 e (omega arith) in
    (omega (arith, h), tt)

pub links::eval_link-eval_invoke-requires : goal.links::eval_link-eval_invoke-requires
links::eval_link-eval_invoke-requires t c =
    let left = left_at c.args.site.now in
    let es = c.deref.result.now in
    let e : link_height c.args.link.now ≡ heights es =
    ap link_height c.in-Invoke.is ∙ heights_hidden c.in-Invoke.args ∙ ap heights (sym c.deref.ensures.value) in
    let h = lower-alike left (heights es) (link_height c.args.link.now) 2 3 e (omega arith) in
    (omega (arith, h), tt)

pub statements::exec-run_switch-requires : goal.statements::exec-run_switch-requires
statements::exec-run_switch-requires t c =
    let left = left_at c.args.site.now in
    let m = max (height_of c.in-Switch.e) (stmt_heights c.deref-in-Switch-2.result.now) in
    let e : stmt_height c.args.s.now ≡ suc m =
    ap stmt_height c.in-Switch.is
    ∙ ap (λ (n : ℕ). suc (max (height_of c.in-Switch.e) n)) (stmts_hidden c.in-Switch.all ∙ ap stmt_heights (sym c.deref-in-Switch-2.ensures.value)) in
    let h = lower-by left m (stmt_height c.args.s.now) 2 e (omega arith) in
    (omega (arith, h), tt)

pub calls::call-returns-in-Some-clause-end : goal.calls::call-returns-in-Some-clause-end
calls::call-returns-in-Some-clause-end t c =
    let site = c.args.site.now in
    let plan = site.plan.now in
    let class = site.class in
    let w : Setting = setting_of plan class (site.frames - 1) in
    let f = map (seen_at site) c.args.frame.now in
    let s : Shared = shared_at site c.args.store.now in
    let h : 0 < site.frames = omega arith in
    c.run.ensures.end
    ∙ ap (λ (o : Option Method). run_method w o f s) (ap option_copied (sym c.in-Some.is) ∙ c.method_of.ensures ∙ ap (λ (p : Program). slice_get p.methods c.args.method) c.program.ensures)
    ∙ sym (calls_in plan.program class site.frames c.args.method f s h)

pub calls::call-returns-in-None-clause-end : goal.calls::call-returns-in-None-clause-end
calls::call-returns-in-None-clause-end t c =
    let site = c.args.site.now in
    let plan = site.plan.now in
    let class = site.class in
    let w : Setting = setting_of plan class (site.frames - 1) in
    let f = map (seen_at site) c.args.frame.now in
    let s : Shared = shared_at site c.args.store.now in
    let h : 0 < site.frames = omega arith in
    ap (λ (o : Option Method). run_method w o f s) (ap option_copied (sym c.in-None.is) ∙ c.method_of.ensures ∙ ap (λ (p : Program). slice_get p.methods c.args.method) c.program.ensures)
    ∙ sym (calls_in plan.program class site.frames c.args.method f s h)

pub calls::eval_args-loop-at-preserved : goal.calls::eval_args-loop-at-preserved
calls::eval_args-loop-at-preserved t c =
    let site = c.args.site.now in
    let w : Setting = setting_at site in
    let n = c.args.first + c.loop-at.at in
    let frame = map (seen_at site) c.loop-at.frame in
    let more = map (seen_at site) c.write.new.locals in
    let s : State = state_at site c.loop-at.store c.loop-at.locals in
    let t : State = state_at site c.eval.new.store c.eval.new.locals in
    let v = seen_at site c.in_ok-value.value in
    let e : gives v t ≡ eval_of w c.index-args-at.result s = c.in_ok-value.ensures.end in
    let k : with_local frame n v ≡ Ok more = sym (c.in_ok-write.ensures.end site.plan.now site.class) in (
      sym (put-next (eval_of w) c.args.args.now c.loop-at.at c.index-args-at.result c.loop-at-test.true c.index-args-at.is n frame s t v more (c.args.first + (c.loop-at.at + 1)) e k (omega arith))
          ∙ c.loop-at.invariant.0,
      omega arith,
    )

pub calls::run-returns-clause-end : goal.calls::run-returns-clause-end
calls::run-returns-clause-end t c =
    let site = c.args.site.now in
    let w : Setting = setting_at site in
    let f = map (seen_at site) c.args.frame.now in
    let s : Shared = shared_at site c.args.store.now in
    let u : Shared = shared_at site c.exec.new.store in
    let done : Result flow.Flow Stop = Ok (flow_seen site.plan.now site.class c.in_ok-flow.flow) in
    let e : End flow.Flow = ended_at site done c.exec.new.store c.exec.new.locals in
    let answer : Result Val Stop → Called = λ r. record { result = r; shared = u } in
    ap answer (c.answer_of.ensures site.plan.now site.class)
    ∙ body-runs w c.args.method.now f s c.in-Some.body e c.in-Some.is c.in_ok-flow.ensures.end

pub calls::run-returns-in_err-flow-clause-end : goal.calls::run-returns-in_err-flow-clause-end
calls::run-returns-in_err-flow-clause-end t c =
    let site = c.args.site.now in
    let w : Setting = setting_at site in
    let f = map (seen_at site) c.args.frame.now in
    let s : Shared = shared_at site c.args.store.now in
    let u : Shared = shared_at site c.exec.new.store in
    let x = stop_seen c.in_err-flow.field-0.0 in
    let stop : Result flow.Flow Stop = Err x in
    let e : End flow.Flow = ended_at site stop c.exec.new.store c.exec.new.locals in
    let answer : Result Val Stop → Called = λ r. record { result = r; shared = u } in
    let q : answer (Err x) ≡ run_method w (Some c.args.method.now) f s =
    body-runs w c.args.method.now f s c.in-Some.body e c.in-Some.is c.in_err-flow.ensures.end in
    search (rules, q)

pub expressions::eval-returns-in-Update-clause-end : goal.expressions::eval-returns-in-Update-clause-end
expressions::eval-returns-in-Update-clause-end t c =
    let site = c.args.site.now in
    let w : Setting = setting_at site in
    let s : State = state_at site c.args.store.now c.args.locals.now in
    c.eval_update.ensures.end
    ∙ ap (λ (e : Expr). update_with w c.in-Update.update c.in-Update.place e s) c.deref-in-Update.ensures
    ∙ ap (λ (e : Expr). eval_of w e s) (sym c.in-Update.is)

pub expressions::eval-returns-in-Call-clause-end : goal.expressions::eval-returns-in-Call-clause-end
expressions::eval-returns-in-Call-clause-end t c =
    let site = c.args.site.now in
    let w : Setting = setting_at site in
    let s : State = state_at site c.args.store.now c.args.locals.now in
    let m = c.in-Call.method in
    c.eval_static.ensures.end
    ∙ ap (λ (es : List Expr). call_static w m (map (eval_of w) es) s) c.deref-in-Call.ensures.value
    ∙ ap (λ (es : List (State → End Val)). call_static w m es s) (sym (evals_hidden w c.in-Call.args))
    ∙ ap (λ (e : Expr). eval_of w e s) (sym c.in-Call.is)

pub expressions::eval-returns-in-Super-clause-end : goal.expressions::eval-returns-in-Super-clause-end
expressions::eval-returns-in-Super-clause-end t c =
    let site = c.args.site.now in
    let w : Setting = setting_at site in
    let s : State = state_at site c.args.store.now c.args.locals.now in
    let m = c.in-Super.method in
    c.eval_super.ensures.end
    ∙ ap (λ (es : List Expr). call_super w m (map (eval_of w) es) s) c.deref-in-Super.ensures.value
    ∙ ap (λ (es : List (State → End Val)). call_super w m es s) (sym (evals_hidden w c.in-Super.args))
    ∙ ap (λ (e : Expr). eval_of w e s) (sym c.in-Super.is)

pub calls::eval_static-returns-clause-end : goal.calls::eval_static-returns-clause-end
calls::eval_static-returns-clause-end t c =
    let site = c.args.site.now in
    let w : Setting = setting_at site in
    let s : State = state_at site c.args.store.now c.args.locals.now in
    let es = map (eval_of w) c.args.args.now in
    c.eval_call.ensures.end
    ∙ ap (λ (frame : List Val). call_from w 0 c.args.method es frame s) (c.new_frame-frame.ensures site.plan.now site.class)

pub calls::eval_super-returns-clause-end : goal.calls::eval_super-returns-clause-end
calls::eval_super-returns-clause-end t c =
    let site = c.args.site.now in
    let w : Setting = setting_at site in
    let s : State = state_at site c.args.store.now c.args.locals.now in
    let m = c.args.method in
    let es = map (eval_of w) c.args.args.now in
    c.eval_call.ensures.end
    ∙ ap (λ (frame : List Val). call_from w 1 m es frame s) (c.frame_of-frame.ensures site.plan.now site.class)
    ∙ ap (λ (r : End Val). then_do r (λ this s1. call_from w 1 m es (frame_of this) s1)) (c.in_ok-this.ensures.end site.plan.now site.class c.args.store.now)

pub links::eval_link-returns-in-Invoke-clause-end : goal.links::eval_link-returns-in-Invoke-clause-end
links::eval_link-returns-in-Invoke-clause-end t c =
    let site = c.args.site.now in
    let w : Setting = setting_at site in
    let s : State = state_at site c.args.store.now c.args.locals.now in
    let v = seen_at site c.args.value in
    let m = c.in-Invoke.method in
    c.eval_invoke.ensures.end
    ∙ ap (λ (es : List Expr). invoke_of w v m (map (eval_of w) es) s) c.deref.ensures.value
    ∙ ap (λ (es : List (State → End Val)). invoke_of w v m es s) (sym (evals_hidden w c.in-Invoke.args))
    ∙ ap (λ (l : Link). link_of w l v s) (sym c.in-Invoke.is)

pub links::eval_link-returns-in-Part-clause-end : goal.links::eval_link-returns-in-Part-clause-end
links::eval_link-returns-in-Part-clause-end t c =
    let site = c.args.site.now in
    let w : Setting = setting_at site in
    let s : State = state_at site c.args.store.now c.args.locals.now in
    let v = seen_at site c.args.value in
    c.part.ensures site.frames (map (seen_at site) c.args.locals.now)
    ∙ ap (λ (n : ℕ). then_do (field_spot v n s) (λ spot s1. part_at w c.in-Part.kind spot s1)) c.from-in-Part.ensures
    ∙ ap (λ (l : Link). link_of w l v s) (sym c.in-Part.is)

pub loops::run_rounds-rounds-preserved : goal.loops::run_rounds-rounds-preserved
loops::run_rounds-rounds-preserved t c =
    let site = c.args.site.now in
    let w : Setting = setting_at site in
    let one = round_with (asks_of w c.args.s.now) (exec_of w c.args.body.now) (rest_of_round w c.args.s.now) in
    let s : State = state_at site c.rounds.store c.rounds.locals in
    let u : State = state_at site c.run_round.new.store c.run_round.new.locals in
    let i = c.rounds.invariant in
    let h : 0 < i.0 = omega arith in
    let o = c.in_ok-run_round.ensures in
    let e : gives flow.Again u ≡ one s =
    sym (ap (λ (r : Round). ended_at site (rounds_at site (Ok r)) c.run_round.new.store c.run_round.new.locals) c.in-Again.is) ∙ o.end in
    let f : c.run_round.new.store.turns < c.rounds.store.turns =
    subst (λ (r : Round). LeavesFewer (Ok r) c.run_round.new.store.turns c.rounds.store.turns) c.in-Again.is o.fewer in
    (i.0 - 1, omega arith, sym (loop-again one i.0 s u h e) ∙ i.2, omega arith)

pub loops::run_rounds-returns-in-Answer-clause-end : goal.loops::run_rounds-returns-in-Answer-clause-end
loops::run_rounds-returns-in-Answer-clause-end t c =
    let site = c.args.site.now in
    let w : Setting = setting_at site in
    let one = round_with (asks_of w c.args.s.now) (exec_of w c.args.body.now) (rest_of_round w c.args.s.now) in
    let s : State = state_at site c.rounds.store c.rounds.locals in
    let u : State = state_at site c.run_round.new.store c.run_round.new.locals in
    let i = c.rounds.invariant in
    let h : 0 < i.0 = omega arith in
    let e : gives (flow.Answer (seen_at site c.in-Answer.value)) u ≡ one s =
    sym (ap (λ (r : Round). ended_at site (rounds_at site (Ok r)) c.run_round.new.store c.run_round.new.locals) c.in-Answer.is)
    ∙ c.in_ok-run_round.ensures.end in
    sym (loop-answer one i.0 s u (seen_at site c.in-Answer.value) h e) ∙ i.2

pub loops::run_rounds-returns-in-Over-clause-end : goal.loops::run_rounds-returns-in-Over-clause-end
loops::run_rounds-returns-in-Over-clause-end t c =
    let site = c.args.site.now in
    let w : Setting = setting_at site in
    let one = round_with (asks_of w c.args.s.now) (exec_of w c.args.body.now) (rest_of_round w c.args.s.now) in
    let s : State = state_at site c.rounds.store c.rounds.locals in
    let u : State = state_at site c.run_round.new.store c.run_round.new.locals in
    let i = c.rounds.invariant in
    let h : 0 < i.0 = omega arith in
    let e : gives flow.Over u ≡ one s =
    sym (ap (λ (r : Round). ended_at site (rounds_at site (Ok r)) c.run_round.new.store c.run_round.new.locals) c.in-Over.is)
    ∙ c.in_ok-run_round.ensures.end in
    sym (loop-over one i.0 s u h e) ∙ i.2

pub loops::run_rounds-returns-in_err-run_round-clause-end : goal.loops::run_rounds-returns-in_err-run_round-clause-end
loops::run_rounds-returns-in_err-run_round-clause-end t c =
    let site = c.args.site.now in
    let w : Setting = setting_at site in
    let one = round_with (asks_of w c.args.s.now) (exec_of w c.args.body.now) (rest_of_round w c.args.s.now) in
    let s : State = state_at site c.rounds.store c.rounds.locals in
    let u : State = state_at site c.run_round.new.store c.run_round.new.locals in
    let i = c.rounds.invariant in
    let h : 0 < i.0 = omega arith in
    let x = stop_seen c.in_err-run_round.field-0.0 in
    let q : ended_at {A = flow.Flow} site (Err x) c.run_round.new.store c.run_round.new.locals ≡ rounds one (state_at site c.args.store.now c.args.locals.now) =
    sym (loop-stop one i.0 s u x h c.in_err-run_round.ensures.end) ∙ i.2 in
    search (rules, q)

pub statements::exec-returns-in-Switch-clause-end : goal.statements::exec-returns-in-Switch-clause-end
statements::exec-returns-in-Switch-clause-end t c =
    let site = c.args.site.now in
    let w : Setting = setting_at site in
    let s : State = state_at site c.args.store.now c.args.locals.now in
    c.run_switch.ensures.end
    ∙ ap (λ (labels : List Label). switch (eval_of w c.in-Switch.e) labels (map (exec_of w) c.deref-in-Switch-2.result.now) s) c.deref-in-Switch.ensures.value
    ∙ ap (λ (all : List Stmt). switch (eval_of w c.in-Switch.e) c.in-Switch.labels.items (map (exec_of w) all) s) c.deref-in-Switch-2.ensures.value
    ∙ ap (λ (xs : List (State → End flow.Flow)). switch (eval_of w c.in-Switch.e) c.in-Switch.labels.items xs s) (sym (execs_hidden w c.in-Switch.all))
    ∙ ap (λ (x : Stmt). exec_of w x s) (sym c.in-Switch.is)

pub statements::exec-returns-in-While-clause-end : goal.statements::exec-returns-in-While-clause-end
statements::exec-returns-in-While-clause-end t c =
    let site = c.args.site.now in
    let w : Setting = setting_at site in
    let s : State = state_at site c.args.store.now c.args.locals.now in
    c.run_rounds.ensures.end
    ∙ ap (λ (b : Stmt). rounds (round_with (asks_of w c.args.s.now) (exec_of w b) (rest_of_round w c.args.s.now)) s) c.deref-in-While.ensures
    ∙ ap (λ (x : Stmt). rounds (round_with (asks_of w x) (exec_of w c.in-While.body.value) (rest_of_round w x)) s) c.in-While.is
    ∙ ap (λ (x : Stmt). exec_of w x s) (sym c.in-While.is)

pub statements::exec-returns-in-DoWhile-clause-end : goal.statements::exec-returns-in-DoWhile-clause-end
statements::exec-returns-in-DoWhile-clause-end t c =
    let site = c.args.site.now in
    let w : Setting = setting_at site in
    let s : State = state_at site c.args.store.now c.args.locals.now in
    c.run_rounds-in-DoWhile.ensures.end
    ∙ ap (λ (b : Stmt). rounds (round_with (asks_of w c.args.s.now) (exec_of w b) (rest_of_round w c.args.s.now)) s) c.deref-in-DoWhile.ensures
    ∙ ap (λ (x : Stmt). rounds (round_with (asks_of w x) (exec_of w c.in-DoWhile.body.value) (rest_of_round w x)) s) c.in-DoWhile.is
    ∙ ap (λ (x : Stmt). exec_of w x s) (sym c.in-DoWhile.is)

pub statements::exec-returns-in-Next-clause-end : goal.statements::exec-returns-in-Next-clause-end
statements::exec-returns-in-Next-clause-end t c =
    let site = c.args.site.now in
    let w : Setting = setting_at site in
    let s : State = state_at site c.args.store.now c.args.locals.now in
    let t : State = state_at site c.exec-in-For.new.store c.exec-in-For.new.locals in
    let body = c.in-For.body.value in
    let loop : Stmt → State → End flow.Flow = λ x. rounds (round_with (asks_of w x) (exec_of w body) (rest_of_round w x)) in
    c.run_rounds-in-Next.ensures.end
    ∙ ap (λ (b : Stmt). rounds (round_with (asks_of w c.args.s.now) (exec_of w b) (rest_of_round w c.args.s.now)) t) c.deref-in-Next.ensures
    ∙ ap (λ (f : Own). follows (flow_seen site.plan.now site.class f) (loop c.args.s.now) t) (sym c.in-Next.is)
    ∙ ap (λ (r : End flow.Flow). then_do r (λ f s1. follows f (loop c.args.s.now) s1)) c.in_ok-exec-in-For.ensures.end
    ∙ ap (λ (x : Stmt). then_do (exec_of w x s) (λ f s1. follows f (loop c.args.s.now) s1)) c.deref-in-For.ensures
    ∙ ap (λ (x : Stmt). then_do (exec_of w c.in-For.first.value s) (λ f s1. follows f (loop x) s1)) c.in-For.is
    ∙ ap (λ (x : Stmt). exec_of w x s) (sym c.in-For.is)

pub statements::run_switch-returns-clause-end : goal.statements::run_switch-returns-clause-end
statements::run_switch-returns-clause-end t c =
    let site = c.args.site.now in
    let plan = site.plan.now in
    let class = site.class in
    let w : Setting = setting_at site in
    let s : State = state_at site c.args.store.now c.args.locals.now in
    let t : State = state_at site c.eval.new.store c.eval.new.locals in
    let u : State = state_at site c.exec_all.new.store c.exec_all.new.locals in
    let all = map (exec_of w) c.args.all.now in
    let rest = ap (λ (ss : List Stmt). in_order (map (exec_of w) ss) t) c.rest_of.ensures
    ∙ ap (λ (xs : List (State → End flow.Flow)). in_order xs t) (sym (drop-map (exec_of w) c.in_ok-start.start c.args.all.now)) in
    ap (λ (f : flow.Flow). gives f u) (c.leaves.ensures plan class)
    ∙ switch-goes (eval_of w c.args.e.now) c.args.labels.now all s t (seen_at site c.in_ok-value.value) c.in_ok-start.start (gives (flow_seen plan class c.in_ok-flow.flow) u)
    c.in_ok-value.ensures.end (c.in_ok-start.ensures plan class) (c.in_ok-flow.ensures.end ∙ rest)

pub statements::run_switch-returns-in_err-flow-clause-end : goal.statements::run_switch-returns-in_err-flow-clause-end
statements::run_switch-returns-in_err-flow-clause-end t c =
    let site = c.args.site.now in
    let w : Setting = setting_at site in
    let s : State = state_at site c.args.store.now c.args.locals.now in
    let t : State = state_at site c.eval.new.store c.eval.new.locals in
    let all = map (exec_of w) c.args.all.now in
    let rest = ap (λ (ss : List Stmt). in_order (map (exec_of w) ss) t) c.rest_of.ensures
    ∙ ap (λ (xs : List (State → End flow.Flow)). in_order xs t) (sym (drop-map (exec_of w) c.in_ok-start.start c.args.all.now)) in
    let stop : Result flow.Flow Stop = Err (stop_seen c.in_err-flow.field-0.0) in
    let e : End flow.Flow = ended_at site stop c.exec_all.new.store c.exec_all.new.locals in
    let q : e ≡ switch (eval_of w c.args.e.now) c.args.labels.now all s =
    switch-goes (eval_of w c.args.e.now) c.args.labels.now all s t (seen_at site c.in_ok-value.value) c.in_ok-start.start e
    c.in_ok-value.ensures.end (c.in_ok-start.ensures site.plan.now site.class) (c.in_err-flow.ensures.end ∙ rest) in
    search (rules, q)

pub expressions::eval-eval_chain-requires : goal.expressions::eval-eval_chain-requires
expressions::eval-eval_chain-requires t c =
    let left = left_at c.args.site.now in
    let n = link_heights c.deref-in-Chain-2.result.now in
    let m = max (height_of c.deref-in-Chain.result.now) n in
    let e : height_of c.args.e.now ≡ suc m =
    ap height_of c.in-Chain.is
    ∙ ap (λ (n : ℕ). suc (max (height_of c.in-Chain.head.value) n)) (links_hidden c.in-Chain.links ∙ ap link_heights (sym c.deref-in-Chain-2.ensures.value))
    ∙ ap (λ (x : Expr). suc (max (height_of x) n)) (sym c.deref-in-Chain.ensures) in
    let h = lower-by left m (height_of c.args.e.now) 5 e (omega arith) in
    (omega (arith, h), tt)

pub links::eval_link-eval_text_call-requires : goal.links::eval_link-eval_text_call-requires
links::eval_link-eval_text_call-requires t c =
    let left = left_at c.args.site.now in
    let es = c.deref-in-TextCall.result.now in
    let e : link_height c.args.link.now ≡ heights es =
    ap link_height c.in-TextCall.is ∙ heights_hidden c.in-TextCall.args ∙ ap heights (sym c.deref-in-TextCall.ensures.value) in
    let h = lower-alike left (heights es) (link_height c.args.link.now) 2 3 e (omega arith) in
    (omega (arith, h), tt)

pub expressions::eval-returns-in-StaticElement-clause-end : goal.expressions::eval-returns-in-StaticElement-clause-end
expressions::eval-returns-in-StaticElement-clause-end t c =
    let site = c.args.site.now in
    let w : Setting = setting_at site in
    let s : State = state_at site c.args.store.now c.args.locals.now in
    c.eval_static_element.ensures.end
    ∙ ap (λ (e : Expr). static_element_with w c.in-StaticElement.count c.in-StaticElement.number e s) c.deref.ensures
    ∙ ap (λ (e : Expr). eval_of w e s) (sym c.in-StaticElement.is)

pub expressions::eval-returns-in-Unary-clause-end : goal.expressions::eval-returns-in-Unary-clause-end
expressions::eval-returns-in-Unary-clause-end t c =
    let site = c.args.site.now in
    let w : Setting = setting_at site in
    let s : State = state_at site c.args.store.now c.args.locals.now in
    c.eval_unary.ensures.end
    ∙ ap (λ (e : Expr). unary_with w c.in-Unary.op e s) c.deref-in-Unary.ensures
    ∙ ap (λ (e : Expr). eval_of w e s) (sym c.in-Unary.is)

pub expressions::eval-returns-in-Choose-clause-end : goal.expressions::eval-returns-in-Choose-clause-end
expressions::eval-returns-in-Choose-clause-end t c =
    let site = c.args.site.now in
    let w : Setting = setting_at site in
    let s : State = state_at site c.args.store.now c.args.locals.now in
    c.eval_choice.ensures.end
    ∙ ap (λ (e : Expr). choice_with w e c.deref-in-Choose-2.result.now c.deref-in-Choose-3.result.now s) c.deref-in-Choose.ensures
    ∙ ap (λ (e : Expr). choice_with w c.in-Choose.test.value e c.deref-in-Choose-3.result.now s) c.deref-in-Choose-2.ensures
    ∙ ap (λ (e : Expr). choice_with w c.in-Choose.test.value c.in-Choose.met.value e s) c.deref-in-Choose-3.ensures
    ∙ ap (λ (e : Expr). eval_of w e s) (sym c.in-Choose.is)

pub expressions::eval-returns-in-Set-clause-end : goal.expressions::eval-returns-in-Set-clause-end
expressions::eval-returns-in-Set-clause-end t c =
    let site = c.args.site.now in
    let w : Setting = setting_at site in
    let s : State = state_at site c.args.store.now c.args.locals.now in
    c.eval_set.ensures.end
    ∙ ap (λ (e : Expr). set_with w c.in-Set.place e s) c.deref-in-Set.ensures
    ∙ ap (λ (e : Expr). eval_of w e s) (sym c.in-Set.is)

pub expressions::eval-returns-in-Chain-clause-end : goal.expressions::eval-returns-in-Chain-clause-end
expressions::eval-returns-in-Chain-clause-end t c =
    let site = c.args.site.now in
    let w : Setting = setting_at site in
    let s : State = state_at site c.args.store.now c.args.locals.now in
    c.eval_chain.ensures.end
    ∙ ap (λ (e : Expr). chain_with w e (map (link_of w) c.deref-in-Chain-2.result.now) s) c.deref-in-Chain.ensures
    ∙ ap (λ (ls : List Link). chain_with w c.in-Chain.head.value (map (link_of w) ls) s) c.deref-in-Chain-2.ensures.value
    ∙ ap (λ (ls : List (Val → State → End Val)). chain_with w c.in-Chain.head.value ls s) (sym (meanings_hidden w c.in-Chain.links))
    ∙ ap (λ (e : Expr). eval_of w e s) (sym c.in-Chain.is)

pub links::eval_link-returns-in-TextCall-clause-end : goal.links::eval_link-returns-in-TextCall-clause-end
links::eval_link-returns-in-TextCall-clause-end t c =
    let site = c.args.site.now in
    let w : Setting = setting_at site in
    let s : State = state_at site c.args.store.now c.args.locals.now in
    let v = seen_at site c.args.value in
    let op = c.in-TextCall.op in
    c.eval_text_call.ensures.end
    ∙ ap (λ (es : List Expr). text_call_with w op (map (eval_of w) es) v s) c.deref-in-TextCall.ensures.value
    ∙ ap (λ (es : List (State → End Val)). text_call_with w op es v s) (sym (evals_hidden w c.in-TextCall.args))
    ∙ ap (λ (l : Link). link_of w l v s) (sym c.in-TextCall.is)

pub expressions::eval_set-returns-in-Field-clause-end : goal.expressions::eval_set-returns-in-Field-clause-end
expressions::eval_set-returns-in-Field-clause-end t c =
    let site = c.args.site.now in
    let w : Setting = setting_at site in
    let s : State = state_at site c.args.store.now c.args.locals.now in
    c.set_field.ensures.end
    ∙ ap (λ (e : Expr). set_field_with w c.in-Field.prim e c.in-Field.number c.args.value.now s) c.deref.ensures
    ∙ ap (λ (p : Place). set_with w p c.args.value.now s) (sym c.in-Field.is)

pub links::eval_text_call-returns-clause-end : goal.links::eval_text_call-returns-clause-end
links::eval_text_call-returns-clause-end t c =
    let site = c.args.site.now in
    let w : Setting = setting_at site in
    let s : State = state_at site c.args.store.now c.args.locals.now in
    c.call.ensures.end (map (seen_at site) c.eval_args.new.locals)
    ∙ ap (λ (r : End (List Val)). then_do r (λ xs s1. text_call w.program.texts c.args.op (seen_at site c.args.value) xs s1)) c.in_ok-eval_args.ensures.end

pub expressions::update_local-returns-in_err-operand-clause-end : goal.expressions::update_local-returns-in_err-operand-clause-end
expressions::update_local-returns-in_err-operand-clause-end t c =
    let site = c.args.site.now in
    let w : Setting = setting_at site in
    let s : State = state_at site c.args.store.now c.args.locals.now in
    let u = c.args.update in
    let i = c.args.number in
    let e = c.args.operand.now in
    let v = seen_at site c.in_ok-old.old in
    let stop : Result Val Stop = Err (stop_seen c.in_err-operand.field-0.0) in
    let end : End Val = ended_at site stop c.eval_operand.new.store c.eval_operand.new.locals in
    let q : end ≡ update_local_with w u c.args.kind i e s =
    update-goes w u c.args.kind i c.from.result c.from.ensures e v s (c.in_ok-old.ensures site.plan.now site.class) end c.in_err-operand.ensures.end in
    search (rules, q)

pub expressions::update_local-returns-in_err-new-clause-end : goal.expressions::update_local-returns-in_err-new-clause-end
expressions::update_local-returns-in_err-new-clause-end t c =
    let site = c.args.site.now in
    let plan = site.plan.now in
    let class = site.class in
    let w : Setting = setting_at site in
    let s : State = state_at site c.args.store.now c.args.locals.now in
    let u = c.args.update in
    let i = c.args.number in
    let e = c.args.operand.now in
    let v = seen_at site c.in_ok-old.old in
    let x = seen_at site c.in_ok-operand.operand in
    let y = seen_at site c.in_ok-value.value in
    let t1 : State = state_at site c.eval_operand.new.store c.eval_operand.new.locals in
    let stores = update-stores w u c.args.kind i c.from.result c.from.ensures e v s (c.in_ok-old.ensures plan class) x y t1 c.from-2.result c.from-2.ensures
    c.in_ok-operand.ensures.end (c.in_ok-value.ensures plan class) in
    let stop : Result Val Stop = Err (stop_seen c.in_err-new.field-0.0) in
    let end : End Val = ended_at site stop c.eval_operand.new.store c.put.new.locals in
    let q : end ≡ update_local_with w u c.args.kind i e s = stores end (c.in_err-new.ensures plan class c.eval_operand.new.store) in
    search (rules, q)

pub expressions::update_local-returns-clause-end : goal.expressions::update_local-returns-clause-end
expressions::update_local-returns-clause-end t c =
    let site = c.args.site.now in
    let plan = site.plan.now in
    let class = site.class in
    let w : Setting = setting_at site in
    let s : State = state_at site c.args.store.now c.args.locals.now in
    let u = c.args.update in
    let i = c.args.number in
    let e = c.args.operand.now in
    let v = seen_at site c.in_ok-old.old in
    let x = seen_at site c.in_ok-operand.operand in
    let y = seen_at site c.in_ok-value.value in
    let t1 : State = state_at site c.eval_operand.new.store c.eval_operand.new.locals in
    let stores = update-stores w u c.args.kind i c.from.result c.from.ensures e v s (c.in_ok-old.ensures plan class) x y t1 c.from-2.result c.from-2.ensures
    c.in_ok-operand.ensures.end (c.in_ok-value.ensures plan class) in
    let t2 : State = state_at site c.eval_operand.new.store c.put.new.locals in
    ap (λ (z : Val). gives z t2) (c.given.ensures plan class)
    ∙ stores (gives (seen_at site c.in_ok-new.new) t2) (c.in_ok-new.ensures plan class c.eval_operand.new.store)
