-- Typed statements end as they may where they stand; so typed methods come to values of their results, or to traps.
use Rattle.std.proofs.Common.{◌≡◌, ◌≤◌, ◌+◌, ℕ, zero, suc, Bool, true, false, if◌then◌else◌, List, [], ◌∷◌, ◌++◌, drop, length, map, Option, Some, None, Result, Ok, Err, refl, sym, ap, subst, length-append, arith}
use Rattle.std.specs.Prelude.{IfSome, slice_get}
use Rattle.std.proofs.lemmas.List.{length-map}
use Rattle.sed_typed.specs.declared.kind.Kind.{Kind}
use Rattle.sed_typed.specs.declared.kind.Kind.TheVariants as kind
use Rattle.sed_typed.specs.declared.operators.Width.TheVariants as width
use Rattle.sed_typed.specs.declared.program.Method.{Method}
use Rattle.sed_typed.specs.declared.program.Program.{Program}
use Rattle.sed_typed.specs.declared.statement.Stmt.{Stmt, Row_of-Stmt, end_of-Stmt, more_of-Stmt}
use Rattle.sed_typed.specs.declared.statement.Stmt.TheVariants as stmt
use Rattle.sed_typed.specs.declared.tree.Expr.{Expr}
use Rattle.sed_typed.specs.Kinds.{kind_of}
use Rattle.sed_typed.specs.Locals.{Declared}
use Rattle.sed_typed.specs.Typed.{Typed, IsMethod, IsBody, receiver_of, declared_by, locals_of}
use Rattle.sed_typed.specs.TypedExpr.{Context}
use Rattle.sed_typed.specs.TypedStmt.{Around, in_loop, in_switch, IsTest, IsLast, IsBegun, IsReturned, IsStmt, AreStmts}
use Rattle.sed_engine.specs.declared.trap.Trap.TheVariants.{TurnsSpent}
use Rattle.sed_engine.specs.Stops.{Stop, Traps, Untyped}
use Rattle.sed_engine.specs.Values.{Val, Nothing, whole, truth, zero_of}
use Rattle.sed_engine.specs.State.{Shared, State, End}
use Rattle.sed_engine.specs.Expressions.{Setting, Calls, eval}
use Rattle.sed_engine.specs.Statements.{Flow, Next, Break, Continue, Return, Round, Again, Over, Answer, follows, in_order, after_body, round, do_round, after_round, loop, rounds, label_of, leaves, eval_or, exec, execs}
use Rattle.sed_engine.specs.Root.{answer_of, answered, run_body, run_method, calls_with}
use Rattle.sed_engine.proofs.Below.{no, at_place}
use Rattle.sed_engine.proofs.CallSteps.{CallsSound, weaker}
use Rattle.sed_engine.proofs.Frames.{FrameHas, local_has, frame_runs}
use Rattle.sed_engine.proofs.Kinded.{HasKind, goes, truth_is, whole_int, zero_is}
use Rattle.sed_engine.proofs.Ranges.{Sound}
use Rattle.sed_engine.proofs.Ready.{Fitting, Ready, Frame, Holds, then_holds, gives_it, answers_it, chooses, turn_holds, write_local_holds}
use Rattle.sed_engine.proofs.Spots.{Concrete}
use Rattle.sed_engine.proofs.TypedRuns.{of_expr}

module _ (program : Program) (typed : Typed program) (class : ℕ) (component : Concrete program class) (m : Frame) (calls : Calls) (sound : CallsSound program class calls) (result : Kind) where
  abbrev pub G : State → Type 0
  G s = Ready program class m.own m.static m.locals s

  abbrev Has : Kind → Val → Type 0
  Has k v = HasKind program class k v

  abbrev w : Setting
  w = record { program = program; class = class; calls = calls }

  abbrev c : Context
  c = record { program = program; class = m.own.0; is_static = m.static; locals = m.locals; result = result }

  -- how a statement may end where it stands
  abbrev pub FlowHas : Around → Flow → Type 0
  FlowHas around Next = Unit {0}
  FlowHas around Break = around.breaks ≡ true
  FlowHas around Continue = around.continues ≡ true
  FlowHas around (Return v) = Has result v

  abbrev RoundHas : Round → Type 0
  RoundHas Again = Unit {0}
  RoundHas Over = Unit {0}
  RoundHas (Answer v) = Has result v

  abbrev Ends : Around → (State → End Flow) → Type 0
  Ends around f = Holds G Flow (FlowHas around) f

  data AllEnd (around : Around) : List (State → End Flow) → Type 0 where
    NoneEnds : AllEnd around []
    OneEnds : (f : State → End Flow) (fs : List (State → End Flow)) → Ends around f → AllEnd around fs → AllEnd around (f ∷ fs)

  follows_holds : (around : Around) (flow : Flow) (f : State → End Flow) → FlowHas around flow → Ends around f → Ends around (follows flow f)
  follows_holds around Next f h one = one
  follows_holds around Break f h one = gives_it Break h
  follows_holds around Continue f h one = gives_it Continue h
  follows_holds around (Return v) f h one = gives_it (Return v) h

  order_holds : (around : Around) (fs : List (State → End Flow)) → AllEnd around fs → Ends around (in_order fs)
  order_holds around [] all = gives_it Next tt
  order_holds around (f ∷ fs) (OneEnds g gs one rest) = then_holds one (λ flow h. follows_holds around flow (in_order fs) h (order_holds around fs rest))

  drop_holds : (around : Around) (n : ℕ) (fs : List (State → End Flow)) → AllEnd around fs → AllEnd around (drop n fs)
  drop_holds around zero fs all = all
  drop_holds around (suc n) [] all = all
  drop_holds around (suc n) (f ∷ fs) (OneEnds g gs one rest) = drop_holds around n fs rest

  body_holds : (flow : Flow) (f : State → End Round) → FlowHas in_loop flow → Holds G Round RoundHas f → Holds G Round RoundHas (after_body flow f)
  body_holds Next f h one = one
  body_holds Continue f h one = one
  body_holds Break f h one = gives_it Over tt
  body_holds (Return v) f h one = gives_it (Answer v) h

  round_holds : {test last : State → End Val} {body : State → End Flow} → Holds G Val (Has kind.Bool) test → Ends in_loop body → Holds G Val (λ _. Unit {0}) last → Holds G Round RoundHas (round test body last)
  round_holds t b l =
      then_holds t (λ v h. chooses program class v h
      (then_holds (turn_holds program typed class component m) (λ _ _. then_holds b (λ flow hf. body_holds flow _ hf (then_holds l (λ _ _. gives_it Again tt)))))
      (gives_it Over tt))

  do_round_holds : {test : State → End Val} {body : State → End Flow} → Ends in_loop body → Holds G Val (Has kind.Bool) test → Holds G Round RoundHas (do_round body test)
  do_round_holds b t =
      then_holds (turn_holds program typed class component m) (λ _ _. then_holds b (λ flow hf. body_holds flow _ hf (then_holds t (λ v h. chooses program class v h (gives_it Again tt) (gives_it Over tt)))))

  after_round_holds : (around : Around) (r : Round) (f : State → End Flow) → RoundHas r → Ends around f → Ends around (after_round r f)
  after_round_holds around Again f h one = one
  after_round_holds around Over f h one = gives_it Next tt
  after_round_holds around (Answer v) f h one = gives_it (Return v) h

  loop_holds : (around : Around) {one : State → End Round} → Holds G Round RoundHas one → (n : ℕ) → Ends around (loop one n)
  unfolding loop
  loop_holds around one zero = answers_it (Err (Traps TurnsSpent)) tt
  loop_holds around {one = f} one (suc n) = then_holds one (λ r h. after_round_holds around r (loop f n) h (loop_holds around one n))

  rounds_hold : (around : Around) {one : State → End Round} → Holds G Round RoundHas one → Ends around (rounds one)
  rounds_hold around one = record { holds = λ s g. (loop_holds around one (suc s.shared.turns)).holds s g }

  leaves_is : (around : Around) (flow : Flow) → FlowHas (in_switch around) flow → FlowHas around (leaves flow)
  leaves_is around Next h = tt
  leaves_is around Break h = tt
  leaves_is around Continue h = h
  leaves_is around (Return v) h = h

  of_test : (o : Option Expr) → IsTest c o → Holds G Val (Has kind.Bool) (eval_or w (truth true) o)
  of_test None t = gives_it (truth true) (truth_is program class true)
  of_test (Some e) t = subst (λ k. Holds G Val (Has k) (eval w e)) t.1 (of_expr program typed class component m calls sound result e t.0)

  of_last : (o : Option Expr) → IsLast c o → Holds G Val (λ _. Unit {0}) (eval_or w Nothing o)
  of_last None t = gives_it Nothing tt
  of_last (Some e) t = weaker (of_expr program typed class component m calls sound result e t) (λ _ _. tt)

  of_begun : (k : Kind) (o : Option Expr) → IsBegun c k o → Holds G Val (Has k) (eval_or w (zero_of k) o)
  of_begun k None t = gives_it (zero_of k) (zero_is program class k)
  of_begun k (Some e) t = weaker (of_expr program typed class component m calls sound result e t.0) (λ v h. goes program class (kind_of e) k v t.1 h)

  of_returned : (o : Option Expr) → IsReturned c o → Holds G Val (Has result) (eval_or w Nothing o)
  of_returned None t = gives_it Nothing (subst (λ k. Has k Nothing) (sym t) tt)
  of_returned (Some e) t = weaker (of_expr program typed class component m calls sound result e t.0) (λ v h. goes program class (kind_of e) result v t.1 h)

  mutual
    pub of_stmt : (x : Stmt) (around : Around) → IsStmt c around x → Ends around (exec w x)
    of_stmt stmt.Empty around t = gives_it Next tt
    of_stmt (stmt.Do e) around t = then_holds (of_expr program typed class component m calls sound result e t) (λ _ _. gives_it Next tt)
    of_stmt (stmt.Local k i e) around t = then_holds (of_begun k e t.1) (λ v h. then_holds (write_local_holds program typed class component m i k v t.0 h) (λ _ _. gives_it Next tt))
    of_stmt (stmt.Block' shape all) around t = order_holds around (execs w all) (of_stmts all around t)
    of_stmt (stmt.If' e p a q b) around t =
        then_holds (of_expr program typed class component m calls sound result e t.0.0) (λ v h. chooses program class v (subst (λ k. Has k v) t.0.1 h) (of_stmt a around t.1) (of_stmt b around t.2))
    of_stmt (stmt.While' e p body) around t = rounds_hold around (round_holds (of_test (Some e) t.0) (of_stmt body in_loop t.1) (gives_it Nothing tt))
    of_stmt (stmt.DoWhile' p body e) around t = rounds_hold around (do_round_holds (of_stmt body in_loop t.0) (of_test (Some e) t.1))
    of_stmt (stmt.For' p first e last q body) around t =
        then_holds (of_stmt first around t.1) (λ flow h. follows_holds around flow _ h (rounds_hold around (round_holds (of_test e t.2) (of_stmt body in_loop t.4) (of_last last t.3))))
    of_stmt (stmt.Switch' e labels shape all) around t =
        then_holds (of_expr program typed class component m calls sound result e t.0) (λ v h.
        then_holds (answers_it (whole width.Int v) (whole_int program class v (subst (λ k. Has k v) t.1 h))) (λ n _.
        then_holds (order_holds (in_switch around) _ (drop_holds (in_switch around) (label_of labels.items n) (execs w all) (of_stmts all (in_switch around) t.4))) (λ flow hf.
        gives_it (leaves flow) (leaves_is around flow hf))))
    of_stmt stmt.Break around t = gives_it Break t
    of_stmt stmt.Continue around t = gives_it Continue t
    of_stmt (stmt.Return e) around t = then_holds (of_returned e t) (λ v h. gives_it (Return v) h)

    of_stmts : {n : _} (xs : Row_of-Stmt n) (around : Around) → AreStmts c around xs → AllEnd around (execs w xs)
    of_stmts end_of-Stmt around t = NoneEnds
    of_stmts (more_of-Stmt x xs) around t = OneEnds (exec w x) (execs w xs) (of_stmt x around t.0) (of_stmts xs around t.1)

-- ---- methods

-- how the body of a method may end: not by a break
abbrev FlowAlone : Program → ℕ → Kind → Flow → Type 0
FlowAlone program class k Next = Unit {0}
FlowAlone program class k Break = false ≡ true
FlowAlone program class k Continue = false ≡ true
FlowAlone program class k (Return v) = HasKind program class k v

abbrev alone : Around
alone = record { breaks = false; continues = false }

-- the kinds of what a method's body declares
abbrev others : Method → List Kind
others x = map (λ (d : Declared). d.kind) (declared_by x)

-- the frame of a method
abbrev frame_for : Method → Frame
frame_for x = record { own = x.class; static = x.is_static; locals = locals_of x; first = first }
  where
    first : x.is_static ≡ false → slice_get (locals_of x) 0 ≡ Some (kind.Object x.class)
    first instance = ap (λ (static : Bool). slice_get ((if static then [] else kind.Object x.class ∷ []) ++ x.params ++ others x) 0) instance

answer_is : (program : Program) (class : ℕ) (k : Kind) (flow : Flow) → FlowAlone program class k flow → Sound (HasKind program class k) (answer_of k flow)
answer_is program class k Next h = zero_is program class k
answer_is program class k Break h = no h
answer_is program class k Continue h = no h
answer_is program class k (Return v) h = h

answered_is : (program : Program) (class : ℕ) (k : Kind) (r : Result Flow Stop) → Sound (FlowAlone program class k) r → Sound (HasKind program class k) (answered k r)
answered_is program class k (Ok flow) h = answer_is program class k flow h
answered_is program class k (Err (Traps t)) h = tt
answered_is program class k (Err Untyped) h = h

receiver_few : (x : Method) → length (receiver_of x) ≤ 1
receiver_few x = go x.is_static
  where
    go : (b : Bool) → length (if b then [] else kind.Object x.class ∷ []) ≤ 1
    go true = omega arith
    go false = omega arith

module _ (program : Program) (typed : Typed program) (class : ℕ) (component : Concrete program class) (calls : Calls) (sound : CallsSound program class calls) where
  abbrev within : Setting
  within = record { program = program; class = class; calls = calls }

  begins : (x : Method) (b : Stmt) (is : IsBody program x b) (frame : List Val) (s : Shared) → FrameHas program class (receiver_of x ++ x.params) frame → length frame ≡ 65 → Fitting program class s →
      Ready program class x.class x.is_static (locals_of x) (record { shared = s; locals = frame })
  begins x b is frame s h long fitting =
      let parts : length (locals_of x) ≡ length (receiver_of x ++ x.params) + length (others x) = length-append (receiver_of x ++ x.params) (others x) in
      let front : length (receiver_of x ++ x.params) ≡ length (receiver_of x) + length x.params = length-append (receiver_of x) x.params in
      let each : length (others x) ≡ length (declared_by x) = length-map (declared_by x) (λ (d : Declared). d.kind) in
      let one : length (receiver_of x) ≤ 1 = receiver_few x in
      let few : length x.params + length (declared_by x) ≤ 64 = is.most_locals in
      record {
        fitting = fitting;
        holds = frame_runs program class (receiver_of x ++ x.params) (others x) frame h (omega (arith, long, parts, front, each, one, few));
        this = λ instance. local_has program class (receiver_of x ++ x.params) frame 0 (kind.Object x.class) h (ap (λ (static : Bool). slice_get ((if static then [] else kind.Object x.class ∷ []) ++ x.params) 0) instance);
      }

  body_sound : (x : Method) (o : Option Stmt) (frame : List Val) (s : Shared) → IfSome o (IsBody program x) → (o ≡ None → ⊥) → FrameHas program class (receiver_of x ++ x.params) frame → length frame ≡ 65 → Fitting program class s →
      Fitting program class (run_body within x.result o frame s).shared × Sound (HasKind program class x.result) (run_body within x.result o frame s).result
  body_sound x None frame s is some h long fitting = absurd (some refl)
  body_sound x (Some b) frame s is some h long fitting =
      let run = (of_stmt program typed class component (frame_for x) calls sound x.result b alone is.typed).holds (record { shared = s; locals = frame }) (begins x b is frame s h long fitting) in
      (run.0.fitting, answered_is program class x.result (exec within b (record { shared = s; locals = frame })).result run.1)

-- calls of typed methods are sound, with however many frames left
pub calls_sound : (program : Program) → Typed program → (class : ℕ) → Concrete program class → (frames : ℕ) → CallsSound program class (calls_with program class frames)
unfolding calls_with
calls_sound program typed class component zero = record { sound = λ n x frame s e some h long fitting. (fitting, tt) }
calls_sound program typed class component (suc frames) = record {
  sound = λ n x frame s e some h long fitting.
      let w : Setting = record { program = program; class = class; calls = calls_with program class frames } in
      subst (λ (o : Option Method). Fitting program class (run_method w o frame s).shared × Sound (HasKind program class x.result) (run_method w o frame s).result) (sym e)
      (body_sound program typed class component (calls_with program class frames) (calls_sound program typed class component frames) x x.body frame s (at_place (IsMethod program) program.methods n x typed.methods e).body some h long fitting);
}
