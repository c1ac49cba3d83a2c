-- The machine follows the source: statements.
use Rattle.std.proofs.Common.{◌≡◌, ℕ, ℤ, ◌+◌, ◌==◌, zero, suc, Bool, true, false, if◌then◌else◌, List, [], ◌∷◌, ◌++◌, drop, length, Option, Some, None, slice_set, refl, sym, ap, subst, arith, eqb-true}
use mathlib.Core.Former.{Count}
use Rattle.sed_value.specs.declared.slot_type.Primitive.TheVariants as prim
use Rattle.sed_typed.specs.declared.kind.Kind.{Kind}
use Rattle.sed_typed.specs.declared.kind.Kind.TheVariants as kind
use Rattle.sed_typed.specs.declared.operators.Width.TheVariants as width
use Rattle.sed_typed.specs.declared.program.Program.{Program}
use Rattle.sed_typed.specs.declared.statement.Label.{Label}
use Rattle.sed_typed.specs.declared.statement.Label.TheVariants.{Case, Default}
use Rattle.sed_typed.specs.declared.statement.Stmt.{Stmt, Row_of-Stmt, end_of-Stmt, more_of-Stmt}
use Rattle.sed_typed.specs.declared.statement.Stmt.TheVariants as stmt
use Rattle.sed_typed.specs.declared.tree.Expr.{Expr}
use Rattle.sed_typed.specs.Kinds.{kind_of}
use Rattle.sed_typed.specs.TypedExpr.{Context, IsExpr}
use Rattle.sed_typed.specs.TypedStmt.{Around, in_loop, in_switch, IsStmt, AreStmts, IsTest, IsLast, IsBegun}
use Rattle.sed_engine.specs.Expressions.{Setting as Source, Calls, eval}
use Rattle.sed_engine.specs.Statements.{Flow, Next, Break, Continue, Return, follows, in_order, Round, Again, Over as Ended, Answer, after_body, round, do_round, rounds, label_of, leaves, is_case, eval_or, exec, execs}
use Rattle.sed_engine.specs.State.{Shared, State, End, gives, answers, then_do}
use Rattle.sed_engine.specs.Steps.{choose}
use Rattle.sed_engine.specs.Values.{Val, Nothing, Truth, Int, Long, Null, At, Literal, truth, whole, zero_of}
use Rattle.sed_engine.proofs.CallSteps.{CallsSound, weaker}
use Rattle.sed_engine.proofs.Kinded.{HasKind, goes, truth_is, zero_is}
use Rattle.sed_engine.proofs.Ready.{Holds, gives_it, then_holds, chooses, turn_holds, write_local_holds}
use Rattle.sed_engine.proofs.TypedBodies.{of_stmt, FlowHas}
use Rattle.sed_engine.proofs.TypedRuns.{of_expr}
use Rattle.scode_ops.specs.declared.op.Op.{Op}
use Rattle.scode_ops.specs.declared.op.Op.TheVariants as op
use Rattle.scode_ops.specs.Decoding.{size_of}
use Rattle.scode_image.specs.declared.image.Image.{Image}
use Rattle.scode_code.specs.Effect.{push}
use Rattle.scode_code.specs.Fields.{Setting}
use Rattle.scode_code.specs.Machine.{Point, Goto, Leave}
use Rattle.scode_code.specs.Steps.{effect, instruction_at}
use Rattle.scode_emit.specs.Site.{Site, Layout, waiting}
use Rattle.scode_emit.specs.Instructions.{zero_op, zero_size}
use Rattle.scode_emit.specs.Sizes.{expr_size, begin_size, test_size, last_size, over_size, tests_size, stmt_size, stmts_size}
use Rattle.scode_emit.specs.Code.{expr_code, begin_code, test_code, last_code, over_code, begins, first_of, tests_code, default_place, stmt_code, stmts_code}
use Rattle.scode_emit.proofs.Counts.{count, zero_sized}
use Rattle.scode_emit.proofs.Sized.{expr_sized, drop_sized, stmt_sized}
use Rattle.scode_sim.proofs.Apart.{state}
use Rattle.scode_sim.proofs.CallSims.{CallsFollowed}
use Rattle.scode_sim.proofs.Callees.{goes_solid}
use Rattle.scode_sim.proofs.Comes.{Comes, here}
use Rattle.scode_sim.proofs.Context.{Known, Body, running, site, machine, source, runs}
use Rattle.scode_sim.proofs.Drops.{drop_sim}
use Rattle.scode_sim.proofs.Expressions.{expr_sim}
use Rattle.scode_sim.proofs.Follows.{Ends, point, Stands, Pushed, not_void, HasAt, at_place, has_front, has_back, by_op_to, by_store, Sim, Goes, from_stands, then_sim, cell_then, extend, none_sim}
use Rattle.scode_sim.proofs.Frames.{Running, Agree, IsCell, IsSolid, there_is, get_set}
use Rattle.scode_sim.proofs.Leaves.{constant_sim, jump_stands}
use Rattle.scode_sim.proofs.Links.{choose_bool, until_bool}
use Rattle.scode_sim.proofs.Loops.{Landed, Within, Rounded, turn_sim, body_sim, rounds_sim}
use Rattle.scode_sim.proofs.NamedReads.{store_sim}
use Rattle.scode_sim.proofs.Stores.{cell_of_kind}
use Rattle.scode_sim.proofs.Switches.{tests_come, label_place, place_of, found}
use Rattle.scode_sim.proofs.Waiting.{wait_stays, wait_there}

module _ (program : Program) (layout : Layout) (image : Image) (class : ℕ) (known : Known program layout image class) (b : Body) (calls : Calls) (sound : CallsSound program class calls) (result : Kind) (frames : ℕ) (followed : CallsFollowed program image class frames calls) (deep : suc (length b.below) + frames ≡ 32) where
  abbrev w : Setting
  w = machine image class

  abbrev x : Running
  x = running b

  abbrev S : Site
  S = site program layout b

  abbrev G : State → Type 0
  G s = runs program class b s

  abbrev Has : Kind → Val → Type 0
  Has k v = HasKind program class k v

  abbrev L : Source
  L = source program class calls

  abbrev c : Context
  c = record { program = program; class = b.frame.own.0; is_static = b.frame.static; locals = b.frame.locals; result = result }

  abbrev holds : (e : Expr) → IsExpr c e → Holds G Val (Has (kind_of e)) (eval L e)
  holds e t = of_expr program known.typed class known.component b.frame calls sound result e t

  abbrev EndsAs : Around → Flow → Type 0
  EndsAs around flow = FlowHas program known.typed class known.component b.frame calls sound result around flow

  abbrev stmt_holds : (s : Stmt) (around : Around) → IsStmt c around s → Holds G Flow (EndsAs around) (exec L s)
  stmt_holds s around t = of_stmt program known.typed class known.component b.frame calls sound result s around t

  abbrev Lands : ℕ → ℕ → ℕ → ℕ → Flow → State → Point → Type 0
  Lands n next out on = Landed program layout image class known b result n next out on

  cells : (k : Kind) → IsSolid k → (v : Val) → Has k v → IsCell v
  cells k solid v h = cell_of_kind program class k v solid h

  e_sim : (n at : ℕ) (st : List Val) (e : Expr) → IsExpr c e → HasAt w x.method at (expr_code S at e) → Sim w G x n Val (eval L e) at st (Pushed x n (kind_of e) (at + expr_size S e) st)
  e_sim n at st e t has = expr_sim program layout image class known b calls sound result frames followed deep n at st e t has

  to_next : {n : ℕ} {f : State → End Flow} {place next : ℕ} (last out on : ℕ) → next ≡ last → Sim w G x n Flow f place [] (Lands n next out on) → Sim w G x n Flow f place [] (Lands n last out on)
  to_next {n} {f} {place} {next} last out on e sim = subst (λ p. Sim w G x n Flow f place [] (Lands n p out on)) e sim

  -- ---- parts that may be missing

  test_holds : (o : Option Expr) → IsTest c o → Holds G Val (Has kind.Bool) (eval_or L (truth true) o)
  test_holds None t = gives_it (truth true) (truth_is program class true)
  test_holds (Some e) t = subst (λ k. Holds G Val (Has k) (eval L e)) t.1 (holds e t.0)

  test_sim : (n at : ℕ) (o : Option Expr) → IsTest c o → HasAt w x.method at (test_code S at o) → Sim w G x n Val (eval_or L (truth true) o) at [] (Pushed x n kind.Bool (at + test_size S o) [])
  test_sim n at None t has = constant_sim w G x n kind.Bool (truth true) at (at + 2) (op.Bool 1) [] has.0 refl tt (λ s. refl)
  test_sim n at (Some e) t has = subst (λ k. Sim w G x n Val (eval L e) at [] (Pushed x n k (at + expr_size S e) [])) t.1 (e_sim n at [] e t.0 has)

  test_sized : (at : ℕ) (o : Option Expr) → count (test_code S at o) ≡ test_size S o
  test_sized at None = refl
  test_sized at (Some e) = expr_sized S at e

  last_holds : (o : Option Expr) → IsLast c o → Holds G Val (λ _. Unit {0}) (eval_or L Nothing o)
  last_holds None t = gives_it Nothing tt
  last_holds (Some e) t = weaker (holds e t) (λ _ _. tt)

  last_sim : (n at : ℕ) (o : Option Expr) → IsLast c o → HasAt w x.method at (last_code S at o) → Sim w G x n Val (eval_or L Nothing o) at [] (λ v s q. Stands x n (at + last_size S o) [] s q)
  last_sim n at None t has = let e : at ≡ at + 0 = omega arith in none_sim w G (λ s q stands. subst (λ p. Stands x n p [] s q) e stands)
  last_sim n at (Some e) t has = drop_sim program layout image class known b calls sound result frames followed deep n at [] e t has

  last_sized : (at : ℕ) (o : Option Expr) → count (last_code S at o) ≡ last_size S o
  last_sized at None = refl
  last_sized at (Some e) = drop_sized S at e

  begun_holds : (k : Kind) (o : Option Expr) → IsBegun c k o → Holds G Val (Has k) (eval_or L (zero_of k) o)
  begun_holds k None t = gives_it (zero_of k) (zero_is program class k)
  begun_holds k (Some e) t = weaker (holds e t.0) (λ v h. goes program class (kind_of e) k v t.1 h)

  zero_effect : (k : Kind) → IsSolid k → (st : List Val) (s : State) → effect w (zero_op k) st s ≡ push st (gives (zero_of k) s)
  zero_effect kind.Void solid st s = absurd solid
  zero_effect kind.Bool solid st s = refl
  zero_effect kind.Int solid st s = refl
  zero_effect kind.Long solid st s = refl
  zero_effect kind.Text solid st s = refl
  zero_effect (kind.Object d) solid st s = refl

  pub zero_sim : (n at : ℕ) (k : Kind) → IsSolid k → instruction_at image x.method at ≡ Some (zero_op k) → Sim w G x n Val (gives (zero_of k)) at [] (Pushed x n k (at + zero_size k) [])
  zero_sim n at k solid has = constant_sim w G x n k (zero_of k) at (at + zero_size k) (zero_op k) [] has (ap (λ m. at + m) (zero_sized k)) solid (zero_effect k solid [])

  begin_sim : (n at : ℕ) (k : Kind) (o : Option Expr) → IsSolid k → IsBegun c k o → HasAt w x.method at (begin_code S at k o) → Sim w G x n Val (eval_or L (zero_of k) o) at [] (Pushed x n k (at + begin_size S k o) [])
  begin_sim n at k None solid t has = zero_sim n at k solid has.0
  begin_sim n at k (Some e) solid t has = extend w G (e_sim n at [] e t.0 has) (λ v s q h. here (record { void = not_void k v solid; stands = h.stands }))

  begin_sized : (at : ℕ) (k : Kind) (o : Option Expr) → count (begin_code S at k o) ≡ begin_size S k o
  begin_sized at k None = let z = zero_sized k in omega (arith, z)
  begin_sized at k (Some e) = expr_sized S at e

  -- ---- one statement after the other

  follow_goes : (P : Flow → Type 0) (n mid last out on : ℕ) (f : State → End Flow) → Sim w G x n Flow f mid [] (Lands n last out on) → Goes w G Flow Flow P (Lands n mid out on) (λ flow s. follows flow f s) (Lands n last out on)
  follow_goes P n mid last out on f sim = record { each = λ flow p s q g l. go flow s q g l }
    where
      go : (flow : Flow) (s : State) (q : Point) → G s → Lands n mid out on flow s q → Comes w q (Ends (Lands n last out on) (follows flow f s).result (follows flow f s).state)
      go Next s q g l = from_stands w G sim s q g l
      go Break s q g l = here l
      go Continue s q g l = here l
      go (Return v) s q g l = here l

  -- a jump over what follows, where anything does
  over_landed : (n m place out on : ℕ) → HasAt w x.method place (over_code m (place + over_size m + m)) → (flow : Flow) (s : State) (q : Point) → Lands n place out on flow s q → Comes w q (Lands n (place + over_size m + m) out on flow s)
  over_landed n m place out on has Next s q l = go (m == 0) refl has
    where
      none : (m : ℕ) → (m == 0) ≡ true → place ≡ place + (if m == 0 then 0 else 3) + m
      none m e = let z : m ≡ 0 = eqb-true m 0 e in let y : over_size m ≡ 0 = ap (λ (c : Bool). if c then 0 else 3) e in omega (arith, z, y)

      go : (c : Bool) → (m == 0) ≡ c → HasAt w x.method place (if m == 0 then [] else op.Jump (place + over_size m + m) ∷ []) → Comes w q (Stands x n (place + over_size m + m) [] s)
      go true e has = here (subst (λ p. Stands x n p [] s q) (none m e) l)
      go false e has =
          let code : HasAt w x.method place (op.Jump (place + over_size m + m) ∷ []) = subst (λ (c : Bool). HasAt w x.method place (if c then [] else op.Jump (place + over_size m + m) ∷ [])) e has in
          jump_stands w G place (place + over_size m + m) code.0 l
  over_landed n m place out on has Break s q l = here l
  over_landed n m place out on has Continue s q l = here l
  over_landed n m place out on has (Return v) s q l = here l

  over_sized : (m to : ℕ) → count (over_code m to) ≡ over_size m
  over_sized m to = go (m == 0)
    where
      go : (c : Bool) → count (if c then [] else op.Jump to ∷ []) ≡ (if c then 0 else 3)
      go true = refl
      go false = refl

  -- ---- rounds

  abbrev RoundHas : Round → Type 0
  RoundHas Again = Unit {0}
  RoundHas Ended = Unit {0}
  RoundHas (Answer v) = Has result v

  rest_holds : (flow : Flow) (f : State → End Round) → EndsAs in_loop flow → Holds G Round RoundHas f → Holds G Round RoundHas (after_body flow f)
  rest_holds Next f h one = one
  rest_holds Continue f h one = one
  rest_holds Break f h one = gives_it Ended tt
  rest_holds (Return v) f h one = gives_it (Answer v) h

  round_holds : {test last : State → End Val} {body : State → End Flow} → Holds G Val (Has kind.Bool) test → Holds G Flow (EndsAs in_loop) body → Holds G Val (λ _. Unit {0}) last → Holds G Round RoundHas (round test body last)
  round_holds t bd l =
      then_holds t (λ v h. chooses program class v h
      (then_holds (turn_holds program known.typed class known.component b.frame) (λ _ _. then_holds bd (λ flow hf. rest_holds flow _ hf (then_holds l (λ _ _. gives_it Again tt)))))
      (gives_it Ended tt))

  do_round_holds : {test : State → End Val} {body : State → End Flow} → Holds G Flow (EndsAs in_loop) body → Holds G Val (Has kind.Bool) test → Holds G Round RoundHas (do_round body test)
  do_round_holds bd t =
      then_holds (turn_holds program known.typed class known.component b.frame) (λ _ _. then_holds bd (λ flow hf. rest_holds flow _ hf (then_holds t (λ v h. chooses program class v h (gives_it Again tt) (gives_it Ended tt)))))

  abbrev In : ℕ → ℕ → ℕ → Round → State → Point → Type 0
  In m start end = Within program layout image class known b result m start end

  abbrev Rounds : ℕ → ℕ → ℕ → Round → State → Point → Type 0
  Rounds n start end = Rounded program layout image class known b result n start end

  -- a round that begins with its test
  round_sim : (n test place end step : ℕ) (o : Option Expr) (last : State → End Val) (body : State → End Flow) (around : Flow → Type 0) → IsTest c o → Holds G Flow around body → Holds G Val (λ _. Unit {0}) last →
      ((m : ℕ) → Sim w G x m Val (eval_or L (truth true) o) test [] (Pushed x m kind.Bool end [])) → instruction_at image x.method end ≡ Some (op.JumpTrue place) → instruction_at image x.method place ≡ Some op.Turn →
      ((m : ℕ) → Sim w G x m Flow body (place + 1) [] (Lands m step (end + 3) step)) → ((m : ℕ) → Sim w G x m Val last step [] (λ v s q. Stands x m test [] s q)) →
      Sim w G x n Round (round (eval_or L (truth true) o) body last) test [] (Rounds n test (end + 3))
  round_sim n test place end step o last body around t hb hl tests jump turn bodies lasts =
      cell_then w G (tests n) (test_holds o t) (cells kind.Bool tt)
      (λ v h. until_bool program layout image class known b end place v [] h jump
      (turn_sim program layout image class known b result n place test (end + 3) (λ s3. then_do (body s3) (λ flow s4. after_body flow (λ s5. then_do (last s5) (λ _ s6. gives Again s6)) s4)) turn
      (λ m. body_sim program layout image class known b result m step test (end + 3) (λ s5. then_do (last s5) (λ _ s6. gives Again s6)) (bodies m) hb
      (then_sim w G (lasts m) hl (record { each = λ v p s q g stands. here stands }))))
      (none_sim w G (λ s q stands. stands)))

  -- ---- `switch`

  tests_sized : (local end : ℕ) (labels : List Label) (places : List ℕ) → count (tests_code local end labels places) ≡ tests_size labels
  tests_sized local end [] places = refl
  tests_sized local end (Case m ∷ labels) places = let z = tests_sized local end labels (drop 1 places) in omega (arith, z)
  tests_sized local end (Default ∷ labels) places = tests_sized local end labels (drop 1 places)

  in_rest : (flow : Flow) (n end out on : ℕ) (s : State) (q : Point) → Lands n end end on flow s q → Lands n end out on (leaves flow) s q
  in_rest Next n end out on s q l = l
  in_rest Break n end out on s q l = l
  in_rest Continue n end out on s q l = l
  in_rest (Return v) n end out on s q l = l

  -- the value waits, and the tests find where the code goes on
  select_comes : (at end first : ℕ) (z : ℤ) (labels : List Label) (places : List ℕ) (ms vs : List Val) (sh : Shared) (Q : Point → Type 0) → Agree x vs ms → first ≡ at + 2 + tests_size labels + 3 →
      HasAt w x.method at (op.Store (waiting S prim.Int) ∷ (tests_code (waiting S prim.Int) end labels places ++ op.Jump (default_place end labels places) ∷ [])) →
      ((ms : List Val) → Agree x vs ms → Comes w (point x (first_of end (drop (label_of labels z) places)) ms [] sh) Q) → Comes w (point x at ms (Int z ∷ []) sh) Q
  select_comes at end first z labels places ms vs sh Q a size has go =
      let i = waiting S prim.Int in
      let lt = wait_there x vs ms i (let y : i ≡ length x.kinds + 1 = refl in omega (arith, y)) a in
      let old = there_is ms i lt in
      let ms1 = slice_set ms i (Int z) in
      let a1 = wait_stays x vs ms i (Int z) (let y : i ≡ length x.kinds + 1 = refl in omega (arith, y)) a in
      let tests = tests_code i end labels places in
      let jump = has_back w x.method (at + 2) (tests_size labels) tests (op.Jump (default_place end labels places) ∷ []) (tests_sized i end labels places) has.1 in
      by_store w x at i old.0 (Int z) [] ms sh Q has.0 old.1
      (tests_come w x (at + 2) i end z labels places ms1 sh Q (get_set ms i (Int z) lt) (has_front w x.method (at + 2) tests (op.Jump (default_place end labels places) ∷ []) has.1)
      (arrive (found (is_case z) labels) (label_place end labels places z) ms1 (at + 2 + tests_size labels) jump.0 (go ms1 a1)))
    where
      arrive : (o : Option ℕ) → place_of end places o (default_place end labels places) ≡ first_of end (drop (label_of labels z) places) → (ms : List Val) (jump : ℕ) → instruction_at image x.method jump ≡ Some (op.Jump (default_place end labels places)) →
          Comes w (point x (first_of end (drop (label_of labels z) places)) ms [] sh) Q → Comes w (point x (place_of end places o jump) ms [] sh) Q
      arrive None e ms jump at_jump go =
          by_op_to w x jump (jump + 3) (op.Jump (default_place end labels places)) [] ms sh (gives (Goto (default_place end labels places) []) (state sh ms)) Q at_jump refl refl
          (subst (λ p. Comes w (point x p ms [] sh) Q) (sym e) go)
      arrive (Some j) e ms jump at_jump go = subst (λ p. Comes w (point x p ms [] sh) Q) (sym e) go

  joined : (at : ℕ) (tests : List Op) (jump : Op) (body : List Op) → HasAt w x.method at (tests ++ jump ∷ body) → HasAt w x.method at (tests ++ jump ∷ [])
  joined at [] jump body has = (has.0, tt)
  joined at (i ∷ is) jump body has = (has.0, joined (at + size_of i) is jump body has.1)

  -- the value of a `switch` is an int
  selected : {n : ℕ} {f : ℤ → State → End Flow} {Q : Flow → State → Point → Type 0} {at : ℕ} (v : Val) → Has kind.Int v → ((z : ℤ) → Sim w G x n Flow (f z) at (Int z ∷ []) Q) →
      Sim w G x n Flow (λ s. then_do (answers (whole width.Int v) s) (λ z s2. f z s2)) at (v ∷ []) Q
  selected (Int z) h each = each z
  selected Nothing h each = absurd h
  selected (Truth t) h each = absurd h
  selected (Long m) h each = absurd h
  selected Null h each = absurd h
  selected (At spot) h each = absurd h
  selected (Literal m) h each = absurd h

  solid_result : (result ≡ kind.Void → ⊥) → IsSolid result
  solid_result never = go result never
    where
      go : (k : Kind) → (k ≡ kind.Void → ⊥) → IsSolid k
      go kind.Void never = never refl
      go kind.Bool never = tt
      go kind.Int never = tt
      go kind.Long never = tt
      go kind.Text never = tt
      go (kind.Object d) never = tt

  -- ---- what statements in their order keep

  order_holds : {count : Count} (row : Row_of-Stmt count) (around : Around) → AreStmts c around row → Holds G Flow (EndsAs around) (in_order (execs L row))
  order_holds end_of-Stmt around t = gives_it Next tt
  order_holds (more_of-Stmt s ss) around t = then_holds (stmt_holds s around t.0) (λ flow h. follows_hold around flow (in_order (execs L ss)) h (order_holds ss around t.1))
    where
      follows_hold : (around : Around) (flow : Flow) (f : State → End Flow) → EndsAs around flow → Holds G Flow (EndsAs around) f → Holds G Flow (EndsAs around) (follows flow f)
      follows_hold around Next f h one = one
      follows_hold around Break f h one = gives_it Break h
      follows_hold around Continue f h one = gives_it Continue h
      follows_hold around (Return v) f h one = gives_it (Return v) h

  rows_hold : {count : Count} (j : ℕ) (row : Row_of-Stmt count) (around : Around) → AreStmts c around row → Holds G Flow (EndsAs around) (in_order (drop j (execs L row)))
  rows_hold zero row around t = order_holds row around t
  rows_hold (suc j) end_of-Stmt around t = gives_it Next tt
  rows_hold (suc j) (more_of-Stmt s ss) around t = rows_hold j ss around t.1

  mutual
    pub stmt_sim : (n at out on : ℕ) (s : Stmt) (around : Around) → IsStmt c around s → HasAt w x.method at (stmt_code S at out on s) → Sim w G x n Flow (exec L s) at [] (Lands n (at + stmt_size S s) out on)
    stmt_sim n at out on stmt.Empty around t has = let e : at ≡ at + 0 = omega arith in to_next (at + 0) out on e (none_sim w G (λ s q stands. stands))
    stmt_sim n at out on (stmt.Do e) around t has =
        then_sim w G (drop_sim program layout image class known b calls sound result frames followed deep n at [] e t has) (holds e t) (record { each = λ v h s q g stands. here stands })
    stmt_sim n at out on (stmt.Local k i o) around t has =
        let q = at + begin_size S k o in
        let solid = b.solid i k t.0 in
        let tail = has_back w x.method at (begin_size S k o) (begin_code S at k o) (op.Store i ∷ []) (begin_sized at k o) has in
        let end : q + 2 ≡ at + (begin_size S k o + 2) = omega arith in
        to_next (at + (begin_size S k o + 2)) out on end
        (cell_then w G (begin_sim n at k o solid t.1 (has_front w x.method at (begin_code S at k o) (op.Store i ∷ []) has)) (begun_holds k o t.1) (cells k solid)
        (λ v h. then_sim w G (store_sim program layout image class known b n i q k v [] t.0 t.2 (cells k solid v h) tail) (write_local_holds program known.typed class known.component b.frame i k v t.0 h) (record { each = λ u hu s p g e. here e.1 })))
    stmt_sim n at out on (stmt.Block' _ all) around t has = stmts_sim n at out on all around t has
    stmt_sim n at out on (stmt.If' e _ f _ g) around t has =
        let q = at + expr_size S e in
        let first = q + 3 in
        let m = stmt_size S g in
        let third = first + stmt_size S f in
        let second = third + over_size m in
        let cf = stmt_code S first out on f in
        let over = over_code m (second + m) in
        let cg = stmt_code S second out on g in
        let from = has_back w x.method at (expr_size S e) (expr_code S at e) (op.JumpFalse second ∷ (cf ++ (over ++ cg))) (expr_sized S at e) has in
        let tail = has_back w x.method first (stmt_size S f) cf (over ++ cg) (stmt_sized S first out on f) from.1 in
        let last = has_back w x.method third (over_size m) over cg (over_sized m (second + m)) tail in
        let end : second + m ≡ at + (expr_size S e + 3 + stmt_size S f + over_size m + m) = omega arith in
        to_next (at + (expr_size S e + 3 + stmt_size S f + over_size m + m)) out on end
        (cell_then w G (e_sim n at [] e t.0.0 (has_front w x.method at (expr_code S at e) _ has)) (holds e t.0.0) (cells (kind_of e) (subst IsSolid (sym t.0.1) tt))
        (λ v h. choose_bool program layout image class known b q second v [] (subst (λ k. Has k v) t.0.1 h) from.0
        (extend w G {Q = Lands n third out on} {R = Lands n (second + m) out on} (stmt_sim n first out on f around t.1 (has_front w x.method first cf (over ++ cg) from.1)) (λ flow s p l. over_landed n m third out on (has_front w x.method third over cg tail) flow s p l))
        (stmt_sim n second out on g around t.2 last)))
    stmt_sim n at out on (stmt.While' e _ body) around t has =
        let turn = at + 3 in
        let start = at + 4 in
        let test = start + stmt_size S body in
        let end = test + expr_size S e in
        let cb = stmt_code S start (end + 3) test body in
        let ce = expr_code S test e in
        let back = op.JumpTrue turn ∷ [] in
        let at_body = at_place w x.method (turn + 1) start (cb ++ (ce ++ back)) (let z : at + 3 + 1 ≡ at + 4 = omega arith in z) has.1.1 in
        let at_test = has_back w x.method start (stmt_size S body) cb (ce ++ back) (stmt_sized S start (end + 3) test body) at_body in
        let at_jump = has_back w x.method test (expr_size S e) ce back (expr_sized S test e) at_test in
        let last : end + 3 ≡ at + (4 + stmt_size S body + expr_size S e + 3) = omega arith in
        let bodies : (m : ℕ) → Sim w G x m Flow (exec L body) (turn + 1) [] (Lands m test (end + 3) test) = λ m.
        subst (λ p. Sim w G x m Flow (exec L body) p [] (Lands m test (end + 3) test)) (let z : at + 4 ≡ at + 3 + 1 = omega arith in z) (stmt_sim m start (end + 3) test body in_loop t.1 (has_front w x.method start cb (ce ++ back) at_body)) in
        let one : (m : ℕ) → Sim w G x m Round (round (eval L e) (exec L body) (gives Nothing)) test [] (Rounds m test (end + 3)) = λ m.
        round_sim m test turn end test (Some e) (gives Nothing) (exec L body) (EndsAs in_loop) t.0 (stmt_holds body in_loop t.1) (gives_it Nothing tt) (λ m. test_sim m test (Some e) t.0 (has_front w x.method test ce back at_test)) at_jump.0 has.1.0 bodies (λ m. none_sim w G (λ s q stands. stands)) in
        to_next (at + (4 + stmt_size S body + expr_size S e + 3)) out on last (record {
          comes = λ s ms g a tu.
              by_op_to w x at (at + 3) (op.Jump test) [] ms s.shared (gives (Goto test []) (state s.shared ms)) _ has.0 refl refl
              ((rounds_sim program layout image class known b result n test (end + 3) out on (round (eval L e) (exec L body) (gives Nothing)) one (round_holds (test_holds (Some e) t.0) (stmt_holds body in_loop t.1) (gives_it Nothing tt))).comes s ms g a tu);
        })
    stmt_sim n at out on (stmt.DoWhile' _ body e) around t has =
        let start = at + 1 in
        let test = start + stmt_size S body in
        let end = test + expr_size S e in
        let cb = stmt_code S start (end + 3) test body in
        let ce = expr_code S test e in
        let back = op.JumpTrue at ∷ [] in
        let at_test = has_back w x.method start (stmt_size S body) cb (ce ++ back) (stmt_sized S start (end + 3) test body) has.1 in
        let at_jump = has_back w x.method test (expr_size S e) ce back (expr_sized S test e) at_test in
        let last : end + 3 ≡ at + (1 + stmt_size S body + expr_size S e + 3) = omega arith in
        let kinded : IsTest c (Some e) = t.1 in
        let one : (m : ℕ) → Sim w G x m Round (do_round (exec L body) (eval L e)) at [] (Rounds m at (end + 3)) = λ m.
        turn_sim program layout image class known b result m at at (end + 3) (λ s1. then_do (exec L body s1) (λ flow s2. after_body flow (λ s3. then_do (eval L e s3) (λ v s4. choose v (gives Again) (gives Ended) s4)) s2)) has.0
        (λ k. body_sim program layout image class known b result k test at (end + 3) (λ s3. then_do (eval L e s3) (λ v s4. choose v (gives Again) (gives Ended) s4)) (stmt_sim k start (end + 3) test body in_loop t.0 (has_front w x.method start cb (ce ++ back) has.1)) (stmt_holds body in_loop t.0)
        (cell_then w G (test_sim k test (Some e) kinded (has_front w x.method test ce back at_test)) (test_holds (Some e) kinded) (cells kind.Bool tt)
        (λ v h. until_bool program layout image class known b end at v [] h at_jump.0 (none_sim w G (λ s q stands. stands)) (none_sim w G (λ s q stands. stands))))) in
        to_next (at + (1 + stmt_size S body + expr_size S e + 3)) out on last
        (rounds_sim program layout image class known b result n at (end + 3) out on (do_round (exec L body) (eval L e)) one (do_round_holds (stmt_holds body in_loop t.0) (test_holds (Some e) kinded)))
    stmt_sim n at out on (stmt.For' _ first e last _ body) around t has =
        let start = at + stmt_size S first in
        let turn = start + 3 in
        let begin = start + 4 in
        let step = begin + stmt_size S body in
        let test = step + last_size S last in
        let end = test + test_size S e in
        let cf = stmt_code S at out on first in
        let cb = stmt_code S begin (end + 3) step body in
        let cl = last_code S step last in
        let ce = test_code S test e in
        let back = op.JumpTrue turn ∷ [] in
        let from = has_back w x.method at (stmt_size S first) cf (op.Jump test ∷ op.Turn ∷ (cb ++ (cl ++ (ce ++ back)))) (stmt_sized S at out on first) has in
        let at_body = at_place w x.method (turn + 1) begin (cb ++ (cl ++ (ce ++ back))) (let z : start + 3 + 1 ≡ start + 4 = omega arith in z) from.1.1 in
        let at_last = has_back w x.method begin (stmt_size S body) cb (cl ++ (ce ++ back)) (stmt_sized S begin (end + 3) step body) at_body in
        let at_test = has_back w x.method step (last_size S last) cl (ce ++ back) (last_sized step last) at_last in
        let at_jump = has_back w x.method test (test_size S e) ce back (test_sized test e) at_test in
        let over : end + 3 ≡ at + (stmt_size S first + 4 + stmt_size S body + last_size S last + test_size S e + 3) = omega arith in
        let R = round (eval_or L (truth true) e) (exec L body) (eval_or L Nothing last) in
        let bodies : (m : ℕ) → Sim w G x m Flow (exec L body) (turn + 1) [] (Lands m step (end + 3) step) = λ m.
        subst (λ p. Sim w G x m Flow (exec L body) p [] (Lands m step (end + 3) step)) (let z : start + 4 ≡ start + 3 + 1 = omega arith in z) (stmt_sim m begin (end + 3) step body in_loop t.4 (has_front w x.method begin cb (cl ++ (ce ++ back)) at_body)) in
        let one : (m : ℕ) → Sim w G x m Round R test [] (Rounds m test (end + 3)) = λ m.
        round_sim m test turn end step e (eval_or L Nothing last) (exec L body) (EndsAs in_loop) t.2 (stmt_holds body in_loop t.4) (last_holds last t.3) (λ m. test_sim m test e t.2 (has_front w x.method test ce back at_test)) at_jump.0 from.1.0 bodies (λ m. last_sim m step last t.3 (has_front w x.method step cl (ce ++ back) at_last)) in
        let loop : Sim w G x n Flow (rounds R) start [] (Lands n (end + 3) out on) = record {
          comes = λ s ms g a tu.
              by_op_to w x start (start + 3) (op.Jump test) [] ms s.shared (gives (Goto test []) (state s.shared ms)) _ from.0 refl refl
              ((rounds_sim program layout image class known b result n test (end + 3) out on R one (round_holds (test_holds e t.2) (stmt_holds body in_loop t.4) (last_holds last t.3))).comes s ms g a tu);
        } in
        to_next (at + (stmt_size S first + 4 + stmt_size S body + last_size S last + test_size S e + 3)) out on over
        (then_sim w G (stmt_sim n at out on first around t.1 (has_front w x.method at cf _ has)) (stmt_holds first around t.1) (follow_goes (EndsAs around) n start (end + 3) out on (rounds R) loop))
    stmt_sim n at out on (stmt.Switch' e labels _ all) around t has =
        let q = at + expr_size S e in
        let ls = labels.items in
        let local = waiting S prim.Int in
        let first = at + expr_size S e + 2 + tests_size ls + 3 in
        let end = first + stmts_size S all in
        let places = begins S first all in
        let tests = tests_code local end ls places in
        let jump = op.Jump (default_place end ls places) in
        let body = stmts_code S first end on all in
        let from = has_back w x.method at (expr_size S e) (expr_code S at e) (op.Store local ∷ (tests ++ jump ∷ body)) (expr_sized S at e) has in
        let after_tests = has_back w x.method (q + 2) (tests_size ls) tests (jump ∷ body) (tests_sized local end ls places) from.1 in
        let select : HasAt w x.method q (op.Store local ∷ (tests ++ jump ∷ [])) = (from.0, joined (q + 2) tests jump body from.1) in
        let at_body = at_place w x.method (q + 2 + tests_size ls + 3) first body (let z : at + expr_size S e + 2 + tests_size ls + 3 ≡ first = refl in z) after_tests.1 in
        let last : end ≡ at + (expr_size S e + 2 + tests_size ls + 3 + stmts_size S all) = omega arith in
        to_next (at + (expr_size S e + 2 + tests_size ls + 3 + stmts_size S all)) out on last
        (cell_then w G (e_sim n at [] e t.0 (has_front w x.method at (expr_code S at e) _ has)) (holds e t.0) (cells (kind_of e) (subst IsSolid (sym t.1) tt))
        (λ v h. selected v (subst (λ k. Has k v) t.1 h)
        (λ z. record {
          comes = λ s ms g a tu.
              select_comes q end first z ls places ms s.locals s.shared _ a refl select
              (λ ms1 a1. (then_sim w G (rows_sim n first end on (label_of ls z) all (in_switch around) t.4 at_body) (rows_hold (label_of ls z) all (in_switch around) t.4) (record { each = λ flow hf s1 p g1 l. here (in_rest flow n end out on s1 p l) })).comes s ms1 g a1 tu);
        })))
    stmt_sim n at out on stmt.Break around t has = record {
      comes = λ s ms g a tu. by_op_to w x at (at + 3) (op.Jump out) [] ms s.shared (gives (Goto out []) (state s.shared ms)) _ has.0 refl refl (here (record { locals = ms; agree = a; turns = tu; is = refl }));
    }
    stmt_sim n at out on stmt.Continue around t has = record {
      comes = λ s ms g a tu. by_op_to w x at (at + 3) (op.Jump on) [] ms s.shared (gives (Goto on []) (state s.shared ms)) _ has.0 refl refl (here (record { locals = ms; agree = a; turns = tu; is = refl }));
    }
    stmt_sim n at out on (stmt.Return None) around t has = record {
      comes = λ s ms g a tu. by_op_to w x at (at + 1) op.Return [] ms s.shared (gives (Leave Nothing) (state s.shared ms)) _ has.0 refl refl (here (record { void = λ e. refl; turns = tu; is = refl }));
    }
    stmt_sim n at out on (stmt.Return (Some e)) around t has =
        let q = at + expr_size S e in
        let tail = has_back w x.method at (expr_size S e) (expr_code S at e) (op.ReturnValue ∷ []) (expr_sized S at e) has in
        let solid = goes_solid program (kind_of e) result t.1 (solid_result t.2) in
        cell_then w G (e_sim n at [] e t.0 (has_front w x.method at (expr_code S at e) (op.ReturnValue ∷ []) has)) (holds e t.0) (cells (kind_of e) solid)
        (λ v h. record {
          comes = λ s ms g a tu. by_op_to w x q (q + 1) op.ReturnValue (v ∷ []) ms s.shared (gives (Leave v) (state s.shared ms)) _ tail.0 refl refl (here (record { void = λ e. absurd (t.2 e); turns = tu; is = refl }));
        })

    pub stmts_sim : {count : Count} (n at out on : ℕ) (row : Row_of-Stmt count) (around : Around) → AreStmts c around row → HasAt w x.method at (stmts_code S at out on row) → Sim w G x n Flow (in_order (execs L row)) at [] (Lands n (at + stmts_size S row) out on)
    stmts_sim n at out on end_of-Stmt around t has = let e : at ≡ at + 0 = omega arith in to_next (at + 0) out on e (none_sim w G (λ s q stands. stands))
    stmts_sim n at out on (more_of-Stmt s ss) around t has =
        let q = at + stmt_size S s in
        let tail = has_back w x.method at (stmt_size S s) (stmt_code S at out on s) (stmts_code S q out on ss) (stmt_sized S at out on s) has in
        let end : q + stmts_size S ss ≡ at + (stmt_size S s + stmts_size S ss) = omega arith in
        to_next (at + (stmt_size S s + stmts_size S ss)) out on end
        (then_sim w G (stmt_sim n at out on s around t.0 (has_front w x.method at (stmt_code S at out on s) (stmts_code S q out on ss) has)) (stmt_holds s around t.0)
        (follow_goes (EndsAs around) n q (q + stmts_size S ss) out on (in_order (execs L ss)) (stmts_sim n q out on ss around t.1 tail)))

    -- from one of them on
    rows_sim : {count : Count} (n at end on j : ℕ) (row : Row_of-Stmt count) (around : Around) → AreStmts c around row → HasAt w x.method at (stmts_code S at end on row) →
        Sim w G x n Flow (in_order (drop j (execs L row))) (first_of (at + stmts_size S row) (drop j (begins S at row))) [] (Lands n (at + stmts_size S row) end on)
    rows_sim n at end on zero end_of-Stmt around t has = let e : at ≡ at + 0 = omega arith in subst (λ p. Sim w G x n Flow (in_order []) p [] (Lands n (at + 0) end on)) e (to_next (at + 0) end on e (none_sim w G (λ s q stands. stands)))
    rows_sim n at end on (suc j) end_of-Stmt around t has = let e : at ≡ at + 0 = omega arith in subst (λ p. Sim w G x n Flow (in_order []) p [] (Lands n (at + 0) end on)) e (to_next (at + 0) end on e (none_sim w G (λ s q stands. stands)))
    rows_sim n at end on zero (more_of-Stmt s ss) around t has =
        let q = at + stmt_size S s in
        let tail = has_back w x.method at (stmt_size S s) (stmt_code S at end on s) (stmts_code S q end on ss) (stmt_sized S at end on s) has in
        let e : q + stmts_size S ss ≡ at + (stmt_size S s + stmts_size S ss) = omega arith in
        to_next (at + (stmt_size S s + stmts_size S ss)) end on e
        (then_sim w G (stmt_sim n at end on s around t.0 (has_front w x.method at (stmt_code S at end on s) (stmts_code S q end on ss) has)) (stmt_holds s around t.0)
        (follow_goes (EndsAs around) n q (q + stmts_size S ss) end on (in_order (execs L ss)) (stmts_sim n q end on ss around t.1 tail)))
    rows_sim n at end on (suc j) (more_of-Stmt s ss) around t has =
        let q = at + stmt_size S s in
        let tail = has_back w x.method at (stmt_size S s) (stmt_code S at end on s) (stmts_code S q end on ss) (stmt_sized S at end on s) has in
        let e : q + stmts_size S ss ≡ at + (stmt_size S s + stmts_size S ss) = omega arith in
        subst (λ last. Sim w G x n Flow (in_order (drop j (execs L ss))) (first_of last (drop j (begins S q ss))) [] (Lands n last end on)) e (rows_sim n q end on j ss around t.1 tail)
