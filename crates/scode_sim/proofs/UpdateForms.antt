-- Assignments that compute, whose operand is followed.
use Rattle.std.proofs.Common.{◌≡◌, ℕ, ◌+◌, suc, List, [], ◌∷◌, ◌++◌, length, refl, sym, ap, subst, arith}
use Rattle.sed_typed.specs.declared.kind.Kind.{Kind}
use Rattle.sed_typed.specs.declared.operators.Arithmetic.{Arithmetic}
use Rattle.sed_typed.specs.declared.operators.Arithmetic.TheVariants as arithmetic
use Rattle.sed_typed.specs.declared.operators.Gives.{Gives}
use Rattle.sed_typed.specs.declared.operators.Gives.TheVariants.{Old, New}
use Rattle.sed_typed.specs.declared.operators.Width.{Width}
use Rattle.sed_typed.specs.declared.operators.Width.TheVariants as width
use Rattle.sed_typed.specs.declared.program.Program.{Program}
use Rattle.sed_typed.specs.declared.tree.Expr.{Expr}
use Rattle.sed_typed.specs.Kinds.{width_kind, kind_of}
use Rattle.sed_typed.specs.TypedExpr.{one_of, MayGive}
use Rattle.sed_typed.specs.TypedExpr.{Context, IsExpr, right_kind}
use Rattle.sed_engine.specs.Expressions.{Setting as Source, Calls, eval}
use Rattle.sed_engine.specs.Operators.{arithmetic_of, given}
use Rattle.sed_engine.specs.Places.{Target, fetch, put}
use Rattle.sed_engine.specs.State.{State, End, gives, answers, then_do}
use Rattle.sed_engine.specs.Values.{Val, At, Statics}
use Rattle.sed_engine.proofs.CallSteps.{CallsSound}
use Rattle.sed_engine.proofs.Kinded.{HasKind}
use Rattle.sed_engine.proofs.Parts.{TargetHas}
use Rattle.sed_engine.proofs.Ready.{Holds}
use Rattle.sed_engine.proofs.TypedRuns.{of_expr}
use Rattle.scode_ops.specs.declared.op.Op.{Op}
use Rattle.scode_image.specs.declared.image.Image.{Image}
use Rattle.scode_code.specs.Fields.{Setting}
use Rattle.scode_emit.specs.declared.storage.Storage.{Storage}
use Rattle.scode_emit.specs.Site.{Site, Layout}
use Rattle.scode_emit.specs.Instructions.{fetch_old_code, fetch_old_size, put_old_code, put_old_size, arithmetic_op, keep_code, keep_size, fetch_code, fetch_size, before_code, before_size, behind_code, behind_size}
use Rattle.scode_emit.specs.Sizes.{expr_size}
use Rattle.scode_emit.specs.Code.{expr_code}
use Rattle.scode_emit.proofs.Counts.{fetch_sized}
use Rattle.scode_emit.proofs.Sized.{expr_sized}
use Rattle.scode_sim.proofs.CallSims.{CallsFollowed}
use Rattle.scode_sim.proofs.Context.{Known, Body, running, site, machine, source, runs}
use Rattle.scode_sim.proofs.Follows.{Pushed, HasAt, has_front, has_back, Sim, same_sim, to_place}
use Rattle.scode_sim.proofs.Frames.{Running, IsCell, IsSolid}
use Rattle.scode_sim.proofs.Located.{LocatedAs}
use Rattle.scode_sim.proofs.OldUpdates.{one, one_op, one_size, adds, old_sim}
use Rattle.scode_sim.proofs.Operations.{then_same}
use Rattle.scode_sim.proofs.Updates.{update_new_sim}
use Rattle.scode_sim.proofs.Stores.{cell_of_kind}
use Rattle.scode_sim.proofs.Solids.{right_solid}

module _ (program : Program) (layout : Layout) (image : Image) (class : ℕ) (known : Known program layout image class) (b : Body) (calls : Calls) (sound : CallsSound program class calls) (result : Kind) (frames : ℕ) (followed : CallsFollowed program image class frames calls) (deep : suc (length b.below) + frames ≡ 32) where
  abbrev w : Setting
  w = machine image class

  abbrev x : Running
  x = running b

  abbrev S : Site
  S = site program layout b

  abbrev G : State → Type 0
  G s = runs program class b s

  abbrev Has : Kind → Val → Type 0
  Has k v = HasKind program class k v

  abbrev L : Source
  L = source program class calls

  abbrev c : Context
  c = record { program = program; class = b.frame.own.0; is_static = b.frame.static; locals = b.frame.locals; result = result }

  abbrev block : Val
  block = At (record { base = Statics; path = [] })

  abbrev holds : (e : Expr) → IsExpr c e → Holds G Val (Has (kind_of e)) (eval L e)
  holds e t = of_expr program known.typed class known.component b.frame calls sound result e t

  cells : (k : Kind) → IsSolid k → (v : Val) → Has k v → IsCell v
  cells k solid v h = cell_of_kind program class k v solid h

  -- ---- an assignment that computes

  one_code : (k : Width) (place : ℕ) → expr_code S place (one_of k) ≡ one_op k ∷ []
  one_code width.Int place = refl
  one_code width.Long place = refl

  one_is_size : (k : Width) → expr_size S (one_of k) ≡ one_size k
  one_is_size width.Int = refl
  one_is_size width.Long = refl

  one_value : (k : Width) (s : State) → eval L (one_of k) s ≡ gives (one k) s
  one_value width.Int s = refl
  one_value width.Long s = refl

  -- only 1 is added or taken off where the value before is given
  one_only : (a : Arithmetic) (k : Width) (e : Expr) → MayGive Old a k e → (e ≡ one_of k) × Has (right_kind a k) (one k)
  one_only arithmetic.Add width.Int e h = (h, refl)
  one_only arithmetic.Add width.Long e h = (h, refl)
  one_only arithmetic.Subtract width.Int e h = (h, refl)
  one_only arithmetic.Subtract width.Long e h = (h, refl)
  one_only arithmetic.Multiply k e h = absurd h
  one_only arithmetic.Divide k e h = absurd h
  one_only arithmetic.Remainder k e h = absurd h
  one_only arithmetic.BitAnd k e h = absurd h
  one_only arithmetic.BitOr k e h = absurd h
  one_only arithmetic.BitXor k e h = absurd h
  one_only arithmetic.ShiftLeft k e h = absurd h
  one_only arithmetic.ShiftRight k e h = absurd h

  pub update_sim : (n q : ℕ) (g : Gives) (a : Arithmetic) (k : Width) (kd : Kind) (sg : Storage) (t : Target) (st all : List Val) (e : Expr) → LocatedAs program layout image class known b kd sg t st all → TargetHas program known.typed class known.component b.frame kd t → kd ≡ width_kind k → IsExpr c e → kind_of e ≡ right_kind a k → MayGive g a k e →
      ((place : ℕ) (stack : List Val) → HasAt w x.method place (expr_code S place e) → Sim w G x n Val (eval L e) place stack (Pushed x n (kind_of e) (place + expr_size S e) stack)) →
      HasAt w x.method q (before_code S g sg ++ (expr_code S (q + before_size g sg) e ++ arithmetic_op a k ∷ behind_code S g sg)) →
      Sim w G x n Val (λ s. then_do (fetch t s) (λ old s2. then_do (eval L e s2) (λ y s3. then_do (answers (arithmetic_of a k old y) s3) (λ v s4. then_do (put t v s4) (λ new s5. gives (given g old new) s5))))) q all (Pushed x n kd (q + (before_size g sg + expr_size S e + 1 + behind_size g sg)) st)
  update_sim n q New a k kd sg t st all e l th same te right may sim_e has =
      let r = q + fetch_size sg in
      let tail = arithmetic_op a k ∷ keep_code S sg in
      let from = has_back w x.method q (fetch_size sg) (fetch_code S sg) (expr_code S r e ++ tail) (fetch_sized S sg) has in
      let last = has_back w x.method r (expr_size S e) (expr_code S r e) tail (expr_sized S r e) from in
      let end : r + expr_size S e + 1 + keep_size sg ≡ q + (fetch_size sg + expr_size S e + 1 + keep_size sg) = omega arith in
      to_place w G (q + (fetch_size sg + expr_size S e + 1 + keep_size sg)) end
      (update_new_sim program layout image class known b n q (r + expr_size S e) a k kd sg t st all (eval L e) (kind_of e) l th same right (subst IsSolid (sym right) (right_solid a k)) (holds e te) (has_front w x.method q (fetch_code S sg) (expr_code S r e ++ tail) has)
      (λ stack. sim_e r stack (has_front w x.method r (expr_code S r e) tail from)) last)
  update_sim n q Old a k kd sg t st all e l th same te right may sim_e has =
      let o = one_only a k e may in
      let F : (State → End Val) → State → End Val = λ f s. then_do (fetch t s) (λ old s2. then_do (f s2) (λ y s3. then_do (answers (arithmetic_of a k old y) s3) (λ v s4. then_do (put t v s4) (λ new s5. gives (given Old old new) s5)))) in
      let P : Expr → Type 0 = λ e. HasAt w x.method q (fetch_old_code S sg ++ (expr_code S (q + fetch_old_size sg) e ++ arithmetic_op a k ∷ put_old_code S sg)) in
      let Q : Expr → Type 0 = λ e. Sim w G x n Val (F (eval L e)) q all (Pushed x n kd (q + (fetch_old_size sg + expr_size S e + 1 + put_old_size sg)) st) in
      let code = subst (λ (c : List Op). HasAt w x.method q (fetch_old_code S sg ++ (c ++ arithmetic_op a k ∷ put_old_code S sg))) (one_code k (q + fetch_old_size sg)) (subst P o.0 has) in
      let end : q + (fetch_old_size sg + (one_size k + 1 + put_old_size sg)) ≡ q + (fetch_old_size sg + expr_size S (one_of k) + 1 + put_old_size sg) = let z = one_is_size k in omega (arith, z) in
      subst Q (sym o.0) (to_place w G (q + (fetch_old_size sg + expr_size S (one_of k) + 1 + put_old_size sg)) end
      (same_sim w G (λ s. then_same (fetch t s) (λ old s2. adds program layout image class known b a k (put t) old s2) (λ old s2. then_do (eval L (one_of k) s2) (λ y s3. then_do (answers (arithmetic_of a k old y) s3) (λ v s4. then_do (put t v s4) (λ new s5. gives old s5))))
      (λ old s2. ap (λ d. then_do d (λ y s3. then_do (answers (arithmetic_of a k old y) s3) (λ v s4. then_do (put t v s4) (λ new s5. gives old s5)))) (sym (one_value k s2))))
      (old_sim program layout image class known b n q a k kd sg t st all l th same o.1 code)))
