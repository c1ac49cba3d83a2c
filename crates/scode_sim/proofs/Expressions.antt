-- The machine follows the source: expressions.
use Rattle.std.proofs.Common.{◌≡◌, ℕ, ℤ, ◌+◌, ◌≤◌, suc, true, false, List, [], ◌∷◌, ◌++◌, length, replicate, Option, Some, slice_get, refl, sym, ap, ◌∙◌, subst, arith, length-append}
use Rattle.std.specs.Prelude.{All}
use Rattle.std.specs.Option.{option_and_then}
use mathlib.Core.Former.{Count}
use Rattle.sed_value.specs.declared.slot_type.Primitive.{Primitive}
use Rattle.sed_typed.specs.declared.kind.Kind.{Kind}
use Rattle.sed_typed.specs.declared.kind.Kind.TheVariants as kind
use Rattle.sed_typed.specs.declared.program.FieldForm.TheVariants as form
use Rattle.sed_typed.specs.declared.program.Program.{Program}
use Rattle.sed_typed.specs.declared.tree.Place.{Place}
use Rattle.sed_typed.specs.declared.tree.Place.TheVariants as place
use Rattle.sed_typed.specs.declared.tree.Expr.{Expr, Row_of-Expr, end_of-Expr, more_of-Expr, Row_of-Link, end_of-Link, more_of-Link}
use Rattle.sed_typed.specs.declared.tree.Expr.TheVariants as expr
use Rattle.sed_typed.specs.declared.tree.Link.{Link}
use Rattle.sed_typed.specs.declared.tree.Link.TheVariants as link
use Rattle.sed_typed.specs.Kinds.{text_kind, place_kind, kind_of, link_kind, kind_after, binary_kind}
use Rattle.sed_typed.specs.declared.operators.TextCall.{TextCall}
use Rattle.sed_typed.specs.declared.operators.TextCall.TheVariants as text
use Rattle.sed_typed.specs.declared.program.Method.{Method}
use Rattle.sed_typed.specs.Classes.{base_of, find, method_name}
use Rattle.sed_typed.specs.Typed.{IsStorable}
use Rattle.sed_typed.specs.TypedExpr.{AllGoTo, IsStaticCall, IsInvocation, object_class, text_kinds}
use Rattle.sed_typed.specs.TypedExpr.{Context, IsExpr, IsPlace, IsLink, AreExprs, AreLinks, kinds_of, field_form}
use Rattle.sed_engine.specs.Expressions.{Setting as Source, Calls, eval, locate, meaning, evals, meanings, in_chain, put_all, call, frame_of, new_frame, text_call}
use Rattle.sed_engine.specs.Places.{Target, OfField, OfElement, OfStaticElement, static_spot, field_spot}
use Rattle.sed_engine.specs.State.{State, End, gives, then_do}
use Rattle.sed_engine.specs.Values.{Val, Nothing, Truth, Int, Long, Null, At, Literal, Statics, truth}
use Rattle.sed_engine.proofs.Below.{absent, of_some}
use Rattle.sed_engine.proofs.CallSteps.{CallsSound, ArgsHold, NoArgs, OneArg, args_put, is_method}
use Rattle.sed_engine.proofs.Frames.{FrameHas, no_locals}
use Rattle.sed_engine.proofs.Kinded.{HasKind, goes}
use Rattle.sed_engine.proofs.Parts.{static_part_holds, part_holds}
use Rattle.sed_engine.proofs.Ready.{Holds, this_holds}
use Rattle.sed_engine.proofs.TypedRuns.{of_expr, of_place, of_link}
use Rattle.scode_ops.specs.declared.op.Op.TheVariants as op
use Rattle.scode_image.specs.declared.image.Image.{Image}
use Rattle.scode_code.specs.Fields.{Setting}
use Rattle.scode_code.specs.Machine.{Point, pushed}
use Rattle.scode_code.specs.Steps.{instruction_at}
use Rattle.scode_emit.specs.Site.{Site, Layout, offset_in, room_in}
use Rattle.scode_emit.specs.Instructions.{invoke_op, invoke_size, text_op, arithmetic_op, binary_op, unary_code, unary_size, storage, keep_code, keep_size, before_code, before_size, behind_code, behind_size, pop_code, pop_size, get_element_op}
use Rattle.scode_emit.specs.Sizes.{expr_size, place_size, link_size, exprs_size, links_size}
use Rattle.scode_emit.specs.Code.{expr_code, place_code, link_code, exprs_code, links_code}
use Rattle.scode_emit.proofs.Counts.{pop_sized}
use Rattle.scode_emit.proofs.Sized.{expr_sized, place_sized, link_sized, exprs_sized}
use Rattle.scode_sim.proofs.Apart.{gives_apart, field_apart, element_apart, apart_then, moment_apart}
use Rattle.scode_sim.proofs.Arguments.{push_all, AllCells, AllNothing, Built, filled_sim, cells_grown, grown, nothing_tail, nothings}
use Rattle.scode_sim.proofs.CallSims.{CallsFollowed}
use Rattle.scode_sim.proofs.CallForms.{static_sim as static_call_sim, super_sim}
use Rattle.scode_sim.proofs.Callees.{AllSolid, goes_solid, args_solid}
use Rattle.scode_sim.proofs.Comes.{Comes, here}
use Rattle.scode_sim.proofs.Context.{Known, Body, running, site, machine, source, runs}
use Rattle.scode_sim.proofs.Follows.{Ends, Stands, Pushed, not_void, HasAt, has_front, has_back, Sim, from_stands, then_sim, val_then, cell_then, extend, to_place, none_sim, push_sim}
use Rattle.scode_sim.proofs.Frames.{Running, IsCell, IsSolid}
use Rattle.scode_sim.proofs.Leaves.{constant_sim, binary_sim, unary_sim, jump_pushed}
use Rattle.scode_sim.proofs.Links.{on_cell, by_pop, choose_bool, until_bool, not_not_sim, field_is, field_link, part_link, element_sim, element_link, size_link, byte_link}
use Rattle.scode_sim.proofs.Located.{FieldAt, ElementAt, LocatedAs, located_solid, keep_sim}
use Rattle.scode_sim.proofs.NamedReads.{text_sim as literal_sim, this_sim, this_at_sim, local_sim, static_sim, static_part_sim, by_statics, static_is}
use Rattle.scode_sim.proofs.InvokeForms.{invoke_sim}
use Rattle.scode_sim.proofs.TextForms.{text_sim, frame_all}
use Rattle.scode_sim.proofs.Stores.{cell_of_kind}
use Rattle.scode_sim.proofs.Solids.{operand_solid, reference_solid, form_solid, operands_solid, binary_solid}
use Rattle.scode_sim.proofs.UpdateForms.{update_sim}

module _ (program : Program) (layout : Layout) (image : Image) (class : ℕ) (known : Known program layout image class) (b : Body) (calls : Calls) (sound : CallsSound program class calls) (result : Kind) (frames : ℕ) (followed : CallsFollowed program image class frames calls) (deep : suc (length b.below) + frames ≡ 32) where
  abbrev w : Setting
  w = machine image class

  abbrev x : Running
  x = running b

  abbrev S : Site
  S = site program layout b

  abbrev G : State → Type 0
  G s = runs program class b s

  abbrev Has : Kind → Val → Type 0
  Has k v = HasKind program class k v

  abbrev L : Source
  L = source program class calls

  abbrev c : Context
  c = record { program = program; class = b.frame.own.0; is_static = b.frame.static; locals = b.frame.locals; result = result }

  abbrev block : Val
  block = At (record { base = Statics; path = [] })

  abbrev holds : (e : Expr) → IsExpr c e → Holds G Val (Has (kind_of e)) (eval L e)
  holds e t = of_expr program known.typed class known.component b.frame calls sound result e t

  cells : (k : Kind) → IsSolid k → (v : Val) → Has k v → IsCell v
  cells k solid v h = cell_of_kind program class k v solid h

  -- another kind of a value that has a cell
  rekinded : {n place : ℕ} {f : State → End Val} {at : ℕ} {st all : List Val} (j k : Kind) → IsSolid k → Sim w G x n Val f at all (Pushed x n j place st) → Sim w G x n Val f at all (Pushed x n k place st)
  rekinded j k solid sim = extend w G sim (λ v s q e. here (record { void = not_void k v solid; stands = e.stands }))

  -- what is located: a target, what stands on the stack for it, and the machine there
  abbrev Located : ℕ → Place → List Val → ℕ → Target → State → Point → Type 0
  Located n target st next t s q = (all : List Val) × LocatedAs program layout image class known b (place_kind target) (storage S target) t st all × Stands x n next all s q

  field_at : (k : Kind) (v : Val) (i : ℕ) (p : Primitive) → Has k v → field_form program k i ≡ Some (form.Prim p) → FieldAt w p (offset_in S k i) (OfField p v i) v
  field_at (kind.Object d) v i p h e = record { base = field_spot v i; apart = field_apart v i; is = field_is program layout image class known b d v i (form.Prim p) h e; fetch_is = λ s. refl; put_is = λ u s. refl }
  field_at kind.Void v i p h e = absent (form.Prim p) e
  field_at kind.Bool v i p h e = absent (form.Prim p) e
  field_at kind.Int v i p h e = absent (form.Prim p) e
  field_at kind.Long v i p h e = absent (form.Prim p) e
  field_at kind.Text v i p h e = absent (form.Prim p) e

  element_at : (k : Kind) (v : Val) (j : ℤ) (i : ℕ) (p : Primitive) (count : ℕ) → Has k v → field_form program k i ≡ Some (form.Array p count) → ElementAt w p (offset_in S k i) count (OfElement p count v i (Int j)) v j
  element_at (kind.Object d) v j i p count h e = record {
    base = field_spot v i;
    apart = apart_then (field_apart v i) (λ array. element_apart count array (Int j));
    is = field_is program layout image class known b d v i (form.Array p count) h e;
    fetch_is = λ s. refl;
    put_is = λ u s. refl;
  }
  element_at kind.Void v j i p count h e = absent (form.Array p count) e
  element_at kind.Bool v j i p count h e = absent (form.Array p count) e
  element_at kind.Int v j i p count h e = absent (form.Array p count) e
  element_at kind.Long v j i p count h e = absent (form.Array p count) e
  element_at kind.Text v j i p count h e = absent (form.Array p count) e

  -- an index that is on the stack
  int_is : (v : Val) → Has kind.Int v → (j : ℤ) × (v ≡ Int j)
  int_is (Int j) h = (j, refl)
  int_is Nothing h = absurd h
  int_is (Truth t) h = absurd h
  int_is (Long j) h = absurd h
  int_is Null h = absurd h
  int_is (At spot) h = absurd h
  int_is (Literal j) h = absurd h

  -- ---- arguments

  exprs_hold : {count : Count} (row : Row_of-Expr count) → AreExprs c row → ArgsHold G Has (kinds_of row) (evals L row)
  exprs_hold end_of-Expr t = NoArgs
  exprs_hold (more_of-Expr e es) t = OneArg (kind_of e) (kinds_of es) (eval L e) (evals L es) (holds e t.0) (exprs_hold es t.1)

  storable_params : (m : ℕ) (y : Method) → slice_get program.methods m ≡ Some y → All (IsStorable program) y.params
  storable_params m y e = (is_method program known.typed class known.component b.frame m y e).params

  static_solid : (m : ℕ) (k : Kind) (ks : List Kind) → IsStaticCall program m k ks → AllSolid ks
  static_solid m k ks is = let y = of_some (slice_get program.methods m) is in args_solid program ks y.0.params y.2.1.takes (storable_params m y.0 y.1)

  invoke_solid : (o : Option ℕ) (m : ℕ) (k : Kind) (ks : List Kind) → IsInvocation program o m k ks → AllSolid ks
  invoke_solid o m k ks is = let y = of_some (slice_get program.methods m) is.1 in args_solid program ks y.0.params y.2.1.takes (storable_params m y.0 y.1)

  object_solid : (k : Kind) (m : ℕ) (name : List ℕ) → option_and_then (λ c. find program c name) (object_class k) ≡ Some m → IsSolid k
  object_solid (kind.Object d) m name e = tt
  object_solid kind.Void m name e = absent m e
  object_solid kind.Bool m name e = absent m e
  object_solid kind.Int m name e = absent m e
  object_solid kind.Long m name e = absent m e
  object_solid kind.Text m name e = absent m e

  text_solid : (o : TextCall) → AllSolid (text_kinds o)
  text_solid text.Length = tt
  text_solid text.Get = (tt, tt)
  text_solid text.Set = (tt, (tt, tt))
  text_solid text.Equals = (tt, tt)
  text_solid text.Copy = (tt, tt)

  text_goes : (o : TextCall) (ks : List Kind) → ks ≡ text_kinds o → AllGoTo program ks (text_kinds o)
  text_goes text.Length ks e = subst (λ ks. AllGoTo program ks []) (sym e) tt
  text_goes text.Get ks e = subst (λ ks. AllGoTo program ks (kind.Int ∷ [])) (sym e) (refl, tt)
  text_goes text.Set ks e = subst (λ ks. AllGoTo program ks (kind.Int ∷ kind.Int ∷ [])) (sym e) (refl, (refl, tt))
  text_goes text.Equals ks e = subst (λ ks. AllGoTo program ks (kind.Text ∷ [])) (sym e) (refl, tt)
  text_goes text.Copy ks e = subst (λ ks. AllGoTo program ks (kind.Text ∷ [])) (sym e) (refl, tt)

  text_few : (o : TextCall) → length ([] ++ text_kinds o) ≤ length {A = Val} (replicate 2 Nothing)
  text_few text.Length = omega arith
  text_few text.Get = omega arith
  text_few text.Set = omega arith
  text_few text.Equals = omega arith
  text_few text.Copy = omega arith

  mutual
    pub expr_sim : (n at : ℕ) (st : List Val) (e : Expr) → IsExpr c e → HasAt w x.method at (expr_code S at e) → Sim w G x n Val (eval L e) at st (Pushed x n (kind_of e) (at + expr_size S e) st)
    expr_sim n at st (expr.Int m) t has = constant_sim w G x n kind.Int (Int m) at (at + 5) (op.Int m) st has.0 refl tt (λ s. refl)
    expr_sim n at st (expr.Long m) t has = constant_sim w G x n kind.Long (Long m) at (at + 9) (op.Long m) st has.0 refl tt (λ s. refl)
    expr_sim n at st (expr.Bool m) t has = constant_sim w G x n kind.Bool (Truth m) at (at + 2) (op.Bool m) st has.0 refl tt (λ s. refl)
    expr_sim n at st (expr.Null k) t has = constant_sim w G x n k Null at (at + 1) op.Null st has.0 refl (reference_solid k t.0) (λ s. refl)
    expr_sim n at st (expr.Text m) t has = literal_sim program layout image class known b n m at st t has
    expr_sim n at st (expr.This d) t has = rekinded (kind.Object b.frame.own) (kind.Object d) tt (this_sim program layout image class known b n at st t.0 has)
    expr_sim n at st (expr.Local k i) t has = local_sim program layout image class known b n i at k st t has
    expr_sim n at st (expr.Static p i) t has = static_sim program layout image class known b n i at p st t has
    expr_sim n at st (expr.StaticPart k i) t has =
        static_part_sim program layout image class known b calls n i at k st t (static_part_holds program known.typed class known.component b.frame calls i k t) has
    expr_sim n at st (expr.StaticElement' p count i _ e) t has =
        let q = at + 1 + expr_size S e in
        let get = get_element_op p (layout.static_offset i) count in
        let last = has_back w x.method (at + 1) (expr_size S e) (expr_code S (at + 1) e) (get ∷ []) (expr_sized S (at + 1) e) has.1 in
        let end : q + 5 ≡ at + (1 + expr_size S e + 5) = omega arith in
        let inner = to_place w G (at + (1 + expr_size S e + 5)) end (cell_then w G (expr_sim n (at + 1) (block ∷ st) e t.1 (has_front w x.method (at + 1) (expr_code S (at + 1) e) (get ∷ []) has.1)) (holds e t.1) (cells (kind_of e) (subst IsSolid (sym t.2) tt))
        (λ v h. element_sim program layout image class known b n q p (layout.static_offset i) count block v (gives (static_spot i)) st (gives_apart (static_spot i)) (static_is program layout image class known b i (form.Array p count) t.0) (subst (λ k. Has k v) t.2 h) last)) in
        record { comes = λ s ms g a tu. by_statics program layout image class known b at st ms s.shared _ has.0 (inner.comes s ms g a tu) }
    expr_sim n at st expr.Ticks t has = push_sim w G x n kind.Long _ at (at + 1) op.Ticks st st has.0 refl tt moment_apart (λ s. refl)
    expr_sim n at st (expr.Unary' u _ e) t has =
        let q = at + expr_size S e in
        let tail = has_back w x.method at (expr_size S e) (expr_code S at e) (unary_code u) (expr_sized S at e) has in
        let end : q + unary_size u ≡ at + (expr_size S e + unary_size u) = omega arith in
        to_place w G (at + (expr_size S e + unary_size u)) end
        (cell_then w G (expr_sim n at st e t.0 (has_front w x.method at (expr_code S at e) (unary_code u) has)) (holds e t.0) (cells (kind_of e) (subst IsSolid (sym t.1) (operand_solid u)))
        (λ v h. unary_sim w G x n program class u v q st (subst (λ k. Has k v) t.1 h) tail))
    expr_sim n at st (expr.Choose' _ e _ f _ g) t has =
        let q = at + expr_size S e in
        let first = q + 3 in
        let second = first + expr_size S f + 3 in
        let last = second + expr_size S g in
        let cf = expr_code S first f in let cg = expr_code S second g in
        let behind = op.Jump last ∷ cg in
        let from = has_back w x.method at (expr_size S e) (expr_code S at e) (op.JumpFalse second ∷ (cf ++ behind)) (expr_sized S at e) has in
        let tail = has_back w x.method first (expr_size S f) cf behind (expr_sized S first f) from.1 in
        let end : last ≡ at + (expr_size S e + 3 + expr_size S f + 3 + expr_size S g) = omega arith in
        to_place w G (at + (expr_size S e + 3 + expr_size S f + 3 + expr_size S g)) end
        (cell_then w G (expr_sim n at st e t.0 (has_front w x.method at (expr_code S at e) _ has)) (holds e t.0) (cells (kind_of e) (subst IsSolid (sym t.3) tt))
        (λ v h. choose_bool program layout image class known b q second v st (subst (λ k. Has k v) t.3 h) from.0
        (extend w G (expr_sim n first st f t.1 (has_front w x.method first cf behind from.1)) (λ u s p e. jump_pushed w G (first + expr_size S f) last tail.0 u s p e))
        (subst (λ k. Sim w G x n Val (eval L g) second st (Pushed x n k last st)) (sym t.4) (expr_sim n second st g t.2 tail.1))))
    expr_sim n at st (expr.Set' target _ e) t has =
        let q = at + place_size S target in
        let r = q + expr_size S e in
        let sg = storage S target in
        let ce = expr_code S q e in
        let from = has_back w x.method at (place_size S target) (place_code S at target) (ce ++ keep_code S sg) (place_sized S at target) has in
        let tail = has_back w x.method q (expr_size S e) ce (keep_code S sg) (expr_sized S q e) from in
        let end : r + keep_size sg ≡ at + (place_size S target + expr_size S e + keep_size sg) = omega arith in
        to_place w G (at + (place_size S target + expr_size S e + keep_size sg)) end
        (then_sim w G (place_sim n at st target t.0 (has_front w x.method at (place_code S at target) _ has)) (of_place program known.typed class known.component b.frame calls sound result target t.0) (record {
          each = λ u hu s p g l.
              let solid = located_solid program layout image class known b (place_kind target) sg u st l.0 l.1 in
              from_stands w G (cell_then w G (expr_sim n q l.0 e t.1 (has_front w x.method q ce (keep_code S sg) from)) (holds e t.1) (cells (kind_of e) (goes_solid program (kind_of e) (place_kind target) t.2 solid))
              (λ v h. keep_sim program layout image class known b n r (place_kind target) sg u st l.0 v l.1 (goes program class (kind_of e) (place_kind target) v t.2 h) tail)) s p g l.2;
        }))
    expr_sim n at st (expr.Update' u target _ e) t has =
        let q = at + place_size S target in
        let sg = storage S target in
        let r = q + before_size u.gives sg in
        let code = before_code S u.gives sg ++ (expr_code S r e ++ arithmetic_op u.arithmetic u.width ∷ behind_code S u.gives sg) in
        let from = has_back w x.method at (place_size S target) (place_code S at target) code (place_sized S at target) has in
        let end : q + (before_size u.gives sg + expr_size S e + 1 + behind_size u.gives sg) ≡ at + (place_size S target + before_size u.gives sg + expr_size S e + 1 + behind_size u.gives sg) = omega arith in
        to_place w G (at + (place_size S target + before_size u.gives sg + expr_size S e + 1 + behind_size u.gives sg)) end
        (then_sim w G (place_sim n at st target t.0 (has_front w x.method at (place_code S at target) code has)) (of_place program known.typed class known.component b.frame calls sound result target t.0) (record {
          each = λ y hy s p g l.
              from_stands w G (update_sim program layout image class known b calls sound result frames followed deep n q u.gives u.arithmetic u.width (place_kind target) sg y st l.0 e l.1 hy t.2 t.1 t.3 t.4 (λ place stack h. expr_sim n place stack e t.1 h) from) s p g l.2;
        }))
    expr_sim n at st (expr.Call' k m _ args) t has =
        let q = at + exprs_size S args in
        let fs = evals L args in
        let ks = kinds_of args in
        let tail = has_back w x.method at (exprs_size S args) (exprs_code S at args) (op.Call m ∷ []) (exprs_sized S at args) has in
        let end : q + 3 ≡ at + (exprs_size S args + 3) = omega arith in
        let held = exprs_hold args t.0 in
        let many : length ks + 0 ≡ length ks = omega arith in
        let sim = exprs_sim n at q 0 st [] new_frame [] (length ks) 65 args t.0 (static_solid m k ks t.1) tt (nothings 65) refl refl many refl (λ i u e. e) (has_front w x.method at (exprs_code S at args) (op.Call m ∷ []) has) in
        to_place w G (at + (exprs_size S args + 3)) end (static_call_sim program layout image class known b calls frames followed deep n at q m k st ks fs held t.1 sim tail.0)
    expr_sim n at st (expr.Super' k m _ args) t has =
        let q = at + 2 + exprs_size S args in
        let fs = evals L args in
        let ks = kinds_of args in
        let tail = has_back w x.method (at + 2) (exprs_size S args) (exprs_code S (at + 2) args) (op.Call m ∷ []) (exprs_sized S (at + 2) args) has.1 in
        let end : q + 3 ≡ at + (2 + exprs_size S args + 3) = omega arith in
        let held = exprs_hold args t.0 in
        let many : length ks + 1 ≡ suc (length ks) = omega arith in
        to_place w G (at + (2 + exprs_size S args + 3)) end
        (then_sim w G (this_at_sim program layout image class known b n at st t.1 (has.0, tt)) (this_holds program known.typed class known.component b.frame t.1) (record {
          each = λ v hv s p g e.
              let spot = e.0.0 in
              let Goal : Val → Type 0 = λ v. (let f = then_do (put_all 1 fs (frame_of v) s) (λ frame s2. call L m frame s2) in Comes w p (Ends (Pushed x n k (q + 3) st) f.result f.state)) in
              let hs = subst (λ v. Has (kind.Object b.frame.own) v) e.0.1 hv in
              let sim = exprs_sim n (at + 2) q 1 st (At spot ∷ []) (replicate 64 Nothing) (At spot ∷ []) (suc (length ks)) 65 args t.0 (invoke_solid (base_of program.schema.classes b.frame.own.0) m k ks t.2.0) (tt, tt) (nothings 64) refl refl many refl (λ i u e. e) (has_front w x.method (at + 2) (exprs_code S (at + 2) args) (op.Call m ∷ []) has.1) in
              subst Goal (sym e.0.1)
              (from_stands w G (super_sim program layout image class known b calls frames followed deep n (at + 2) q m k st ks fs spot held t.2 hs sim tail.0) s p g (subst (λ v. Stands x n (at + 2) (v ∷ st) s p) e.0.1 e.1));
        }))
    expr_sim n at st (expr.Chain' _ e _ links) t has =
        let q = at + expr_size S e in
        let tail = has_back w x.method at (expr_size S e) (expr_code S at e) (links_code S q (kind_of e) links) (expr_sized S at e) has in
        let end : q + links_size S (kind_of e) links ≡ at + (expr_size S e + links_size S (kind_of e) links) = omega arith in
        to_place w G (at + (expr_size S e + links_size S (kind_of e) links)) end
        (val_then w G (expr_sim n at st e t.0 (has_front w x.method at (expr_code S at e) (links_code S q (kind_of e) links) has)) (holds e t.0)
        (λ v h void. links_sim n q st links (kind_of e) t.1 v h void tail))

    pub place_sim : (n at : ℕ) (st : List Val) (target : Place) → IsPlace c target → HasAt w x.method at (place_code S at target) → Sim w G x n Target (locate L target) at st (Located n target st (at + place_size S target))
    place_sim n at st (place.Local k i) t has =
        let e : at ≡ at + 0 = omega arith in
        none_sim w G (λ s q stands. (st, (refl, refl, t.0, t.1), subst (λ place. Stands x n place st s q) e stands))
    place_sim n at st (place.Static p i) t has = record {
      comes = λ s ms g a tu. by_statics program layout image class known b at st ms s.shared _ has.0
          (here (
            block ∷ st,
            (
              block,
              refl,
              refl,
              record {
                base = gives (static_spot i);
                apart = gives_apart (static_spot i);
                is = static_is program layout image class known b i (form.Prim p) t;
                fetch_is = λ s. refl;
                put_is = λ u s. refl;
              },
            ),
            record { locals = ms; agree = a; turns = tu; is = refl },
          ));
    }
    place_sim n at st (place.Field' p _ e i) t has =
        cell_then w G (expr_sim n at st e t.0 has) (holds e t.0) (cells (kind_of e) (form_solid program (kind_of e) i (form.Prim p) t.1))
        (λ v h. none_sim w G (λ s q stands. (v ∷ st, (v, refl, refl, field_at (kind_of e) v i p h t.1), stands)))
    place_sim n at st (place.Element' p count pe e f pi i) t has =
        let q = at + expr_size S e in
        let tail = has_back w x.method at (expr_size S e) (expr_code S at e) (expr_code S q i) (expr_sized S at e) has in
        let end : q + expr_size S i ≡ at + (expr_size S e + expr_size S i) = omega arith in
        cell_then w G (expr_sim n at st e t.0 (has_front w x.method at (expr_code S at e) (expr_code S q i) has)) (holds e t.0) (cells (kind_of e) (form_solid program (kind_of e) f (form.Array p count) t.1))
        (λ v h. cell_then w G (to_place w G (at + (expr_size S e + expr_size S i)) end (expr_sim n q (v ∷ st) i t.2 tail)) (holds i t.2) (cells (kind_of i) (subst IsSolid (sym t.3) tt))
        (λ index hi.
        let j = int_is index (subst (λ k. Has k index) t.3 hi) in
        let Goal : Val → Type 0 = λ u. Sim w G x n Target (gives (OfElement p count v f u)) (at + (expr_size S e + expr_size S i)) (u ∷ v ∷ st) (Located n (place.Element' p count pe e f pi i) st (at + (expr_size S e + expr_size S i))) in
        subst Goal (sym j.1) (none_sim w G (λ s q stands. (Int j.0 ∷ v ∷ st, (v, j.0, refl, refl, element_at (kind_of e) v j.0 f p count h t.1), stands)))))
    place_sim n at st (place.StaticElement' p count i pe e) t has =
        let end : at + 1 + expr_size S e ≡ at + (1 + expr_size S e) = omega arith in
        let inner = cell_then w G (to_place w G (at + (1 + expr_size S e)) end (expr_sim n (at + 1) (block ∷ st) e t.1 has.1)) (holds e t.1) (cells (kind_of e) (subst IsSolid (sym t.2) tt))
        (λ index hi.
        let j = int_is index (subst (λ k. Has k index) t.2 hi) in
        let Goal : Val → Type 0 = λ u. Sim w G x n Target (gives (OfStaticElement p count i u)) (at + (1 + expr_size S e)) (u ∷ block ∷ st) (Located n (place.StaticElement' p count i pe e) st (at + (1 + expr_size S e))) in
        subst Goal (sym j.1) (none_sim w G (λ s q stands. (
          Int j.0 ∷ block ∷ st,
          (
            block,
            j.0,
            refl,
            refl,
            record {
              base = gives (static_spot i);
              apart = apart_then (gives_apart (static_spot i)) (λ array. element_apart count array (Int j.0));
              is = static_is program layout image class known b i (form.Array p count) t.0;
              fetch_is = λ s. refl;
              put_is = λ u s. refl;
            },
          ),
          stands,
        )))) in
        record { comes = λ s ms g a tu. by_statics program layout image class known b at st ms s.shared _ has.0 (inner.comes s ms g a tu) }

    pub link_sim : (n at : ℕ) (st : List Val) (l : Link) (k : Kind) → IsLink c k l → (v : Val) → Has k v → (k ≡ kind.Void → v ≡ Nothing) → HasAt w x.method at (link_code S at k l) →
        Sim w G x n Val (meaning L l v) at (pushed v st) (Pushed x n (link_kind l) (at + link_size S k l) st)
    link_sim n at st (link.Binary o e) k t v h void has =
        let q = at + expr_size S e in
        let solid = operands_solid o k (kind_of e) t.1 in
        let tail = has_back w x.method at (expr_size S e) (expr_code S at e) (binary_op o ∷ []) (expr_sized S at e) has in
        let end : q + 1 ≡ at + (expr_size S e + 1) = omega arith in
        on_cell program layout image class known b at v st (cells k solid.0 v h) (to_place w G (at + (expr_size S e + 1)) end
        (cell_then w G (expr_sim n at (v ∷ st) e t.0 (has_front w x.method at (expr_code S at e) (binary_op o ∷ []) has)) (holds e t.0) (cells (kind_of e) solid.1)
        (λ y hy. binary_sim w G x n (binary_kind o) o v y q st (binary_solid o) tail.0)))
    link_sim n at st (link.And e) k t v h void has =
        let q = at + 3 + expr_size S e in
        let unmet = q + 5 in
        let ce = expr_code S (at + 3) e in
        let behind = op.Not ∷ op.Not ∷ op.Jump (unmet + 2) ∷ op.Bool 0 ∷ [] in
        let tail = has_back w x.method (at + 3) (expr_size S e) ce behind (expr_sized S (at + 3) e) has.1 in
        let jump = subst (λ place. instruction_at image x.method place ≡ Some (op.Jump (unmet + 2))) (let z : q + 1 + 1 ≡ q + 2 = omega arith in z) tail.1.1.0 in
        let last = subst (λ place. instruction_at image x.method place ≡ Some (op.Bool 0)) (let z : q + 1 + 1 + 3 ≡ unmet = omega arith in z) tail.1.1.1.0 in
        let end : unmet + 2 ≡ at + (3 + expr_size S e + 7) = omega arith in
        let hb = subst (λ k. Has k v) t.1 h in
        on_cell program layout image class known b at v st (cells k (subst IsSolid (sym t.1) tt) v h) (to_place w G (at + (3 + expr_size S e + 7)) end
        (choose_bool program layout image class known b at unmet v st hb has.0
        (cell_then w G (expr_sim n (at + 3) st e t.0 (has_front w x.method (at + 3) ce behind has.1)) (holds e t.0) (cells (kind_of e) (subst IsSolid (sym t.2) tt))
        (λ y hy. extend w G (not_not_sim program layout image class known b n q y st (subst (λ k. Has k y) t.2 hy) (tail.0, (tail.1.0, tt))) (λ u s p e. jump_pushed w G (q + 2) (unmet + 2) jump u s p e)))
        (constant_sim w G x n kind.Bool (truth false) unmet (unmet + 2) (op.Bool 0) st last refl tt (λ s. refl))))
    link_sim n at st (link.Or e) k t v h void has =
        let q = at + 3 + expr_size S e in
        let met = q + 5 in
        let ce = expr_code S (at + 3) e in
        let behind = op.Not ∷ op.Not ∷ op.Jump (met + 2) ∷ op.Bool 1 ∷ [] in
        let tail = has_back w x.method (at + 3) (expr_size S e) ce behind (expr_sized S (at + 3) e) has.1 in
        let jump = subst (λ place. instruction_at image x.method place ≡ Some (op.Jump (met + 2))) (let z : q + 1 + 1 ≡ q + 2 = omega arith in z) tail.1.1.0 in
        let last = subst (λ place. instruction_at image x.method place ≡ Some (op.Bool 1)) (let z : q + 1 + 1 + 3 ≡ met = omega arith in z) tail.1.1.1.0 in
        let end : met + 2 ≡ at + (3 + expr_size S e + 7) = omega arith in
        let hb = subst (λ k. Has k v) t.1 h in
        on_cell program layout image class known b at v st (cells k (subst IsSolid (sym t.1) tt) v h) (to_place w G (at + (3 + expr_size S e + 7)) end
        (until_bool program layout image class known b at met v st hb has.0
        (constant_sim w G x n kind.Bool (truth true) met (met + 2) (op.Bool 1) st last refl tt (λ s. refl))
        (cell_then w G (expr_sim n (at + 3) st e t.0 (has_front w x.method (at + 3) ce behind has.1)) (holds e t.0) (cells (kind_of e) (subst IsSolid (sym t.2) tt))
        (λ y hy. extend w G (not_not_sim program layout image class known b n q y st (subst (λ k. Has k y) t.2 hy) (tail.0, (tail.1.0, tt))) (λ u s p e. jump_pushed w G (q + 2) (met + 2) jump u s p e)))))
    link_sim n at st (link.Field p i) k t v h void has = field_link program layout image class known b n at k v i p st h t has
    link_sim n at st (link.Part part i) k t v h void has =
        part_link program layout image class known b calls n at k v i part st h t (part_holds program known.typed class known.component b.frame calls k v i part h t) has
    link_sim n at st (link.Element p count i e) k t v h void has =
        let q = at + expr_size S e in
        let get = get_element_op p (offset_in S k i) count in
        let tail = has_back w x.method at (expr_size S e) (expr_code S at e) (get ∷ []) (expr_sized S at e) has in
        let end : q + 5 ≡ at + (expr_size S e + 5) = omega arith in
        on_cell program layout image class known b at v st (cells k (form_solid program k i (form.Array p count) t.0) v h) (to_place w G (at + (expr_size S e + 5)) end
        (cell_then w G (expr_sim n at (v ∷ st) e t.1 (has_front w x.method at (expr_code S at e) (get ∷ []) has)) (holds e t.1) (cells (kind_of e) (subst IsSolid (sym t.2) tt))
        (λ y hy. element_link program layout image class known b n q k v y i p count st h t.0 (subst (λ k. Has k y) t.2 hy) tail)))
    link_sim n at st (link.Size i) k t v h void has = size_link program layout image class known b n at k v i st h t has
    link_sim n at st (link.Byte i e) k t v h void has =
        let q = at + expr_size S e in
        let get = op.BufGet (offset_in S k i) (room_in S k i) in
        let tail = has_back w x.method at (expr_size S e) (expr_code S at e) (get ∷ []) (expr_sized S at e) has in
        let end : q + 5 ≡ at + (expr_size S e + 5) = omega arith in
        on_cell program layout image class known b at v st (cells k (form_solid program k i _ t.0.1) v h) (to_place w G (at + (expr_size S e + 5)) end
        (cell_then w G (expr_sim n at (v ∷ st) e t.1 (has_front w x.method at (expr_code S at e) (get ∷ []) has)) (holds e t.1) (cells (kind_of e) (subst IsSolid (sym t.2) tt))
        (λ y hy. byte_link program layout image class known b n q k v y i st h t.0 (subst (λ k. Has k y) t.2 hy) tail)))
    link_sim n at st (link.Invoke' r m _ args) k t v h void has =
        let q = at + exprs_size S args in
        let fs = evals L args in
        let ks = kinds_of args in
        let tail = has_back w x.method at (exprs_size S args) (exprs_code S at args) (invoke_op S k m ∷ []) (exprs_sized S at args) has in
        let end : q + invoke_size S m ≡ at + (exprs_size S args + invoke_size S m) = omega arith in
        let held = exprs_hold args t.0 in
        let many : length ks + 1 ≡ suc (length ks) = omega arith in
        let cell = cells k (object_solid k m (method_name program m) t.1.0) v h in
        let sim = exprs_sim n at q 1 st (v ∷ []) (replicate 64 Nothing) (v ∷ []) (suc (length ks)) 65 args t.0 (invoke_solid (object_class k) m r ks t.1) (cell, tt) (nothings 64) refl refl many refl (λ i u e. e) (has_front w x.method at (exprs_code S at args) (invoke_op S k m ∷ []) has) in
        on_cell program layout image class known b at v st cell (to_place w G (at + (exprs_size S args + invoke_size S m)) end
        (invoke_sim program layout image class known b calls frames followed deep n at q m k v r st ks fs held h t.1 sim tail.0))
    link_sim n at st (link.TextCall' o _ args) k t v h void has =
        let q = at + exprs_size S args in
        let fs = evals L args in
        let ks = kinds_of args in
        let tail = has_back w x.method at (exprs_size S args) (exprs_code S at args) (text_op o ∷ []) (exprs_sized S at args) has in
        let end : q + 1 ≡ at + (exprs_size S args + 1) = omega arith in
        let held = exprs_hold args t.0 in
        let many : length ks + 0 ≡ length ks = omega arith in
        let cell = cells k (subst IsSolid (sym t.1) tt) v h in
        let sim = exprs_sim n at q 0 (v ∷ st) [] (replicate 2 Nothing) [] (length ks) 2 args t.0 (subst AllSolid (sym t.2) (text_solid o)) tt (nothings 2) refl refl many refl (λ i u e. e) (has_front w x.method at (exprs_code S at args) (text_op o ∷ []) has) in
        on_cell program layout image class known b at v st cell (to_place w G (at + (exprs_size S args + 1)) end
        (then_sim w G sim (args_put program known.typed class known.component b.frame [] ks (text_kinds o) fs (replicate 2 Nothing) held (text_goes o ks t.2) (no_locals program class 2) (text_few o)) (record {
          each = λ xs p s point g built.
              let f : State → End Val = λ s. text_call program.texts o v xs s in
              let all = frame_all program layout image class known b (text_kinds o) built.args built.blank (subst (FrameHas program class (text_kinds o)) built.is p.0) (built.long ∙ ap length t.2) in
              let one = text_sim program layout image class known b n q o v built.args built.blank st all tail.0 in
              let same : Sim w G x n Val f q (push_all built.args (v ∷ st)) (Pushed x n (text_kind o) (q + 1) st) = subst (λ xs. Sim w G x n Val (λ s. text_call program.texts o v xs s) q (push_all built.args (v ∷ st)) (Pushed x n (text_kind o) (q + 1) st)) (sym built.is) one in
              from_stands w G same s point g built.stands;
        })))
    link_sim n at st (link.After e) k t v h void has =
        let q = at + pop_size k in
        let tail = has_back w x.method at (pop_size k) (pop_code k) (expr_code S q e) (pop_sized k) has in
        let end : q + expr_size S e ≡ at + (pop_size k + expr_size S e) = omega arith in
        let inner = to_place w G (at + (pop_size k + expr_size S e)) end (expr_sim n q st e t tail) in
        record { comes = λ s ms g a tu. by_pop program layout image class known b at k v st ms s.shared _ h void (has_front w x.method at (pop_code k) (expr_code S q e) has) (inner.comes s ms g a tu) }

    pub links_sim : {count : Count} (n at : ℕ) (st : List Val) (ls : Row_of-Link count) (k : Kind) → AreLinks c k ls → (v : Val) → Has k v → (k ≡ kind.Void → v ≡ Nothing) → HasAt w x.method at (links_code S at k ls) →
        Sim w G x n Val (in_chain (meanings L ls) v) at (pushed v st) (Pushed x n (kind_after k ls) (at + links_size S k ls) st)
    links_sim n at st end_of-Link k t v h void has =
        let e : at ≡ at + 0 = omega arith in
        none_sim w G (λ s q stands. record { void = void; stands = subst (λ place. Stands x n place (pushed v st) s q) e stands })
    links_sim n at st (more_of-Link l ls) k t v h void has =
        let q = at + link_size S k l in
        let tail = has_back w x.method at (link_size S k l) (link_code S at k l) (links_code S q (link_kind l) ls) (link_sized S at k l) has in
        let end : q + links_size S (link_kind l) ls ≡ at + (link_size S k l + links_size S (link_kind l) ls) = omega arith in
        to_place w G (at + (link_size S k l + links_size S (link_kind l) ls)) end
        (val_then w G (link_sim n at st l k t.0 v h void (has_front w x.method at (link_code S at k l) (links_code S q (link_kind l) ls) has)) (of_link program known.typed class known.component b.frame calls sound result l k t.0 v h)
        (λ y hy vd. links_sim n q st ls (link_kind l) t.1 y hy vd tail))

    pub exprs_sim : {count : Count} (n at last i : ℕ) (st done blank first : List Val) (many room : ℕ) (row : Row_of-Expr count) → AreExprs c row → AllSolid (kinds_of row) → AllCells done → AllNothing blank → length done ≡ i → length done + length blank ≡ room →
        length (kinds_of row) + i ≡ many → at + exprs_size S row ≡ last → ((j : ℕ) (u : Val) → slice_get first j ≡ Some u → slice_get done j ≡ Some u) → HasAt w x.method at (exprs_code S at row) →
        Sim w G x n (List Val) (put_all i (evals L row) (done ++ blank)) at (push_all done st) (Built x n last st many room first)
    exprs_sim n at last i st done blank first many room end_of-Expr t solid all none long room_is many_is last_is begins has =
        none_sim w G (λ s q stands. record {
          args = done;
          blank = blank;
          is = refl;
          cells = all;
          nothing = none;
          long = let z : length done ≡ many = omega (arith, long, many_is) in z;
          whole = room_is;
          begins = begins;
          stands = let e : at ≡ last = omega (arith, last_is) in subst (λ place. Stands x n place (push_all done st) s q) e stands;
        })
    exprs_sim n at last i st done blank first many room (more_of-Expr e es) t solid all none long room_is many_is last_is begins has =
        let q = at + expr_size S e in
        let tail = has_back w x.method at (expr_size S e) (expr_code S at e) (exprs_code S q es) (expr_sized S at e) has in
        cell_then w G (expr_sim n at (push_all done st) e t.0 (has_front w x.method at (expr_code S at e) (exprs_code S q es) has)) (holds e t.0) (cells (kind_of e) solid.0)
        (λ v hv. filled_sim w G x n q last i st done blank first v many room (evals L es) long (λ y ys is.
        let more : length (done ++ v ∷ []) ≡ length done + 1 = length-append done (v ∷ []) in
        let lb : length blank ≡ suc (length ys) = ap length is in
        exprs_sim n q last (i + 1) st (done ++ v ∷ []) ys first many room es t.1 solid.1 (cells_grown done v all (cells (kind_of e) solid.0 v hv)) (nothing_tail blank y ys is none)
        (let z : length (done ++ v ∷ []) ≡ i + 1 = omega (arith, more, long) in z)
        (let z : length (done ++ v ∷ []) + length ys ≡ room = omega (arith, more, lb, room_is) in z)
        (let z : length (kinds_of es) + (i + 1) ≡ many = omega (arith, many_is) in z)
        (let z : q + exprs_size S es ≡ last = omega (arith, last_is) in z)
        (grown first done v begins) tail))
