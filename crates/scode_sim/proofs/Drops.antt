-- Expressions whose value is not used.
use Rattle.std.proofs.Common.{◌≡◌, ℕ, ◌+◌, suc, List, [], ◌∷◌, ◌++◌, length, sym, ap, subst, arith}
use Rattle.sed_typed.specs.declared.kind.Kind.{Kind}
use Rattle.sed_typed.specs.declared.program.Program.{Program}
use Rattle.sed_typed.specs.declared.tree.Expr.{Expr}
use Rattle.sed_typed.specs.declared.tree.Expr.TheVariants as expr
use Rattle.sed_typed.specs.Kinds.{place_kind, kind_of}
use Rattle.sed_typed.specs.TypedExpr.{Context, IsExpr}
use Rattle.sed_engine.specs.Expressions.{Setting as Source, Calls, eval}
use Rattle.sed_engine.specs.State.{State}
use Rattle.sed_engine.specs.Values.{Val, At, Statics}
use Rattle.sed_engine.proofs.CallSteps.{CallsSound}
use Rattle.sed_engine.proofs.Kinded.{HasKind, goes}
use Rattle.sed_engine.proofs.Ready.{Holds}
use Rattle.sed_engine.proofs.TypedRuns.{of_expr, of_place}
use Rattle.scode_image.specs.declared.image.Image.{Image}
use Rattle.scode_code.specs.Fields.{Setting}
use Rattle.scode_emit.specs.Site.{Site, Layout}
use Rattle.scode_emit.specs.Instructions.{arithmetic_op, storage, put_code, put_size, fetch_code, fetch_size, pop_code, pop_size}
use Rattle.scode_emit.specs.Sizes.{expr_size, place_size, drop_size}
use Rattle.scode_emit.specs.Code.{expr_code, place_code, drop_code}
use Rattle.scode_emit.proofs.Counts.{fetch_sized}
use Rattle.scode_emit.proofs.Sized.{expr_sized, place_sized}
use Rattle.scode_sim.proofs.CallSims.{CallsFollowed}
use Rattle.scode_sim.proofs.Callees.{goes_solid}
use Rattle.scode_sim.proofs.Comes.{Comes, here}
use Rattle.scode_sim.proofs.Context.{Known, Body, running, site, machine, source, runs}
use Rattle.scode_sim.proofs.Follows.{point, Stands, HasAt, has_front, has_back, Sim, from_stands, then_sim, cell_then, extend_held}
use Rattle.scode_sim.proofs.Frames.{Running, IsCell, IsSolid}
use Rattle.scode_sim.proofs.Links.{by_pop}
use Rattle.scode_sim.proofs.Located.{located_solid, put_sim}
use Rattle.scode_sim.proofs.Updates.{update_drop_sim}
use Rattle.scode_sim.proofs.Stores.{cell_of_kind}
use Rattle.scode_sim.proofs.Solids.{right_solid}
use Rattle.scode_sim.proofs.Expressions.{expr_sim, place_sim}

module _ (program : Program) (layout : Layout) (image : Image) (class : ℕ) (known : Known program layout image class) (b : Body) (calls : Calls) (sound : CallsSound program class calls) (result : Kind) (frames : ℕ) (followed : CallsFollowed program image class frames calls) (deep : suc (length b.below) + frames ≡ 32) where
  abbrev w : Setting
  w = machine image class

  abbrev x : Running
  x = running b

  abbrev S : Site
  S = site program layout b

  abbrev G : State → Type 0
  G s = runs program class b s

  abbrev Has : Kind → Val → Type 0
  Has k v = HasKind program class k v

  abbrev L : Source
  L = source program class calls

  abbrev c : Context
  c = record { program = program; class = b.frame.own.0; is_static = b.frame.static; locals = b.frame.locals; result = result }

  abbrev block : Val
  block = At (record { base = Statics; path = [] })

  abbrev holds : (e : Expr) → IsExpr c e → Holds G Val (Has (kind_of e)) (eval L e)
  holds e t = of_expr program known.typed class known.component b.frame calls sound result e t

  cells : (k : Kind) → IsSolid k → (v : Val) → Has k v → IsCell v
  cells k solid v h = cell_of_kind program class k v solid h

  -- ---- a value that is not used

  others_drop : (n at : ℕ) (st : List Val) (e : Expr) → IsExpr c e → HasAt w x.method at (expr_code S at e ++ pop_code (kind_of e)) → Sim w G x n Val (eval L e) at st (λ v s q. Stands x n (at + (expr_size S e + pop_size (kind_of e))) st s q)
  others_drop n at st e t has =
      let q = at + expr_size S e in
      let k = kind_of e in
      let tail = has_back w x.method at (expr_size S e) (expr_code S at e) (pop_code k) (expr_sized S at e) has in
      let end : q + pop_size k ≡ at + (expr_size S e + pop_size k) = omega arith in
      extend_held w G (expr_sim program layout image class known b calls sound result frames followed deep n at st e t (has_front w x.method at (expr_code S at e) (pop_code k) has)) (holds e t)
      (λ v h s p g pushed_it.
      let d = pushed_it.stands in
      subst (λ p. Comes w p (Stands x n (at + (expr_size S e + pop_size k)) st s)) (sym d.is)
      (by_pop program layout image class known b q k v st d.locals s.shared _ h pushed_it.void tail
      (here (record { locals = d.locals; agree = d.agree; turns = d.turns; is = ap (λ place. point x place d.locals st s.shared) end }))))

  pub drop_sim : (n at : ℕ) (st : List Val) (e : Expr) → IsExpr c e → HasAt w x.method at (drop_code S at e) → Sim w G x n Val (eval L e) at st (λ v s q. Stands x n (at + drop_size S e) st s q)
  drop_sim n at st (expr.Set' target pe e) t has =
      let q = at + place_size S target in
      let r = q + expr_size S e in
      let sg = storage S target in
      let ce = expr_code S q e in
      let from = has_back w x.method at (place_size S target) (place_code S at target) (ce ++ put_code sg) (place_sized S at target) has in
      let tail = has_back w x.method q (expr_size S e) ce (put_code sg) (expr_sized S q e) from in
      let end : r + put_size sg ≡ at + (place_size S target + expr_size S e + put_size sg) = omega arith in
      subst (λ next. Sim w G x n Val (eval L (expr.Set' target pe e)) at st (λ v s q. Stands x n next st s q)) end
      (then_sim w G (place_sim program layout image class known b calls sound result frames followed deep n at st target t.0 (has_front w x.method at (place_code S at target) _ has)) (of_place program known.typed class known.component b.frame calls sound result target t.0) (record {
        each = λ u hu s p g l.
            let solid = located_solid program layout image class known b (place_kind target) sg u st l.0 l.1 in
            from_stands w G (cell_then w G (expr_sim program layout image class known b calls sound result frames followed deep n q l.0 e t.1 (has_front w x.method q ce (put_code sg) from)) (holds e t.1) (cells (kind_of e) (goes_solid program (kind_of e) (place_kind target) t.2 solid))
            (λ v h. put_sim program layout image class known b n r (place_kind target) sg u st l.0 v l.1 (goes program class (kind_of e) (place_kind target) v t.2 h) tail)) s p g l.2;
      }))
  drop_sim n at st (expr.Update' u target pe e) t has =
      let q = at + place_size S target in
      let sg = storage S target in
      let r = q + fetch_size sg in
      let tail = arithmetic_op u.arithmetic u.width ∷ put_code sg in
      let code = fetch_code S sg ++ (expr_code S r e ++ tail) in
      let from = has_back w x.method at (place_size S target) (place_code S at target) code (place_sized S at target) has in
      let from2 = has_back w x.method q (fetch_size sg) (fetch_code S sg) (expr_code S r e ++ tail) (fetch_sized S sg) from in
      let last = has_back w x.method r (expr_size S e) (expr_code S r e) tail (expr_sized S r e) from2 in
      let end : r + expr_size S e + 1 + put_size sg ≡ at + (place_size S target + fetch_size sg + expr_size S e + 1 + put_size sg) = omega arith in
      subst (λ next. Sim w G x n Val (eval L (expr.Update' u target pe e)) at st (λ v s q. Stands x n next st s q)) end
      (then_sim w G (place_sim program layout image class known b calls sound result frames followed deep n at st target t.0 (has_front w x.method at (place_code S at target) code has)) (of_place program known.typed class known.component b.frame calls sound result target t.0) (record {
        each = λ y hy s p g l.
            from_stands w G (update_drop_sim program layout image class known b u.gives n q (r + expr_size S e) u.arithmetic u.width (place_kind target) sg y st l.0 (eval L e) (kind_of e) l.1 hy t.2 t.3 (subst IsSolid (sym t.3) (right_solid u.arithmetic u.width)) (holds e t.1)
            (has_front w x.method q (fetch_code S sg) (expr_code S r e ++ tail) from) (λ stack. expr_sim program layout image class known b calls sound result frames followed deep n r stack e t.1 (has_front w x.method r (expr_code S r e) tail from2)) last) s p g l.2;
      }))
  drop_sim n at st (expr.Int m) t has = others_drop n at st (expr.Int m) t has
  drop_sim n at st (expr.Long m) t has = others_drop n at st (expr.Long m) t has
  drop_sim n at st (expr.Bool m) t has = others_drop n at st (expr.Bool m) t has
  drop_sim n at st (expr.Null k) t has = others_drop n at st (expr.Null k) t has
  drop_sim n at st (expr.Text m) t has = others_drop n at st (expr.Text m) t has
  drop_sim n at st (expr.This d) t has = others_drop n at st (expr.This d) t has
  drop_sim n at st (expr.Local k i) t has = others_drop n at st (expr.Local k i) t has
  drop_sim n at st (expr.Static p i) t has = others_drop n at st (expr.Static p i) t has
  drop_sim n at st (expr.StaticPart k i) t has = others_drop n at st (expr.StaticPart k i) t has
  drop_sim n at st (expr.StaticElement' p m i q e) t has = others_drop n at st (expr.StaticElement' p m i q e) t has
  drop_sim n at st expr.Ticks t has = others_drop n at st expr.Ticks t has
  drop_sim n at st (expr.Unary' o p e) t has = others_drop n at st (expr.Unary' o p e) t has
  drop_sim n at st (expr.Choose' p e q f r g) t has = others_drop n at st (expr.Choose' p e q f r g) t has
  drop_sim n at st (expr.Call' k m shape args) t has = others_drop n at st (expr.Call' k m shape args) t has
  drop_sim n at st (expr.Super' k m shape args) t has = others_drop n at st (expr.Super' k m shape args) t has
  drop_sim n at st (expr.Chain' p e shape links) t has = others_drop n at st (expr.Chain' p e shape links) t has
