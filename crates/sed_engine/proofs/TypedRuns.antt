-- Typed expressions come to values of their kinds, or to traps.
use Rattle.std.proofs.Common.{◌≡◌, ℕ, true, false, Some, refl, sym, subst}
use Rattle.std.proofs.lemmas.Bool.{le-leb}
use Rattle.sed_value.specs.declared.slot_type.Primitive.{Primitive}
use Rattle.sed_typed.specs.declared.kind.Kind.{Kind}
use Rattle.sed_typed.specs.declared.kind.Kind.TheVariants as kind
use Rattle.sed_typed.specs.declared.number.TypeNo.{TypeNo}
use Rattle.sed_typed.specs.declared.operators.Gives.{Gives}
use Rattle.sed_typed.specs.declared.operators.Gives.TheVariants.{Old, New}
use Rattle.sed_typed.specs.declared.program.FieldForm.TheVariants as form
use Rattle.sed_typed.specs.declared.program.Program.{Program}
use Rattle.sed_typed.specs.declared.tree.Place.{Place}
use Rattle.sed_typed.specs.declared.tree.Place.TheVariants as place
use Rattle.sed_typed.specs.declared.tree.Expr.{Expr, Row_of-Expr, end_of-Expr, more_of-Expr, Row_of-Link, end_of-Link, more_of-Link}
use Rattle.sed_typed.specs.declared.tree.Expr.TheVariants as expr
use Rattle.sed_typed.specs.declared.tree.Link.{Link}
use Rattle.sed_typed.specs.declared.tree.Link.TheVariants as link
use Rattle.sed_typed.specs.Kinds.{read_kind, place_kind, kind_of, link_kind, kind_after}
use Rattle.sed_typed.specs.Typed.{Typed}
use Rattle.sed_typed.specs.TypedExpr.{Context, IsReference, IsExpr, IsPlace, IsLink, AreExprs, AreLinks, kinds_of, field_form}
use Rattle.sed_engine.specs.Values.{Val, Truth, Int, Long, Null, At, Literal, truth, is_met}
use Rattle.sed_engine.specs.Stops.{map_ok}
use Rattle.sed_engine.specs.Operators.{arithmetic_of, binary_of, unary_of, given}
use Rattle.sed_engine.specs.State.{State}
use Rattle.sed_engine.specs.Places.{Target, OfLocal, OfStatic, OfField, OfElement, OfStaticElement, static_spot}
use Rattle.sed_engine.specs.Expressions.{Setting, Calls, in_chain, eval, locate, meaning, evals, meanings}
use Rattle.sed_engine.proofs.Below.{absent}
use Rattle.sed_engine.proofs.CallSteps.{CallsSound, weaker, ArgsHold, NoArgs, OneArg, static_holds, super_holds, invoke_holds}
use Rattle.sed_engine.proofs.Kinded.{HasKind, IsObject, goes, binary_is, unary_is, arithmetic_is, truth_is, truth_of_met}
use Rattle.sed_engine.proofs.Parts.{TargetHas, field_holds, part_holds, field_element_holds, static_element_holds, static_there, static_part_holds, fetch_holds, put_holds}
use Rattle.sed_engine.proofs.Ready.{Ready, Frame, Holds, then_holds, gives_it, answers_it, chooses, read_holds, read_local_holds, this_holds, moment_holds}
use Rattle.sed_engine.proofs.Spots.{Concrete}
use Rattle.sed_engine.proofs.TextSteps.{text_call_holds, size_holds, byte_holds}

module _ (program : Program) (typed : Typed program) (class : ℕ) (component : Concrete program class) (m : Frame) (calls : Calls) (sound : CallsSound program class calls) (result : Kind) where
  abbrev pub G : State → Type 0
  G s = Ready program class m.own m.static m.locals s

  abbrev pub Has : Kind → Val → Type 0
  Has k v = HasKind program class k v

  abbrev pub w : Setting
  w = record { program = program; class = class; calls = calls }

  abbrev pub c : Context
  c = record { program = program; class = m.own.0; is_static = m.static; locals = m.locals; result = result }

  null_is : (k : Kind) → IsReference k → Has k Null
  null_is kind.Text r = tt
  null_is (kind.Object d) r = tt
  null_is k r = absurd r

  -- the receiver as an object of the class in which it is written
  self_is : (d : TypeNo) (v : Val) → d.0 ≡ m.own.0 → Has (kind.Object m.own) v → Has (kind.Object d) v
  self_is d Null e h = tt
  self_is d (At spot) e h = subst (λ (n : ℕ). IsObject program class n spot) (sym e) h
  self_is d v e h = absurd h

  given_is : (g : Gives) (k : Kind) (old new : Val) → Has k old → Has k new → Has k (given g old new)
  given_is Old k old new h g = h
  given_is New k old new h g = g

  of_field : (k : Kind) (v : Val) (i : ℕ) (p : Primitive) → Has k v → field_form program k i ≡ Some (form.Prim p) → Holds G Val (Has (read_kind p)) (meaning w (link.Field p i) v)
  of_field (kind.Object d) v i p h e = then_holds (field_holds program typed class component m d v i (form.Prim p) h e) (λ spot s. read_holds program typed class component m spot p s.form)
  of_field k v i p h e = absent (form.Prim p) e

  target_field : (k : Kind) (v : Val) (i : ℕ) (p : Primitive) → Has k v → field_form program k i ≡ Some (form.Prim p) → TargetHas program typed class component m (read_kind p) (OfField p v i)
  target_field (kind.Object d) v i p h e = (refl, (d, h, e))
  target_field k v i p h e = absent (form.Prim p) e

  mutual
    pub of_expr : (e : Expr) → IsExpr c e → Holds G Val (Has (kind_of e)) (eval w e)
    of_expr (expr.Int n) t = gives_it (Int n) t
    of_expr (expr.Long n) t = gives_it (Long n) t
    of_expr (expr.Bool b) t = gives_it (Truth b) (le-leb b 2 t)
    of_expr (expr.Null k) t = gives_it Null (null_is k t.0)
    of_expr (expr.Text n) t = gives_it (Literal n) t
    of_expr (expr.This d) t = weaker (this_holds program typed class component m t.0) (λ v h. self_is d v t.1 h)
    of_expr (expr.Local k i) t = read_local_holds program typed class component m i k t
    of_expr (expr.Static p i) t = read_holds program typed class component m (static_spot i) p (static_there program class i (form.Prim p) t).form
    of_expr (expr.StaticPart k i) t = static_part_holds program typed class component m calls i k t
    of_expr (expr.StaticElement' p n i q e) t =
        then_holds (of_expr e t.1) (λ x hx. then_holds (static_element_holds program typed class component m p n i x t.0 (subst (λ k. Has k x) t.2 hx)) (λ spot s. read_holds program typed class component m spot p s))
    of_expr expr.Ticks t = moment_holds program typed class component m
    of_expr (expr.Unary' op p e) t = then_holds (of_expr e t.0) (λ v h. answers_it (unary_of op v) (unary_is program class op v (subst (λ k. Has k v) t.1 h)))
    of_expr (expr.Choose' p x q a r b) t =
        then_holds (of_expr x t.0) (λ v h. chooses program class v (subst (λ k. Has k v) t.3 h) (of_expr a t.1) (subst (λ k. Holds G Val (Has k) (eval w b)) (sym t.4) (of_expr b t.2)))
    of_expr (expr.Set' target p e) t =
        then_holds (of_place target t.0) (λ x hx. then_holds (of_expr e t.1) (λ v h. put_holds program typed class component m (place_kind target) x v hx (goes program class (kind_of e) (place_kind target) v t.2 h)))
    of_expr (expr.Update' u target p e) t =
        then_holds (of_place target t.0) (λ x hx.
        then_holds (fetch_holds program typed class component m (place_kind target) x hx) (λ old ho.
        then_holds (of_expr e t.1) (λ v h.
        then_holds (answers_it (arithmetic_of u.arithmetic u.width old v) (arithmetic_is program class u.arithmetic u.width old v (subst (λ k. Has k old) t.2 ho) (subst (λ k. Has k v) t.3 h))) (λ y hy.
        then_holds (put_holds program typed class component m (place_kind target) x y hx (subst (λ k. Has k y) (sym t.2) hy)) (λ new hn.
        gives_it (given u.gives old new) (given_is u.gives (place_kind target) old new ho hn))))))
    of_expr (expr.Call' k n shape args) t = static_holds program typed class component m calls sound n k (kinds_of args) (evals w args) (of_exprs args t.0) t.1
    of_expr (expr.Super' k n shape args) t = super_holds program typed class component m calls sound n k (kinds_of args) (evals w args) (of_exprs args t.0) t.1 t.2
    of_expr (expr.Chain' p e shape links) t = then_holds (of_expr e t.0) (λ v h. of_links links (kind_of e) t.1 v h)

    pub of_place : (t : Place) → IsPlace c t → Holds G Target (TargetHas program typed class component m (place_kind t)) (locate w t)
    of_place (place.Local k i) t = gives_it (OfLocal k i) (refl, t.0)
    of_place (place.Static p i) t = gives_it (OfStatic p i) (refl, (static_there program class i (form.Prim p) t).form)
    of_place (place.Field' p q e i) t = then_holds (of_expr e t.0) (λ v h. gives_it (OfField p v i) (target_field (kind_of e) v i p h t.1))
    of_place (place.Element' p n q e f r i) t =
        then_holds (of_expr e t.0) (λ v h. then_holds (of_expr i t.2) (λ x hx. gives_it (OfElement p n v f x) (refl, (kind_of e, h, t.1), subst (λ k. Has k x) t.3 hx)))
    of_place (place.StaticElement' p n i q e) t = then_holds (of_expr e t.1) (λ x hx. gives_it (OfStaticElement p n i x) (refl, t.0, subst (λ k. Has k x) t.2 hx))

    pub of_link : (l : Link) (k : Kind) → IsLink c k l → (v : Val) → Has k v → Holds G Val (Has (link_kind l)) (meaning w l v)
    of_link (link.Binary op e) k t v h = then_holds (of_expr e t.0) (λ x hx. answers_it (binary_of op v x) (binary_is program class op k (kind_of e) v x t.1 h hx))
    of_link (link.And e) k t v h =
        chooses program class v (subst (λ k. Has k v) t.1 h) (then_holds (of_expr e t.0) (λ x hx. answers_it (map_ok truth (is_met x)) (truth_of_met program class x (subst (λ k. Has k x) t.2 hx)))) (gives_it (truth false) (truth_is program class false))
    of_link (link.Or e) k t v h =
        chooses program class v (subst (λ k. Has k v) t.1 h) (gives_it (truth true) (truth_is program class true)) (then_holds (of_expr e t.0) (λ x hx. answers_it (map_ok truth (is_met x)) (truth_of_met program class x (subst (λ k. Has k x) t.2 hx))))
    of_link (link.Field p i) k t v h = of_field k v i p h t
    of_link (link.Part part i) k t v h = part_holds program typed class component m calls k v i part h t
    of_link (link.Element p n i e) k t v h =
        then_holds (of_expr e t.1) (λ x hx. then_holds (field_element_holds program typed class component m k p n v i x h t.0 (subst (λ k. Has k x) t.2 hx)) (λ spot s. read_holds program typed class component m spot p s))
    of_link (link.Size i) k t v h = size_holds program typed class component m calls k v i h t
    of_link (link.Byte i e) k t v h = then_holds (of_expr e t.1) (λ x hx. byte_holds program typed class component m calls k v i x h t.0 (subst (λ k. Has k x) t.2 hx))
    of_link (link.Invoke' r n shape args) k t v h = invoke_holds program typed class component m calls sound k v n r (kinds_of args) (evals w args) (of_exprs args t.0) h t.1
    of_link (link.TextCall' op shape args) k t v h = text_call_holds program typed class component m calls op v (kinds_of args) (evals w args) (of_exprs args t.0) (subst (λ k. Has k v) t.1 h) t.2
    of_link (link.After e) k t v h = of_expr e t

    of_exprs : {n : _} (es : Row_of-Expr n) → AreExprs c es → ArgsHold G Has (kinds_of es) (evals w es)
    of_exprs end_of-Expr t = NoArgs
    of_exprs (more_of-Expr e es) t = OneArg (kind_of e) (kinds_of es) (eval w e) (evals w es) (of_expr e t.0) (of_exprs es t.1)

    of_links : {n : _} (ls : Row_of-Link n) (k : Kind) → AreLinks c k ls → (v : Val) → Has k v → Holds G Val (Has (kind_after k ls)) (in_chain (meanings w ls) v)
    of_links end_of-Link k t v h = gives_it v h
    of_links (more_of-Link l ls) k t v h = then_holds (of_link l k t.0 v h) (λ x hx. of_links ls (link_kind l) t.1 x hx)
