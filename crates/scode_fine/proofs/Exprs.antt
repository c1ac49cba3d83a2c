-- The code of typed expressions is walked along, from any kinds below to those with the expression's own above them.
use Rattle.std.proofs.Common.{◌≡◌, ◌≤◌, ◌<◌, inl, ℕ, suc, ◌+◌, List, [], ◌∷◌, ◌++◌, length, Some, refl, sym, ap, subst, ◌∙◌, arith}
use mathlib.Core.Former.{Count}
use Rattle.sed_typed.specs.declared.kind.Kind.{Kind}
use Rattle.sed_typed.specs.declared.operators.Width.{Width}
use Rattle.sed_typed.specs.declared.operators.Width.TheVariants as width
use Rattle.sed_typed.specs.declared.program.FieldForm.TheVariants as form
use Rattle.sed_typed.specs.declared.program.Program.{Program}
use Rattle.sed_typed.specs.declared.tree.Place.{Place}
use Rattle.sed_typed.specs.declared.tree.Place.TheVariants as place
use Rattle.sed_typed.specs.declared.tree.Expr.{Expr, Row_of-Expr, end_of-Expr, more_of-Expr, Row_of-Link, end_of-Link, more_of-Link}
use Rattle.sed_typed.specs.declared.tree.Expr.TheVariants as expr
use Rattle.sed_typed.specs.declared.tree.Link.{Link}
use Rattle.sed_typed.specs.declared.tree.Link.TheVariants as link
use Rattle.sed_typed.specs.Kinds.{kind_after, kind_of, link_kind, place_kind, read_kind, width_kind}
use Rattle.sed_typed.specs.TypedExpr.{AreExprs, AreLinks, Context, GoesTo, IsExpr, IsLink, IsPlace, field_form, kinds_of, right_kind, static_form, text_kinds}
use Rattle.scode_code.specs.Kinds.{bool, int, object, statics, str}
use Rattle.scode_ops.specs.declared.op.Op.{Op}
use Rattle.scode_ops.specs.declared.op.Op.TheVariants as op
use Rattle.scode_ops.specs.Decoding.{size_of}
use Rattle.scode_emit.specs.Code.{expr_code, exprs_code, link_code, links_code, place_code}
use Rattle.scode_emit.specs.Instructions.{arithmetic_op, before_code, before_size, keep_code, pop_code, pop_size, storage}
use Rattle.scode_emit.specs.Sizes.{expr_size, exprs_size, link_size, place_size}
use Rattle.scode_emit.specs.Site.{Site}
use Rattle.scode_emit.proofs.Counts.{arithmetic_sized, before_sized, count, pop_sized}
use Rattle.scode_emit.proofs.Sized.{expr_sized, exprs_sized, link_sized, place_sized}
use Rattle.scode_entries.specs.declared.marks.Mark.{Mark}
use Rattle.scode_entries.specs.Entries.{above, cell_of, expr_marks, exprs_marks, link_marks, links_marks, mark, place_marks, with_old, with_place}
use Rattle.scode_entries.specs.Stack.{expr_stack, exprs_stack, link_stack, links_stack, place_stack}
use Rattle.scode_entries.proofs.Admits.{Each}
use Rattle.scode_entries.proofs.Tall.{above_length, old_length, place_length, stack_positive}
use Rattle.scode_sim.proofs.Callees.{goes_solid}
use Rattle.scode_sim.proofs.Solids.{form_solid, reference_solid}
use Rattle.scode_sim.proofs.Stores.{read_solid}
use Rattle.scode_fine.proofs.Builds.{jump_does, load_does, null_does, unless_does, if_does}
use Rattle.scode_fine.proofs.Facts.{Facts, part_holder, part_solid, solid_above}
use Rattle.scode_fine.proofs.Has.{each_back, each_front}
use Rattle.scode_fine.proofs.PlainOps.{args_on, arithmetic_does, binary_does, bool_does, int_does, long_does, not_does, pop_walks, statics_does, text_does, ticks_does, unary_walks}
use Rattle.scode_fine.proofs.Storages.{before_walks, behind_walks, keep_walks, wanted}
use Rattle.scode_fine.proofs.Targets.{old_is, stored_as, target_solid}
use Rattle.scode_fine.proofs.Walks.{Enters, Ground, Runs, Stack, Stops, Walks, both, ended, from_stack, onto, only, runs, to_stack}

pub behind : (at n : ℕ) (ops : List Op) → count ops ≡ n → at + n ≡ at + count ops
behind at n ops e = ap (λ (k : ℕ). at + k) (sym e)

pub args_most : {n : Count} (most : ℕ) (es : Row_of-Expr n) (below : Stack) → length below + exprs_stack es ≤ most →
    length (args_on (kinds_of es) below) ≤ most
args_most most end_of-Expr below le = omega (arith, le)
args_most most (more_of-Expr e es) below le =
    let here = above_length (kind_of e) below in
    args_most most es (above (kind_of e) below) (omega (arith, le, here))

-- what is computed in a width goes to that width
pub width_goes : (program : Program) (w : Width) (k : Kind) → k ≡ width_kind w → GoesTo program k k
width_goes program width.Int k e = subst (λ (x : Kind). GoesTo program x x) (sym e) refl
width_goes program width.Long k e = subst (λ (x : Kind). GoesTo program x x) (sym e) refl

module _ (g : Ground) (c : Context) (w : Site) (f : Facts g c w) where
  abbrev pub Tells : Mark → Type 0
  Tells k = g.Told k.place k.stack

  -- ---- parts

  -- a bool that is met or not, and then the other one
  truth_walks : (below : Stack) (at other t : ℕ) → other ≡ at + 5 → g.Told other below → g.Told (other + 2) (bool ∷ below) →
      length below + 1 ≤ g.m.stack →
      Walks g at (Some (bool ∷ below)) (op.Not ∷ op.Not ∷ op.Jump (other + 2) ∷ op.Bool t ∷ [])
      (mark other below ∷ mark (other + 2) (bool ∷ below) ∷ []) [] (Some (bool ∷ below))
  truth_walks below at other t is told last low =
      let low_one : length (bool ∷ below) ≤ g.m.stack = omega (arith, low) in
      let low_none : length below ≤ g.m.stack = omega (arith, low) in
      let step : other ≡ at + 1 + 1 + 3 = omega (arith, is) in
      let less : at + 1 + 1 < other + 2 = omega (arith, is) in
      runs (not_does g below at low_one low_one)
      (runs (not_does g below (at + 1) low_one low_one)
      (Runs (jump_does g (at + 1 + 1) (other + 2) (bool ∷ below) last less low_one) step
      (Enters (mark other below) refl tt
      (Runs {to = other + 2} (bool_does g t below other low_none low_one) refl
      (Enters (mark (other + 2) (bool ∷ below)) refl refl Stops)))))

  -- what is stored and kept, from the kinds that a value comes with
  kept_walks : (target : Place) (e : Expr) (below : Stack) (at : ℕ) → IsPlace c target →
      GoesTo c.program (kind_of e) (place_kind target) → length (with_place target below) + 2 ≤ g.m.stack →
      Walks g at (Some (above (kind_of e) (with_place target below))) (keep_code w (storage w target)) [] []
      (Some (above (place_kind target) below))
  kept_walks target e below at h goes low =
      let solid = target_solid g c w f target h in
      from_stack (sym (solid_above (kind_of e) (with_place target below) (goes_solid c.program (kind_of e) (place_kind target) goes solid)))
      (to_stack (sym (solid_above (place_kind target) below solid))
      (keep_walks g c w f at (kind_of e) (stored_as g c w f target below h) goes low))

  mutual
    pub expr_walks : (below : Stack) (at : ℕ) (e : Expr) → IsExpr c e → Each Tells (expr_marks w below at e) →
        length below + expr_stack e ≤ g.m.stack →
        Walks g at (Some below) (expr_code w at e) (expr_marks w below at e) [] (Some (above (kind_of e) below))
    expr_walks below at (expr.Int n) h t le = only (int_does g n below at (omega (arith, le)) (omega (arith, le)))
    expr_walks below at (expr.Long n) h t le = only (long_does g n below at (omega (arith, le)) (omega (arith, le)))
    expr_walks below at (expr.Bool n) h t le = only (bool_does g n below at (omega (arith, le)) (omega (arith, le)))
    expr_walks below at (expr.Null k) h t le =
        to_stack (sym (solid_above k below (reference_solid k h.0)))
        (only (null_does g (cell_of k) below (f.null_goes k h.0 h.1) at (omega (arith, le)) (omega (arith, le))))
    expr_walks below at (expr.Text n) h t le = only (f.text n below h at (omega (arith, le)) (omega (arith, le)))
    expr_walks below at (expr.This class) h t le =
        to_stack (ap (λ (n : ℕ). object n ∷ below) (sym (h.1 ∙ f.own)))
        (only (load_does g 0 (object w.class) below (f.receiver h.0) at (omega (arith, le)) (omega (arith, le))))
    expr_walks below at (expr.Local k i) h t le =
        to_stack (sym (solid_above k below (f.solid i k h)))
        (only (load_does g i (cell_of k) below (f.locals i k h) at (omega (arith, le)) (omega (arith, le))))
    expr_walks below at (expr.Static p i) h t le =
        to_stack (sym (solid_above (read_kind p) below (read_solid p)))
        (runs (statics_does g below at (omega (arith, le)) (omega (arith, le)))
        (only (f.get_static i p below h _ (omega (arith, le)) (omega (arith, le)))))
    expr_walks below at (expr.StaticPart k i) h t le =
        to_stack (sym (solid_above k below (part_solid (static_form c.program i) k h)))
        (runs (statics_does g below at (omega (arith, le)) (omega (arith, le)))
        (only (f.static_part i k below h _ (omega (arith, le)) (omega (arith, le)))))
    expr_walks below at (expr.StaticElement' p n i q e) h t le =
        let next = at + 1 + expr_size w e in
        let one = stack_positive e in
        to_stack (sym (solid_above (read_kind p) below (read_solid p)))
        (Runs {to = at + 1} (statics_does g below at (omega (arith, le)) (omega (arith, le))) refl
        (onto (to_stack (ap (λ (k : Kind). above k (statics ∷ below)) h.2)
        (expr_walks (statics ∷ below) (at + 1) e h.1 t (omega (arith, le)))) (behind (at + 1) (expr_size w e) (expr_code w (at + 1) e) (expr_sized w (at + 1) e))
        (only (f.get_static_at i n p below h.0 next (omega (arith, le, one)) (omega (arith, le))))))
    expr_walks below at expr.Ticks h t le = only (ticks_does g below at (omega (arith, le)) (omega (arith, le)))
    expr_walks below at (expr.Unary' u p e) h t le =
        let one = stack_positive e in
        onto (to_stack (ap (λ (k : Kind). above k below) h.1) (expr_walks below at e h.0 t le)) (behind at (expr_size w e) (expr_code w at e) (expr_sized w at e))
        (unary_walks g (at + expr_size w e) u below (omega (arith, le, one)))
    expr_walks below at (expr.Choose' p x q a r b) h t le =
        let mid = at + expr_size w x in
        let first = mid + 3 in
        let met = first + expr_size w a in
        let second = met + 3 in
        let end = second + expr_size w b in
        let one = stack_positive x in
        let most = above_length (kind_of a) below in
        let behind_x = each_back Tells (expr_marks w below at x) (expr_marks w below first a ++ mark second below ∷ (expr_marks w below second b ++ mark end (above (kind_of a) below) ∷ [])) t in
        let others = each_back Tells (expr_marks w below first a) (mark second below ∷ (expr_marks w below second b ++ mark end (above (kind_of a) below) ∷ [])) behind_x in
        let last = each_back Tells (expr_marks w below second b) (mark end (above (kind_of a) below) ∷ []) others.1 in
        let of_x = each_front Tells (expr_marks w below at x) (expr_marks w below first a ++ mark second below ∷ (expr_marks w below second b ++ mark end (above (kind_of a) below) ∷ [])) t in
        let of_a = each_front Tells (expr_marks w below first a) (mark second below ∷ (expr_marks w below second b ++ mark end (above (kind_of a) below) ∷ [])) behind_x in
        let of_b = each_front Tells (expr_marks w below second b) (mark end (above (kind_of a) below) ∷ []) others.1 in
        both (to_stack (ap (λ (k : Kind). above k below) h.3) (expr_walks below at x h.0 of_x (omega (arith, le)))) (behind at (expr_size w x) (expr_code w at x) (expr_sized w at x))
        (Runs {to = first} (unless_does g mid second below others.0 (omega arith) (omega (arith, le, one))) refl
        (both (expr_walks below first a h.1 of_a (omega (arith, le))) (behind first (expr_size w a) (expr_code w first a) (expr_sized w first a))
        (Runs {to = second} (jump_does g met end (above (kind_of a) below) last.0 (omega arith) (omega (arith, le, one, most))) refl
        (Enters (mark second below) refl tt
        (ended (mark end (above (kind_of a) below)) (to_stack (ap (λ (k : Kind). above k below) (sym h.4)) (expr_walks below second b h.2 of_b (omega (arith, le)))) (behind second (expr_size w b) (expr_code w second b) (expr_sized w second b)) refl)))))
    expr_walks below at (expr.Set' target p e) h t le =
        let next = at + place_size w target in
        let cells = place_length target below in
        let one = stack_positive e in
        both (place_walks below at target h.0 (each_front Tells (place_marks w below at target) (expr_marks w (with_place target below) next e) t) (omega (arith, le))) (behind at (place_size w target) (place_code w at target) (place_sized w at target))
        (onto (expr_walks (with_place target below) next e h.1
        (each_back Tells (place_marks w below at target) (expr_marks w (with_place target below) next e) t) (omega (arith, le, cells))) (behind next (expr_size w e) (expr_code w next e) (expr_sized w next e))
        (kept_walks target e below (next + expr_size w e) h.0 h.2 (omega (arith, le, cells, one))))
    expr_walks below at (expr.Update' u target p e) h t le =
        let s = storage w target in
        let mid = at + place_size w target in
        let next = mid + before_size u.gives s in
        let over = next + expr_size w e in
        let compute = arithmetic_op u.arithmetic u.width in
        let cells = place_length target below in
        let old = old_length u.gives target below in
        let one = stack_positive e in
        let stands = stored_as g c w f target below h.0 in
        let solid = target_solid g c w f target h.0 in
        let is_old = old_is g c w f u.gives target below h.0 in
        let rest = wanted u.gives s (place_kind target) (with_place target below) in
        let low_rest : length rest + 2 ≤ g.m.stack =
        (let e1 : length (with_old u.gives target below) ≡ suc (length rest) = ap (λ (st : Stack). length st) is_old in
        omega (arith, le, old, one, e1)) in
        let above_rest : above (place_kind target) rest ≡ cell_of (place_kind target) ∷ rest =
        solid_above (place_kind target) rest solid in
        let computed : above (width_kind u.width) rest ≡ cell_of (place_kind target) ∷ rest =
        ap (λ (k : Kind). above k rest) (sym h.2) ∙ above_rest in
        let operands : above (kind_of e) (with_old u.gives target below) ≡ above (right_kind u.arithmetic u.width) (above (width_kind u.width) rest) =
        ap (λ (st : Stack). above (kind_of e) st) (is_old ∙ sym computed) ∙ ap (λ (k : Kind). above k (above (width_kind u.width) rest)) h.3 in
        let most_one = above_length (width_kind u.width) rest in
        let most_two = above_length (right_kind u.arithmetic u.width) (above (width_kind u.width) rest) in
        let step : over + 1 ≡ over + size_of compute = (let s1 = arithmetic_sized u.arithmetic u.width in omega (arith, s1)) in
        both (place_walks below at target h.0 (each_front Tells (place_marks w below at target) (expr_marks w (with_old u.gives target below) next e) t) (omega (arith, le))) (behind at (place_size w target) (place_code w at target) (place_sized w at target))
        (both (to_stack (sym is_old) (before_walks g c w f mid u.gives stands (omega (arith, le, cells, one)))) (behind mid (before_size u.gives s) (before_code w u.gives s) (before_sized w u.gives s))
        (onto (to_stack operands (expr_walks (with_old u.gives target below) next e h.1
        (each_back Tells (place_marks w below at target) (expr_marks w (with_old u.gives target below) next e) t) (omega (arith, le, old)))) (behind next (expr_size w e) (expr_code w next e) (expr_sized w next e))
        (Runs {to = over + 1} (arithmetic_does g u.arithmetic u.width rest over (omega (arith, most_one, most_two, low_rest)) (omega (arith, most_one, low_rest))) step
        (from_stack (sym computed) (to_stack (sym (solid_above (place_kind target) below solid))
        (behind_walks g c w f (over + 1) u.gives stands (width_goes c.program u.width (place_kind target) h.2) (omega (arith, le, cells, one))))))))
    expr_walks below at (expr.Call' k m shape args) h t le =
        let most = above_length k below in
        onto (exprs_walks below at args h.0 t (omega (arith, le))) (behind at (exprs_size w args) (exprs_code w at args) (exprs_sized w at args))
        (only (f.static_call m k (kinds_of args) below h.1 (at + exprs_size w args)
        (args_most g.m.stack args below (omega (arith, le))) (omega (arith, le, most))))
    expr_walks below at (expr.Super' k m shape args) h t le =
        let most = above_length k below in
        let own = object w.class ∷ below in
        Runs {to = at + 2} (load_does g 0 (object w.class) below (f.receiver h.1) at (omega (arith, le)) (omega (arith, le))) refl
        (onto (exprs_walks own (at + 2) args h.0 t (omega (arith, le))) (behind (at + 2) (exprs_size w args) (exprs_code w (at + 2) args) (exprs_sized w (at + 2) args))
        (only (f.super_call m k (kinds_of args) below h.1 h.2 (at + 2 + exprs_size w args)
        (args_most g.m.stack args own (omega (arith, le))) (omega (arith, le, most)))))
    expr_walks below at (expr.Chain' p e shape links) h t le =
        let next = at + expr_size w e in
        both (expr_walks below at e h.0 (each_front Tells (expr_marks w below at e) (links_marks w below next (kind_of e) links) t) (omega (arith, le))) (behind at (expr_size w e) (expr_code w at e) (expr_sized w at e))
        (links_walk below next (kind_of e) links h.1
        (each_back Tells (expr_marks w below at e) (links_marks w below next (kind_of e) links) t) (omega (arith, le)))

    pub place_walks : (below : Stack) (at : ℕ) (target : Place) → IsPlace c target → Each Tells (place_marks w below at target) →
        length below + place_stack target ≤ g.m.stack →
        Walks g at (Some below) (place_code w at target) (place_marks w below at target) [] (Some (with_place target below))
    place_walks below at (place.Local k i) h t le = Stops
    place_walks below at (place.Static p i) h t le = only (statics_does g below at (omega (arith, le)) (omega (arith, le)))
    place_walks below at (place.Field' p q e i) h t le = expr_walks below at e h.0 t le
    place_walks below at (place.Element' p n q e field r i) h t le =
        let next = at + expr_size w e in
        let most = above_length (kind_of e) below in
        both (expr_walks below at e h.0 (each_front Tells (expr_marks w below at e) (expr_marks w (above (kind_of e) below) next i) t) (omega (arith, le))) (behind at (expr_size w e) (expr_code w at e) (expr_sized w at e))
        (expr_walks (above (kind_of e) below) next i h.2
        (each_back Tells (expr_marks w below at e) (expr_marks w (above (kind_of e) below) next i) t) (omega (arith, le, most)))
    place_walks below at (place.StaticElement' p n i q e) h t le =
        Runs {to = at + 1} (statics_does g below at (omega (arith, le)) (omega (arith, le))) refl
        (expr_walks (statics ∷ below) (at + 1) e h.1 t (omega (arith, le)))

    pub link_walks : (below : Stack) (at : ℕ) (k : Kind) (l : Link) → IsLink c k l → Each Tells (link_marks w below at k l) →
        length below + link_stack l ≤ g.m.stack →
        Walks g at (Some (above k below)) (link_code w at k l) (link_marks w below at k l) [] (Some (above (link_kind l) below))
    link_walks below at k (link.Binary b e) h t le =
        let left = above_length k below in
        let right = above_length (kind_of e) (above k below) in
        let one = stack_positive e in
        let most = above_length (link_kind (link.Binary b e)) below in
        onto (expr_walks (above k below) at e h.0 t (omega (arith, le, left))) (behind at (expr_size w e) (expr_code w at e) (expr_sized w at e))
        (only (binary_does g b k (kind_of e) below h.1 (at + expr_size w e) (omega (arith, le, left, right, one)) (omega (arith, le, most))))
    link_walks below at k (link.And e) h t le =
        let mid = at + 3 + expr_size w e in
        let unmet = mid + 5 in
        let ends = mark unmet below ∷ mark (unmet + 2) (bool ∷ below) ∷ [] in
        let last = each_back Tells (expr_marks w below (at + 3) e) ends t in
        let one = stack_positive e in
        from_stack (ap (λ (j : Kind). above j below) (sym h.1))
        (Runs {to = at + 3} (unless_does g at unmet below last.0 (omega arith) (omega (arith, le))) refl
        (both (to_stack (ap (λ (j : Kind). above j below) h.2) (expr_walks below (at + 3) e h.0 (each_front Tells (expr_marks w below (at + 3) e) ends t) (omega (arith, le)))) (behind (at + 3) (expr_size w e) (expr_code w (at + 3) e) (expr_sized w (at + 3) e))
        (truth_walks below mid unmet 0 refl last.0 last.1.0 (omega (arith, le)))))
    link_walks below at k (link.Or e) h t le =
        let mid = at + 3 + expr_size w e in
        let met = mid + 5 in
        let ends = mark met below ∷ mark (met + 2) (bool ∷ below) ∷ [] in
        let last = each_back Tells (expr_marks w below (at + 3) e) ends t in
        let one = stack_positive e in
        from_stack (ap (λ (j : Kind). above j below) (sym h.1))
        (Runs {to = at + 3} (if_does g at met below last.0 (inl (omega arith)) (omega (arith, le))) refl
        (both (to_stack (ap (λ (j : Kind). above j below) h.2) (expr_walks below (at + 3) e h.0 (each_front Tells (expr_marks w below (at + 3) e) ends t) (omega (arith, le)))) (behind (at + 3) (expr_size w e) (expr_code w (at + 3) e) (expr_sized w (at + 3) e))
        (truth_walks below mid met 1 refl last.0 last.1.0 (omega (arith, le)))))
    link_walks below at k (link.Field p i) h t le =
        from_stack (sym (solid_above k below (form_solid c.program k i (form.Prim p) h)))
        (to_stack (sym (solid_above (read_kind p) below (read_solid p)))
        (only (f.get k i p below h at (omega (arith, le)) (omega (arith, le)))))
    link_walks below at k (link.Part l i) h t le =
        from_stack (sym (solid_above k below (part_holder c.program k i l h)))
        (to_stack (sym (solid_above l below (part_solid (field_form c.program k i) l h)))
        (only (f.part k i l below h at (omega (arith, le)) (omega (arith, le)))))
    link_walks below at k (link.Element p n i e) h t le =
        let left = above_length k below in
        let one = stack_positive e in
        let cell = solid_above k below (form_solid c.program k i (form.Array p n) h.0) in
        to_stack (sym (solid_above (read_kind p) below (read_solid p)))
        (onto (to_stack (ap (λ (j : Kind). above j (above k below)) h.2 ∙ ap (λ (s : Stack). int ∷ s) cell)
        (expr_walks (above k below) at e h.1 t (omega (arith, le, left)))) (behind at (expr_size w e) (expr_code w at e) (expr_sized w at e))
        (only (f.get_at k i n p below h.0 (at + expr_size w e) (omega (arith, le, one)) (omega (arith, le)))))
    link_walks below at k (link.Size i) h t le =
        from_stack (sym (solid_above k below (form_solid c.program k i (form.Buf h.0) h.1)))
        (only (f.size k i below h at (omega (arith, le)) (omega (arith, le))))
    link_walks below at k (link.Byte i e) h t le =
        let left = above_length k below in
        let one = stack_positive e in
        let cell = solid_above k below (form_solid c.program k i (form.Buf h.0.0) h.0.1) in
        onto (to_stack (ap (λ (j : Kind). above j (above k below)) h.2 ∙ ap (λ (s : Stack). int ∷ s) cell)
        (expr_walks (above k below) at e h.1 t (omega (arith, le, left)))) (behind at (expr_size w e) (expr_code w at e) (expr_sized w at e))
        (only (f.byte k i below h.0 (at + expr_size w e) (omega (arith, le, one)) (omega (arith, le))))
    link_walks below at k (link.Invoke' l m shape args) h t le =
        let left = above_length k below in
        let most = above_length l below in
        onto (exprs_walks (above k below) at args h.0 t (omega (arith, le, left))) (behind at (exprs_size w args) (exprs_code w at args) (exprs_sized w at args))
        (only (f.invoke k m l (kinds_of args) below h.1 (at + exprs_size w args)
        (args_most g.m.stack args (above k below) (omega (arith, le, left))) (omega (arith, le, most))))
    link_walks below at k (link.TextCall' call shape args) h t le =
        let left = above_length k below in
        let most = above_length (link_kind (link.TextCall' call shape args)) below in
        let on : args_on (kinds_of args) (above k below) ≡ args_on (text_kinds call) (str ∷ below) =
        ap (λ (ks : List Kind). args_on ks (above k below)) h.2 ∙ ap (λ (j : Kind). args_on (text_kinds call) (above j below)) h.1 in
        let many = args_most g.m.stack args (above k below) (omega (arith, le, left)) in
        onto (to_stack on (exprs_walks (above k below) at args h.0 t (omega (arith, le, left)))) (behind at (exprs_size w args) (exprs_code w at args) (exprs_sized w at args))
        (only (text_does g call below (at + exprs_size w args)
        (subst (λ (s : Stack). length s ≤ g.m.stack) on many) (omega (arith, le, most))))
    link_walks below at k (link.After e) h t le =
        both (pop_walks g at k below (omega (arith, le))) (behind at (pop_size k) (pop_code k) (pop_sized k))
        (expr_walks below (at + pop_size k) e h t (omega (arith, le)))

    pub exprs_walks : {n : Count} (below : Stack) (at : ℕ) (es : Row_of-Expr n) → AreExprs c es → Each Tells (exprs_marks w below at es) →
        length below + exprs_stack es ≤ g.m.stack →
        Walks g at (Some below) (exprs_code w at es) (exprs_marks w below at es) [] (Some (args_on (kinds_of es) below))
    exprs_walks below at end_of-Expr h t le = Stops
    exprs_walks below at (more_of-Expr e es) h t le =
        let next = at + expr_size w e in
        let most = above_length (kind_of e) below in
        both (expr_walks below at e h.0 (each_front Tells (expr_marks w below at e) (exprs_marks w (above (kind_of e) below) next es) t) (omega (arith, le))) (behind at (expr_size w e) (expr_code w at e) (expr_sized w at e))
        (exprs_walks (above (kind_of e) below) next es h.1
        (each_back Tells (expr_marks w below at e) (exprs_marks w (above (kind_of e) below) next es) t) (omega (arith, le, most)))

    pub links_walk : {n : Count} (below : Stack) (at : ℕ) (k : Kind) (ls : Row_of-Link n) → AreLinks c k ls → Each Tells (links_marks w below at k ls) →
        length below + links_stack ls ≤ g.m.stack →
        Walks g at (Some (above k below)) (links_code w at k ls) (links_marks w below at k ls) [] (Some (above (kind_after k ls) below))
    links_walk below at k end_of-Link h t le = Stops
    links_walk below at k (more_of-Link l ls) h t le =
        let next = at + link_size w k l in
        both (link_walks below at k l h.0 (each_front Tells (link_marks w below at k l) (links_marks w below next (link_kind l) ls) t) (omega (arith, le))) (behind at (link_size w k l) (link_code w at k l) (link_sized w at k l))
        (links_walk below next (link_kind l) ls h.1
        (each_back Tells (link_marks w below at k l) (links_marks w below next (link_kind l) ls) t) (omega (arith, le)))
