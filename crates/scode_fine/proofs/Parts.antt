-- Parts of statements are walked along: expressions whose values are not used, first values of locals, conditions.
use Rattle.std.proofs.Common.{◌≡◌, ◌≤◌, ◌<◌, inr, ℕ, ◌+◌, pos, if◌then◌else◌, Bool, true, false, List, [], ◌∷◌, ◌++◌, length, Option, Some, None, refl, sym, ap, ◌∙◌, arith}
use Rattle.std.specs.Prelude.{slice_get}
use Rattle.sed_typed.specs.declared.kind.Kind.{Kind}
use Rattle.sed_typed.specs.declared.kind.Kind.TheVariants as kind
use Rattle.sed_typed.specs.declared.operators.Gives.TheVariants.{New}
use Rattle.sed_typed.specs.declared.tree.Expr.{Expr}
use Rattle.sed_typed.specs.declared.tree.Expr.TheVariants as expr
use Rattle.sed_typed.specs.Kinds.{kind_of, place_kind, width_kind}
use Rattle.sed_typed.specs.TypedExpr.{Context, IsExpr, IsKindOf, right_kind}
use Rattle.sed_typed.specs.TypedStmt.{IsBegun, IsLast, IsTest}
use Rattle.scode_image.specs.declared.image.ImageKind.{ImageKind}
use Rattle.scode_code.specs.Kinds.{bool}
use Rattle.scode_code.proofs.Verifies.{goes_to_itself}
use Rattle.scode_ops.specs.declared.op.Op.{Op}
use Rattle.scode_ops.specs.declared.op.Op.TheVariants as op
use Rattle.scode_ops.specs.Decoding.{size_of}
use Rattle.scode_emit.specs.Code.{begin_code, drop_code, expr_code, last_code, place_code, test_code}
use Rattle.scode_emit.specs.Instructions.{arithmetic_op, fetch_code, fetch_size, pop_code, storage, zero_op}
use Rattle.scode_emit.specs.Sizes.{expr_size, place_size}
use Rattle.scode_emit.specs.Site.{Site}
use Rattle.scode_emit.proofs.Counts.{arithmetic_sized, count, fetch_sized}
use Rattle.scode_emit.proofs.Sized.{expr_sized, place_sized}
use Rattle.scode_entries.specs.declared.marks.Mark.{Mark}
use Rattle.scode_entries.specs.Entries.{above, cell_of, drop_marks, expr_marks, last_marks, mark, part_marks, place_marks, with_old, with_place}
use Rattle.scode_entries.specs.Stack.{expr_stack, part_stack}
use Rattle.scode_entries.proofs.Admits.{Each}
use Rattle.scode_entries.proofs.Tall.{above_length, old_length, place_length, stack_positive}
use Rattle.scode_sim.proofs.Frames.{IsSolid}
use Rattle.scode_sim.proofs.Callees.{goes_solid}
use Rattle.scode_fine.proofs.Builds.{Does, if_does, jump_does, null_does, store_does}
use Rattle.scode_fine.proofs.Exprs.{Tells, behind, expr_walks, place_walks, width_goes}
use Rattle.scode_fine.proofs.Facts.{Facts, solid_above}
use Rattle.scode_fine.proofs.Has.{each_back, each_front}
use Rattle.scode_fine.proofs.PlainOps.{arithmetic_does, bool_does, int_does, long_does, pop_walks}
use Rattle.scode_fine.proofs.Storages.{fetch_walks, put_walks}
use Rattle.scode_fine.proofs.Targets.{stored_as, target_solid}
use Rattle.scode_fine.proofs.Walks.{Enters, Ground, Runs, Stack, Stops, Walks, both, from_stack, moved, onto, only, runs, to_stack}

module _ (g : Ground) (c : Context) (w : Site) (f : Facts g c w) where
  abbrev pub Told_all : List Mark → Type 0
  Told_all ms = Each (Tells g c w f) ms

  -- ---- values that are not used

  taken_walks : (at : ℕ) (e : Expr) → IsExpr c e → Told_all (expr_marks w [] at e) → expr_stack e ≤ g.m.stack →
      Walks g at (Some []) (expr_code w at e ++ pop_code (kind_of e)) (expr_marks w [] at e) [] (Some [])
  taken_walks at e h t le =
      let one = stack_positive e in
      onto (expr_walks g c w f [] at e h t (omega (arith, le))) (behind at (expr_size w e) (expr_code w at e) (expr_sized w at e))
      (pop_walks g (at + expr_size w e) (kind_of e) [] (omega (arith, le, one)))

  pub drop_walks : (at : ℕ) (e : Expr) → IsExpr c e → Told_all (drop_marks w at e) → expr_stack e ≤ g.m.stack →
      Walks g at (Some []) (drop_code w at e) (drop_marks w at e) [] (Some [])
  drop_walks at (expr.Set' target p e) h t le =
      let next = at + place_size w target in
      let cells = place_length target [] in
      let one = stack_positive e in
      let solid = target_solid g c w f target h.0 in
      both (place_walks g c w f [] at target h.0
      (each_front (Tells g c w f) (place_marks w [] at target) (expr_marks w (with_place target []) next e) t) (omega (arith, le)))
      (behind at (place_size w target) (place_code w at target) (place_sized w at target))
      (onto (expr_walks g c w f (with_place target []) next e h.1
      (each_back (Tells g c w f) (place_marks w [] at target) (expr_marks w (with_place target []) next e) t) (omega (arith, le, cells)))
      (behind next (expr_size w e) (expr_code w next e) (expr_sized w next e))
      (from_stack (sym (solid_above (kind_of e) (with_place target []) (goes_solid c.program (kind_of e) (place_kind target) h.2 solid)))
      (put_walks g c w f (next + expr_size w e) (kind_of e) (stored_as g c w f target [] h.0) h.2 (omega (arith, le, cells, one)))))
  drop_walks at (expr.Update' u target p e) h t le =
      let s = storage w target in
      let mid = at + place_size w target in
      let next = mid + fetch_size s in
      let over = next + expr_size w e in
      let compute = arithmetic_op u.arithmetic u.width in
      let cells = place_length target [] in
      let one = stack_positive e in
      let stands = stored_as g c w f target [] h.0 in
      let solid = target_solid g c w f target h.0 in
      let rest = with_place target [] in
      let old = old_length New target [] in
      let is_old : with_old New target [] ≡ cell_of (place_kind target) ∷ rest = solid_above (place_kind target) rest solid in
      let computed : above (width_kind u.width) rest ≡ cell_of (place_kind target) ∷ rest =
      ap (λ (k : Kind). above k rest) (sym h.2) ∙ is_old in
      let operands : above (kind_of e) (with_old New target []) ≡ above (right_kind u.arithmetic u.width) (above (width_kind u.width) rest) =
      ap (λ (st : Stack). above (kind_of e) st) (is_old ∙ sym computed) ∙ ap (λ (k : Kind). above k (above (width_kind u.width) rest)) h.3 in
      let most_one = above_length (width_kind u.width) rest in
      let most_two = above_length (right_kind u.arithmetic u.width) (above (width_kind u.width) rest) in
      let step : over + 1 ≡ over + size_of compute = (let s1 = arithmetic_sized u.arithmetic u.width in omega (arith, s1)) in
      both (place_walks g c w f [] at target h.0
      (each_front (Tells g c w f) (place_marks w [] at target) (expr_marks w (with_old New target []) next e) t) (omega (arith, le)))
      (behind at (place_size w target) (place_code w at target) (place_sized w at target))
      (both (to_stack (sym is_old) (fetch_walks g c w f mid stands (omega (arith, le, cells, one))))
      (behind mid (fetch_size s) (fetch_code w s) (fetch_sized w s))
      (onto (to_stack operands (expr_walks g c w f (with_old New target []) next e h.1
      (each_back (Tells g c w f) (place_marks w [] at target) (expr_marks w (with_old New target []) next e) t) (omega (arith, le, old))))
      (behind next (expr_size w e) (expr_code w next e) (expr_sized w next e))
      (Runs {to = over + 1} (arithmetic_does g u.arithmetic u.width rest over (omega (arith, le, cells, one, most_one, most_two)) (omega (arith, le, cells, one, most_one))) step
      (from_stack (sym computed)
      (put_walks g c w f (over + 1) (place_kind target) stands (width_goes c.program u.width (place_kind target) h.2) (omega (arith, le, cells, one)))))))
  drop_walks at e h t le = taken_walks at e h t le

  -- ---- the first value of a local

  pub zero_does : (k : Kind) (below : Stack) → IsSolid k → IsKindOf c.program k → Does g (zero_op k) below (cell_of k ∷ below)
  zero_does kind.Void below s h = absurd s
  zero_does kind.Bool below s h = bool_does g 0 below
  zero_does kind.Int below s h = int_does g (pos 0) below
  zero_does kind.Long below s h = long_does g (pos 0) below
  zero_does kind.Text below s h = null_does g (cell_of kind.Text) below (f.null_goes kind.Text tt h)
  zero_does (kind.Object class) below s h =
      null_does g (cell_of (kind.Object class)) below (f.null_goes (kind.Object class) tt h)

  pub begun_walks : (at : ℕ) (k : Kind) (i : ℕ) (e : Option Expr) → slice_get c.locals i ≡ Some k → IsBegun c k e →
      Told_all (part_marks w at e) → part_stack e ≤ g.m.stack →
      Walks g at (Some []) (begin_code w at k e ++ op.Store i ∷ []) (part_marks w at e) [] (Some [])
  begun_walks at k i None is h t le =
      runs (zero_does k [] (f.solid i k is) (f.known i k is) at (omega (arith, le)) (omega (arith, le)))
      (only (store_does g i (cell_of k) (cell_of k) [] [] (f.locals i k is) (goes_to_itself g.image (cell_of k)) refl _ (omega (arith, le)) (omega (arith, le))))
  begun_walks at k i (Some e) is h t le =
      let one = stack_positive e in
      onto (expr_walks g c w f [] at e h.0 t (omega (arith, le))) (behind at (expr_size w e) (expr_code w at e) (expr_sized w at e))
      (from_stack (sym (solid_above (kind_of e) [] (goes_solid c.program (kind_of e) k h.1 (f.solid i k is))))
      (only (store_does g i (cell_of (kind_of e)) (cell_of k) [] [] (f.locals i k is) (f.goes (kind_of e) k h.1) refl
      (at + expr_size w e) (omega (arith, le, one)) (omega (arith, le)))))

  -- ---- conditions, and what is done before them

  pub test_walks : (at : ℕ) (e : Option Expr) → IsTest c e → Told_all (part_marks w at e) → part_stack e ≤ g.m.stack →
      Walks g at (Some []) (test_code w at e) (part_marks w at e) [] (Some (bool ∷ []))
  test_walks at None h t le = only (bool_does g 1 [] at (omega (arith, le)) (omega (arith, le)))
  test_walks at (Some e) h t le =
      to_stack (ap (λ (k : Kind). above k []) h.1) (expr_walks g c w f [] at e h.0 t (omega (arith, le)))

  pub last_walks : (at : ℕ) (e : Option Expr) → IsLast c e → Told_all (last_marks w at e) → part_stack e ≤ g.m.stack →
      Walks g at (Some []) (last_code w at e) (last_marks w at e) [] (Some [])
  last_walks at None h t le = Stops
  last_walks at (Some e) h t le = drop_walks at e h t le

  -- a condition that jumps back to a turn, entered behind
  pub back_walks : (at size to : ℕ) (ops : List Op) (ms : List Mark) → Walks g at (Some []) ops ms [] (Some (bool ∷ [])) →
      count ops ≡ size → g.Told to [] → g.Turned to → 1 ≤ g.m.stack →
      Walks g at (Some []) (ops ++ op.JumpTrue to ∷ []) (ms ++ mark (at + size + 3) [] ∷ []) [] (Some [])
  back_walks at size to ops ms walk sized told turned low =
      both walk (behind at size ops sized)
      (Runs {to = at + size + 3} (if_does g (at + size) to [] told (inr turned) low) refl
      (Enters (mark (at + size + 3) []) refl refl Stops))

  -- a jump over what is behind, which is left out where there is nothing
  pub over_walks : {ops : List Op} {ms : List Mark} {ts : List ℕ} {end : Option Stack} (b : Bool) (met second last : ℕ) →
      second ≡ met + (if b then 0 else 3) → second ≤ last → g.Told last [] → Walks g second (Some []) ops ms ts end →
      Walks g met (Some []) ((if b then [] else op.Jump last ∷ []) ++ ops) (mark second [] ∷ ms) ts end
  over_walks true met second last e le told walk =
      let same : second ≡ met = omega (arith, e) in Enters (mark second []) same refl (moved same walk)
  over_walks false met second last e le told walk =
      let less : met < last = omega (arith, e, le) in
      let low : length {A = ImageKind} [] ≤ g.m.stack = omega arith in
      Runs {to = second} (jump_does g met last [] told less low) e (Enters (mark second []) refl tt walk)
