-- What stands on the stack at the marks of a typed body has a spelling.
use Rattle.std.proofs.Common.{◌≡◌, ◌≤◌, ◌<◌, ℕ, ◌+◌, List, [], ◌∷◌, ◌++◌, length, Option, Some, None, arith}
use Rattle.std.specs.Prelude.{All}
use mathlib.Core.Former.{Count}
use Rattle.sed_typed.specs.declared.kind.Kind.{Kind}
use Rattle.sed_typed.specs.declared.kind.Kind.TheVariants as kind
use Rattle.sed_typed.specs.declared.operators.Gives.{Gives}
use Rattle.sed_typed.specs.declared.operators.Gives.TheVariants.{Old, New}
use Rattle.sed_typed.specs.declared.statement.Stmt.{Stmt, Row_of-Stmt, end_of-Stmt, more_of-Stmt}
use Rattle.sed_typed.specs.declared.statement.Stmt.TheVariants as stmt
use Rattle.sed_typed.specs.declared.tree.Place.{Place}
use Rattle.sed_typed.specs.declared.tree.Place.TheVariants as place
use Rattle.sed_typed.specs.declared.tree.Expr.{Expr, Row_of-Expr, end_of-Expr, more_of-Expr, Row_of-Link, end_of-Link, more_of-Link}
use Rattle.sed_typed.specs.declared.tree.Expr.TheVariants as expr
use Rattle.sed_typed.specs.declared.tree.Link.{Link}
use Rattle.sed_typed.specs.declared.tree.Link.TheVariants as link
use Rattle.sed_typed.specs.Kinds.{kind_of, link_kind, place_kind}
use Rattle.sed_typed.specs.Typed.{Typed}
use Rattle.sed_typed.specs.TypedExpr.{Context, IsKindOf, IsExpr, IsPlace, IsLink, AreExprs, AreLinks}
use Rattle.sed_typed.specs.TypedStmt.{Around, IsStmt, AreStmts, IsBegun, IsTest, IsLast, in_loop, in_switch}
use Rattle.sed_engine.proofs.Below.{at_place}
use Rattle.sed_engine.proofs.KindsThere.{kind_is_there, of_link, of_place}
use Rattle.scode_image.specs.declared.image.ImageKind.{ImageKind}
use Rattle.scode_code.specs.Kinds.{bool, object, statics}
use Rattle.scode_emit.specs.Site.{Site}
use Rattle.scode_emit.specs.Instructions.{pop_size, storage, fetch_size, before_size}
use Rattle.scode_emit.specs.Sizes.{expr_size, place_size, link_size, test_size, last_size, over_size, tests_size, stmt_size}
use Rattle.scode_entries.specs.declared.marks.Mark.{Mark}
use Rattle.scode_entries.specs.Entries.{mark, above, with_holder, with_index, with_place, with_wanted, with_old, expr_marks, place_marks, link_marks, exprs_marks, links_marks, drop_marks, part_marks, last_marks, stmt_marks, stmts_marks, labelled_marks}
use Rattle.scode_entries.proofs.Admits.{Each, each-append}
use Rattle.scode_text.proofs.ToldKinds.{IsToldKind, cell_told, object_told, plain_told, statics_told}

abbrev pub AreTold : List ImageKind → Type 0
AreTold ks = Each IsToldKind ks

abbrev pub AreToldMarks : List Mark → Type 0
AreToldMarks ms = Each (λ (m : Mark). AreTold m.stack) ms

two : (ms ns : List Mark) → AreToldMarks ms → AreToldMarks ns → AreToldMarks (ms ++ ns)
two ms ns h g = each-append (λ (m : Mark). AreTold m.stack) ms ns h g

-- in a typed program with few classes, at a place of a method of one of them, with locals of its kinds
module _ (c : Context) (w : Site) (typed : Typed c.program) (known : c.class < length c.program.schema.classes) (locals : All (IsKindOf c.program) c.locals) (few : length c.program.schema.classes ≤ 1024) (own : w.class ≡ c.class) where
  there : (e : Expr) → IsExpr c e → IsKindOf c.program (kind_of e)
  there e h = kind_is_there c typed known locals e h

  above_told : (k : Kind) (below : List ImageKind) → IsKindOf c.program k → AreTold below → AreTold (above k below)
  above_told kind.Void below h b = b
  above_told kind.Bool below h b = (cell_told c.program few kind.Bool h, b)
  above_told kind.Int below h b = (cell_told c.program few kind.Int h, b)
  above_told kind.Long below h b = (cell_told c.program few kind.Long h, b)
  above_told kind.Text below h b = (cell_told c.program few kind.Text h, b)
  above_told (kind.Object class) below h b = (cell_told c.program few (kind.Object class) h, b)

  class_told : IsToldKind (object w.class)
  class_told = object_told w.class (omega (arith, own, known, few))

  -- ---- what a store stands on

  holder_told : (target : Place) (below : List ImageKind) → IsPlace c target → AreTold below → AreTold (with_holder target below)
  holder_told (place.Local k i) below h b = b
  holder_told (place.Static p i) below h b = (statics_told, b)
  holder_told (place.Field' p q e i) below h b = above_told (kind_of e) below (there e h.0) b
  holder_told (place.Element' p n q e f r i) below h b = above_told (kind_of e) below (there e h.0) b
  holder_told (place.StaticElement' p n i q e) below h b = (statics_told, b)

  index_told : (target : Place) (below : List ImageKind) → IsPlace c target → AreTold below → AreTold (with_index target below)
  index_told (place.Local k i) below h b = b
  index_told (place.Static p i) below h b = b
  index_told (place.Field' p q e i) below h b = b
  index_told (place.Element' p n q e f r i) below h b = above_told (kind_of i) below (there i h.2) b
  index_told (place.StaticElement' p n i q e) below h b = above_told (kind_of e) below (there e h.1) b

  place_on : (target : Place) (below : List ImageKind) → IsPlace c target → AreTold below → AreTold (with_place target below)
  place_on target below h b = index_told target (with_holder target below) h (holder_told target below h b)

  wanted_told : (g : Gives) (target : Place) (below : List ImageKind) → IsPlace c target → AreTold below → AreTold (with_wanted g target below)
  wanted_told Old (place.Local k i) below h b = above_told k below (at_place (IsKindOf c.program) c.locals i k locals h.0) b
  wanted_told Old (place.Static p i) below h b = b
  wanted_told Old (place.Field' p q e i) below h b = b
  wanted_told Old (place.Element' p n q e f r i) below h b = b
  wanted_told Old (place.StaticElement' p n i q e) below h b = b
  wanted_told New target below h b = b

  old_on : (g : Gives) (target : Place) (below : List ImageKind) → IsPlace c target → AreTold below → AreTold (with_old g target below)
  old_on g target below h b =
      let on = with_place target below in
      above_told (place_kind target) (with_wanted g target on) (of_place c typed known locals target h) (wanted_told g target on h (place_on target below h b))

  -- of `&&` and `||`
  truth_told : (below : List ImageKind) (at other : ℕ) (e : Expr) → AreTold below → AreToldMarks (expr_marks w below at e) →
      AreToldMarks (expr_marks w below at e ++ mark other below ∷ mark (other + 2) (bool ∷ below) ∷ [])
  truth_told below at other e b h =
      two (expr_marks w below at e) (mark other below ∷ mark (other + 2) (bool ∷ below) ∷ []) h (b, ((plain_told 1 (omega arith), b), tt))

  -- ---- expressions

  mutual
    expr_told : (below : List ImageKind) (at : ℕ) (e : Expr) → IsExpr c e → AreTold below → AreToldMarks (expr_marks w below at e)
    expr_told below at (expr.Int n) h b = tt
    expr_told below at (expr.Long n) h b = tt
    expr_told below at (expr.Bool t) h b = tt
    expr_told below at (expr.Null k) h b = tt
    expr_told below at (expr.Text n) h b = tt
    expr_told below at (expr.This class) h b = tt
    expr_told below at (expr.Local k i) h b = tt
    expr_told below at (expr.Static p i) h b = tt
    expr_told below at (expr.StaticPart k i) h b = tt
    expr_told below at (expr.StaticElement' p n i q e) h b = expr_told (statics ∷ below) (at + 1) e h.1 (statics_told, b)
    expr_told below at expr.Ticks h b = tt
    expr_told below at (expr.Unary' u p e) h b = expr_told below at e h.0 b
    expr_told below at (expr.Choose' p t q x r y) h b =
        let from = at + expr_size w t + 3 in
        let second = from + expr_size w x + 3 in
        let ends = mark (second + expr_size w y) (above (kind_of x) below) ∷ [] in
        two (expr_marks w below at t) (expr_marks w below from x ++ mark second below ∷ (expr_marks w below second y ++ ends))
        (expr_told below at t h.0 b)
        (two (expr_marks w below from x) (mark second below ∷ (expr_marks w below second y ++ ends)) (expr_told below from x h.1 b)
        (b, two (expr_marks w below second y) ends (expr_told below second y h.2 b) (above_told (kind_of x) below (there x h.1) b, tt)))
    expr_told below at (expr.Set' target p e) h b =
        let next = at + place_size w target in
        two (place_marks w below at target) (expr_marks w (with_place target below) next e) (place_told below at target h.0 b)
        (expr_told (with_place target below) next e h.1 (place_on target below h.0 b))
    expr_told below at (expr.Update' u target p e) h b =
        let next = at + place_size w target + before_size u.gives (storage w target) in
        let old = with_old u.gives target below in
        two (place_marks w below at target) (expr_marks w old next e) (place_told below at target h.0 b)
        (expr_told old next e h.1 (old_on u.gives target below h.0 b))
    expr_told below at (expr.Call' k m shape args) h b = exprs_told below at args h.0 b
    expr_told below at (expr.Super' k m shape args) h b = exprs_told (object w.class ∷ below) (at + 2) args h.0 (class_told, b)
    expr_told below at (expr.Chain' p e shape links) h b =
        let next = at + expr_size w e in
        two (expr_marks w below at e) (links_marks w below next (kind_of e) links) (expr_told below at e h.0 b)
        (links_told below next (kind_of e) links (there e h.0) h.1 b)

    place_told : (below : List ImageKind) (at : ℕ) (target : Place) → IsPlace c target → AreTold below → AreToldMarks (place_marks w below at target)
    place_told below at (place.Local k i) h b = tt
    place_told below at (place.Static p i) h b = tt
    place_told below at (place.Field' p q e i) h b = expr_told below at e h.0 b
    place_told below at (place.Element' p n q e f r i) h b =
        let next = at + expr_size w e in
        let on = above (kind_of e) below in
        two (expr_marks w below at e) (expr_marks w on next i) (expr_told below at e h.0 b)
        (expr_told on next i h.2 (above_told (kind_of e) below (there e h.0) b))
    place_told below at (place.StaticElement' p n i q e) h b = expr_told (statics ∷ below) (at + 1) e h.1 (statics_told, b)

    link_told : (below : List ImageKind) (at : ℕ) (k : Kind) (l : Link) → IsKindOf c.program k → IsLink c k l → AreTold below → AreToldMarks (link_marks w below at k l)
    link_told below at k (link.Binary op e) is h b = expr_told (above k below) at e h.0 (above_told k below is b)
    link_told below at k (link.And e) is h b = truth_told below (at + 3) (at + 3 + expr_size w e + 5) e b (expr_told below (at + 3) e h.0 b)
    link_told below at k (link.Or e) is h b = truth_told below (at + 3) (at + 3 + expr_size w e + 5) e b (expr_told below (at + 3) e h.0 b)
    link_told below at k (link.Field p i) is h b = tt
    link_told below at k (link.Part part i) is h b = tt
    link_told below at k (link.Element p n i e) is h b = expr_told (above k below) at e h.1 (above_told k below is b)
    link_told below at k (link.Size i) is h b = tt
    link_told below at k (link.Byte i e) is h b = expr_told (above k below) at e h.1 (above_told k below is b)
    link_told below at k (link.Invoke' r m shape args) is h b = exprs_told (above k below) at args h.0 (above_told k below is b)
    link_told below at k (link.TextCall' call shape args) is h b = exprs_told (above k below) at args h.0 (above_told k below is b)
    link_told below at k (link.After e) is h b = expr_told below (at + pop_size k) e h b

    exprs_told : {n : Count} (below : List ImageKind) (at : ℕ) (es : Row_of-Expr n) → AreExprs c es → AreTold below → AreToldMarks (exprs_marks w below at es)
    exprs_told below at end_of-Expr h b = tt
    exprs_told below at (more_of-Expr e es) h b =
        let next = at + expr_size w e in
        let on = above (kind_of e) below in
        two (expr_marks w below at e) (exprs_marks w on next es) (expr_told below at e h.0 b)
        (exprs_told on next es h.1 (above_told (kind_of e) below (there e h.0) b))

    links_told : {n : Count} (below : List ImageKind) (at : ℕ) (k : Kind) (ls : Row_of-Link n) → IsKindOf c.program k → AreLinks c k ls → AreTold below → AreToldMarks (links_marks w below at k ls)
    links_told below at k end_of-Link is h b = tt
    links_told below at k (more_of-Link l ls) is h b =
        let next = at + link_size w k l in
        two (link_marks w below at k l) (links_marks w below next (link_kind l) ls) (link_told below at k l is h.0 b)
        (links_told below next (link_kind l) ls (of_link c typed known locals l k h.0) h.1 b)

  -- ---- statements

  drop_told : (at : ℕ) (e : Expr) → IsExpr c e → AreToldMarks (drop_marks w at e)
  drop_told at (expr.Set' target p e) h =
      let next = at + place_size w target in
      two (place_marks w [] at target) (expr_marks w (with_place target []) next e) (place_told [] at target h.0 tt)
      (expr_told (with_place target []) next e h.1 (place_on target [] h.0 tt))
  drop_told at (expr.Update' u target p e) h =
      let next = at + place_size w target + fetch_size (storage w target) in
      let old = with_old New target [] in
      two (place_marks w [] at target) (expr_marks w old next e) (place_told [] at target h.0 tt)
      (expr_told old next e h.1 (old_on New target [] h.0 tt))
  drop_told at e h = expr_told [] at e h tt

  begun_told : (at : ℕ) (k : Kind) (e : Option Expr) → IsBegun c k e → AreToldMarks (part_marks w at e)
  begun_told at k None h = tt
  begun_told at k (Some e) h = expr_told [] at e h.0 tt

  test_told : (at : ℕ) (e : Option Expr) → IsTest c e → AreToldMarks (part_marks w at e)
  test_told at None h = tt
  test_told at (Some e) h = expr_told [] at e h.0 tt

  last_told : (at : ℕ) (e : Option Expr) → IsLast c e → AreToldMarks (last_marks w at e)
  last_told at None h = tt
  last_told at (Some e) h = drop_told at e h

  mutual
    pub stmt_told : (ar : Around) (at : ℕ) (s : Stmt) → IsStmt c ar s → AreToldMarks (stmt_marks w at s)
    stmt_told ar at stmt.Empty h = tt
    stmt_told ar at (stmt.Do e) h = drop_told at e h
    stmt_told ar at (stmt.Local k i e) h = begun_told at k e h.1
    stmt_told ar at (stmt.Block' shape all) h = stmts_told ar at all h
    stmt_told ar at (stmt.If' t p x q y) h =
        let from = at + expr_size w t + 3 in
        let second = from + stmt_size w x + over_size (stmt_size w y) in
        let ends = mark (second + stmt_size w y) [] ∷ [] in
        two (expr_marks w [] at t) (stmt_marks w from x ++ mark second [] ∷ (stmt_marks w second y ++ ends)) (expr_told [] at t h.0.0 tt)
        (two (stmt_marks w from x) (mark second [] ∷ (stmt_marks w second y ++ ends)) (stmt_told ar from x h.1)
        (tt, two (stmt_marks w second y) ends (stmt_told ar second y h.2) (tt, tt)))
    stmt_told ar at (stmt.While' t p body) h =
        let test = at + 4 + stmt_size w body in
        let ends = mark (test + expr_size w t + 3) [] ∷ [] in (
          tt,
          two (stmt_marks w (at + 4) body) (mark test [] ∷ (expr_marks w [] test t ++ ends)) (stmt_told in_loop (at + 4) body h.1)
              (tt, two (expr_marks w [] test t) ends (expr_told [] test t h.0.0 tt) (tt, tt)),
        )
    stmt_told ar at (stmt.DoWhile' p body t) h =
        let test = at + 1 + stmt_size w body in
        let ends = mark (test + expr_size w t + 3) [] ∷ [] in (
          tt,
          two (stmt_marks w (at + 1) body) (mark test [] ∷ (expr_marks w [] test t ++ ends)) (stmt_told in_loop (at + 1) body h.0)
              (tt, two (expr_marks w [] test t) ends (expr_told [] test t h.1.0 tt) (tt, tt)),
        )
    stmt_told ar at (stmt.For' p init t last q body) h =
        let from = at + stmt_size w init in
        let step = from + 4 + stmt_size w body in
        let test = step + last_size w last in
        let ends = mark (test + test_size w t + 3) [] ∷ [] in
        let tested = part_marks w test t ++ ends in
        let stepped = last_marks w step last ++ mark test [] ∷ tested in
        two (stmt_marks w at init) (mark (from + 3) [] ∷ (stmt_marks w (from + 4) body ++ mark step [] ∷ stepped)) (stmt_told ar at init h.1) (
          tt,
          two (stmt_marks w (from + 4) body) (mark step [] ∷ stepped) (stmt_told in_loop (from + 4) body h.4) (
            tt,
            two (last_marks w step last) (mark test [] ∷ tested) (last_told step last h.3)
                (tt, two (part_marks w test t) ends (test_told test t h.2) (tt, tt)),
          ),
        )
    stmt_told ar at (stmt.Switch' e labels shape all) h =
        let from = at + expr_size w e + 2 + tests_size labels.items + 3 in
        two (expr_marks w [] at e) (labelled_marks w from all) (expr_told [] at e h.0 tt) (labelled_told (in_switch ar) from all h.4)
    stmt_told ar at stmt.Break h = (tt, tt)
    stmt_told ar at stmt.Continue h = (tt, tt)
    stmt_told ar at (stmt.Return None) h = (tt, tt)
    stmt_told ar at (stmt.Return (Some e)) h =
        two (expr_marks w [] at e) (mark (at + expr_size w e + 1) [] ∷ []) (expr_told [] at e h.0 tt) (tt, tt)

    stmts_told : {n : Count} (ar : Around) (at : ℕ) (ss : Row_of-Stmt n) → AreStmts c ar ss → AreToldMarks (stmts_marks w at ss)
    stmts_told ar at end_of-Stmt h = tt
    stmts_told ar at (more_of-Stmt s ss) h =
        let next = at + stmt_size w s in
        two (stmt_marks w at s) (stmts_marks w next ss) (stmt_told ar at s h.0) (stmts_told ar next ss h.1)

    labelled_told : {n : Count} (ar : Around) (at : ℕ) (ss : Row_of-Stmt n) → AreStmts c ar ss → AreToldMarks (labelled_marks w at ss)
    labelled_told ar at end_of-Stmt h = (tt, tt)
    labelled_told ar at (more_of-Stmt s ss) h =
        let next = at + stmt_size w s in
        (tt, two (stmt_marks w at s) (labelled_marks w next ss) (stmt_told ar at s h.0) (labelled_told ar next ss h.1))
