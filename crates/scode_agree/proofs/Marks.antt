-- What stands on the stack at the marks of typed code is of kinds of the program, the class of the method, or the
-- static block.
use Rattle.std.proofs.Common.{◌<◌, ℕ, ◌+◌, List, [], ◌∷◌, ◌++◌, length, Option}
use Rattle.std.proofs.Common.{Some, None}
use mathlib.Core.Former.{Count}
use Rattle.std.specs.Prelude.{All}
use Rattle.sed_typed.specs.declared.kind.Kind.{Kind}
use Rattle.sed_typed.specs.declared.operators.Gives.{Gives}
use Rattle.sed_typed.specs.declared.operators.Gives.TheVariants.{Old, New}
use Rattle.sed_typed.specs.declared.statement.Stmt.{Stmt, Row_of-Stmt, end_of-Stmt, more_of-Stmt}
use Rattle.sed_typed.specs.declared.statement.Stmt.TheVariants as stmt
use Rattle.sed_typed.specs.declared.tree.Place.{Place}
use Rattle.sed_typed.specs.declared.tree.Place.TheVariants as place
use Rattle.sed_typed.specs.declared.tree.Expr.{Expr, Row_of-Expr, end_of-Expr, more_of-Expr, Row_of-Link, end_of-Link}
use Rattle.sed_typed.specs.declared.tree.Expr.{more_of-Link}
use Rattle.sed_typed.specs.declared.tree.Expr.TheVariants as expr
use Rattle.sed_typed.specs.declared.tree.Link.{Link}
use Rattle.sed_typed.specs.declared.tree.Link.TheVariants as link
use Rattle.sed_typed.specs.Kinds.{kind_of, link_kind, place_kind}
use Rattle.sed_typed.specs.Typed.{Typed}
use Rattle.sed_typed.specs.TypedExpr.{AreExprs, AreLinks, Context, IsExpr, IsKindOf, IsLink, IsPlace}
use Rattle.sed_typed.specs.TypedStmt.{AreStmts, Around, IsBegun, IsLast, IsStmt, IsTest, in_loop, in_switch}
use Rattle.sed_engine.proofs.KindsThere.{kind_is_there, of_link, of_place}
use Rattle.scode_image.specs.declared.image.ImageKind.{ImageKind}
use Rattle.scode_code.specs.Kinds.{bool, object, statics}
use Rattle.scode_emit.specs.Site.{Site}
use Rattle.scode_emit.specs.Instructions.{before_size, fetch_size, pop_size, storage}
use Rattle.scode_emit.specs.Sizes.{expr_size, last_size, link_size, over_size, place_size, stmt_size, test_size}
use Rattle.scode_emit.specs.Sizes.{tests_size}
use Rattle.scode_entries.specs.declared.marks.Mark.{Mark}
use Rattle.scode_entries.specs.Entries.{above, drop_marks, expr_marks, exprs_marks, labelled_marks, last_marks}
use Rattle.scode_entries.specs.Entries.{link_marks, links_marks, mark, part_marks, place_marks, stmt_marks, stmts_marks}
use Rattle.scode_entries.specs.Entries.{with_old, with_place, with_wanted}
use Rattle.scode_entries.proofs.Admits.{Each, each-append}

-- what is asked of the kinds on a stack, and that each kind that may come keeps it
pub record Keeps (c : Context) (w : Site) : Type 1 where
  pub Fits : List ImageKind → Type 0
  pub none : Fits []
  pub value : (k : Kind) (below : List ImageKind) → IsKindOf c.program k → Fits below → Fits (above k below)
  pub truth : (below : List ImageKind) → Fits below → Fits (bool ∷ below)
  pub block : (below : List ImageKind) → Fits below → Fits (statics ∷ below)
  pub receiver : (below : List ImageKind) → Fits below → Fits (object w.class ∷ below)

module _ (c : Context) (typed : Typed c.program) (known : c.class < length c.program.schema.classes)
    (locals : All (IsKindOf c.program) c.locals) (w : Site) (keeps : Keeps c w) where
  abbrev pub Told : List Mark → Type 0
  Told ms = Each (λ (m : Mark). keeps.Fits m.stack) ms

  two : (ms ns : List Mark) → Told ms → Told ns → Told (ms ++ ns)
  two ms ns h g = each-append (λ (m : Mark). keeps.Fits m.stack) ms ns h g

  value_above : (e : Expr) (below : List ImageKind) → IsExpr c e → keeps.Fits below
      → keeps.Fits (above (kind_of e) below)
  value_above e below t h = keeps.value (kind_of e) below (kind_is_there c typed known locals e t) h

  place_fits : (target : Place) (below : List ImageKind) → IsPlace c target → keeps.Fits below
      → keeps.Fits (with_place target below)
  place_fits (place.Local k i) below t h = h
  place_fits (place.Static p i) below t h = keeps.block below h
  place_fits (place.Field' p q e i) below t h = value_above e below t.0 h
  place_fits (place.Element' p n q e f r i) below t h =
      value_above i (above (kind_of e) below) t.2 (value_above e below t.0 h)
  place_fits (place.StaticElement' p n i q e) below t h = value_above e (statics ∷ below) t.1 (keeps.block below h)

  wanted_fits : (g : Gives) (target : Place) (below : List ImageKind) → IsPlace c target → keeps.Fits below
      → keeps.Fits (with_wanted g target below)
  wanted_fits Old (place.Local k i) below t h =
      keeps.value k below (of_place c typed known locals (place.Local k i) t) h
  wanted_fits Old (place.Static p i) below t h = h
  wanted_fits Old (place.Field' p q e i) below t h = h
  wanted_fits Old (place.Element' p n q e f r i) below t h = h
  wanted_fits Old (place.StaticElement' p n i q e) below t h = h
  wanted_fits New target below t h = h

  old_fits : (g : Gives) (target : Place) (below : List ImageKind) → IsPlace c target → keeps.Fits below
      → keeps.Fits (with_old g target below)
  old_fits g target below t h =
      let on = with_place target below in
      keeps.value (place_kind target) (with_wanted g target on) (of_place c typed known locals target t)
      (wanted_fits g target on t (place_fits target below t h))

  -- of `&&` and `||`, where those of the operand are told
  truth_told : (below : List ImageKind) (at other : ℕ) (e : Expr) → keeps.Fits below → Told (expr_marks w below at e) →
      Told (expr_marks w below at e ++ mark other below ∷ mark (other + 2) (bool ∷ below) ∷ [])
  truth_told below at other e h told =
      two (expr_marks w below at e) (mark other below ∷ mark (other + 2) (bool ∷ below) ∷ []) told
      (h, (keeps.truth below h, tt))

  mutual
    expr_told : (below : List ImageKind) (at : ℕ) (e : Expr) → IsExpr c e → keeps.Fits below
        → Told (expr_marks w below at e)
    expr_told below at (expr.Int n) t h = tt
    expr_told below at (expr.Long n) t h = tt
    expr_told below at (expr.Bool b) t h = tt
    expr_told below at (expr.Null k) t h = tt
    expr_told below at (expr.Text n) t h = tt
    expr_told below at (expr.This class) t h = tt
    expr_told below at (expr.Local k i) t h = tt
    expr_told below at (expr.Static p i) t h = tt
    expr_told below at (expr.StaticPart k i) t h = tt
    expr_told below at (expr.StaticElement' p n i q e) t h =
        expr_told (statics ∷ below) (at + 1) e t.1 (keeps.block below h)
    expr_told below at expr.Ticks t h = tt
    expr_told below at (expr.Unary' u p e) t h = expr_told below at e t.0 h
    expr_told below at (expr.Choose' p x q a r b) t h =
        let from = at + expr_size w x + 3 in
        let second = from + expr_size w a + 3 in
        let ends = mark (second + expr_size w b) (above (kind_of a) below) ∷ [] in
        two (expr_marks w below at x) (expr_marks w below from a ++ mark second
        below ∷ (expr_marks w below second b ++ ends))
        (expr_told below at x t.0 h)
        (two (expr_marks w below from a) (mark second below ∷ (expr_marks w below second b ++ ends))
        (expr_told below from a t.1 h)
        (h, two (expr_marks w below second b) ends (expr_told below second b t.2 h) (value_above a below t.1 h, tt)))
    expr_told below at (expr.Set' target p e) t h =
        let next = at + place_size w target in
        two (place_marks w below at target) (expr_marks w (with_place target below) next e)
        (place_told below at target t.0 h)
        (expr_told (with_place target below) next e t.1 (place_fits target below t.0 h))
    expr_told below at (expr.Update' u target p e) t h =
        let next = at + place_size w target + before_size u.gives (storage w target) in
        let old = with_old u.gives target below in
        two (place_marks w below at target) (expr_marks w old next e) (place_told below at target t.0 h)
        (expr_told old next e t.1 (old_fits u.gives target below t.0 h))
    expr_told below at (expr.Call' k m shape args) t h = exprs_told below at args t.0 h
    expr_told below at (expr.Super' k m shape args) t h =
        exprs_told (object w.class ∷ below) (at + 2) args t.0 (keeps.receiver below h)
    expr_told below at (expr.Chain' p e shape links) t h =
        let next = at + expr_size w e in
        two (expr_marks w below at e) (links_marks w below next (kind_of e) links) (expr_told below at e t.0 h)
        (links_told below next (kind_of e) links t.1 (kind_is_there c typed known locals e t.0) h)

    place_told : (below : List ImageKind) (at : ℕ) (target : Place) → IsPlace c target → keeps.Fits below
        → Told (place_marks w below at target)
    place_told below at (place.Local k i) t h = tt
    place_told below at (place.Static p i) t h = tt
    place_told below at (place.Field' p q e i) t h = expr_told below at e t.0 h
    place_told below at (place.Element' p n q e f r i) t h =
        let next = at + expr_size w e in
        let on = above (kind_of e) below in
        two (expr_marks w below at e) (expr_marks w on next i) (expr_told below at e t.0 h)
        (expr_told on next i t.2 (value_above e below t.0 h))
    place_told below at (place.StaticElement' p n i q e) t h =
        expr_told (statics ∷ below) (at + 1) e t.1 (keeps.block below h)

    link_told : (below : List ImageKind) (at : ℕ) (k : Kind) (l : Link) → IsLink c k l → IsKindOf c.program k
        → keeps.Fits below → Told (link_marks w below at k l)
    link_told below at k (link.Binary b e) t there h = expr_told (above k below) at e t.0 (keeps.value k below there h)
    link_told below at k (link.And e) t there h =
        truth_told below (at + 3) (at + 3 + expr_size w e + 5) e h (expr_told below (at + 3) e t.0 h)
    link_told below at k (link.Or e) t there h =
        truth_told below (at + 3) (at + 3 + expr_size w e + 5) e h (expr_told below (at + 3) e t.0 h)
    link_told below at k (link.Field p i) t there h = tt
    link_told below at k (link.Part part i) t there h = tt
    link_told below at k (link.Element p n i e) t there h =
        expr_told (above k below) at e t.1 (keeps.value k below there h)
    link_told below at k (link.Size i) t there h = tt
    link_told below at k (link.Byte i e) t there h = expr_told (above k below) at e t.1 (keeps.value k below there h)
    link_told below at k (link.Invoke' result m shape args) t there h =
        exprs_told (above k below) at args t.0 (keeps.value k below there h)
    link_told below at k (link.TextCall' call shape args) t there h =
        exprs_told (above k below) at args t.0 (keeps.value k below there h)
    link_told below at k (link.After e) t there h = expr_told below (at + pop_size k) e t h

    exprs_told : {n : Count} (below : List ImageKind) (at : ℕ) (es : Row_of-Expr n) → AreExprs c es → keeps.Fits below
        → Told (exprs_marks w below at es)
    exprs_told below at end_of-Expr t h = tt
    exprs_told below at (more_of-Expr e es) t h =
        let next = at + expr_size w e in
        let on = above (kind_of e) below in
        two (expr_marks w below at e) (exprs_marks w on next es) (expr_told below at e t.0 h)
        (exprs_told on next es t.1 (value_above e below t.0 h))

    links_told : {n : Count} (below : List ImageKind) (at : ℕ) (k : Kind) (ls : Row_of-Link n) → AreLinks c k ls
        → IsKindOf c.program k → keeps.Fits below → Told (links_marks w below at k ls)
    links_told below at k end_of-Link t there h = tt
    links_told below at k (more_of-Link l ls) t there h =
        let next = at + link_size w k l in
        two (link_marks w below at k l) (links_marks w below next (link_kind l) ls) (link_told below at k l t.0 there h)
        (links_told below next (link_kind l) ls t.1 (of_link c typed known locals l k t.0) h)

  -- ---- statements

  drop_told : (at : ℕ) (e : Expr) → IsExpr c e → Told (drop_marks w at e)
  drop_told at (expr.Set' target p e) t =
      let next = at + place_size w target in
      two (place_marks w [] at target) (expr_marks w (with_place target []) next e)
      (place_told [] at target t.0 keeps.none)
      (expr_told (with_place target []) next e t.1 (place_fits target [] t.0 keeps.none))
  drop_told at (expr.Update' u target p e) t =
      let next = at + place_size w target + fetch_size (storage w target) in
      let old = with_old New target [] in
      two (place_marks w [] at target) (expr_marks w old next e) (place_told [] at target t.0 keeps.none)
      (expr_told old next e t.1 (old_fits New target [] t.0 keeps.none))
  drop_told at e t = expr_told [] at e t keeps.none

  part_told : (at : ℕ) (e : Option Expr) → IsLast c e → Told (part_marks w at e)
  part_told at None t = tt
  part_told at (Some e) t = expr_told [] at e t keeps.none

  last_told : (at : ℕ) (e : Option Expr) → IsLast c e → Told (last_marks w at e)
  last_told at None t = tt
  last_told at (Some e) t = drop_told at e t

  begun_part : (k : Kind) (e : Option Expr) → IsBegun c k e → IsLast c e
  begun_part k None t = tt
  begun_part k (Some e) t = t.0

  test_part : (e : Option Expr) → IsTest c e → IsLast c e
  test_part None t = tt
  test_part (Some e) t = t.0

  mutual
    pub stmt_told : (around : Around) (at : ℕ) (s : Stmt) → IsStmt c around s → Told (stmt_marks w at s)
    stmt_told around at stmt.Empty t = tt
    stmt_told around at (stmt.Do e) t = drop_told at e t
    stmt_told around at (stmt.Local k i e) t = part_told at e (begun_part k e t.1)
    stmt_told around at (stmt.Block' shape all) t = stmts_told around at all t
    stmt_told around at (stmt.If' x p a q b) t =
        let from = at + expr_size w x + 3 in
        let second = from + stmt_size w a + over_size (stmt_size w b) in
        let ends = mark (second + stmt_size w b) [] ∷ [] in
        two (expr_marks w [] at x) (stmt_marks w from a ++ mark second [] ∷ (stmt_marks w second b ++ ends))
        (expr_told [] at x t.0.0 keeps.none)
        (two (stmt_marks w from a) (mark second [] ∷ (stmt_marks w second b ++ ends)) (stmt_told around from a t.1)
        (keeps.none, two (stmt_marks w second b) ends (stmt_told around second b t.2) (keeps.none, tt)))
    stmt_told around at (stmt.While' x p body) t =
        let test = at + 4 + stmt_size w body in
        let ends = mark (test + expr_size w x + 3) [] ∷ [] in (
          keeps.none,
          two (stmt_marks w (at + 4) body) (mark test [] ∷ (expr_marks w [] test x ++ ends))
              (stmt_told in_loop (at + 4) body t.1)
              (keeps.none, two (expr_marks w [] test x) ends (expr_told [] test x t.0.0 keeps.none) (keeps.none, tt)),
        )
    stmt_told around at (stmt.DoWhile' p body x) t =
        let test = at + 1 + stmt_size w body in
        let ends = mark (test + expr_size w x + 3) [] ∷ [] in (
          keeps.none,
          two (stmt_marks w (at + 1) body) (mark test [] ∷ (expr_marks w [] test x ++ ends))
              (stmt_told in_loop (at + 1) body t.0)
              (keeps.none, two (expr_marks w [] test x) ends (expr_told [] test x t.1.0 keeps.none) (keeps.none, tt)),
        )
    stmt_told around at (stmt.For' p init x last q body) t =
        let from = at + stmt_size w init in
        let step = from + 4 + stmt_size w body in
        let test = step + last_size w last in
        let ends = mark (test + test_size w x + 3) [] ∷ [] in
        let tested = part_marks w test x ++ ends in
        let stepped = last_marks w step last ++ mark test [] ∷ tested in
        two (stmt_marks w at init) (mark (from + 3) [] ∷ (stmt_marks w (from + 4) body ++ mark step [] ∷ stepped))
        (stmt_told around at init t.1) (
          keeps.none,
          two (stmt_marks w (from + 4) body) (mark step [] ∷ stepped) (stmt_told in_loop (from + 4) body t.4) (
            keeps.none,
            two (last_marks w step last) (mark test [] ∷ tested) (last_told step last t.3)
                (keeps.none, two (part_marks w test x) ends (part_told test x (test_part x t.2)) (keeps.none, tt)),
          ),
        )
    stmt_told around at (stmt.Switch' e labels shape all) t =
        let from = at + expr_size w e + 2 + tests_size labels.items + 3 in
        two (expr_marks w [] at e) (labelled_marks w from all) (expr_told [] at e t.0 keeps.none)
        (labelled_told (in_switch around) from all t.4)
    stmt_told around at stmt.Break t = (keeps.none, tt)
    stmt_told around at stmt.Continue t = (keeps.none, tt)
    stmt_told around at (stmt.Return None) t = (keeps.none, tt)
    stmt_told around at (stmt.Return (Some e)) t =
        two (expr_marks w [] at e) (mark (at + expr_size w e + 1) [] ∷ []) (expr_told [] at e t.0 keeps.none)
        (keeps.none, tt)

    stmts_told : {n : Count} (around : Around) (at : ℕ) (ss : Row_of-Stmt n) → AreStmts c around ss
        → Told (stmts_marks w at ss)
    stmts_told around at end_of-Stmt t = tt
    stmts_told around at (more_of-Stmt s ss) t =
        let next = at + stmt_size w s in
        two (stmt_marks w at s) (stmts_marks w next ss) (stmt_told around at s t.0) (stmts_told around next ss t.1)

    labelled_told : {n : Count} (around : Around) (at : ℕ) (ss : Row_of-Stmt n) → AreStmts c around ss
        → Told (labelled_marks w at ss)
    labelled_told around at end_of-Stmt t = (keeps.none, tt)
    labelled_told around at (more_of-Stmt s ss) t =
        let next = at + stmt_size w s in (
          keeps.none,
          two (stmt_marks w at s) (labelled_marks w next ss) (stmt_told around at s t.0)
              (labelled_told around next ss t.1),
        )
