-- The marks of a tree ascend, from where its code begins to where it ends.
use Rattle.std.proofs.Common.{◌≡◌, ◌≤◌, ◌<◌, ℕ, ◌+◌, ◌==◌, Bool, true, false, if◌then◌else◌, List, [], ◌∷◌, ◌++◌, Option, Some, None, refl, arith}
use mathlib.Core.Former.{Count}
use Rattle.sed_typed.specs.declared.kind.Kind.{Kind}
use Rattle.sed_typed.specs.declared.kind.Kind.TheVariants as kind
use Rattle.sed_typed.specs.declared.operators.Gives.TheVariants.{New}
use Rattle.sed_typed.specs.declared.statement.Stmt.{Stmt, Row_of-Stmt, end_of-Stmt, more_of-Stmt}
use Rattle.sed_typed.specs.declared.statement.Stmt.TheVariants as stmt
use Rattle.sed_typed.specs.declared.tree.Place.{Place}
use Rattle.sed_typed.specs.declared.tree.Place.TheVariants as place
use Rattle.sed_typed.specs.declared.tree.Expr.{Expr, Row_of-Expr, end_of-Expr, more_of-Expr, Row_of-Link, end_of-Link, more_of-Link}
use Rattle.sed_typed.specs.declared.tree.Expr.TheVariants as expr
use Rattle.sed_typed.specs.declared.tree.Link.{Link}
use Rattle.sed_typed.specs.declared.tree.Link.TheVariants as link
use Rattle.sed_typed.specs.Kinds.{kind_of, link_kind}
use Rattle.scode_image.specs.declared.image.ImageKind.{ImageKind}
use Rattle.scode_code.specs.Kinds.{bool, object, statics}
use Rattle.scode_entries.specs.declared.marks.Mark.{Mark}
use Rattle.scode_emit.specs.Site.{Site}
use Rattle.scode_emit.specs.Instructions.{pop_size, storage, fetch_size, before_size}
use Rattle.scode_emit.specs.Sizes.{expr_size, place_size, link_size, exprs_size, links_size, drop_size, begin_size, test_size, last_size, over_size, tests_size, stmt_size, stmts_size}
use Rattle.scode_entries.specs.Entries.{mark, above, with_place, with_old, expr_marks, place_marks, link_marks, exprs_marks, links_marks, drop_marks, part_marks, last_marks, stmt_marks, stmts_marks, labelled_marks}

-- each place is at or behind the one before, none is before `low`, and none behind `high`
abbrev pub Ascends : ℕ → List Mark → ℕ → Type 0
Ascends low [] high = low ≤ high
Ascends low (m ∷ ms) high = (low ≤ m.place) × Ascends m.place ms high

pub lower : (ms : List Mark) (low start high : ℕ) → low ≤ start → Ascends start ms high → Ascends low ms high
lower [] low start high le h = omega (arith, le, h)
lower (m ∷ ms) low start high le h = (omega (arith, le, h.0), h.1)

higher : (ms : List Mark) (low end high : ℕ) → end ≤ high → Ascends low ms end → Ascends low ms high
higher [] low end high le h = omega (arith, le, h)
higher (m ∷ ms) low end high le h = (h.0, higher ms m.place end high le h.1)

-- the same from an earlier place to a later one
within : (ms : List Mark) (low start end high : ℕ) → low ≤ start → end ≤ high → Ascends start ms end → Ascends low ms high
within ms low start end high l g h = lower ms low start high l (higher ms start end high g h)

-- marks behind others, which end at or before where they begin
behind : (ms ns : List Mark) (low mid high : ℕ) → Ascends low ms mid → Ascends mid ns high → Ascends low (ms ++ ns) high
behind [] ns low mid high h g = lower ns low mid high h g
behind (m ∷ ms) ns low mid high h g = (h.0, behind ms ns m.place mid high h.1 g)

-- ---- expressions

-- of `&&` and `||`, where those of the operand ascend
truth_ascends : (w : Site) (below : List ImageKind) (at : ℕ) (e : Expr) → Ascends (at + 3) (expr_marks w below (at + 3) e) (at + 3 + expr_size w e) →
    (let other = at + 3 + expr_size w e + 5 in
    Ascends at (expr_marks w below (at + 3) e ++ mark other below ∷ mark (other + 2) (bool ∷ below) ∷ []) (at + (3 + expr_size w e + 7)))
truth_ascends w below at e h =
    let other = at + 3 + expr_size w e + 5 in
    let last = mark other below ∷ mark (other + 2) (bool ∷ below) ∷ [] in
    behind (expr_marks w below (at + 3) e) last at other (at + (3 + expr_size w e + 7))
    (within (expr_marks w below (at + 3) e) at (at + 3) (at + 3 + expr_size w e) other (omega arith) (omega arith) h)
    (omega arith, (omega arith, omega arith))

mutual
  pub expr_ascends : (w : Site) (below : List ImageKind) (at : ℕ) (e : Expr) → Ascends at (expr_marks w below at e) (at + expr_size w e)
  expr_ascends w below at (expr.Int n) = omega arith
  expr_ascends w below at (expr.Long n) = omega arith
  expr_ascends w below at (expr.Bool t) = omega arith
  expr_ascends w below at (expr.Null k) = omega arith
  expr_ascends w below at (expr.Text n) = omega arith
  expr_ascends w below at (expr.This class) = omega arith
  expr_ascends w below at (expr.Local k i) = omega arith
  expr_ascends w below at (expr.Static p i) = omega arith
  expr_ascends w below at (expr.StaticPart k i) = omega arith
  expr_ascends w below at (expr.StaticElement' p n i q e) =
      within (expr_marks w (statics ∷ below) (at + 1) e) at (at + 1) (at + 1 + expr_size w e) (at + expr_size w (expr.StaticElement' p n i q e)) (omega arith) (omega arith)
      (expr_ascends w (statics ∷ below) (at + 1) e)
  expr_ascends w below at expr.Ticks = omega arith
  expr_ascends w below at (expr.Unary' u p e) =
      within (expr_marks w below at e) at at (at + expr_size w e) (at + expr_size w (expr.Unary' u p e)) (omega arith) (omega arith) (expr_ascends w below at e)
  expr_ascends w below at (expr.Choose' p t q a r b) =
      let first = at + expr_size w t + 3 in
      let second = first + expr_size w a + 3 in
      let end = second + expr_size w b in
      let last = mark end (above (kind_of a) below) ∷ [] in
      let other = expr_marks w below second b ++ last in
      behind (expr_marks w below at t) (expr_marks w below first a ++ mark second below ∷ other) at (at + expr_size w t) (at + expr_size w (expr.Choose' p t q a r b))
      (expr_ascends w below at t)
      (behind (expr_marks w below first a) (mark second below ∷ other) (at + expr_size w t) second (at + expr_size w (expr.Choose' p t q a r b))
      (within (expr_marks w below first a) (at + expr_size w t) first (first + expr_size w a) second (omega arith) (omega arith) (expr_ascends w below first a)) (
        omega arith,
        behind (expr_marks w below second b) last second end (at + expr_size w (expr.Choose' p t q a r b)) (expr_ascends w below second b) (omega arith, omega arith),
      ))
  expr_ascends w below at (expr.Set' target p e) =
      let next = at + place_size w target in
      behind (place_marks w below at target) (expr_marks w (with_place target below) next e) at next (at + expr_size w (expr.Set' target p e)) (place_ascends w below at target)
      (within (expr_marks w (with_place target below) next e) next next (next + expr_size w e) (at + expr_size w (expr.Set' target p e)) (omega arith) (omega arith)
      (expr_ascends w (with_place target below) next e))
  expr_ascends w below at (expr.Update' u target p e) =
      let mid = at + place_size w target in
      let next = mid + before_size u.gives (storage w target) in
      let old = with_old u.gives target below in
      behind (place_marks w below at target) (expr_marks w old next e) at mid (at + expr_size w (expr.Update' u target p e)) (place_ascends w below at target)
      (within (expr_marks w old next e) mid next (next + expr_size w e) (at + expr_size w (expr.Update' u target p e)) (omega arith) (omega arith) (expr_ascends w old next e))
  expr_ascends w below at (expr.Call' k m shape args) =
      within (exprs_marks w below at args) at at (at + exprs_size w args) (at + expr_size w (expr.Call' k m shape args)) (omega arith) (omega arith) (exprs_ascends w below at args)
  expr_ascends w below at (expr.Super' k m shape args) =
      let on = object w.class ∷ below in
      within (exprs_marks w on (at + 2) args) at (at + 2) (at + 2 + exprs_size w args) (at + expr_size w (expr.Super' k m shape args)) (omega arith) (omega arith) (exprs_ascends w on (at + 2) args)
  expr_ascends w below at (expr.Chain' p e shape links) =
      let next = at + expr_size w e in
      behind (expr_marks w below at e) (links_marks w below next (kind_of e) links) at next (at + expr_size w (expr.Chain' p e shape links)) (expr_ascends w below at e)
      (within (links_marks w below next (kind_of e) links) next next (next + links_size w (kind_of e) links) (at + expr_size w (expr.Chain' p e shape links)) (omega arith) (omega arith)
      (links_ascend w below next (kind_of e) links))

  pub place_ascends : (w : Site) (below : List ImageKind) (at : ℕ) (target : Place) → Ascends at (place_marks w below at target) (at + place_size w target)
  place_ascends w below at (place.Local k i) = omega arith
  place_ascends w below at (place.Static p i) = omega arith
  place_ascends w below at (place.Field' p q e i) = expr_ascends w below at e
  place_ascends w below at (place.Element' p n q e f r i) =
      let next = at + expr_size w e in
      let on = above (kind_of e) below in
      behind (expr_marks w below at e) (expr_marks w on next i) at next (at + place_size w (place.Element' p n q e f r i)) (expr_ascends w below at e)
      (within (expr_marks w on next i) next next (next + expr_size w i) (at + place_size w (place.Element' p n q e f r i)) (omega arith) (omega arith) (expr_ascends w on next i))
  place_ascends w below at (place.StaticElement' p n i q e) =
      within (expr_marks w (statics ∷ below) (at + 1) e) at (at + 1) (at + 1 + expr_size w e) (at + place_size w (place.StaticElement' p n i q e)) (omega arith) (omega arith)
      (expr_ascends w (statics ∷ below) (at + 1) e)

  pub link_ascends : (w : Site) (below : List ImageKind) (at : ℕ) (k : Kind) (l : Link) → Ascends at (link_marks w below at k l) (at + link_size w k l)
  link_ascends w below at k (link.Binary b e) =
      within (expr_marks w (above k below) at e) at at (at + expr_size w e) (at + link_size w k (link.Binary b e)) (omega arith) (omega arith) (expr_ascends w (above k below) at e)
  link_ascends w below at k (link.And e) = truth_ascends w below at e (expr_ascends w below (at + 3) e)
  link_ascends w below at k (link.Or e) = truth_ascends w below at e (expr_ascends w below (at + 3) e)
  link_ascends w below at k (link.Field p i) = omega arith
  link_ascends w below at k (link.Part part i) = omega arith
  link_ascends w below at k (link.Element p n i e) =
      within (expr_marks w (above k below) at e) at at (at + expr_size w e) (at + link_size w k (link.Element p n i e)) (omega arith) (omega arith) (expr_ascends w (above k below) at e)
  link_ascends w below at k (link.Size i) = omega arith
  link_ascends w below at k (link.Byte i e) =
      within (expr_marks w (above k below) at e) at at (at + expr_size w e) (at + link_size w k (link.Byte i e)) (omega arith) (omega arith) (expr_ascends w (above k below) at e)
  link_ascends w below at k (link.Invoke' result m shape args) =
      within (exprs_marks w (above k below) at args) at at (at + exprs_size w args) (at + link_size w k (link.Invoke' result m shape args)) (omega arith) (omega arith) (exprs_ascends w (above k below) at args)
  link_ascends w below at k (link.TextCall' call shape args) =
      within (exprs_marks w (above k below) at args) at at (at + exprs_size w args) (at + link_size w k (link.TextCall' call shape args)) (omega arith) (omega arith) (exprs_ascends w (above k below) at args)
  link_ascends w below at k (link.After e) =
      let next = at + pop_size k in
      within (expr_marks w below next e) at next (next + expr_size w e) (at + link_size w k (link.After e)) (omega arith) (omega arith) (expr_ascends w below next e)

  pub exprs_ascends : {n : Count} (w : Site) (below : List ImageKind) (at : ℕ) (es : Row_of-Expr n) → Ascends at (exprs_marks w below at es) (at + exprs_size w es)
  exprs_ascends w below at end_of-Expr = omega arith
  exprs_ascends w below at (more_of-Expr e es) =
      let next = at + expr_size w e in
      let on = above (kind_of e) below in
      behind (expr_marks w below at e) (exprs_marks w on next es) at next (at + exprs_size w (more_of-Expr e es)) (expr_ascends w below at e)
      (within (exprs_marks w on next es) next next (next + exprs_size w es) (at + exprs_size w (more_of-Expr e es)) (omega arith) (omega arith) (exprs_ascends w on next es))

  pub links_ascend : {n : Count} (w : Site) (below : List ImageKind) (at : ℕ) (k : Kind) (ls : Row_of-Link n) → Ascends at (links_marks w below at k ls) (at + links_size w k ls)
  links_ascend w below at k end_of-Link = omega arith
  links_ascend w below at k (more_of-Link l ls) =
      let next = at + link_size w k l in
      behind (link_marks w below at k l) (links_marks w below next (link_kind l) ls) at next (at + links_size w k (more_of-Link l ls)) (link_ascends w below at k l)
      (within (links_marks w below next (link_kind l) ls) next next (next + links_size w (link_kind l) ls) (at + links_size w k (more_of-Link l ls)) (omega arith) (omega arith)
      (links_ascend w below next (link_kind l) ls))

-- ---- parts of statements

taken_ascends : (w : Site) (at : ℕ) (e : Expr) → Ascends at (expr_marks w [] at e) (at + (expr_size w e + pop_size (kind_of e)))
taken_ascends w at e = within (expr_marks w [] at e) at at (at + expr_size w e) (at + (expr_size w e + pop_size (kind_of e))) (omega arith) (omega arith) (expr_ascends w [] at e)

drop_ascends : (w : Site) (at : ℕ) (e : Expr) → Ascends at (drop_marks w at e) (at + drop_size w e)
drop_ascends w at (expr.Set' target p e) =
    let next = at + place_size w target in
    behind (place_marks w [] at target) (expr_marks w (with_place target []) next e) at next (at + drop_size w (expr.Set' target p e)) (place_ascends w [] at target)
    (within (expr_marks w (with_place target []) next e) next next (next + expr_size w e) (at + drop_size w (expr.Set' target p e)) (omega arith) (omega arith)
    (expr_ascends w (with_place target []) next e))
drop_ascends w at (expr.Update' u target p e) =
    let mid = at + place_size w target in
    let next = mid + fetch_size (storage w target) in
    let old = with_old New target [] in
    behind (place_marks w [] at target) (expr_marks w old next e) at mid (at + drop_size w (expr.Update' u target p e)) (place_ascends w [] at target)
    (within (expr_marks w old next e) mid next (next + expr_size w e) (at + drop_size w (expr.Update' u target p e)) (omega arith) (omega arith) (expr_ascends w old next e))
drop_ascends w at e = taken_ascends w at e

begin_ascends : (w : Site) (at : ℕ) (k : Kind) (e : Option Expr) → Ascends at (part_marks w at e) (at + begin_size w k e)
begin_ascends w at k None = omega arith
begin_ascends w at k (Some e) = expr_ascends w [] at e

test_ascends : (w : Site) (at : ℕ) (e : Option Expr) → Ascends at (part_marks w at e) (at + test_size w e)
test_ascends w at None = omega arith
test_ascends w at (Some e) = expr_ascends w [] at e

last_ascends : (w : Site) (at : ℕ) (e : Option Expr) → Ascends at (last_marks w at e) (at + last_size w e)
last_ascends w at None = omega arith
last_ascends w at (Some e) = drop_ascends w at e

-- ---- statements

mutual
  pub stmt_ascends : (w : Site) (at : ℕ) (s : Stmt) → Ascends at (stmt_marks w at s) (at + stmt_size w s)
  stmt_ascends w at stmt.Empty = omega arith
  stmt_ascends w at (stmt.Do e) = drop_ascends w at e
  stmt_ascends w at (stmt.Local k i e) =
      within (part_marks w at e) at at (at + begin_size w k e) (at + stmt_size w (stmt.Local k i e)) (omega arith) (omega arith) (begin_ascends w at k e)
  stmt_ascends w at (stmt.Block' shape all) = stmts_ascend w at all
  stmt_ascends w at (stmt.If' t p a q b) =
      let first = at + expr_size w t + 3 in
      let second = first + stmt_size w a + over_size (stmt_size w b) in
      let end = second + stmt_size w b in
      let last = mark end [] ∷ [] in
      let other = stmt_marks w second b ++ last in
      behind (expr_marks w [] at t) (stmt_marks w first a ++ mark second [] ∷ other) at (at + expr_size w t) (at + stmt_size w (stmt.If' t p a q b)) (expr_ascends w [] at t)
      (behind (stmt_marks w first a) (mark second [] ∷ other) (at + expr_size w t) second (at + stmt_size w (stmt.If' t p a q b))
      (within (stmt_marks w first a) (at + expr_size w t) first (first + stmt_size w a) second (omega arith) (omega arith) (stmt_ascends w first a)) (
        omega arith,
        behind (stmt_marks w second b) last second end (at + stmt_size w (stmt.If' t p a q b)) (stmt_ascends w second b) (omega arith, omega arith),
      ))
  stmt_ascends w at (stmt.While' t p body) =
      let test = at + 4 + stmt_size w body in
      let last = mark (test + expr_size w t + 3) [] ∷ [] in
      let other = expr_marks w [] test t ++ last in (
        omega arith,
        behind (stmt_marks w (at + 4) body) (mark test [] ∷ other) (at + 3) test (at + stmt_size w (stmt.While' t p body))
            (lower (stmt_marks w (at + 4) body) (at + 3) (at + 4) test (omega arith) (stmt_ascends w (at + 4) body)) (
              omega arith,
              behind (expr_marks w [] test t) last test (test + expr_size w t) (at + stmt_size w (stmt.While' t p body)) (expr_ascends w [] test t) (omega arith, omega arith),
            ),
      )
  stmt_ascends w at (stmt.DoWhile' p body t) =
      let test = at + 1 + stmt_size w body in
      let last = mark (test + expr_size w t + 3) [] ∷ [] in
      let other = expr_marks w [] test t ++ last in (
        omega arith,
        behind (stmt_marks w (at + 1) body) (mark test [] ∷ other) at test (at + stmt_size w (stmt.DoWhile' p body t))
            (lower (stmt_marks w (at + 1) body) at (at + 1) test (omega arith) (stmt_ascends w (at + 1) body)) (
              omega arith,
              behind (expr_marks w [] test t) last test (test + expr_size w t) (at + stmt_size w (stmt.DoWhile' p body t)) (expr_ascends w [] test t) (omega arith, omega arith),
            ),
      )
  stmt_ascends w at (stmt.For' p first t last q body) =
      let start = at + stmt_size w first in
      let step = start + 4 + stmt_size w body in
      let test = step + last_size w last in
      let end = mark (test + test_size w t + 3) [] ∷ [] in
      let tested = part_marks w test t ++ end in
      let stepped = last_marks w step last ++ mark test [] ∷ tested in
      behind (stmt_marks w at first) (mark (start + 3) [] ∷ (stmt_marks w (start + 4) body ++ mark step [] ∷ stepped)) at start (at + stmt_size w (stmt.For' p first t last q body)) (stmt_ascends w at first) (
        omega arith,
        behind (stmt_marks w (start + 4) body) (mark step [] ∷ stepped) (start + 3) step (at + stmt_size w (stmt.For' p first t last q body))
            (lower (stmt_marks w (start + 4) body) (start + 3) (start + 4) step (omega arith) (stmt_ascends w (start + 4) body)) (
              omega arith,
              behind (last_marks w step last) (mark test [] ∷ tested) step test (at + stmt_size w (stmt.For' p first t last q body)) (last_ascends w step last) (
                omega arith,
                behind (part_marks w test t) end test (test + test_size w t) (at + stmt_size w (stmt.For' p first t last q body)) (test_ascends w test t) (omega arith, omega arith),
              ),
            ),
      )
  stmt_ascends w at (stmt.Switch' e labels shape all) =
      let mid = at + expr_size w e in
      let first = mid + 2 + tests_size labels.items + 3 in
      behind (expr_marks w [] at e) (labelled_marks w first all) at mid (at + stmt_size w (stmt.Switch' e labels shape all)) (expr_ascends w [] at e)
      (within (labelled_marks w first all) mid first (first + stmts_size w all) (at + stmt_size w (stmt.Switch' e labels shape all)) (omega arith) (omega arith) (labelled_ascend w first all))
  stmt_ascends w at stmt.Break = (omega arith, omega arith)
  stmt_ascends w at stmt.Continue = (omega arith, omega arith)
  stmt_ascends w at (stmt.Return None) = (omega arith, omega arith)
  stmt_ascends w at (stmt.Return (Some e)) =
      let last = mark (at + expr_size w e + 1) [] ∷ [] in
      behind (expr_marks w [] at e) last at (at + expr_size w e) (at + stmt_size w (stmt.Return (Some e))) (expr_ascends w [] at e) (omega arith, omega arith)

  pub stmts_ascend : {n : Count} (w : Site) (at : ℕ) (ss : Row_of-Stmt n) → Ascends at (stmts_marks w at ss) (at + stmts_size w ss)
  stmts_ascend w at end_of-Stmt = omega arith
  stmts_ascend w at (more_of-Stmt s ss) =
      let next = at + stmt_size w s in
      behind (stmt_marks w at s) (stmts_marks w next ss) at next (at + stmts_size w (more_of-Stmt s ss)) (stmt_ascends w at s)
      (within (stmts_marks w next ss) next next (next + stmts_size w ss) (at + stmts_size w (more_of-Stmt s ss)) (omega arith) (omega arith) (stmts_ascend w next ss))

  pub labelled_ascend : {n : Count} (w : Site) (at : ℕ) (ss : Row_of-Stmt n) → Ascends at (labelled_marks w at ss) (at + stmts_size w ss)
  labelled_ascend w at end_of-Stmt = (omega arith, omega arith)
  labelled_ascend w at (more_of-Stmt s ss) =
      let next = at + stmt_size w s in (
        omega arith,
        behind (stmt_marks w at s) (labelled_marks w next ss) at next (at + stmts_size w (more_of-Stmt s ss)) (stmt_ascends w at s)
            (within (labelled_marks w next ss) next next (next + stmts_size w ss) (at + stmts_size w (more_of-Stmt s ss)) (omega arith) (omega arith) (labelled_ascend w next ss)),
      )
