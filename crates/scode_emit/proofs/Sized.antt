-- Code has as many bytes as its size says.
use Rattle.std.proofs.Common.{◌≡◌, ℕ, ◌+◌, ◌==◌, Bool, true, false, if◌then◌else◌, List, [], ◌∷◌, ◌++◌, drop, Option, Some, None, refl, arith}
use mathlib.Core.Former.{Count}
use Rattle.sed_value.specs.declared.slot_type.Primitive.TheVariants as prim
use Rattle.sed_typed.specs.declared.kind.Kind.{Kind}
use Rattle.sed_typed.specs.declared.kind.Kind.TheVariants as kind
use Rattle.sed_typed.specs.declared.statement.Label.{Label}
use Rattle.sed_typed.specs.declared.statement.Label.TheVariants.{Case, Default}
use Rattle.sed_typed.specs.declared.statement.Stmt.{Stmt, Row_of-Stmt, end_of-Stmt, more_of-Stmt}
use Rattle.sed_typed.specs.declared.statement.Stmt.TheVariants as stmt
use Rattle.sed_typed.specs.declared.tree.Place.{Place}
use Rattle.sed_typed.specs.declared.tree.Place.TheVariants as place
use Rattle.sed_typed.specs.declared.tree.Expr.{Expr, Row_of-Expr, end_of-Expr, more_of-Expr, Row_of-Link, end_of-Link, more_of-Link}
use Rattle.sed_typed.specs.declared.tree.Expr.TheVariants as expr
use Rattle.sed_typed.specs.declared.tree.Link.{Link}
use Rattle.sed_typed.specs.declared.tree.Link.TheVariants as link
use Rattle.sed_typed.specs.Kinds.{kind_of, link_kind}
use Rattle.scode_ops.specs.declared.op.Op.TheVariants as op
use Rattle.scode_emit.specs.Site.{Site, waiting, offset_in, room_in}
use Rattle.scode_emit.specs.Instructions.{arithmetic_op, binary_op, unary_code, text_op, pop_code, pop_size, get_element_op, invoke_op, storage, put_code, keep_code, fetch_code, before_code, before_size, fetch_size, behind_code}
use Rattle.scode_emit.specs.Sizes.{expr_size, place_size, link_size, exprs_size, links_size, drop_size, begin_size, test_size, last_size, over_size, tests_size, stmt_size, stmts_size, end_size, body_size}
use Rattle.scode_emit.specs.Code.{expr_code, place_code, link_code, exprs_code, links_code, drop_code, begin_code, test_code, last_code, over_code, begins, tests_code, default_place, stmt_code, stmts_code, end_code, body_code}
use Rattle.scode_emit.proofs.Counts.{count, count-append, arithmetic_sized, binary_sized, unary_sized, text_sized, zero_sized, pop_sized, get_sized, get_element_sized, part_sized, invoke_sized, put_code_sized, keep_sized, fetch_sized, before_sized, behind_sized}

mutual
  pub expr_sized : (w : Site) (at : ℕ) (e : Expr) → count (expr_code w at e) ≡ expr_size w e
  expr_sized w at (expr.Int n) = refl
  expr_sized w at (expr.Long n) = refl
  expr_sized w at (expr.Bool t) = refl
  expr_sized w at (expr.Null k) = refl
  expr_sized w at (expr.Text n) = refl
  expr_sized w at (expr.This class) = refl
  expr_sized w at (expr.Local k i) = refl
  expr_sized w at (expr.Static p i) = omega (arith, get_sized p (w.layout.static_offset i))
  expr_sized w at (expr.StaticPart k i) = omega (arith, part_sized k (w.layout.static_offset i) (w.layout.static_room i))
  expr_sized w at (expr.StaticElement' p n i q e) =
      let get = get_element_op p (w.layout.static_offset i) n in
      omega (arith, count-append (expr_code w (at + 1) e) (get ∷ []), expr_sized w (at + 1) e, get_element_sized p (w.layout.static_offset i) n)
  expr_sized w at expr.Ticks = refl
  expr_sized w at (expr.Unary' u p e) = omega (arith, count-append (expr_code w at e) (unary_code u), expr_sized w at e, unary_sized u)
  expr_sized w at (expr.Choose' p t q a r b) =
      let first = at + expr_size w t + 3 in
      let second = first + expr_size w a + 3 in
      let behind = op.Jump (second + expr_size w b) ∷ expr_code w second b in
      omega (
        arith,
        count-append (expr_code w at t) (op.JumpFalse second ∷ (expr_code w first a ++ behind)),
        count-append (expr_code w first a) behind,
        expr_sized w at t,
        expr_sized w first a,
        expr_sized w second b,
      )
  expr_sized w at (expr.Set' target p e) =
      let next = at + place_size w target in
      let keep = keep_code w (storage w target) in
      omega (
        arith,
        count-append (place_code w at target) (expr_code w next e ++ keep),
        count-append (expr_code w next e) keep,
        place_sized w at target,
        expr_sized w next e,
        keep_sized w (storage w target),
      )
  expr_sized w at (expr.Update' u target p e) =
      let s = storage w target in
      let next = at + place_size w target + before_size u.gives s in
      let behind = arithmetic_op u.arithmetic u.width ∷ behind_code w u.gives s in
      omega (
        arith,
        count-append (place_code w at target) (before_code w u.gives s ++ (expr_code w next e ++ behind)),
        count-append (before_code w u.gives s) (expr_code w next e ++ behind),
        count-append (expr_code w next e) behind,
        place_sized w at target,
        before_sized w u.gives s,
        expr_sized w next e,
        arithmetic_sized u.arithmetic u.width,
        behind_sized w u.gives s,
      )
  expr_sized w at (expr.Call' k m shape args) = omega (arith, count-append (exprs_code w at args) (op.Call m ∷ []), exprs_sized w at args)
  expr_sized w at (expr.Super' k m shape args) = omega (arith, count-append (exprs_code w (at + 2) args) (op.Call m ∷ []), exprs_sized w (at + 2) args)
  expr_sized w at (expr.Chain' p e shape links) =
      let next = at + expr_size w e in
      omega (arith, count-append (expr_code w at e) (links_code w next (kind_of e) links), expr_sized w at e, links_sized w next (kind_of e) links)

  pub place_sized : (w : Site) (at : ℕ) (target : Place) → count (place_code w at target) ≡ place_size w target
  place_sized w at (place.Local k i) = refl
  place_sized w at (place.Static p i) = refl
  place_sized w at (place.Field' p q e i) = expr_sized w at e
  place_sized w at (place.Element' p n q e f r i) =
      let next = at + expr_size w e in
      omega (arith, count-append (expr_code w at e) (expr_code w next i), expr_sized w at e, expr_sized w next i)
  place_sized w at (place.StaticElement' p n i q e) = omega (arith, expr_sized w (at + 1) e)

  pub link_sized : (w : Site) (at : ℕ) (k : Kind) (l : Link) → count (link_code w at k l) ≡ link_size w k l
  link_sized w at k (link.Binary b e) = omega (arith, count-append (expr_code w at e) (binary_op b ∷ []), expr_sized w at e, binary_sized b)
  link_sized w at k (link.And e) =
      let behind = op.Not ∷ op.Not ∷ op.Jump (at + 3 + expr_size w e + 5 + 2) ∷ op.Bool 0 ∷ [] in
      omega (arith, count-append (expr_code w (at + 3) e) behind, expr_sized w (at + 3) e)
  link_sized w at k (link.Or e) =
      let behind = op.Not ∷ op.Not ∷ op.Jump (at + 3 + expr_size w e + 5 + 2) ∷ op.Bool 1 ∷ [] in
      omega (arith, count-append (expr_code w (at + 3) e) behind, expr_sized w (at + 3) e)
  link_sized w at k (link.Field p i) = omega (arith, get_sized p (offset_in w k i))
  link_sized w at k (link.Part part i) = omega (arith, part_sized part (offset_in w k i) (room_in w k i))
  link_sized w at k (link.Element p n i e) =
      omega (arith, count-append (expr_code w at e) (get_element_op p (offset_in w k i) n ∷ []), expr_sized w at e, get_element_sized p (offset_in w k i) n)
  link_sized w at k (link.Size i) = refl
  link_sized w at k (link.Byte i e) = omega (arith, count-append (expr_code w at e) (op.BufGet (offset_in w k i) (room_in w k i) ∷ []), expr_sized w at e)
  link_sized w at k (link.Invoke' result m shape args) =
      omega (arith, count-append (exprs_code w at args) (invoke_op w k m ∷ []), exprs_sized w at args, invoke_sized w k m)
  link_sized w at k (link.TextCall' call shape args) =
      omega (arith, count-append (exprs_code w at args) (text_op call ∷ []), exprs_sized w at args, text_sized call)
  link_sized w at k (link.After e) =
      omega (arith, count-append (pop_code k) (expr_code w (at + pop_size k) e), pop_sized k, expr_sized w (at + pop_size k) e)

  pub exprs_sized : {n : Count} (w : Site) (at : ℕ) (es : Row_of-Expr n) → count (exprs_code w at es) ≡ exprs_size w es
  exprs_sized w at end_of-Expr = refl
  exprs_sized w at (more_of-Expr e es) =
      omega (arith, count-append (expr_code w at e) (exprs_code w (at + expr_size w e) es), expr_sized w at e, exprs_sized w (at + expr_size w e) es)

  pub links_sized : {n : Count} (w : Site) (at : ℕ) (k : Kind) (ls : Row_of-Link n) → count (links_code w at k ls) ≡ links_size w k ls
  links_sized w at k end_of-Link = refl
  links_sized w at k (more_of-Link l ls) =
      let next = at + link_size w k l in
      omega (arith, count-append (link_code w at k l) (links_code w next (link_kind l) ls), link_sized w at k l, links_sized w next (link_kind l) ls)

-- what is not assigned
kept_sized : (w : Site) (at : ℕ) (e : Expr) → count (expr_code w at e ++ pop_code (kind_of e)) ≡ expr_size w e + pop_size (kind_of e)
kept_sized w at e = omega (arith, count-append (expr_code w at e) (pop_code (kind_of e)), expr_sized w at e, pop_sized (kind_of e))

pub drop_sized : (w : Site) (at : ℕ) (e : Expr) → count (drop_code w at e) ≡ drop_size w e
drop_sized w at (expr.Set' target p e) =
    let next = at + place_size w target in
    let put = put_code (storage w target) in
    omega (
      arith,
      count-append (place_code w at target) (expr_code w next e ++ put),
      count-append (expr_code w next e) put,
      place_sized w at target,
      expr_sized w next e,
      put_code_sized (storage w target),
    )
drop_sized w at (expr.Update' u target p e) =
    let s = storage w target in
    let next = at + place_size w target + fetch_size s in
    let behind = arithmetic_op u.arithmetic u.width ∷ put_code s in
    omega (
      arith,
      count-append (place_code w at target) (fetch_code w s ++ (expr_code w next e ++ behind)),
      count-append (fetch_code w s) (expr_code w next e ++ behind),
      count-append (expr_code w next e) behind,
      place_sized w at target,
      fetch_sized w s,
      expr_sized w next e,
      arithmetic_sized u.arithmetic u.width,
      put_code_sized s,
    )
drop_sized w at e = kept_sized w at e

pub begin_sized : (w : Site) (at : ℕ) (k : Kind) (e : Option Expr) → count (begin_code w at k e) ≡ begin_size w k e
begin_sized w at k None = omega (arith, zero_sized k)
begin_sized w at k (Some e) = expr_sized w at e

pub test_sized : (w : Site) (at : ℕ) (e : Option Expr) → count (test_code w at e) ≡ test_size w e
test_sized w at None = refl
test_sized w at (Some e) = expr_sized w at e

pub last_sized : (w : Site) (at : ℕ) (e : Option Expr) → count (last_code w at e) ≡ last_size w e
last_sized w at None = refl
last_sized w at (Some e) = drop_sized w at e

pub over_sized : (n to : ℕ) → count (over_code n to) ≡ over_size n
over_sized n to = cases (n == 0)
  where
    cases : (b : Bool) → count (if b then [] else op.Jump to ∷ []) ≡ (if b then 0 else 3)
    cases true = refl
    cases false = refl

pub tests_sized : (local end : ℕ) (labels : List Label) (places : List ℕ) → count (tests_code local end labels places) ≡ tests_size labels
tests_sized local end [] places = refl
tests_sized local end (Case c ∷ labels) places = omega (arith, tests_sized local end labels (drop 1 places))
tests_sized local end (Default ∷ labels) places = tests_sized local end labels (drop 1 places)

mutual
  pub stmt_sized : (w : Site) (at out on : ℕ) (s : Stmt) → count (stmt_code w at out on s) ≡ stmt_size w s
  stmt_sized w at out on stmt.Empty = refl
  stmt_sized w at out on (stmt.Do e) = drop_sized w at e
  stmt_sized w at out on (stmt.Local k i e) = omega (arith, count-append (begin_code w at k e) (op.Store i ∷ []), begin_sized w at k e)
  stmt_sized w at out on (stmt.Block' shape all) = stmts_sized w at out on all
  stmt_sized w at out on (stmt.If' t p a q b) =
      let first = at + expr_size w t + 3 in
      let second = first + stmt_size w a + over_size (stmt_size w b) in
      let over = over_code (stmt_size w b) (second + stmt_size w b) in
      let other = stmt_code w second out on b in
      omega (
        arith,
        count-append (expr_code w at t) (op.JumpFalse second ∷ (stmt_code w first out on a ++ (over ++ other))),
        count-append (stmt_code w first out on a) (over ++ other),
        count-append over other,
        expr_sized w at t,
        stmt_sized w first out on a,
        over_sized (stmt_size w b) (second + stmt_size w b),
        stmt_sized w second out on b,
      )
  stmt_sized w at out on (stmt.While' t p body) =
      let test = at + 4 + stmt_size w body in
      let end = test + expr_size w t + 3 in
      let back = op.JumpTrue (at + 3) ∷ [] in
      omega (
        arith,
        count-append (stmt_code w (at + 4) end test body) (expr_code w test t ++ back),
        count-append (expr_code w test t) back,
        stmt_sized w (at + 4) end test body,
        expr_sized w test t,
      )
  stmt_sized w at out on (stmt.DoWhile' p body t) =
      let test = at + 1 + stmt_size w body in
      let end = test + expr_size w t + 3 in
      let back = op.JumpTrue at ∷ [] in
      omega (
        arith,
        count-append (stmt_code w (at + 1) end test body) (expr_code w test t ++ back),
        count-append (expr_code w test t) back,
        stmt_sized w (at + 1) end test body,
        expr_sized w test t,
      )
  stmt_sized w at out on (stmt.For' p first t last q body) =
      let start = at + stmt_size w first in
      let step = start + 4 + stmt_size w body in
      let test = step + last_size w last in
      let end = test + test_size w t + 3 in
      let back = op.JumpTrue (start + 3) ∷ [] in
      omega (
        arith,
        count-append (stmt_code w at out on first) (op.Jump test ∷ op.Turn ∷ (stmt_code w (start + 4) end step body ++ (last_code w step last ++ (test_code w test t ++ back)))),
        count-append (stmt_code w (start + 4) end step body) (last_code w step last ++ (test_code w test t ++ back)),
        count-append (last_code w step last) (test_code w test t ++ back),
        count-append (test_code w test t) back,
        stmt_sized w at out on first,
        stmt_sized w (start + 4) end step body,
        last_sized w step last,
        test_sized w test t,
      )
  stmt_sized w at out on (stmt.Switch' e labels shape all) =
      let local = waiting w prim.Int in
      let first = at + expr_size w e + 2 + tests_size labels.items + 3 in
      let end = first + stmts_size w all in
      let tests = tests_code local end labels.items (begins w first all) in
      let behind = op.Jump (default_place end labels.items (begins w first all)) ∷ stmts_code w first end on all in
      omega (
        arith,
        count-append (expr_code w at e) (op.Store local ∷ (tests ++ behind)),
        count-append tests behind,
        expr_sized w at e,
        tests_sized local end labels.items (begins w first all),
        stmts_sized w first end on all,
      )
  stmt_sized w at out on stmt.Break = refl
  stmt_sized w at out on stmt.Continue = refl
  stmt_sized w at out on (stmt.Return None) = refl
  stmt_sized w at out on (stmt.Return (Some e)) = omega (arith, count-append (expr_code w at e) (op.ReturnValue ∷ []), expr_sized w at e)

  pub stmts_sized : {n : Count} (w : Site) (at out on : ℕ) (ss : Row_of-Stmt n) → count (stmts_code w at out on ss) ≡ stmts_size w ss
  stmts_sized w at out on end_of-Stmt = refl
  stmts_sized w at out on (more_of-Stmt s ss) =
      let next = at + stmt_size w s in
      omega (arith, count-append (stmt_code w at out on s) (stmts_code w next out on ss), stmt_sized w at out on s, stmts_sized w next out on ss)

end_sized : (k : Kind) → count (end_code k) ≡ end_size k
end_sized kind.Void = refl
end_sized kind.Bool = refl
end_sized kind.Int = refl
end_sized kind.Long = refl
end_sized kind.Text = refl
end_sized (kind.Object class) = refl

pub body_sized : (w : Site) (result : Kind) (body : Option Stmt) → count (body_code w result body) ≡ body_size w result body
body_sized w result None = refl
body_sized w result (Some body) =
    omega (arith, count-append (stmt_code w 0 0 0 body) (end_code result), stmt_sized w 0 0 0 body, end_sized result)
