-- The code of trees: the instructions of a tree that begins at a place of its method, in their order.
--
-- `out` and `on` are the places that `break` and `continue` go to. All places are numbers, however long the method is.
use Rattle.std.specs.Prelude.{ℕ, ◌+◌, ◌==◌, if◌then◌else◌, List, [], ◌∷◌, ◌++◌, drop, Option, Some, None}
use Rattle.std.specs.List.{flat_map}
use Rattle.sed_value.specs.declared.slot_type.Primitive.TheVariants as prim
use Rattle.sed_typed.specs.declared.kind.Kind.{Kind}
use Rattle.sed_typed.specs.declared.kind.Kind.TheVariants as kind
use Rattle.sed_typed.specs.declared.statement.Label.{Label}
use Rattle.sed_typed.specs.declared.statement.Label.TheVariants.{Case, Default}
use Rattle.sed_typed.specs.declared.statement.Stmt.{Stmt, Row_of-Stmt, end_of-Stmt, more_of-Stmt}
use Rattle.sed_typed.specs.declared.statement.Stmt.TheVariants as stmt
use Rattle.sed_typed.specs.declared.tree.Place.{Place}
use Rattle.sed_typed.specs.declared.tree.Place.TheVariants as place
use Rattle.sed_typed.specs.declared.tree.Expr.{Expr, Row_of-Expr, end_of-Expr, more_of-Expr, Row_of-Link, end_of-Link}
use Rattle.sed_typed.specs.declared.tree.Expr.{more_of-Link}
use Rattle.sed_typed.specs.declared.tree.Expr.TheVariants as expr
use Rattle.sed_typed.specs.declared.tree.Link.{Link}
use Rattle.sed_typed.specs.declared.tree.Link.TheVariants as link
use Rattle.sed_typed.specs.Kinds.{kind_of, link_kind}
use Rattle.scode_ops.specs.declared.op.Op.{Op}
use Rattle.scode_ops.specs.declared.op.Op.TheVariants as op
use Rattle.scode_ops.specs.Codes as codes
use Rattle.scode_emit.specs.Site.{Site, waiting, offset_in, room_in}
use Rattle.scode_emit.specs.Instructions.{arithmetic_op, binary_op, unary_code, text_op, zero_op, pop_code, get_op}
use Rattle.scode_emit.specs.Instructions.{get_element_op, part_op, invoke_op, storage, put_code, keep_code, fetch_code}
use Rattle.scode_emit.specs.Instructions.{before_code, before_size, fetch_size, behind_code, pop_size}
use Rattle.scode_emit.specs.Sizes.{expr_size, place_size, link_size, test_size, last_size, over_size, tests_size}
use Rattle.scode_emit.specs.Sizes.{stmt_size, stmts_size}

abbrev mutual
  pub expr_code : Site → ℕ → Expr → List Op
  expr_code w at (expr.Int n) = op.Int n ∷ []
  expr_code w at (expr.Long n) = op.Long n ∷ []
  expr_code w at (expr.Bool t) = op.Bool t ∷ []
  expr_code w at (expr.Null k) = op.Null ∷ []
  expr_code w at (expr.Text n) = op.Text n ∷ []
  expr_code w at (expr.This class) = op.Load 0 ∷ []
  expr_code w at (expr.Local k i) = op.Load i ∷ []
  expr_code w at (expr.Static p i) = op.Statics ∷ get_op p (w.layout.static_offset i) ∷ []
  expr_code w at (expr.StaticPart k i) = op.Statics ∷ part_op k (w.layout.static_offset i) (w.layout.static_room i) ∷ []
  expr_code w at (expr.StaticElement' p n i q e) =
      op.Statics ∷ (expr_code w (at + 1) e ++ get_element_op p (w.layout.static_offset i) n ∷ [])
  expr_code w at expr.Ticks = op.Ticks ∷ []
  expr_code w at (expr.Unary' u p e) = expr_code w at e ++ unary_code u
  expr_code w at (expr.Choose' p t q a r b) =
      let first = at + expr_size w t + 3 in
      let second = first + expr_size w a + 3 in
      expr_code w at t ++ op.JumpFalse second
      ∷ (expr_code w first a ++ op.Jump (second + expr_size w b) ∷ expr_code w second b)
  expr_code w at (expr.Set' target p e) =
      place_code w at target ++ (expr_code w (at + place_size w target) e ++ keep_code w (storage w target))
  expr_code w at (expr.Update' u target p e) =
      place_code w at target ++ (before_code w u.gives (storage w target)
      ++ (expr_code w (at + place_size w target + before_size u.gives (storage w target)) e
      ++ arithmetic_op u.arithmetic u.width ∷ behind_code w u.gives (storage w target)))
  expr_code w at (expr.Call' k m shape args) = exprs_code w at args ++ op.Call m ∷ []
  expr_code w at (expr.Super' k m shape args) = op.Load 0 ∷ (exprs_code w (at + 2) args ++ op.Call m ∷ [])
  expr_code w at (expr.Chain' p e shape links) =
      expr_code w at e ++ links_code w (at + expr_size w e) (kind_of e) links

  -- what stands on the stack before a value is stored at a place
  pub place_code : Site → ℕ → Place → List Op
  place_code w at (place.Local k i) = []
  place_code w at (place.Static p i) = op.Statics ∷ []
  place_code w at (place.Field' p q e i) = expr_code w at e
  place_code w at (place.Element' p n q e f r i) = expr_code w at e ++ expr_code w (at + expr_size w e) i
  place_code w at (place.StaticElement' p n i q e) = op.Statics ∷ expr_code w (at + 1) e

  -- a link with the kind of what is on its left
  pub link_code : Site → ℕ → Kind → Link → List Op
  link_code w at k (link.Binary b e) = expr_code w at e ++ binary_op b ∷ []
  link_code w at k (link.And e) =
      let unmet = at + 3 + expr_size w e + 5 in
      op.JumpFalse unmet ∷ (expr_code w (at + 3) e ++ op.Not ∷ op.Not ∷ op.Jump (unmet + 2) ∷ op.Bool 0 ∷ [])
  link_code w at k (link.Or e) =
      let met = at + 3 + expr_size w e + 5 in
      op.JumpTrue met ∷ (expr_code w (at + 3) e ++ op.Not ∷ op.Not ∷ op.Jump (met + 2) ∷ op.Bool 1 ∷ [])
  link_code w at k (link.Field p i) = get_op p (offset_in w k i) ∷ []
  link_code w at k (link.Part part i) = part_op part (offset_in w k i) (room_in w k i) ∷ []
  link_code w at k (link.Element p n i e) = expr_code w at e ++ get_element_op p (offset_in w k i) n ∷ []
  link_code w at k (link.Size i) = op.BufSize (offset_in w k i) ∷ []
  link_code w at k (link.Byte i e) = expr_code w at e ++ op.BufGet (offset_in w k i) (room_in w k i) ∷ []
  link_code w at k (link.Invoke' result m shape args) = exprs_code w at args ++ invoke_op w k m ∷ []
  link_code w at k (link.TextCall' call shape args) = exprs_code w at args ++ text_op call ∷ []
  link_code w at k (link.After e) = pop_code k ++ expr_code w (at + pop_size k) e

  pub exprs_code : {n : _} → Site → ℕ → Row_of-Expr n → List Op
  exprs_code w at end_of-Expr = []
  exprs_code w at (more_of-Expr e es) = expr_code w at e ++ exprs_code w (at + expr_size w e) es

  pub links_code : {n : _} → Site → ℕ → Kind → Row_of-Link n → List Op
  links_code w at k end_of-Link = []
  links_code w at k (more_of-Link l ls) = link_code w at k l ++ links_code w (at + link_size w k l) (link_kind l) ls

-- an expression whose value is not used: what is assigned is not kept, and another value is taken off
abbrev pub drop_code : Site → ℕ → Expr → List Op
drop_code w at (expr.Set' target p e) =
    place_code w at target ++ (expr_code w (at + place_size w target) e ++ put_code (storage w target))
drop_code w at (expr.Update' u target p e) =
    place_code w at target ++ (fetch_code w (storage w target)
    ++ (expr_code w (at + place_size w target + fetch_size (storage w target)) e
    ++ arithmetic_op u.arithmetic u.width ∷ put_code (storage w target)))
drop_code w at e = expr_code w at e ++ pop_code (kind_of e)

-- ---- parts that may be missing

-- the first value of a local, which is 0, false or null where none is written
abbrev pub begin_code : Site → ℕ → Kind → Option Expr → List Op
begin_code w at k None = zero_op k ∷ []
begin_code w at k (Some e) = expr_code w at e

-- the condition of a `for`, which is true where none is written, and its last part
abbrev pub test_code : Site → ℕ → Option Expr → List Op
test_code w at None = op.Bool 1 ∷ []
test_code w at (Some e) = expr_code w at e

abbrev pub last_code : Site → ℕ → Option Expr → List Op
last_code w at None = []
last_code w at (Some e) = drop_code w at e

-- ---- statements

-- a jump over so many bytes to this place, which is left out where there are none
abbrev pub over_code : ℕ → ℕ → List Op
over_code n to = if n == 0 then [] else op.Jump to ∷ []

-- where statements begin that stand one behind the other
abbrev pub begins : {n : _} → Site → ℕ → Row_of-Stmt n → List ℕ
begins w at end_of-Stmt = []
begins w at (more_of-Stmt s ss) = at ∷ begins w (at + stmt_size w s) ss

-- the first of these places, or that behind them all
abbrev pub first_of : ℕ → List ℕ → ℕ
first_of end [] = end
first_of end (at ∷ places) = at

-- the value, which waits in a local, against each case in the order of the labels: where it is equal the code goes on
-- at the label's place
abbrev pub tests_code : ℕ → ℕ → List Label → List ℕ → List Op
tests_code local end [] places = []
tests_code local end (Case c ∷ labels) places =
    op.Load local ∷ op.Int c ∷ op.IntEq ∷ op.JumpTrue (first_of end places)
    ∷ tests_code local end labels (drop 1 places)
tests_code local end (Default ∷ labels) places = tests_code local end labels (drop 1 places)

-- where the code goes on if no case is equal: at the default, or behind all labels
abbrev pub default_place : ℕ → List Label → List ℕ → ℕ
default_place end [] places = first_of end places
default_place end (Case c ∷ labels) places = default_place end labels (drop 1 places)
default_place end (Default ∷ labels) places = first_of end places

abbrev mutual
  pub stmt_code : Site → ℕ → ℕ → ℕ → Stmt → List Op
  stmt_code w at out on stmt.Empty = []
  stmt_code w at out on (stmt.Do e) = drop_code w at e
  stmt_code w at out on (stmt.Local k i e) = begin_code w at k e ++ op.Store i ∷ []
  stmt_code w at out on (stmt.Block' shape all) = stmts_code w at out on all
  stmt_code w at out on (stmt.If' t p a q b) =
      let first = at + expr_size w t + 3 in
      let second = first + stmt_size w a + over_size (stmt_size w b) in
      expr_code w at t ++ op.JumpFalse second
      ∷ (stmt_code w first out on a
      ++ (over_code (stmt_size w b) (second + stmt_size w b) ++ stmt_code w second out on b))
  stmt_code w at out on (stmt.While' t p body) =
      let test = at + 4 + stmt_size w body in
      let end = test + expr_size w t + 3 in
      op.Jump test ∷ op.Turn
      ∷ (stmt_code w (at + 4) end test body ++ (expr_code w test t ++ op.JumpTrue (at + 3) ∷ []))
  stmt_code w at out on (stmt.DoWhile' p body t) =
      let test = at + 1 + stmt_size w body in
      let end = test + expr_size w t + 3 in
      op.Turn ∷ (stmt_code w (at + 1) end test body ++ (expr_code w test t ++ op.JumpTrue at ∷ []))
  stmt_code w at out on (stmt.For' p first t last q body) =
      let start = at + stmt_size w first in
      let step = start + 4 + stmt_size w body in
      let test = step + last_size w last in
      let end = test + test_size w t + 3 in
      stmt_code w at out on first ++ op.Jump test ∷ op.Turn
      ∷ (stmt_code w (start + 4) end step body
      ++ (last_code w step last ++ (test_code w test t ++ op.JumpTrue (start + 3) ∷ [])))
  stmt_code w at out on (stmt.Switch' e labels shape all) =
      let local = waiting w prim.Int in
      let first = at + expr_size w e + 2 + tests_size labels.items + 3 in
      let end = first + stmts_size w all in
      expr_code w at e ++ op.Store local
      ∷ (tests_code local end labels.items (begins w first all)
      ++ op.Jump (default_place end labels.items (begins w first all)) ∷ stmts_code w first end on all)
  stmt_code w at out on stmt.Break = op.Jump out ∷ []
  stmt_code w at out on stmt.Continue = op.Jump on ∷ []
  stmt_code w at out on (stmt.Return None) = op.Return ∷ []
  stmt_code w at out on (stmt.Return (Some e)) = expr_code w at e ++ op.ReturnValue ∷ []

  pub stmts_code : {n : _} → Site → ℕ → ℕ → ℕ → Row_of-Stmt n → List Op
  stmts_code w at out on end_of-Stmt = []
  stmts_code w at out on (more_of-Stmt s ss) =
      stmt_code w at out on s ++ stmts_code w (at + stmt_size w s) out on ss

-- ---- methods

-- behind a body: 0, false or null is answered
abbrev pub end_code : Kind → List Op
end_code kind.Void = op.Return ∷ []
end_code k = zero_op k ∷ op.ReturnValue ∷ []

-- no `break` or `continue` leaves a body, so the places that they would go to mean nothing
abbrev pub body_code : Site → Kind → Option Stmt → List Op
body_code w result None = []
body_code w result (Some body) = stmt_code w 0 0 0 body ++ end_code result

-- instructions as bytes
abbrev pub bytes_of : List Op → List ℕ
bytes_of ops = flat_map codes.code_of ops
