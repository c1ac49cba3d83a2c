-- Few statements, expressions and case labels have short code: at most 40 bytes each.
use Rattle.std.proofs.Common.{◌≡◌, ◌≤◌, ℕ, suc, ◌+◌, ◌*◌, ◌==◌, Bool, true, false, if◌then◌else◌, List, [], ◌∷◌, Option, Some, None, refl, arith}
use mathlib.Core.Former.{Count}
use Rattle.sed_value.specs.declared.slot_type.Primitive.{Primitive}
use Rattle.sed_value.specs.declared.slot_type.Primitive.TheVariants as prim
use Rattle.sed_typed.specs.declared.kind.Kind.{Kind}
use Rattle.sed_typed.specs.declared.kind.Kind.TheVariants as kind
use Rattle.sed_typed.specs.declared.operators.Gives.{Gives}
use Rattle.sed_typed.specs.declared.operators.Gives.TheVariants.{Old, New}
use Rattle.sed_typed.specs.declared.operators.Unary.{Unary}
use Rattle.sed_typed.specs.declared.operators.Unary.TheVariants as unary
use Rattle.sed_typed.specs.declared.operators.Width.TheVariants as width
use Rattle.sed_typed.specs.declared.statement.Label.{Label}
use Rattle.sed_typed.specs.declared.statement.Label.TheVariants.{Case, Default}
use Rattle.sed_typed.specs.declared.statement.Stmt.{Stmt, Row_of-Stmt, end_of-Stmt, more_of-Stmt}
use Rattle.sed_typed.specs.declared.statement.Stmt.TheVariants as stmt
use Rattle.sed_typed.specs.declared.tree.Place.{Place}
use Rattle.sed_typed.specs.declared.tree.Place.TheVariants as place
use Rattle.sed_typed.specs.declared.tree.Expr.{Expr, Row_of-Expr, end_of-Expr, more_of-Expr, Row_of-Link, end_of-Link, more_of-Link}
use Rattle.sed_typed.specs.declared.tree.Expr.TheVariants as expr
use Rattle.sed_typed.specs.declared.tree.Link.{Link}
use Rattle.sed_typed.specs.declared.tree.Link.TheVariants as link
use Rattle.sed_typed.specs.Kinds.{kind_of, link_kind}
use Rattle.scode_emit.specs.declared.storage.Storage.{Storage}
use Rattle.scode_emit.specs.declared.storage.Storage.TheVariants.{InLocal, InField, InElement}
use Rattle.scode_emit.specs.Site.{Site, is_virtual}
use Rattle.scode_emit.specs.Instructions.{unary_size, pop_size, zero_size, narrow_size, invoke_size, storage, put_size, keep_size, fetch_size, before_size, behind_size}
use Rattle.scode_emit.specs.Sizes.{expr_size, place_size, link_size, exprs_size, links_size, drop_size, begin_size, test_size, last_size, over_size, tests_size, stmt_size, stmts_size, end_size, body_size}
use Rattle.scode_emit.specs.Nodes.{is_this, is_widened, operators, expr_nodes, place_nodes, link_nodes, exprs_nodes, chain_nodes, links_nodes, part_nodes, case_nodes, stmt_nodes, stmts_nodes, body_nodes}

-- ---- what stands for operators and places

narrow_few : (p : Primitive) → narrow_size p ≤ 1
narrow_few prim.Bool = omega arith
narrow_few prim.Byte = omega arith
narrow_few prim.Short = omega arith
narrow_few prim.Int = omega arith
narrow_few prim.Long = omega arith

pop_few : (k : Kind) → pop_size k ≤ 1
pop_few kind.Void = omega arith
pop_few kind.Bool = omega arith
pop_few kind.Int = omega arith
pop_few kind.Long = omega arith
pop_few kind.Text = omega arith
pop_few (kind.Object class) = omega arith

zero_few : (k : Kind) → zero_size k ≤ 9
zero_few kind.Void = omega arith
zero_few kind.Bool = omega arith
zero_few kind.Int = omega arith
zero_few kind.Long = omega arith
zero_few kind.Text = omega arith
zero_few (kind.Object class) = omega arith

keep_few : (s : Storage) → keep_size s ≤ 12
keep_few (InLocal i) = omega arith
keep_few (InField p offset) = omega (arith, narrow_few p)
keep_few (InElement p offset count) = omega (arith, narrow_few p)

put_few : (s : Storage) → put_size s ≤ 5
put_few (InLocal i) = omega arith
put_few (InField p offset) = omega arith
put_few (InElement p offset count) = omega arith

fetch_few : (s : Storage) → fetch_size s ≤ 16
fetch_few (InLocal i) = omega arith
fetch_few (InField p offset) = omega arith
fetch_few (InElement p offset count) = omega arith

before_few : (g : Gives) (s : Storage) → before_size g s ≤ 16
before_few New s = fetch_few s
before_few Old (InLocal i) = omega arith
before_few Old (InField p offset) = omega arith
before_few Old (InElement p offset count) = omega arith

behind_few : (g : Gives) (s : Storage) → behind_size g s ≤ 12
behind_few New s = keep_few s
behind_few Old (InLocal i) = omega arith
behind_few Old (InField p offset) = omega arith
behind_few Old (InElement p offset count) = omega arith

invoke_few : (w : Site) (m : ℕ) → invoke_size w m ≤ 4
invoke_few w m = cases (is_virtual w m)
  where
    cases : (b : Bool) → (if b then 4 else 3) ≤ 4
    cases true = omega arith
    cases false = omega arith

over_few : (n : ℕ) → over_size n ≤ 3
over_few n = cases (n == 0)
  where
    cases : (b : Bool) → (if b then 0 else 3) ≤ 3
    cases true = omega arith
    cases false = omega arith

-- ---- expressions. Each leaves some of its 40 bytes to what it is a part of; an int that is widened has used one of them.

abbrev Few : Site → Expr → Type 0
Few w e = expr_size w e + (if is_widened e then 7 else 8) ≤ 40 * expr_nodes e

spare : (b : Bool) (size all : ℕ) → size + (if b then 7 else 8) ≤ all → size + 7 ≤ all
spare true size all h = h
spare false size all h = omega (arith, h)

-- a receiver that need not be written takes two bytes of others
object_few : (w : Site) (e : Expr) → expr_size w e + 7 ≤ 40 * expr_nodes e → expr_size w e ≤ 40 * (if is_this e then 0 else expr_nodes e) + 2
object_few w (expr.This class) h = omega arith
object_few w e h = omega (arith, h)

widened_few : (b : Bool) (size nodes : ℕ) → size + (if b then 7 else 8) ≤ 40 * nodes → size + 1 + 7 ≤ 40 * ((if b then 1 else 0) + nodes)
widened_few true size nodes h = omega (arith, h)
widened_few false size nodes h = omega (arith, h)

plain : (w : Site) (e : Expr) → Few w e → expr_size w e + 7 ≤ 40 * expr_nodes e
plain w e h = spare (is_widened e) (expr_size w e) (40 * expr_nodes e) h

mutual
  expr_few : (w : Site) (e : Expr) → Few w e
  expr_few w (expr.Int n) = omega arith
  expr_few w (expr.Long n) = omega arith
  expr_few w (expr.Bool t) = omega arith
  expr_few w (expr.Null k) = omega arith
  expr_few w (expr.Text n) = omega arith
  expr_few w (expr.This class) = omega arith
  expr_few w (expr.Local k i) = omega arith
  expr_few w (expr.Static p i) = omega arith
  expr_few w (expr.StaticPart k i) = omega arith
  expr_few w (expr.StaticElement' p n i q e) = omega (arith, plain w e (expr_few w e))
  expr_few w expr.Ticks = omega arith
  expr_few w (expr.Unary' unary.ToLong p e) = widened_few (is_widened e) (expr_size w e) (expr_nodes e) (expr_few w e)
  expr_few w (expr.Unary' unary.Not p e) = omega (arith, plain w e (expr_few w e))
  expr_few w (expr.Unary' (unary.Negate v) p e) = omega (arith, plain w e (expr_few w e))
  expr_few w (expr.Unary' (unary.Flip v) p e) = omega (arith, plain w e (expr_few w e))
  expr_few w (expr.Unary' unary.ToInt p e) = omega (arith, plain w e (expr_few w e))
  expr_few w (expr.Unary' (unary.LowByte width.Int) p e) = omega (arith, plain w e (expr_few w e))
  expr_few w (expr.Unary' (unary.LowByte width.Long) p e) = omega (arith, plain w e (expr_few w e))
  expr_few w (expr.Unary' (unary.LowShort width.Int) p e) = omega (arith, plain w e (expr_few w e))
  expr_few w (expr.Unary' (unary.LowShort width.Long) p e) = omega (arith, plain w e (expr_few w e))
  expr_few w (expr.Choose' p t q a r b) = omega (arith, plain w t (expr_few w t), plain w a (expr_few w a), plain w b (expr_few w b))
  expr_few w (expr.Set' target p e) = omega (arith, place_few w target, plain w e (expr_few w e), keep_few (storage w target))
  expr_few w (expr.Update' u target p e) =
      let s = storage w target in
      omega (arith, place_few w target, plain w e (expr_few w e), before_few u.gives s, behind_few u.gives s)
  expr_few w (expr.Call' k m shape args) = omega (arith, exprs_few w args)
  expr_few w (expr.Super' k m shape args) = omega (arith, exprs_few w args)
  expr_few w (expr.Chain' p e shape links) = chain_few w (kind_of e) (expr_size w e) (expr_nodes e) (if is_this e then 0 else expr_nodes e) links (plain w e (expr_few w e)) (object_few w e (plain w e (expr_few w e)))

  place_few : (w : Site) (target : Place) → place_size w target ≤ 40 * place_nodes target + 2
  place_few w (place.Local k i) = omega arith
  place_few w (place.Static p i) = omega arith
  place_few w (place.Field' p q e i) = object_few w e (plain w e (expr_few w e))
  place_few w (place.Element' p n q e f r i) = omega (arith, object_few w e (plain w e (expr_few w e)), plain w i (expr_few w i))
  place_few w (place.StaticElement' p n i q e) = omega (arith, plain w e (expr_few w e))

  link_few : (w : Site) (k : Kind) (l : Link) → link_size w k l + 10 ≤ 40 * link_nodes l
  link_few w k (link.Binary b e) = omega (arith, plain w e (expr_few w e))
  link_few w k (link.And e) = omega (arith, plain w e (expr_few w e))
  link_few w k (link.Or e) = omega (arith, plain w e (expr_few w e))
  link_few w k (link.Field p i) = omega arith
  link_few w k (link.Part part i) = omega arith
  link_few w k (link.Element p n i e) = omega (arith, plain w e (expr_few w e))
  link_few w k (link.Size i) = omega arith
  link_few w k (link.Byte i e) = omega (arith, plain w e (expr_few w e))
  link_few w k (link.Invoke' result m shape args) = omega (arith, exprs_few w args, invoke_few w m)
  link_few w k (link.TextCall' call shape args) = omega (arith, exprs_few w args)
  link_few w k (link.After e) = omega (arith, plain w e (expr_few w e), pop_few k)

  exprs_few : {n : Count} (w : Site) (es : Row_of-Expr n) → exprs_size w es ≤ 40 * exprs_nodes es
  exprs_few w end_of-Expr = omega arith
  exprs_few w (more_of-Expr e es) = omega (arith, plain w e (expr_few w e), exprs_few w es)

  chain_few : {n : Count} (w : Site) (k : Kind) (size alone before : ℕ) (ls : Row_of-Link n) → size + 7 ≤ 40 * alone → size ≤ 40 * before + 2 → size + links_size w k ls + 8 ≤ 40 * chain_nodes alone before ls
  chain_few w k size alone before end_of-Link h g = omega (arith, h)
  chain_few w k size alone before (more_of-Link l ls) h g = omega (arith, g, link_few w k l, links_few w (link_kind l) ls)

  links_few : {n : Count} (w : Site) (k : Kind) (ls : Row_of-Link n) → links_size w k ls ≤ 40 * links_nodes ls
  links_few w k end_of-Link = omega arith
  links_few w k (more_of-Link l ls) = omega (arith, link_few w k l, links_few w (link_kind l) ls)

plain_few : (w : Site) (e : Expr) → expr_size w e + 7 ≤ 40 * expr_nodes e
plain_few w e = plain w e (expr_few w e)

-- ---- parts of statements

taken_few : (w : Site) (e : Expr) → expr_size w e + pop_size (kind_of e) ≤ 40 * expr_nodes e
taken_few w e = omega (arith, plain_few w e, pop_few (kind_of e))

drop_few : (w : Site) (e : Expr) → drop_size w e ≤ 40 * expr_nodes e
drop_few w (expr.Set' target p e) = omega (arith, place_few w target, plain_few w e, put_few (storage w target))
drop_few w (expr.Update' u target p e) =
    let s = storage w target in
    omega (arith, place_few w target, plain_few w e, fetch_few s, put_few s)
drop_few w e = taken_few w e

begin_few : (w : Site) (k : Kind) (e : Option Expr) → begin_size w k e ≤ 40 * part_nodes e + 9
begin_few w k None = omega (arith, zero_few k)
begin_few w k (Some e) = omega (arith, plain_few w e)

test_few : (w : Site) (e : Option Expr) → test_size w e ≤ 40 * part_nodes e + 2
test_few w None = omega arith
test_few w (Some e) = omega (arith, plain_few w e)

last_few : (w : Site) (e : Option Expr) → last_size w e ≤ 40 * part_nodes e
last_few w None = omega arith
last_few w (Some e) = drop_few w e

tests_few : (labels : List Label) → tests_size labels ≤ 40 * case_nodes labels
tests_few [] = omega arith
tests_few (Case c ∷ labels) = omega (arith, tests_few labels)
tests_few (Default ∷ labels) = tests_few labels

-- ---- statements

mutual
  stmt_few : (w : Site) (s : Stmt) → stmt_size w s ≤ 40 * stmt_nodes s
  stmt_few w stmt.Empty = omega arith
  stmt_few w (stmt.Do e) = omega (arith, drop_few w e)
  stmt_few w (stmt.Local k i e) = omega (arith, begin_few w k e)
  stmt_few w (stmt.Block' shape all) = omega (arith, stmts_few w all)
  stmt_few w (stmt.If' t p a q b) = omega (arith, plain_few w t, stmt_few w a, stmt_few w b, over_few (stmt_size w b))
  stmt_few w (stmt.While' t p body) = omega (arith, plain_few w t, stmt_few w body)
  stmt_few w (stmt.DoWhile' p body t) = omega (arith, plain_few w t, stmt_few w body)
  stmt_few w (stmt.For' p first t last q body) =
      omega (arith, stmt_few w first, test_few w t, last_few w last, stmt_few w body)
  stmt_few w (stmt.Switch' e labels shape all) =
      omega (arith, plain_few w e, tests_few labels.items, stmts_few w all)
  stmt_few w stmt.Break = omega arith
  stmt_few w stmt.Continue = omega arith
  stmt_few w (stmt.Return None) = omega arith
  stmt_few w (stmt.Return (Some e)) = omega (arith, plain_few w e)

  stmts_few : {n : Count} (w : Site) (ss : Row_of-Stmt n) → stmts_size w ss ≤ 40 * stmts_nodes ss
  stmts_few w end_of-Stmt = omega arith
  stmts_few w (more_of-Stmt s ss) = omega (arith, stmt_few w s, stmts_few w ss)

-- ---- methods

end_few : (k : Kind) → end_size k ≤ 10
end_few kind.Void = omega arith
end_few kind.Bool = omega arith
end_few kind.Int = omega arith
end_few kind.Long = omega arith
end_few kind.Text = omega arith
end_few (kind.Object class) = omega arith

pub body_few : (w : Site) (result : Kind) (body : Option Stmt) → body_nodes body ≤ 1000 → body_size w result body ≤ 65535
body_few w result None h = omega arith
body_few w result (Some body) h = omega (arith, h, stmt_few w body, end_few result)
