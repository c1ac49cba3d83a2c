-- The stack of code: no more cells than its bytes, and none of its marks stands higher than it says.
use Rattle.std.proofs.Common.{◌≡◌, ◌≤◌, ◌<◌, ℕ, suc, ◌+◌, max, Bool, true, false, if◌then◌else◌, List, [], ◌∷◌, ◌++◌, length, Option, Some, None, refl, arith}
use mathlib.Core.Former.{Count}
use Rattle.sed_value.specs.declared.slot_type.Primitive.{Primitive}
use Rattle.sed_value.specs.declared.slot_type.Primitive.TheVariants as prim
use Rattle.sed_typed.specs.declared.kind.Kind.{Kind}
use Rattle.sed_typed.specs.declared.kind.Kind.TheVariants as kind
use Rattle.sed_typed.specs.declared.operators.Gives.{Gives}
use Rattle.sed_typed.specs.declared.operators.Gives.TheVariants.{Old, New}
use Rattle.sed_typed.specs.declared.statement.Stmt.{Stmt, Row_of-Stmt, end_of-Stmt, more_of-Stmt}
use Rattle.sed_typed.specs.declared.statement.Stmt.TheVariants as stmt
use Rattle.sed_typed.specs.declared.tree.Place.{Place}
use Rattle.sed_typed.specs.declared.tree.Place.TheVariants as place
use Rattle.sed_typed.specs.declared.tree.Expr.{Expr, Row_of-Expr, end_of-Expr, more_of-Expr, Row_of-Link, end_of-Link, more_of-Link}
use Rattle.sed_typed.specs.declared.tree.Expr.TheVariants as expr
use Rattle.sed_typed.specs.declared.tree.Link.{Link}
use Rattle.sed_typed.specs.declared.tree.Link.TheVariants as link
use Rattle.sed_typed.specs.Kinds.{kind_of, link_kind, place_kind}
use Rattle.scode_image.specs.declared.image.ImageKind.{ImageKind}
use Rattle.scode_code.specs.Kinds.{bool, object, statics}
use Rattle.scode_entries.specs.declared.marks.Mark.{Mark}
use Rattle.scode_emit.specs.declared.storage.Storage.{Storage}
use Rattle.scode_emit.specs.declared.storage.Storage.TheVariants.{InLocal, InField, InElement}
use Rattle.scode_emit.specs.Site.{Site, is_virtual}
use Rattle.scode_emit.specs.Instructions.{pop_size, storage, fetch_size, before_size, keep_size, put_size, invoke_size, zero_size}
use Rattle.scode_emit.specs.Sizes.{expr_size, place_size, link_size, exprs_size, links_size, drop_size, begin_size, test_size, last_size, over_size, tests_size, stmt_size, stmts_size, end_size, body_size}
use Rattle.scode_entries.specs.Stack.{place_cells, expr_stack, place_stack, link_stack, exprs_stack, links_stack, part_stack, stmt_stack, stmts_stack, body_stack}
use Rattle.scode_entries.specs.Entries.{mark, above, with_holder, with_index, with_place, with_wanted, with_old, expr_marks, place_marks, link_marks, exprs_marks, links_marks, drop_marks, part_marks, last_marks, stmt_marks, stmts_marks, labelled_marks}
use Rattle.scode_entries.proofs.Admits.{Each, each-append}
use Rattle.scode_entries.proofs.MarkRows.{expr_positive}

-- ---- no more cells than bytes

kept : (s : Storage) → 3 ≤ keep_size s
kept (InLocal i) = omega arith
kept (InField p offset) = omega arith
kept (InElement p offset n) = omega arith

put : (s : Storage) → 2 ≤ put_size s
put (InLocal i) = omega arith
put (InField p offset) = omega arith
put (InElement p offset n) = omega arith

fetched : (s : Storage) → 2 ≤ fetch_size s
fetched (InLocal i) = omega arith
fetched (InField p offset) = omega arith
fetched (InElement p offset n) = omega arith

first : (g : Gives) (s : Storage) → 2 ≤ before_size g s
first New s = fetched s
first Old (InLocal i) = omega arith
first Old (InField p offset) = omega arith
first Old (InElement p offset n) = omega arith

invoked : (w : Site) (m : ℕ) → 3 ≤ invoke_size w m
invoked w m = cases (is_virtual w m)
  where
    cases : (b : Bool) → 3 ≤ (if b then 4 else 3)
    cases true = omega arith
    cases false = omega arith

zero_some : (k : Kind) → 1 ≤ zero_size k
zero_some kind.Void = omega arith
zero_some kind.Bool = omega arith
zero_some kind.Int = omega arith
zero_some kind.Long = omega arith
zero_some kind.Text = omega arith
zero_some (kind.Object class) = omega arith

cells_within : (w : Site) (target : Place) → place_cells target ≤ place_size w target
cells_within w (place.Local k i) = omega arith
cells_within w (place.Static p i) = omega arith
cells_within w (place.Field' p q e i) = expr_positive w e
cells_within w (place.Element' p n q e f r i) = omega (arith, expr_positive w e, expr_positive w i)
cells_within w (place.StaticElement' p n i q e) = omega (arith, expr_positive w e)

mutual
  pub expr_within : (w : Site) (e : Expr) → expr_stack e ≤ expr_size w e
  expr_within w (expr.Int n) = omega arith
  expr_within w (expr.Long n) = omega arith
  expr_within w (expr.Bool t) = omega arith
  expr_within w (expr.Null k) = omega arith
  expr_within w (expr.Text n) = omega arith
  expr_within w (expr.This class) = omega arith
  expr_within w (expr.Local k i) = omega arith
  expr_within w (expr.Static p i) = omega arith
  expr_within w (expr.StaticPart k i) = omega arith
  expr_within w (expr.StaticElement' p n i q e) = omega (arith, expr_within w e)
  expr_within w expr.Ticks = omega arith
  expr_within w (expr.Unary' u p e) = omega (arith, expr_within w e)
  expr_within w (expr.Choose' p t q a r b) = omega (arith, expr_within w t, expr_within w a, expr_within w b)
  expr_within w (expr.Set' target p e) =
      omega (arith, place_within w target, cells_within w target, expr_within w e, kept (storage w target))
  expr_within w (expr.Update' u target p e) =
      omega (arith, place_within w target, cells_within w target, expr_within w e, first u.gives (storage w target))
  expr_within w (expr.Call' k m shape args) = omega (arith, exprs_within w args)
  expr_within w (expr.Super' k m shape args) = omega (arith, exprs_within w args)
  expr_within w (expr.Chain' p e shape links) = omega (arith, expr_within w e, links_within w (kind_of e) links)

  place_within : (w : Site) (target : Place) → place_stack target ≤ place_size w target
  place_within w (place.Local k i) = omega arith
  place_within w (place.Static p i) = omega arith
  place_within w (place.Field' p q e i) = expr_within w e
  place_within w (place.Element' p n q e f r i) = omega (arith, expr_within w e, expr_within w i, expr_positive w e)
  place_within w (place.StaticElement' p n i q e) = omega (arith, expr_within w e)

  link_within : (w : Site) (k : Kind) (l : Link) → link_stack l ≤ link_size w k l
  link_within w k (link.Binary b e) = omega (arith, expr_within w e)
  link_within w k (link.And e) = omega (arith, expr_within w e)
  link_within w k (link.Or e) = omega (arith, expr_within w e)
  link_within w k (link.Field p i) = omega arith
  link_within w k (link.Part part i) = omega arith
  link_within w k (link.Element p n i e) = omega (arith, expr_within w e)
  link_within w k (link.Size i) = omega arith
  link_within w k (link.Byte i e) = omega (arith, expr_within w e)
  link_within w k (link.Invoke' l m shape args) = omega (arith, exprs_within w args, invoked w m)
  link_within w k (link.TextCall' call shape args) = omega (arith, exprs_within w args)
  link_within w k (link.After e) = omega (arith, expr_within w e, expr_positive w e)

  exprs_within : {n : Count} (w : Site) (es : Row_of-Expr n) → exprs_stack es ≤ exprs_size w es
  exprs_within w end_of-Expr = omega arith
  exprs_within w (more_of-Expr e es) = omega (arith, expr_within w e, exprs_within w es, expr_positive w e)

  links_within : {n : Count} (w : Site) (k : Kind) (ls : Row_of-Link n) → links_stack ls ≤ links_size w k ls
  links_within w k end_of-Link = omega arith
  links_within w k (more_of-Link l ls) = omega (arith, link_within w k l, links_within w (link_kind l) ls)

taken_within : (w : Site) (e : Expr) → expr_stack e ≤ expr_size w e + pop_size (kind_of e)
taken_within w e = omega (arith, expr_within w e)

drop_within : (w : Site) (e : Expr) → expr_stack e ≤ drop_size w e
drop_within w (expr.Set' target p e) = omega (arith, place_within w target, cells_within w target, expr_within w e, put (storage w target))
drop_within w (expr.Update' u target p e) =
    omega (arith, place_within w target, cells_within w target, expr_within w e, fetched (storage w target))
drop_within w e = taken_within w e

begin_within : (w : Site) (k : Kind) (e : Option Expr) → part_stack e ≤ begin_size w k e
begin_within w k None = zero_some k
begin_within w k (Some e) = expr_within w e

test_within : (w : Site) (e : Option Expr) → part_stack e ≤ test_size w e
test_within w None = omega arith
test_within w (Some e) = expr_within w e

last_within : (w : Site) (e : Option Expr) → part_stack e ≤ last_size w e + 1
last_within w None = omega arith
last_within w (Some e) = omega (arith, drop_within w e)

mutual
  stmt_within : (w : Site) (s : Stmt) → stmt_stack s ≤ stmt_size w s
  stmt_within w stmt.Empty = omega arith
  stmt_within w (stmt.Do e) = drop_within w e
  stmt_within w (stmt.Local k i e) = omega (arith, begin_within w k e)
  stmt_within w (stmt.Block' shape all) = stmts_within w all
  stmt_within w (stmt.If' t p a q b) = omega (arith, expr_within w t, stmt_within w a, stmt_within w b)
  stmt_within w (stmt.While' t p body) = omega (arith, expr_within w t, stmt_within w body)
  stmt_within w (stmt.DoWhile' p body t) = omega (arith, expr_within w t, stmt_within w body)
  stmt_within w (stmt.For' p init t last q body) =
      omega (arith, stmt_within w init, test_within w t, last_within w last, stmt_within w body)
  stmt_within w (stmt.Switch' e labels shape all) = omega (arith, expr_within w e, stmts_within w all)
  stmt_within w stmt.Break = omega arith
  stmt_within w stmt.Continue = omega arith
  stmt_within w (stmt.Return None) = omega arith
  stmt_within w (stmt.Return (Some e)) = omega (arith, expr_within w e)

  stmts_within : {n : Count} (w : Site) (ss : Row_of-Stmt n) → stmts_stack ss ≤ stmts_size w ss
  stmts_within w end_of-Stmt = omega arith
  stmts_within w (more_of-Stmt s ss) = omega (arith, stmt_within w s, stmts_within w ss)

end_some : (k : Kind) → 1 ≤ end_size k
end_some kind.Void = omega arith
end_some kind.Bool = omega arith
end_some kind.Int = omega arith
end_some kind.Long = omega arith
end_some kind.Text = omega arith
end_some (kind.Object class) = omega arith

pub body_within : (w : Site) (k : Kind) (body : Option Stmt) → body_stack body ≤ body_size w k body
body_within w k None = omega arith
body_within w k (Some body) = omega (arith, stmt_within w body, end_some k)

-- ---- what stands on the stack at marks

pub stack_positive : (e : Expr) → 1 ≤ expr_stack e
stack_positive (expr.Int n) = omega arith
stack_positive (expr.Long n) = omega arith
stack_positive (expr.Bool t) = omega arith
stack_positive (expr.Null k) = omega arith
stack_positive (expr.Text n) = omega arith
stack_positive (expr.This class) = omega arith
stack_positive (expr.Local k i) = omega arith
stack_positive (expr.Static p i) = omega arith
stack_positive (expr.StaticPart k i) = omega arith
stack_positive (expr.StaticElement' p n i q e) = omega arith
stack_positive expr.Ticks = omega arith
stack_positive (expr.Unary' u p e) = stack_positive e
stack_positive (expr.Choose' p t q a r b) = omega (arith, stack_positive t)
stack_positive (expr.Set' target p e) = omega arith
stack_positive (expr.Update' u target p e) = omega arith
stack_positive (expr.Call' k m shape args) = omega arith
stack_positive (expr.Super' k m shape args) = omega arith
stack_positive (expr.Chain' p e shape links) = omega (arith, stack_positive e)

pub above_length : (k : Kind) (below : List ImageKind) → length (above k below) ≤ length below + 1
above_length kind.Void below = omega arith
above_length kind.Bool below = omega arith
above_length kind.Int below = omega arith
above_length kind.Long below = omega arith
above_length kind.Text below = omega arith
above_length (kind.Object class) below = omega arith

pub place_length : (target : Place) (below : List ImageKind) → length (with_place target below) ≤ length below + place_cells target
place_length (place.Local k i) below = omega arith
place_length (place.Static p i) below = omega arith
place_length (place.Field' p q e i) below = above_length (kind_of e) below
place_length (place.Element' p n q e f r i) below =
    omega (arith, above_length (kind_of i) (above (kind_of e) below), above_length (kind_of e) below)
place_length (place.StaticElement' p n i q e) below = omega (arith, above_length (kind_of e) (statics ∷ below))

pub wanted_length : (g : Gives) (target : Place) (below : List ImageKind) → length (with_wanted g target below) ≤ length below + 1
wanted_length Old (place.Local k i) below = above_length k below
wanted_length Old (place.Static p i) below = omega arith
wanted_length Old (place.Field' p q e i) below = omega arith
wanted_length Old (place.Element' p n q e f r i) below = omega arith
wanted_length Old (place.StaticElement' p n i q e) below = omega arith
wanted_length New target below = omega arith

pub old_length : (g : Gives) (target : Place) (below : List ImageKind) → length (with_old g target below) ≤ length below + place_cells target + 2
old_length g target below =
    let on = with_place target below in
    omega (arith, above_length (place_kind target) (with_wanted g target on), wanted_length g target on, place_length target below)

abbrev pub Low : ℕ → List Mark → Type 0
Low high ms = Each (λ (m : Mark). length m.stack ≤ high) ms

two : (high : ℕ) (ms ns : List Mark) → Low high ms → Low high ns → Low high (ms ++ ns)
two high ms ns h g = each-append (λ (m : Mark). length m.stack ≤ high) ms ns h g

-- of `&&` and `||`, where those of the operand are low
truth_low : (w : Site) (below : List ImageKind) (at other high : ℕ) (e : Expr) → length below + max 1 (expr_stack e) ≤ high → Low high (expr_marks w below at e) →
    Low high (expr_marks w below at e ++ mark other below ∷ mark (other + 2) (bool ∷ below) ∷ [])
truth_low w below at other high e le h =
    two high (expr_marks w below at e) (mark other below ∷ mark (other + 2) (bool ∷ below) ∷ []) h (omega (arith, le), (omega (arith, le), tt))

mutual
  pub expr_low : (w : Site) (below : List ImageKind) (at high : ℕ) (e : Expr) → length below + expr_stack e ≤ high → Low high (expr_marks w below at e)
  expr_low w below at high (expr.Int n) le = tt
  expr_low w below at high (expr.Long n) le = tt
  expr_low w below at high (expr.Bool t) le = tt
  expr_low w below at high (expr.Null k) le = tt
  expr_low w below at high (expr.Text n) le = tt
  expr_low w below at high (expr.This class) le = tt
  expr_low w below at high (expr.Local k i) le = tt
  expr_low w below at high (expr.Static p i) le = tt
  expr_low w below at high (expr.StaticPart k i) le = tt
  expr_low w below at high (expr.StaticElement' p n i q e) le = expr_low w (statics ∷ below) (at + 1) high e (omega (arith, le))
  expr_low w below at high expr.Ticks le = tt
  expr_low w below at high (expr.Unary' u p e) le = expr_low w below at high e le
  expr_low w below at high (expr.Choose' p t q a r b) le =
      let from = at + expr_size w t + 3 in
      let second = from + expr_size w a + 3 in
      let ends = mark (second + expr_size w b) (above (kind_of a) below) ∷ [] in
      two high (expr_marks w below at t) (expr_marks w below from a ++ mark second below ∷ (expr_marks w below second b ++ ends))
      (expr_low w below at high t (omega (arith, le)))
      (two high (expr_marks w below from a) (mark second below ∷ (expr_marks w below second b ++ ends)) (expr_low w below from high a (omega (arith, le))) (
        omega (arith, le),
        two high (expr_marks w below second b) ends (expr_low w below second high b (omega (arith, le)))
            (omega (arith, le, above_length (kind_of a) below, stack_positive a), tt),
      ))
  expr_low w below at high (expr.Set' target p e) le =
      let next = at + place_size w target in
      two high (place_marks w below at target) (expr_marks w (with_place target below) next e) (place_low w below at high target (omega (arith, le)))
      (expr_low w (with_place target below) next high e (omega (arith, le, place_length target below)))
  expr_low w below at high (expr.Update' u target p e) le =
      let next = at + place_size w target + before_size u.gives (storage w target) in
      let old = with_old u.gives target below in
      two high (place_marks w below at target) (expr_marks w old next e) (place_low w below at high target (omega (arith, le)))
      (expr_low w old next high e (omega (arith, le, old_length u.gives target below)))
  expr_low w below at high (expr.Call' k m shape args) le = exprs_low w below at high args (omega (arith, le))
  expr_low w below at high (expr.Super' k m shape args) le = exprs_low w (object w.class ∷ below) (at + 2) high args (omega (arith, le))
  expr_low w below at high (expr.Chain' p e shape links) le =
      let next = at + expr_size w e in
      two high (expr_marks w below at e) (links_marks w below next (kind_of e) links) (expr_low w below at high e (omega (arith, le)))
      (links_low w below next high (kind_of e) links (omega (arith, le)))

  pub place_low : (w : Site) (below : List ImageKind) (at high : ℕ) (target : Place) → length below + place_stack target ≤ high → Low high (place_marks w below at target)
  place_low w below at high (place.Local k i) le = tt
  place_low w below at high (place.Static p i) le = tt
  place_low w below at high (place.Field' p q e i) le = expr_low w below at high e le
  place_low w below at high (place.Element' p n q e f r i) le =
      let next = at + expr_size w e in
      let on = above (kind_of e) below in
      two high (expr_marks w below at e) (expr_marks w on next i) (expr_low w below at high e (omega (arith, le)))
      (expr_low w on next high i (omega (arith, le, above_length (kind_of e) below)))
  place_low w below at high (place.StaticElement' p n i q e) le = expr_low w (statics ∷ below) (at + 1) high e (omega (arith, le))

  pub link_low : (w : Site) (below : List ImageKind) (at high : ℕ) (k : Kind) (l : Link) → length below + link_stack l ≤ high → Low high (link_marks w below at k l)
  link_low w below at high k (link.Binary b e) le = expr_low w (above k below) at high e (omega (arith, le, above_length k below))
  link_low w below at high k (link.And e) le = truth_low w below (at + 3) (at + 3 + expr_size w e + 5) high e le (expr_low w below (at + 3) high e (omega (arith, le)))
  link_low w below at high k (link.Or e) le = truth_low w below (at + 3) (at + 3 + expr_size w e + 5) high e le (expr_low w below (at + 3) high e (omega (arith, le)))
  link_low w below at high k (link.Field p i) le = tt
  link_low w below at high k (link.Part part i) le = tt
  link_low w below at high k (link.Element p n i e) le = expr_low w (above k below) at high e (omega (arith, le, above_length k below))
  link_low w below at high k (link.Size i) le = tt
  link_low w below at high k (link.Byte i e) le = expr_low w (above k below) at high e (omega (arith, le, above_length k below))
  link_low w below at high k (link.Invoke' l m shape args) le = exprs_low w (above k below) at high args (omega (arith, le, above_length k below))
  link_low w below at high k (link.TextCall' call shape args) le = exprs_low w (above k below) at high args (omega (arith, le, above_length k below))
  link_low w below at high k (link.After e) le = expr_low w below (at + pop_size k) high e (omega (arith, le))

  pub exprs_low : {n : Count} (w : Site) (below : List ImageKind) (at high : ℕ) (es : Row_of-Expr n) → length below + exprs_stack es ≤ high → Low high (exprs_marks w below at es)
  exprs_low w below at high end_of-Expr le = tt
  exprs_low w below at high (more_of-Expr e es) le =
      let next = at + expr_size w e in
      let on = above (kind_of e) below in
      two high (expr_marks w below at e) (exprs_marks w on next es) (expr_low w below at high e (omega (arith, le)))
      (exprs_low w on next high es (omega (arith, le, above_length (kind_of e) below)))

  pub links_low : {n : Count} (w : Site) (below : List ImageKind) (at high : ℕ) (k : Kind) (ls : Row_of-Link n) → length below + links_stack ls ≤ high → Low high (links_marks w below at k ls)
  links_low w below at high k end_of-Link le = tt
  links_low w below at high k (more_of-Link l ls) le =
      let next = at + link_size w k l in
      two high (link_marks w below at k l) (links_marks w below next (link_kind l) ls) (link_low w below at high k l (omega (arith, le)))
      (links_low w below next high (link_kind l) ls (omega (arith, le)))

-- ---- statements

taken_low : (w : Site) (at high : ℕ) (e : Expr) → expr_stack e ≤ high → Low high (expr_marks w [] at e)
taken_low w at high e le = expr_low w [] at high e (omega (arith, le))

drop_low : (w : Site) (at high : ℕ) (e : Expr) → expr_stack e ≤ high → Low high (drop_marks w at e)
drop_low w at high (expr.Set' target p e) le =
    let next = at + place_size w target in
    two high (place_marks w [] at target) (expr_marks w (with_place target []) next e) (place_low w [] at high target (omega (arith, le)))
    (expr_low w (with_place target []) next high e (omega (arith, le, place_length target [])))
drop_low w at high (expr.Update' u target p e) le =
    let next = at + place_size w target + fetch_size (storage w target) in
    let old = with_old New target [] in
    two high (place_marks w [] at target) (expr_marks w old next e) (place_low w [] at high target (omega (arith, le)))
    (expr_low w old next high e (omega (arith, le, old_length New target [])))
drop_low w at high e le = taken_low w at high e le

part_low : (w : Site) (at high : ℕ) (e : Option Expr) → part_stack e ≤ high → Low high (part_marks w at e)
part_low w at high None le = tt
part_low w at high (Some e) le = taken_low w at high e le

last_low : (w : Site) (at high : ℕ) (e : Option Expr) → part_stack e ≤ high → Low high (last_marks w at e)
last_low w at high None le = tt
last_low w at high (Some e) le = drop_low w at high e le

mutual
  pub stmt_low : (w : Site) (at high : ℕ) (s : Stmt) → stmt_stack s ≤ high → Low high (stmt_marks w at s)
  stmt_low w at high stmt.Empty le = tt
  stmt_low w at high (stmt.Do e) le = drop_low w at high e le
  stmt_low w at high (stmt.Local k i e) le = part_low w at high e le
  stmt_low w at high (stmt.Block' shape all) le = stmts_low w at high all le
  stmt_low w at high (stmt.If' t p a q b) le =
      let from = at + expr_size w t + 3 in
      let second = from + stmt_size w a + over_size (stmt_size w b) in
      let ends = mark (second + stmt_size w b) [] ∷ [] in
      two high (expr_marks w [] at t) (stmt_marks w from a ++ mark second [] ∷ (stmt_marks w second b ++ ends)) (taken_low w at high t (omega (arith, le)))
      (two high (stmt_marks w from a) (mark second [] ∷ (stmt_marks w second b ++ ends)) (stmt_low w from high a (omega (arith, le)))
      (omega arith, two high (stmt_marks w second b) ends (stmt_low w second high b (omega (arith, le))) (omega arith, tt)))
  stmt_low w at high (stmt.While' t p body) le =
      let test = at + 4 + stmt_size w body in
      let ends = mark (test + expr_size w t + 3) [] ∷ [] in (
        omega arith,
        two high (stmt_marks w (at + 4) body) (mark test [] ∷ (expr_marks w [] test t ++ ends)) (stmt_low w (at + 4) high body (omega (arith, le)))
            (omega arith, two high (expr_marks w [] test t) ends (taken_low w test high t (omega (arith, le))) (omega arith, tt)),
      )
  stmt_low w at high (stmt.DoWhile' p body t) le =
      let test = at + 1 + stmt_size w body in
      let ends = mark (test + expr_size w t + 3) [] ∷ [] in (
        omega arith,
        two high (stmt_marks w (at + 1) body) (mark test [] ∷ (expr_marks w [] test t ++ ends)) (stmt_low w (at + 1) high body (omega (arith, le)))
            (omega arith, two high (expr_marks w [] test t) ends (taken_low w test high t (omega (arith, le))) (omega arith, tt)),
      )
  stmt_low w at high (stmt.For' p init t last q body) le =
      let from = at + stmt_size w init in
      let step = from + 4 + stmt_size w body in
      let test = step + last_size w last in
      let ends = mark (test + test_size w t + 3) [] ∷ [] in
      let tested = part_marks w test t ++ ends in
      let stepped = last_marks w step last ++ mark test [] ∷ tested in
      two high (stmt_marks w at init) (mark (from + 3) [] ∷ (stmt_marks w (from + 4) body ++ mark step [] ∷ stepped)) (stmt_low w at high init (omega (arith, le))) (
        omega arith,
        two high (stmt_marks w (from + 4) body) (mark step [] ∷ stepped) (stmt_low w (from + 4) high body (omega (arith, le))) (
          omega arith,
          two high (last_marks w step last) (mark test [] ∷ tested) (last_low w step high last (omega (arith, le)))
              (omega arith, two high (part_marks w test t) ends (part_low w test high t (omega (arith, le))) (omega arith, tt)),
        ),
      )
  stmt_low w at high (stmt.Switch' e labels shape all) le =
      let from = at + expr_size w e + 2 + tests_size labels.items + 3 in
      two high (expr_marks w [] at e) (labelled_marks w from all) (taken_low w at high e (omega (arith, le))) (labelled_low w from high all (omega (arith, le)))
  stmt_low w at high stmt.Break le = (omega arith, tt)
  stmt_low w at high stmt.Continue le = (omega arith, tt)
  stmt_low w at high (stmt.Return None) le = (omega arith, tt)
  stmt_low w at high (stmt.Return (Some e)) le =
      two high (expr_marks w [] at e) (mark (at + expr_size w e + 1) [] ∷ []) (taken_low w at high e le) (omega arith, tt)

  pub stmts_low : {n : Count} (w : Site) (at high : ℕ) (ss : Row_of-Stmt n) → stmts_stack ss ≤ high → Low high (stmts_marks w at ss)
  stmts_low w at high end_of-Stmt le = tt
  stmts_low w at high (more_of-Stmt s ss) le =
      let next = at + stmt_size w s in
      two high (stmt_marks w at s) (stmts_marks w next ss) (stmt_low w at high s (omega (arith, le))) (stmts_low w next high ss (omega (arith, le)))

  pub labelled_low : {n : Count} (w : Site) (at high : ℕ) (ss : Row_of-Stmt n) → stmts_stack ss ≤ high → Low high (labelled_marks w at ss)
  labelled_low w at high end_of-Stmt le = (omega arith, tt)
  labelled_low w at high (more_of-Stmt s ss) le =
      let next = at + stmt_size w s in
      (omega arith, two high (stmt_marks w at s) (labelled_marks w next ss) (stmt_low w at high s (omega (arith, le))) (labelled_low w next high ss (omega (arith, le))))
