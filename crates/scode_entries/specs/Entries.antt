-- Where code goes on whichever way it is reached, and what stands on the stack there.
--
-- There is an entry where a jump leads, and behind each instruction with which code ends. Its kinds are the declared
-- ones: what arrives may be null or of a class below. A place may be told twice, with the same kinds, where what begins
-- there stands behind what ends there.
use Rattle.std.specs.Prelude.{ℕ, ◌+◌, ◌==◌, if◌then◌else◌, List, [], ◌∷◌, ◌++◌, Option, Some, None}
use Rattle.sed_typed.specs.declared.kind.Kind.{Kind}
use Rattle.sed_typed.specs.declared.kind.Kind.TheVariants as kind
use Rattle.sed_typed.specs.declared.operators.Gives.{Gives}
use Rattle.sed_typed.specs.declared.operators.Gives.TheVariants.{Old, New}
use Rattle.sed_typed.specs.declared.statement.Stmt.{Stmt, Row_of-Stmt, end_of-Stmt, more_of-Stmt}
use Rattle.sed_typed.specs.declared.statement.Stmt.TheVariants as stmt
use Rattle.sed_typed.specs.declared.tree.Place.{Place}
use Rattle.sed_typed.specs.declared.tree.Place.TheVariants as place
use Rattle.sed_typed.specs.declared.tree.Expr.{Expr, Row_of-Expr, end_of-Expr, more_of-Expr, Row_of-Link, end_of-Link}
use Rattle.sed_typed.specs.declared.tree.Expr.{more_of-Link}
use Rattle.sed_typed.specs.declared.tree.Expr.TheVariants as expr
use Rattle.sed_typed.specs.declared.tree.Link.{Link}
use Rattle.sed_typed.specs.declared.tree.Link.TheVariants as link
use Rattle.sed_typed.specs.Kinds.{kind_of, link_kind, place_kind}
use Rattle.scode_image.specs.declared.image.ImageKind.{ImageKind}
use Rattle.scode_code.specs.Kinds.{void, bool, int, long, str, object, statics}
use Rattle.scode_entries.specs.declared.marks.Mark.{Mark}
use Rattle.scode_emit.specs.Site.{Site}
use Rattle.scode_emit.specs.Instructions.{pop_size, storage, fetch_size, before_size}
use Rattle.scode_emit.specs.Sizes.{expr_size, place_size, link_size, test_size, last_size, over_size, tests_size}
use Rattle.scode_emit.specs.Sizes.{stmt_size}

-- a mark is an entry: its place, and the kinds on the stack, the top first
abbrev pub mark : ℕ → List ImageKind → Mark
mark at stack = record { place = at; stack = stack }

-- ---- kinds

abbrev pub cell_of : Kind → ImageKind
cell_of kind.Void = void
cell_of kind.Bool = bool
cell_of kind.Int = int
cell_of kind.Long = long
cell_of kind.Text = str
cell_of (kind.Object class) = object class.0

-- a value of a kind above what is on the stack; there is none of void
abbrev pub above : Kind → List ImageKind → List ImageKind
above kind.Void below = below
above k below = cell_of k ∷ below

-- What stands on the stack before a value is stored at a place: the object or the static block that it lies in, and the
-- index above it.
abbrev pub with_holder : Place → List ImageKind → List ImageKind
with_holder (place.Local k i) below = below
with_holder (place.Static p i) below = statics ∷ below
with_holder (place.Field' p q e i) below = above (kind_of e) below
with_holder (place.Element' p n q e f r i) below = above (kind_of e) below
with_holder (place.StaticElement' p n i q e) below = statics ∷ below

abbrev pub with_index : Place → List ImageKind → List ImageKind
with_index (place.Element' p n q e f r i) below = above (kind_of i) below
with_index (place.StaticElement' p n i q e) below = above (kind_of e) below
with_index target below = below

abbrev pub with_place : Place → List ImageKind → List ImageKind
with_place target below = with_index target (with_holder target below)

-- And with the value before above it. That of a local stands there twice where it is wanted afterwards.
abbrev pub with_wanted : Gives → Place → List ImageKind → List ImageKind
with_wanted Old (place.Local k i) below = above k below
with_wanted g target below = below

abbrev pub with_old : Gives → Place → List ImageKind → List ImageKind
with_old g target below = above (place_kind target) (with_wanted g target (with_place target below))

-- ---- expressions

abbrev mutual
  pub expr_marks : Site → List ImageKind → ℕ → Expr → List Mark
  expr_marks w below at (expr.StaticElement' p n i q e) = expr_marks w (statics ∷ below) (at + 1) e
  expr_marks w below at (expr.Unary' u p e) = expr_marks w below at e
  expr_marks w below at (expr.Choose' p t q a r b) =
      let first = at + expr_size w t + 3 in
      let second = first + expr_size w a + 3 in
      expr_marks w below at t ++ (expr_marks w below first a
      ++ mark second below
      ∷ (expr_marks w below second b ++ mark (second + expr_size w b) (above (kind_of a) below) ∷ []))
  expr_marks w below at (expr.Set' target p e) =
      place_marks w below at target ++ expr_marks w (with_place target below) (at + place_size w target) e
  expr_marks w below at (expr.Update' u target p e) =
      place_marks w below at target
      ++ expr_marks w (with_old u.gives target below)
      (at + place_size w target + before_size u.gives (storage w target)) e
  expr_marks w below at (expr.Call' k m shape args) = exprs_marks w below at args
  expr_marks w below at (expr.Super' k m shape args) = exprs_marks w (object w.class ∷ below) (at + 2) args
  expr_marks w below at (expr.Chain' p e shape links) =
      expr_marks w below at e ++ links_marks w below (at + expr_size w e) (kind_of e) links
  expr_marks w below at e = []

  pub place_marks : Site → List ImageKind → ℕ → Place → List Mark
  place_marks w below at (place.Local k i) = []
  place_marks w below at (place.Static p i) = []
  place_marks w below at (place.Field' p q e i) = expr_marks w below at e
  place_marks w below at (place.Element' p n q e f r i) =
      expr_marks w below at e ++ expr_marks w (above (kind_of e) below) (at + expr_size w e) i
  place_marks w below at (place.StaticElement' p n i q e) = expr_marks w (statics ∷ below) (at + 1) e

  -- a link with the kind of what is on its left, which is not among what is below
  pub link_marks : Site → List ImageKind → ℕ → Kind → Link → List Mark
  link_marks w below at k (link.Binary b e) = expr_marks w (above k below) at e
  link_marks w below at k (link.And e) =
      let unmet = at + 3 + expr_size w e + 5 in
      expr_marks w below (at + 3) e ++ mark unmet below ∷ mark (unmet + 2) (bool ∷ below) ∷ []
  link_marks w below at k (link.Or e) =
      let met = at + 3 + expr_size w e + 5 in
      expr_marks w below (at + 3) e ++ mark met below ∷ mark (met + 2) (bool ∷ below) ∷ []
  link_marks w below at k (link.Field p i) = []
  link_marks w below at k (link.Part part i) = []
  link_marks w below at k (link.Element p n i e) = expr_marks w (above k below) at e
  link_marks w below at k (link.Size i) = []
  link_marks w below at k (link.Byte i e) = expr_marks w (above k below) at e
  link_marks w below at k (link.Invoke' result m shape args) = exprs_marks w (above k below) at args
  link_marks w below at k (link.TextCall' call shape args) = exprs_marks w (above k below) at args
  link_marks w below at k (link.After e) = expr_marks w below (at + pop_size k) e

  pub exprs_marks : {n : _} → Site → List ImageKind → ℕ → Row_of-Expr n → List Mark
  exprs_marks w below at end_of-Expr = []
  exprs_marks w below at (more_of-Expr e es) =
      expr_marks w below at e ++ exprs_marks w (above (kind_of e) below) (at + expr_size w e) es

  pub links_marks : {n : _} → Site → List ImageKind → ℕ → Kind → Row_of-Link n → List Mark
  links_marks w below at k end_of-Link = []
  links_marks w below at k (more_of-Link l ls) =
      link_marks w below at k l ++ links_marks w below (at + link_size w k l) (link_kind l) ls

-- of an expression whose value is not used. Below a statement's expressions the stack is empty.
abbrev pub drop_marks : Site → ℕ → Expr → List Mark
drop_marks w at (expr.Set' target p e) =
    place_marks w [] at target ++ expr_marks w (with_place target []) (at + place_size w target) e
drop_marks w at (expr.Update' u target p e) =
    place_marks w [] at target
    ++ expr_marks w (with_old New target []) (at + place_size w target + fetch_size (storage w target)) e
drop_marks w at e = expr_marks w [] at e

abbrev pub part_marks : Site → ℕ → Option Expr → List Mark
part_marks w at None = []
part_marks w at (Some e) = expr_marks w [] at e

abbrev pub last_marks : Site → ℕ → Option Expr → List Mark
last_marks w at None = []
last_marks w at (Some e) = drop_marks w at e

-- ---- statements

abbrev mutual
  pub stmt_marks : Site → ℕ → Stmt → List Mark
  stmt_marks w at stmt.Empty = []
  stmt_marks w at (stmt.Do e) = drop_marks w at e
  stmt_marks w at (stmt.Local k i e) = part_marks w at e
  stmt_marks w at (stmt.Block' shape all) = stmts_marks w at all
  stmt_marks w at (stmt.If' t p a q b) =
      let first = at + expr_size w t + 3 in
      let second = first + stmt_size w a + over_size (stmt_size w b) in
      expr_marks w [] at t ++ (stmt_marks w first a
      ++ mark second [] ∷ (stmt_marks w second b ++ mark (second + stmt_size w b) [] ∷ []))
  stmt_marks w at (stmt.While' t p body) =
      let test = at + 4 + stmt_size w body in
      mark (at + 3) [] ∷ (stmt_marks w (at + 4) body
      ++ mark test [] ∷ (expr_marks w [] test t ++ mark (test + expr_size w t + 3) [] ∷ []))
  stmt_marks w at (stmt.DoWhile' p body t) =
      let test = at + 1 + stmt_size w body in
      mark at [] ∷ (stmt_marks w (at + 1) body
      ++ mark test [] ∷ (expr_marks w [] test t ++ mark (test + expr_size w t + 3) [] ∷ []))
  stmt_marks w at (stmt.For' p first t last q body) =
      let start = at + stmt_size w first in
      let step = start + 4 + stmt_size w body in
      let test = step + last_size w last in
      stmt_marks w at first ++ mark (start + 3) [] ∷ (stmt_marks w (start + 4) body
      ++ mark step [] ∷ (last_marks w step last
      ++ mark test [] ∷ (part_marks w test t ++ mark (test + test_size w t + 3) [] ∷ [])))
  stmt_marks w at (stmt.Switch' e labels shape all) =
      expr_marks w [] at e ++ labelled_marks w (at + expr_size w e + 2 + tests_size labels.items + 3) all
  stmt_marks w at stmt.Break = mark (at + 3) [] ∷ []
  stmt_marks w at stmt.Continue = mark (at + 3) [] ∷ []
  stmt_marks w at (stmt.Return None) = mark (at + 1) [] ∷ []
  stmt_marks w at (stmt.Return (Some e)) = expr_marks w [] at e ++ mark (at + expr_size w e + 1) [] ∷ []

  pub stmts_marks : {n : _} → Site → ℕ → Row_of-Stmt n → List Mark
  stmts_marks w at end_of-Stmt = []
  stmts_marks w at (more_of-Stmt s ss) = stmt_marks w at s ++ stmts_marks w (at + stmt_size w s) ss

  -- the statements of a `switch`: at the start of each, and behind them
  pub labelled_marks : {n : _} → Site → ℕ → Row_of-Stmt n → List Mark
  labelled_marks w at end_of-Stmt = mark at [] ∷ []
  labelled_marks w at (more_of-Stmt s ss) =
      mark at [] ∷ (stmt_marks w at s ++ labelled_marks w (at + stmt_size w s) ss)

-- ---- methods

abbrev pub body_marks : Site → Option Stmt → List Mark
body_marks w None = []
body_marks w (Some body) = stmt_marks w 0 body

-- a place that was told last is not told again
abbrev pub with_mark : List Mark → Mark → List Mark
with_mark [] m = m ∷ []
with_mark (l ∷ []) m = if l.place == m.place then l ∷ [] else l ∷ m ∷ []
with_mark (l ∷ ls) m = l ∷ with_mark ls m

abbrev pub with_marks : List Mark → List Mark → List Mark
with_marks told [] = told
with_marks told (m ∷ ms) = with_marks (with_mark told m) ms

abbrev pub each_once : List Mark → List Mark
each_once marks = with_marks [] marks
