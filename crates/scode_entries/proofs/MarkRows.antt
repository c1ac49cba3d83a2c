-- The marks of a row of trees are those of its list; and by what the cycles that find marks end.
use Rattle.std.specs.Prelude.{OnOk}
use Rattle.std.proofs.Common.{◌≡◌, ◌≤◌, ℕ, ◌+◌, List, [], ◌∷◌, ◌++◌, Vec, Global, Option, Some, None, Result, Ok, Err, refl, sym, ap, ◌∙◌, arith}
use mathlib.Core.Former.{Count}
use Rattle.sed_value.specs.declared.slot_type.Primitive.{Primitive}
use Rattle.sed_value.specs.declared.slot_type.Primitive.TheVariants as prim
use Rattle.sed_typed.specs.declared.kind.Kind.{Kind}
use Rattle.sed_typed.specs.declared.kind.Kind.TheVariants as kind
use Rattle.sed_typed.specs.declared.operators.Unary.{Unary}
use Rattle.sed_typed.specs.declared.statement.Stmt.{Stmt, Row_of-Stmt, end_of-Stmt, more_of-Stmt, items-the_row-Stmt, items_hidden-the_row-Stmt-0}
use Rattle.sed_typed.specs.declared.statement.Stmt.TheBlock.{hidden-the_row-Stmt-0}
use Rattle.sed_typed.specs.declared.tree.Expr.{Expr, Row_of-Expr, end_of-Expr, more_of-Expr, items-the_row-Expr, items_hidden-the_row-Expr-0, Row_of-Link, end_of-Link, more_of-Link, items-the_row-Link, items_hidden-the_row-Link-1}
use Rattle.sed_typed.specs.declared.tree.Expr.TheBlock.{hidden-the_row-Expr-0, hidden-the_row-Link-1}
use Rattle.sed_typed.specs.declared.tree.Expr.TheVariants as expr
use Rattle.sed_typed.specs.declared.tree.Link.{Link}
use Rattle.sed_typed.specs.declared.tree.Place.{Place}
use Rattle.sed_typed.specs.declared.tree.Place.TheVariants as place
use Rattle.sed_typed.specs.Kinds.{kind_of, link_kind}
use Rattle.scode_image.specs.declared.image.ImageKind.{ImageKind}
use Rattle.scode_entries.specs.declared.marks.Mark.{Mark}
use Rattle.scode_emit.specs.Site.{Site}
use Rattle.scode_emit.specs.Instructions.{keep_size, narrow_size, storage}
use Rattle.scode_emit.specs.Sizes.{expr_size, link_size, begin_size, test_size, stmt_size}
use Rattle.scode_entries.specs.Entries.{mark, above, expr_marks, link_marks, exprs_marks, links_marks, stmt_marks, stmts_marks, labelled_marks}
use Rattle.scode_entries.specs.MarkLists.{args_marks, behind_marks, block_marks, case_marks}

args_are : {n : Count} (w : Site) (below : List ImageKind) (at : ℕ) (row : Row_of-Expr n) → exprs_marks w below at row ≡ args_marks w below at (items-the_row-Expr n row)
args_are w below at end_of-Expr = refl
args_are w below at (more_of-Expr e es) = ap (λ (ms : List Mark). expr_marks w below at e ++ ms) (args_are w (above (kind_of e) below) (at + expr_size w e) es)

pub args_marks_hidden : (w : Site) (below : List ImageKind) (at : ℕ) (args : Vec Expr Global) → exprs_marks w below at (hidden-the_row-Expr-0 args) ≡ args_marks w below at args.items
args_marks_hidden w below at args = args_are w below at (hidden-the_row-Expr-0 args) ∙ ap (args_marks w below at) (items_hidden-the_row-Expr-0 args)

links_are : {n : Count} (w : Site) (below : List ImageKind) (at : ℕ) (k : Kind) (row : Row_of-Link n) → links_marks w below at k row ≡ behind_marks w below at k (items-the_row-Link n row)
links_are w below at k end_of-Link = refl
links_are w below at k (more_of-Link l ls) = ap (λ (ms : List Mark). link_marks w below at k l ++ ms) (links_are w below (at + link_size w k l) (link_kind l) ls)

pub links_marks_hidden : (w : Site) (below : List ImageKind) (at : ℕ) (k : Kind) (links : Vec Link Global) → links_marks w below at k (hidden-the_row-Link-1 links) ≡ behind_marks w below at k links.items
links_marks_hidden w below at k links = links_are w below at k (hidden-the_row-Link-1 links) ∙ ap (behind_marks w below at k) (items_hidden-the_row-Link-1 links)

stmts_are : {n : Count} (w : Site) (at : ℕ) (row : Row_of-Stmt n) → stmts_marks w at row ≡ block_marks w at (items-the_row-Stmt n row)
stmts_are w at end_of-Stmt = refl
stmts_are w at (more_of-Stmt s ss) = ap (λ (ms : List Mark). stmt_marks w at s ++ ms) (stmts_are w (at + stmt_size w s) ss)

pub stmts_marks_hidden : (w : Site) (at : ℕ) (all : Vec Stmt Global) → stmts_marks w at (hidden-the_row-Stmt-0 all) ≡ block_marks w at all.items
stmts_marks_hidden w at all = stmts_are w at (hidden-the_row-Stmt-0 all) ∙ ap (block_marks w at) (items_hidden-the_row-Stmt-0 all)

cases_are : {n : Count} (w : Site) (at : ℕ) (row : Row_of-Stmt n) → labelled_marks w at row ≡ case_marks w at (items-the_row-Stmt n row)
cases_are w at end_of-Stmt = refl
cases_are w at (more_of-Stmt s ss) = ap (λ (ms : List Mark). mark at [] ∷ (stmt_marks w at s ++ ms)) (cases_are w (at + stmt_size w s) ss)

pub cases_marks_hidden : (w : Site) (at : ℕ) (all : Vec Stmt Global) → labelled_marks w at (hidden-the_row-Stmt-0 all) ≡ case_marks w at all.items
cases_marks_hidden w at all = cases_are w at (hidden-the_row-Stmt-0 all) ∙ ap (case_marks w at) (items_hidden-the_row-Stmt-0 all)

-- ---- no expression has no code

kept : (w : Site) (target : Place) → 3 ≤ keep_size (storage w target)
kept w (place.Local k i) = omega arith
kept w (place.Static p i) = omega arith
kept w (place.Field' p q e i) = omega arith
kept w (place.Element' p n q e f r i) = omega arith
kept w (place.StaticElement' p n i q e) = omega arith

pub expr_positive : (w : Site) (e : Expr) → 1 ≤ expr_size w e
expr_positive w (expr.Int n) = omega arith
expr_positive w (expr.Long n) = omega arith
expr_positive w (expr.Bool t) = omega arith
expr_positive w (expr.Null k) = omega arith
expr_positive w (expr.Text n) = omega arith
expr_positive w (expr.This class) = omega arith
expr_positive w (expr.Local k i) = omega arith
expr_positive w (expr.Static p i) = omega arith
expr_positive w (expr.StaticPart k i) = omega arith
expr_positive w (expr.StaticElement' p n i q e) = omega arith
expr_positive w expr.Ticks = omega arith
expr_positive w (expr.Unary' u p e) = omega (arith, expr_positive w e)
expr_positive w (expr.Choose' p t q a r b) = omega arith
expr_positive w (expr.Set' target p e) = omega (arith, kept w target)
expr_positive w (expr.Update' u target p e) = omega arith
expr_positive w (expr.Call' k m shape args) = omega arith
expr_positive w (expr.Super' k m shape args) = omega arith
expr_positive w (expr.Chain' p e shape links) = omega (arith, expr_positive w e)

-- ---- a local without a first value has no marks, and some code

pub begun_or_tested : (w : Site) (k : Kind) (e : Option Expr) → test_size w e ≤ begin_size w k e + 2
begun_or_tested w k None = omega arith
begun_or_tested w k (Some e) = omega arith

-- ---- what is put behind what is there

pub marked : {T E : Type 0} (r : Result T E) (n o y e : List Mark) → OnOk r (n ≡ o ++ y) → e ≡ y → OnOk r (n ≡ o ++ e)
marked (Ok v) n o y e h f = h ∙ ap (λ (l : List Mark). o ++ l) (sym f)
marked (Err w) n o y e h f = tt
