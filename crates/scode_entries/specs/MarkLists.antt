-- The marks of rows of trees as lists, and of forms whose parts are given one by one, for the private clauses of who
-- finds them. No public clause rests on it.
use Rattle.std.specs.Prelude.{ℕ, ◌+◌, List, [], ◌∷◌, ◌++◌, Option}
use Rattle.sed_typed.specs.declared.kind.Kind.{Kind}
use Rattle.sed_typed.specs.declared.operators.Gives.TheVariants.{New}
use Rattle.sed_typed.specs.declared.operators.Update.{Update}
use Rattle.sed_typed.specs.declared.statement.Label.{Label}
use Rattle.sed_typed.specs.declared.statement.Stmt.{Stmt}
use Rattle.sed_typed.specs.declared.tree.Expr.{Expr}
use Rattle.sed_typed.specs.declared.tree.Link.{Link}
use Rattle.sed_typed.specs.declared.tree.Place.{Place}
use Rattle.sed_typed.specs.Kinds.{kind_of, link_kind}
use Rattle.scode_image.specs.declared.image.ImageKind.{ImageKind}
use Rattle.scode_code.specs.Kinds.{bool}
use Rattle.scode_entries.specs.declared.marks.Mark.{Mark}
use Rattle.scode_emit.specs.Site.{Site}
use Rattle.scode_emit.specs.Instructions.{before_size, fetch_size, storage}
use Rattle.scode_emit.specs.Sizes.{expr_size, place_size, link_size, last_size, over_size, test_size}
use Rattle.scode_emit.specs.Sizes.{tests_size, stmt_size}
use Rattle.scode_entries.specs.Entries.{mark, above, with_place, with_old, expr_marks, place_marks, link_marks}
use Rattle.scode_entries.specs.Entries.{last_marks, part_marks, stmt_marks}

-- ---- rows

abbrev pub args_marks : Site → List ImageKind → ℕ → List Expr → List Mark
args_marks w below at [] = []
args_marks w below at (e ∷ es) =
    expr_marks w below at e ++ args_marks w (above (kind_of e) below) (at + expr_size w e) es

abbrev pub behind_marks : Site → List ImageKind → ℕ → Kind → List Link → List Mark
behind_marks w below at k [] = []
behind_marks w below at k (l ∷ ls) =
    link_marks w below at k l ++ behind_marks w below (at + link_size w k l) (link_kind l) ls

abbrev pub block_marks : Site → ℕ → List Stmt → List Mark
block_marks w at [] = []
block_marks w at (s ∷ ss) = stmt_marks w at s ++ block_marks w (at + stmt_size w s) ss

-- the statements of a `switch`
abbrev pub case_marks : Site → ℕ → List Stmt → List Mark
case_marks w at [] = mark at [] ∷ []
case_marks w at (s ∷ ss) = mark at [] ∷ (stmt_marks w at s ++ case_marks w (at + stmt_size w s) ss)

-- ---- expressions

abbrev pub choice_marks : Site → List ImageKind → ℕ → Expr → Expr → Expr → List Mark
choice_marks w below at t a b =
    let first = at + expr_size w t + 3 in
    let second = first + expr_size w a + 3 in
    expr_marks w below at t ++ (expr_marks w below first a
    ++ mark second below
    ∷ (expr_marks w below second b ++ mark (second + expr_size w b) (above (kind_of a) below) ∷ []))

abbrev pub set_marks : Site → List ImageKind → ℕ → Place → Expr → List Mark
set_marks w below at target e =
    place_marks w below at target ++ expr_marks w (with_place target below) (at + place_size w target) e

abbrev pub update_marks : Site → List ImageKind → ℕ → Update → Place → Expr → List Mark
update_marks w below at u target e =
    place_marks w below at target
    ++ expr_marks w (with_old u.gives target below)
    (at + place_size w target + before_size u.gives (storage w target)) e

abbrev pub chain_marks : Site → List ImageKind → ℕ → Expr → List Link → List Mark
chain_marks w below at head links =
    expr_marks w below at head ++ behind_marks w below (at + expr_size w head) (kind_of head) links

abbrev pub truth_marks : Site → List ImageKind → ℕ → Expr → List Mark
truth_marks w below at e =
    let other = at + 3 + expr_size w e + 5 in
    expr_marks w below (at + 3) e ++ mark other below ∷ mark (other + 2) (bool ∷ below) ∷ []

-- ---- statements

-- a compound assignment whose value is not used
abbrev pub updated_marks : Site → ℕ → Place → Expr → List Mark
updated_marks w at target e =
    place_marks w [] at target
    ++ expr_marks w (with_old New target []) (at + place_size w target + fetch_size (storage w target)) e

abbrev pub if_marks : Site → ℕ → Expr → Stmt → Stmt → List Mark
if_marks w at t a b =
    let first = at + expr_size w t + 3 in
    let second = first + stmt_size w a + over_size (stmt_size w b) in
    expr_marks w [] at t ++ (stmt_marks w first a
    ++ mark second [] ∷ (stmt_marks w second b ++ mark (second + stmt_size w b) [] ∷ []))

abbrev pub while_marks : Site → ℕ → Expr → Stmt → List Mark
while_marks w at t body =
    let test = at + 4 + stmt_size w body in
    mark (at + 3) [] ∷ (stmt_marks w (at + 4) body
    ++ mark test [] ∷ (expr_marks w [] test t ++ mark (test + expr_size w t + 3) [] ∷ []))

abbrev pub do_marks : Site → ℕ → Stmt → Expr → List Mark
do_marks w at body t =
    let test = at + 1 + stmt_size w body in
    mark at [] ∷ (stmt_marks w (at + 1) body
    ++ mark test [] ∷ (expr_marks w [] test t ++ mark (test + expr_size w t + 3) [] ∷ []))

-- what stands behind the first part of a `for`, which begins here
abbrev pub for_marks : Site → ℕ → Option Expr → Option Expr → Stmt → List Mark
for_marks w start t last body =
    let step = start + 4 + stmt_size w body in
    let test = step + last_size w last in
    mark (start + 3) [] ∷ (stmt_marks w (start + 4) body
    ++ mark step [] ∷ (last_marks w step last
    ++ mark test [] ∷ (part_marks w test t ++ mark (test + test_size w t + 3) [] ∷ [])))

abbrev pub switch_marks : Site → ℕ → Expr → List Label → List Stmt → List Mark
switch_marks w at e labels all =
    expr_marks w [] at e ++ case_marks w (at + expr_size w e + 2 + tests_size labels + 3) all
