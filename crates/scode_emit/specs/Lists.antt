-- Rows of trees as lists: their kinds, sizes and code, for the private clauses of who emits them. No public clause
-- rests on it.
use Rattle.std.specs.Prelude.{ℕ, ◌+◌, List, [], ◌∷◌, ◌++◌, Option}
use Rattle.sed_value.specs.declared.slot_type.Primitive.TheVariants as prim
use Rattle.sed_typed.specs.declared.kind.Kind.{Kind}
use Rattle.sed_typed.specs.declared.statement.Label.{Label}
use Rattle.sed_typed.specs.declared.statement.Label.TheVariants.{Case, Default}
use Rattle.sed_typed.specs.declared.statement.Stmt.{Stmt}
use Rattle.sed_typed.specs.declared.tree.Expr.{Expr}
use Rattle.sed_typed.specs.declared.tree.Link.{Link}
use Rattle.sed_typed.specs.declared.tree.Place.{Place}
use Rattle.sed_typed.specs.declared.operators.Update.{Update}
use Rattle.sed_typed.specs.declared.operators.Width.{Width}
use Rattle.sed_typed.specs.declared.operators.Width.TheVariants as width
use Rattle.sed_typed.specs.Kinds.{kind_of, link_kind}
use Rattle.scode_ops.specs.declared.op.Op.{Op}
use Rattle.scode_ops.specs.declared.op.Op.TheVariants as op
use Rattle.scode_emit.specs.Site.{Site, waiting}
use Rattle.scode_emit.specs.Instructions as meant
use Rattle.scode_emit.specs.Instructions.{arithmetic_op, before_code, before_size, fetch_code, fetch_size, keep_code}
use Rattle.scode_emit.specs.Instructions.{put_code, storage}
use Rattle.scode_emit.specs.Sizes.{expr_size, place_size, link_size, last_size, over_size, test_size, tests_size}
use Rattle.scode_emit.specs.Sizes.{stmt_size}
use Rattle.scode_emit.specs.Code.{expr_code, place_code, link_code, stmt_code, over_code, last_code, test_code}
use Rattle.scode_emit.specs.Code.{tests_code, default_place}

abbrev pub kind_behind : Kind → List Link → Kind
kind_behind k [] = k
kind_behind k (l ∷ ls) = kind_behind (link_kind l) ls

-- ---- sizes

abbrev pub args_size : Site → List Expr → ℕ
args_size w [] = 0
args_size w (e ∷ es) = expr_size w e + args_size w es

abbrev pub behind_size : Site → Kind → List Link → ℕ
behind_size w k [] = 0
behind_size w k (l ∷ ls) = link_size w k l + behind_size w (link_kind l) ls

abbrev pub block_size : Site → List Stmt → ℕ
block_size w [] = 0
block_size w (s ∷ ss) = stmt_size w s + block_size w ss

-- ---- code

abbrev pub args_code : Site → ℕ → List Expr → List Op
args_code w at [] = []
args_code w at (e ∷ es) = expr_code w at e ++ args_code w (at + expr_size w e) es

abbrev pub behind_code : Site → ℕ → Kind → List Link → List Op
behind_code w at k [] = []
behind_code w at k (l ∷ ls) = link_code w at k l ++ behind_code w (at + link_size w k l) (link_kind l) ls

abbrev pub block_code : Site → ℕ → ℕ → ℕ → List Stmt → List Op
block_code w at out on [] = []
block_code w at out on (s ∷ ss) = stmt_code w at out on s ++ block_code w (at + stmt_size w s) out on ss

abbrev pub begins_of : Site → ℕ → List Stmt → List ℕ
begins_of w at [] = []
begins_of w at (s ∷ ss) = at ∷ begins_of w (at + stmt_size w s) ss

-- where the statement behind the first one begins, or where they all end
abbrev pub begin_behind : Site → ℕ → List Stmt → ℕ
begin_behind w at [] = at
begin_behind w at (s ∷ ss) = at + stmt_size w s

-- ---- forms whose parts are given one by one

abbrev pub low_code : Width → Op → List Op
low_code width.Int low = low ∷ []
low_code width.Long low = op.LongToInt ∷ low ∷ []

abbrev pub choice_code : Site → ℕ → Expr → Expr → Expr → List Op
choice_code w at t a b =
    let first = at + expr_size w t + 3 in
    let second = first + expr_size w a + 3 in
    expr_code w at t ++ op.JumpFalse second
    ∷ (expr_code w first a ++ op.Jump (second + expr_size w b) ∷ expr_code w second b)

abbrev pub set_code : Site → ℕ → Place → Expr → List Op
set_code w at target e =
    place_code w at target ++ (expr_code w (at + place_size w target) e ++ keep_code w (storage w target))

abbrev pub update_code : Site → ℕ → Update → Place → Expr → List Op
update_code w at u target e =
    place_code w at target ++ (before_code w u.gives (storage w target)
    ++ (expr_code w (at + place_size w target + before_size u.gives (storage w target)) e
    ++ arithmetic_op u.arithmetic u.width ∷ meant.behind_code w u.gives (storage w target)))

abbrev pub chain_code : Site → ℕ → Expr → List Link → List Op
chain_code w at head links = expr_code w at head ++ behind_code w (at + expr_size w head) (kind_of head) links

abbrev pub stored_code : Site → ℕ → Place → Expr → List Op
stored_code w at target e =
    place_code w at target ++ (expr_code w (at + place_size w target) e ++ put_code (storage w target))

abbrev pub updated_code : Site → ℕ → Update → Place → Expr → List Op
updated_code w at u target e =
    place_code w at target ++ (fetch_code w (storage w target)
    ++ (expr_code w (at + place_size w target + fetch_size (storage w target)) e
    ++ arithmetic_op u.arithmetic u.width ∷ put_code (storage w target)))

abbrev pub if_code : Site → ℕ → ℕ → ℕ → Expr → Stmt → Stmt → List Op
if_code w at out on t a b =
    let first = at + expr_size w t + 3 in
    let second = first + stmt_size w a + over_size (stmt_size w b) in
    expr_code w at t ++ op.JumpFalse second
    ∷ (stmt_code w first out on a
    ++ (over_code (stmt_size w b) (second + stmt_size w b) ++ stmt_code w second out on b))

abbrev pub while_code : Site → ℕ → Expr → Stmt → List Op
while_code w at t body =
    let test = at + 4 + stmt_size w body in
    let end = test + expr_size w t + 3 in
    op.Jump test ∷ op.Turn
    ∷ (stmt_code w (at + 4) end test body ++ (expr_code w test t ++ op.JumpTrue (at + 3) ∷ []))

abbrev pub do_code : Site → ℕ → Stmt → Expr → List Op
do_code w at body t =
    let test = at + 1 + stmt_size w body in
    let end = test + expr_size w t + 3 in
    op.Turn ∷ (stmt_code w (at + 1) end test body ++ (expr_code w test t ++ op.JumpTrue at ∷ []))

-- what stands behind the first part of a `for`, which begins here
abbrev pub for_code : Site → ℕ → Option Expr → Option Expr → Stmt → List Op
for_code w start t last body =
    let step = start + 4 + stmt_size w body in
    let test = step + last_size w last in
    let end = test + test_size w t + 3 in
    op.Jump test ∷ op.Turn
    ∷ (stmt_code w (start + 4) end step body
    ++ (last_code w step last ++ (test_code w test t ++ op.JumpTrue (start + 3) ∷ [])))

-- the test of a label, whose statement begins at a place
abbrev pub label_code : ℕ → Label → ℕ → List Op
label_code local (Case c) at = op.Load local ∷ op.Int c ∷ op.IntEq ∷ op.JumpTrue at ∷ []
label_code local Default at = []

abbrev pub switch_code : Site → ℕ → ℕ → Expr → List Label → List Stmt → List Op
switch_code w at on e labels all =
    let local = waiting w prim.Int in
    let first = at + expr_size w e + 2 + tests_size labels + 3 in
    let end = first + block_size w all in
    expr_code w at e ++ op.Store local
    ∷ (tests_code local end labels (begins_of w first all)
    ++ op.Jump (default_place end labels (begins_of w first all)) ∷ block_code w first end on all)
