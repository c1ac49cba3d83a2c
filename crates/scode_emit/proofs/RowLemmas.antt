-- A row of trees is its list.
use Rattle.std.specs.Prelude.{max, min, OnOk, if◌then◌else◌}
use Rattle.std.proofs.lemmas.List.{at_drop_more, at_drop_all}
use Rattle.std.proofs.Common.{◌≡◌, ◌<◌, ◌≤◌, ℕ, drop, length, get_or, zero, suc, ◌+◌, ◌==◌, Bool, true, false, List, [], ◌∷◌, ◌++◌, Vec, Global, Result, Ok, Err, refl, sym, ap, ◌∙◌, append_assoc, arith}
use mathlib.Core.Former.{Count}
use Rattle.sed_value.specs.declared.slot_type.Primitive.TheVariants as prim
use Rattle.sed_typed.specs.declared.kind.Kind.{Kind}
use Rattle.sed_typed.specs.declared.statement.Label.{Label}
use Rattle.sed_typed.specs.declared.statement.Label.TheVariants.{Case, Default}
use Rattle.sed_typed.specs.declared.statement.Stmt.{Stmt, Row_of-Stmt, end_of-Stmt, more_of-Stmt, items-the_row-Stmt, items_hidden-the_row-Stmt-0}
use Rattle.sed_typed.specs.declared.statement.Stmt.TheBlock.{hidden-the_row-Stmt-0}
use Rattle.sed_typed.specs.declared.tree.Expr.{Expr, Row_of-Expr, end_of-Expr, more_of-Expr, items-the_row-Expr, items_hidden-the_row-Expr-0, Row_of-Link, end_of-Link, more_of-Link, items-the_row-Link, items_hidden-the_row-Link-1}
use Rattle.sed_typed.specs.declared.tree.Expr.TheBlock.{hidden-the_row-Expr-0, hidden-the_row-Link-1}
use Rattle.sed_typed.specs.declared.tree.Link.{Link}
use Rattle.sed_typed.specs.TypedStmt.{is_default}
use Rattle.sed_typed.specs.Height.{height_of, heights_of, link_height, links_height, stmt_height, stmts_height}
use Rattle.sed_typed.specs.Kinds.{kind_after, link_kind}
use Rattle.scode_ops.specs.declared.op.Op.{Op}
use Rattle.scode_ops.specs.declared.op.Op.TheVariants as op
use Rattle.scode_emit.specs.Site.{Site, waiting}
use Rattle.scode_emit.specs.Sizes.{expr_size, exprs_size, link_size, links_size, over_size, stmt_size, stmts_size, tests_size}
use Rattle.scode_emit.specs.Code.{expr_code, exprs_code, link_code, links_code, stmt_code, stmts_code, begins, default_place, first_of, tests_code}
use Rattle.scode_emit.specs.Lists.{kind_behind, args_size, behind_size, block_size, args_code, behind_code, block_code, begins_of, begin_behind, label_code, switch_code}

-- ---- kinds

kinds_are : {n : Count} (k : Kind) (row : Row_of-Link n) → kind_after k row ≡ kind_behind k (items-the_row-Link n row)
kinds_are k end_of-Link = refl
kinds_are k (more_of-Link l ls) = kinds_are (link_kind l) ls

pub kind_after_hidden : (k : Kind) (links : Vec Link Global) → kind_after k (hidden-the_row-Link-1 links) ≡ kind_behind k links.items
kind_after_hidden k links = kinds_are k (hidden-the_row-Link-1 links) ∙ ap (kind_behind k) (items_hidden-the_row-Link-1 links)

-- ---- sizes

args_are : {n : Count} (w : Site) (row : Row_of-Expr n) → exprs_size w row ≡ args_size w (items-the_row-Expr n row)
args_are w end_of-Expr = refl
args_are w (more_of-Expr e es) = ap (λ (n : ℕ). expr_size w e + n) (args_are w es)

pub args_hidden : (w : Site) (args : Vec Expr Global) → exprs_size w (hidden-the_row-Expr-0 args) ≡ args_size w args.items
args_hidden w args = args_are w (hidden-the_row-Expr-0 args) ∙ ap (args_size w) (items_hidden-the_row-Expr-0 args)

links_are : {n : Count} (w : Site) (k : Kind) (row : Row_of-Link n) → links_size w k row ≡ behind_size w k (items-the_row-Link n row)
links_are w k end_of-Link = refl
links_are w k (more_of-Link l ls) = ap (λ (n : ℕ). link_size w k l + n) (links_are w (link_kind l) ls)

pub links_hidden : (w : Site) (k : Kind) (links : Vec Link Global) → links_size w k (hidden-the_row-Link-1 links) ≡ behind_size w k links.items
links_hidden w k links = links_are w k (hidden-the_row-Link-1 links) ∙ ap (behind_size w k) (items_hidden-the_row-Link-1 links)

stmts_are : {n : Count} (w : Site) (row : Row_of-Stmt n) → stmts_size w row ≡ block_size w (items-the_row-Stmt n row)
stmts_are w end_of-Stmt = refl
stmts_are w (more_of-Stmt s ss) = ap (λ (n : ℕ). stmt_size w s + n) (stmts_are w ss)

pub stmts_hidden : (w : Site) (all : Vec Stmt Global) → stmts_size w (hidden-the_row-Stmt-0 all) ≡ block_size w all.items
stmts_hidden w all = stmts_are w (hidden-the_row-Stmt-0 all) ∙ ap (block_size w) (items_hidden-the_row-Stmt-0 all)

-- whether there are bytes at all is not changed by a cap
pub over_capped : (n : ℕ) → over_size (min n 65536) ≡ over_size n
over_capped zero = refl
over_capped (suc n) =
    let some : (suc n == 0) ≡ false = grind arith in
    let others : (min (suc n) 65536 == 0) ≡ false = grind arith in
    ap (λ (b : Bool). if b then 0 else 3) others ∙ ap (λ (b : Bool). if b then 0 else 3) (sym some)

-- ---- code

args_codes_are : {n : Count} (w : Site) (at : ℕ) (row : Row_of-Expr n) → exprs_code w at row ≡ args_code w at (items-the_row-Expr n row)
args_codes_are w at end_of-Expr = refl
args_codes_are w at (more_of-Expr e es) = ap (λ (ops : List Op). expr_code w at e ++ ops) (args_codes_are w (at + expr_size w e) es)

pub args_code_hidden : (w : Site) (at : ℕ) (args : Vec Expr Global) → exprs_code w at (hidden-the_row-Expr-0 args) ≡ args_code w at args.items
args_code_hidden w at args = args_codes_are w at (hidden-the_row-Expr-0 args) ∙ ap (args_code w at) (items_hidden-the_row-Expr-0 args)

links_codes_are : {n : Count} (w : Site) (at : ℕ) (k : Kind) (row : Row_of-Link n) → links_code w at k row ≡ behind_code w at k (items-the_row-Link n row)
links_codes_are w at k end_of-Link = refl
links_codes_are w at k (more_of-Link l ls) = ap (λ (ops : List Op). link_code w at k l ++ ops) (links_codes_are w (at + link_size w k l) (link_kind l) ls)

pub links_code_hidden : (w : Site) (at : ℕ) (k : Kind) (links : Vec Link Global) → links_code w at k (hidden-the_row-Link-1 links) ≡ behind_code w at k links.items
links_code_hidden w at k links = links_codes_are w at k (hidden-the_row-Link-1 links) ∙ ap (behind_code w at k) (items_hidden-the_row-Link-1 links)

stmts_codes_are : {n : Count} (w : Site) (at out on : ℕ) (row : Row_of-Stmt n) → stmts_code w at out on row ≡ block_code w at out on (items-the_row-Stmt n row)
stmts_codes_are w at out on end_of-Stmt = refl
stmts_codes_are w at out on (more_of-Stmt s ss) = ap (λ (ops : List Op). stmt_code w at out on s ++ ops) (stmts_codes_are w (at + stmt_size w s) out on ss)

pub stmts_code_hidden : (w : Site) (at out on : ℕ) (all : Vec Stmt Global) → stmts_code w at out on (hidden-the_row-Stmt-0 all) ≡ block_code w at out on all.items
stmts_code_hidden w at out on all = stmts_codes_are w at out on (hidden-the_row-Stmt-0 all) ∙ ap (block_code w at out on) (items_hidden-the_row-Stmt-0 all)

begins_are : {n : Count} (w : Site) (at : ℕ) (row : Row_of-Stmt n) → begins w at row ≡ begins_of w at (items-the_row-Stmt n row)
begins_are w at end_of-Stmt = refl
begins_are w at (more_of-Stmt s ss) = ap (λ (ns : List ℕ). at ∷ ns) (begins_are w (at + stmt_size w s) ss)

pub begins_hidden : (w : Site) (at : ℕ) (all : Vec Stmt Global) → begins w at (hidden-the_row-Stmt-0 all) ≡ begins_of w at all.items
begins_hidden w at all = begins_are w at (hidden-the_row-Stmt-0 all) ∙ ap (begins_of w at) (items_hidden-the_row-Stmt-0 all)

-- ---- heights, by which the cycles end

abbrev pub heights : List Expr → ℕ
heights [] = 0
heights (e ∷ es) = max (height_of e) (heights es)

abbrev pub link_heights : List Link → ℕ
link_heights [] = 0
link_heights (l ∷ ls) = max (link_height l) (link_heights ls)

heights_are : {n : Count} (row : Row_of-Expr n) → heights_of row ≡ heights (items-the_row-Expr n row)
heights_are end_of-Expr = refl
heights_are (more_of-Expr e es) = ap (λ (n : ℕ). max (height_of e) n) (heights_are es)

pub heights_hidden : (args : Vec Expr Global) → heights_of (hidden-the_row-Expr-0 args) ≡ heights args.items
heights_hidden args = heights_are (hidden-the_row-Expr-0 args) ∙ ap heights (items_hidden-the_row-Expr-0 args)

link_heights_are : {n : Count} (row : Row_of-Link n) → links_height row ≡ link_heights (items-the_row-Link n row)
link_heights_are end_of-Link = refl
link_heights_are (more_of-Link l ls) = ap (λ (n : ℕ). max (link_height l) n) (link_heights_are ls)

pub link_heights_hidden : (links : Vec Link Global) → links_height (hidden-the_row-Link-1 links) ≡ link_heights links.items
link_heights_hidden links = link_heights_are (hidden-the_row-Link-1 links) ∙ ap link_heights (items_hidden-the_row-Link-1 links)

abbrev pub stmt_heights : List Stmt → ℕ
stmt_heights [] = 0
stmt_heights (s ∷ ss) = max (stmt_height s) (stmt_heights ss)

stmt_heights_are : {n : Count} (row : Row_of-Stmt n) → stmts_height row ≡ stmt_heights (items-the_row-Stmt n row)
stmt_heights_are end_of-Stmt = refl
stmt_heights_are (more_of-Stmt s ss) = ap (λ (n : ℕ). max (stmt_height s) n) (stmt_heights_are ss)

pub stmt_heights_hidden : (all : Vec Stmt Global) → stmts_height (hidden-the_row-Stmt-0 all) ≡ stmt_heights all.items
stmt_heights_hidden all = stmt_heights_are (hidden-the_row-Stmt-0 all) ∙ ap stmt_heights (items_hidden-the_row-Stmt-0 all)

-- ---- what is put behind what is there

pub whole : {T E : Type 0} (r : Result T E) (n o y e : List Op) → OnOk r (n ≡ o ++ y) → e ≡ y → OnOk r (n ≡ o ++ e)
whole (Ok v) n o y e h f = h ∙ ap (λ (l : List Op). o ++ l) (sym f)
whole (Err w) n o y e h f = tt

pub appended : {T E : Type 0} (r : Result T E) (n x o y e i : List Op) → OnOk r (n ≡ x ++ i) → x ≡ o ++ y → e ≡ y ++ i → OnOk r (n ≡ o ++ e)
appended (Ok v) n x o y e i h g f = h ∙ ap (λ (l : List Op). l ++ i) g ∙ append_assoc o y i ∙ ap (λ (l : List Op). o ++ l) (sym f)
appended (Err w) n x o y e i h g f = tt

-- ---- the labels of a `switch`, whose statements stand one behind the other

first_is : (w : Site) (place end : ℕ) (all : List Stmt) → place + block_size w all ≡ end → first_of end (begins_of w place all) ≡ place
first_is w place end [] h = omega (arith, h)
first_is w place end (s ∷ ss) h = refl

-- one label on
tests_step : (local end : ℕ) (label : Label) (labels : List Label) (places : List ℕ) → tests_code local end (label ∷ labels) places ≡ label_code local label (first_of end places) ++ tests_code local end labels (drop 1 places)
tests_step local end (Case c) labels places = refl
tests_step local end Default labels places = refl

default_step : (end : ℕ) (label : Label) (labels : List Label) (places : List ℕ) → default_place end (label ∷ labels) places ≡ (if is_default label then first_of end places else default_place end labels (drop 1 places))
default_step end (Case c) labels places = refl
default_step end Default labels places = refl

-- and one statement on, if there is one
begins_step : (w : Site) (place : ℕ) (all : List Stmt) → begins_of w (begin_behind w place all) (drop 1 all) ≡ drop 1 (begins_of w place all)
begins_step w place [] = refl
begins_step w place (s ∷ ss) = refl

begin_sum : (w : Site) (place : ℕ) (all : List Stmt) → begin_behind w place all + block_size w (drop 1 all) ≡ place + block_size w all
begin_sum w place [] = refl
begin_sum w place (s ∷ ss) = omega arith

-- the same at a label of a list, and the statements that are left
tests_on : (w : Site) (local end place i : ℕ) (labels : List Label) (d : Label) (left : List Stmt) → i < length labels → place + block_size w left ≡ end → label_code local (get_or labels i d) place ++ tests_code local end (drop (i + 1) labels) (begins_of w (begin_behind w place left) (drop 1 left)) ≡ tests_code local end (drop i labels) (begins_of w place left)
tests_on w local end place i labels d left lt h =
    let label = get_or labels i d in
    let behind = drop (i + 1) labels in
    sym (at_drop_more (λ ls. tests_code local end ls (begins_of w place left)) labels i d lt
    ∙ tests_step local end label behind (begins_of w place left)
    ∙ ap (λ (at : ℕ). label_code local label at ++ tests_code local end behind (drop 1 (begins_of w place left))) (first_is w place end left h)
    ∙ ap (λ (ps : List ℕ). label_code local label place ++ tests_code local end behind ps) (sym (begins_step w place left)))

default_on : (w : Site) (end place i : ℕ) (labels : List Label) (d : Label) (left : List Stmt) → i < length labels → is_default (get_or labels i d) ≡ false → default_place end (drop (i + 1) labels) (begins_of w (begin_behind w place left) (drop 1 left)) ≡ default_place end (drop i labels) (begins_of w place left)
default_on w end place i labels d left lt unmet =
    let label = get_or labels i d in
    let behind = drop (i + 1) labels in
    let places = begins_of w place left in
    sym (at_drop_more (λ ls. default_place end ls places) labels i d lt ∙ default_step end label behind places
    ∙ ap (λ (b : Bool). if b then first_of end places else default_place end behind (drop 1 places)) unmet
    ∙ ap (λ (ps : List ℕ). default_place end behind ps) (sym (begins_step w place left)))

pub default_here : (w : Site) (end place i : ℕ) (labels : List Label) (d : Label) (left : List Stmt) → i < length labels → place + block_size w left ≡ end → is_default (get_or labels i d) ≡ true → place ≡ default_place end (drop i labels) (begins_of w place left)
default_here w end place i labels d left lt h met =
    let label = get_or labels i d in
    let behind = drop (i + 1) labels in
    let places = begins_of w place left in
    sym (at_drop_more (λ ls. default_place end ls places) labels i d lt ∙ default_step end label behind places
    ∙ ap (λ (b : Bool). if b then first_of end places else default_place end behind (drop 1 places)) met
    ∙ first_is w place end left h)

pub default_behind : (w : Site) (end place i : ℕ) (labels : List Label) (left : List Stmt) → length labels ≤ i → place + block_size w left ≡ end → place ≡ default_place end (drop i labels) (begins_of w place left)
default_behind w end place i labels left le h =
    sym (at_drop_all (λ ls. default_place end ls (begins_of w place left)) labels i le ∙ first_is w place end left h)

-- the same where the next place and what is left then are known by equations
pub sum_on : (w : Site) (end place next : ℕ) (left more : List Stmt) → next ≡ begin_behind w place left → more ≡ drop 1 left → place + block_size w left ≡ end → next + block_size w more ≡ end
sum_on w end place next left more f g h =
    ap (λ (at : ℕ). at + block_size w more) f ∙ ap (λ (ss : List Stmt). begin_behind w place left + block_size w ss) g
    ∙ begin_sum w place left ∙ h

begins_on : (w : Site) (place next : ℕ) (left more : List Stmt) → next ≡ begin_behind w place left → more ≡ drop 1 left → begins_of w next more ≡ begins_of w (begin_behind w place left) (drop 1 left)
begins_on w place next left more f g =
    ap (λ (at : ℕ). begins_of w at more) f ∙ ap (λ (ss : List Stmt). begins_of w (begin_behind w place left) ss) g

pub tests_put : (w : Site) (local end place next i : ℕ) (labels : List Label) (d : Label) (left more : List Stmt) (old new all : List Op) → i < length labels → place + block_size w left ≡ end → new ≡ old ++ label_code local (get_or labels i d) place → next ≡ begin_behind w place left → more ≡ drop 1 left → old ++ tests_code local end (drop i labels) (begins_of w place left) ≡ all → new ++ tests_code local end (drop (i + 1) labels) (begins_of w next more) ≡ all
tests_put w local end place next i labels d left more old new all lt h e f g inv =
    let label = label_code local (get_or labels i d) place in
    let tests : List ℕ → List Op = λ ps. tests_code local end (drop (i + 1) labels) ps in
    ap (λ (ops : List Op). ops ++ tests (begins_of w next more)) e ∙ append_assoc old label (tests (begins_of w next more))
    ∙ ap (λ (ps : List ℕ). old ++ (label ++ tests ps)) (begins_on w place next left more f g)
    ∙ ap (λ (ops : List Op). old ++ ops) (tests_on w local end place i labels d left lt h) ∙ inv

pub default_put : (w : Site) (end place next i found : ℕ) (labels : List Label) (d : Label) (left more : List Stmt) → i < length labels → is_default (get_or labels i d) ≡ false → next ≡ begin_behind w place left → more ≡ drop 1 left → default_place end (drop i labels) (begins_of w place left) ≡ found → default_place end (drop (i + 1) labels) (begins_of w next more) ≡ found
default_put w end place next i found labels d left more lt unmet f g inv =
    ap (λ (ps : List ℕ). default_place end (drop (i + 1) labels) ps) (begins_on w place next left more f g)
    ∙ default_on w end place i labels d left lt unmet ∙ inv

pub default_within : (w : Site) (labels : List Label) (place end : ℕ) (all : List Stmt) → place + block_size w all ≡ end → default_place end labels (begins_of w place all) ≤ end
default_within w [] place end all h = let e = first_is w place end all h in omega (arith, e, h)
default_within w (Default ∷ labels) place end all h = let e = first_is w place end all h in omega (arith, e, h)
default_within w (Case c ∷ labels) place end [] h = default_within w labels place end [] h
default_within w (Case c ∷ labels) place end (s ∷ ss) h = default_within w labels (place + stmt_size w s) end ss (omega (arith, h))

switches_are : {n : Count} (w : Site) (at on : ℕ) (e : Expr) (labels : List Label) (row : Row_of-Stmt n) →
    (let local = waiting w prim.Int in
    let first = at + expr_size w e + 2 + tests_size labels + 3 in
    let end = first + stmts_size w row in
    expr_code w at e ++ op.Store local
    ∷ (tests_code local end labels (begins w first row)
    ++ op.Jump (default_place end labels (begins w first row)) ∷ stmts_code w first end on row))
    ≡ switch_code w at on e labels (items-the_row-Stmt n row)
switches_are w at on e labels row =
    let first = at + expr_size w e + 2 + tests_size labels + 3 in
    let p = stmts_are w row in
    let q = begins_are w first row in
    let r = stmts_codes_are w first (first + stmts_size w row) on row in
    cc

pub switch_hidden : (w : Site) (at on : ℕ) (e : Expr) (labels : List Label) (all : Vec Stmt Global) →
    (let local = waiting w prim.Int in
    let first = at + expr_size w e + 2 + tests_size labels + 3 in
    let end = first + stmts_size w (hidden-the_row-Stmt-0 all) in
    expr_code w at e ++ op.Store local
    ∷ (tests_code local end labels (begins w first (hidden-the_row-Stmt-0 all))
    ++ op.Jump (default_place end labels (begins w first (hidden-the_row-Stmt-0 all)))
    ∷ stmts_code w first end on (hidden-the_row-Stmt-0 all)))
    ≡ switch_code w at on e labels all.items
switch_hidden w at on e labels all =
    switches_are w at on e labels (hidden-the_row-Stmt-0 all) ∙ ap (switch_code w at on e labels) (items_hidden-the_row-Stmt-0 all)
