-- Rows of trees as lists: what they mean, and how high they are.
use Rattle.std.specs.Prelude.{slice_get, max}
use Rattle.std.proofs.Common.{◌≡◌, ℕ, zero, suc, ◌+◌, ◌-◌, ◌*◌, ◌<◌, ◌≤◌, List, [], ◌∷◌, drop, length, map, get_or, Vec, Global, Some, None, refl, ap, ◌∙◌, arith}
use mathlib.Core.Former.{Count}
use Rattle.sed_typed.specs.declared.program.Method.{Method}
use Rattle.sed_typed.specs.declared.statement.Stmt.{Stmt, Row_of-Stmt, end_of-Stmt, more_of-Stmt, items-the_row-Stmt, items_hidden-the_row-Stmt-0}
use Rattle.sed_typed.specs.declared.statement.Stmt.TheBlock.{hidden-the_row-Stmt-0}
use Rattle.sed_typed.specs.declared.tree.Expr.{Expr, Row_of-Expr, end_of-Expr, more_of-Expr, items-the_row-Expr, items_hidden-the_row-Expr-0, Row_of-Link, end_of-Link, more_of-Link, items-the_row-Link, items_hidden-the_row-Link-1}
use Rattle.sed_typed.specs.declared.tree.Expr.TheBlock.{hidden-the_row-Expr-0, hidden-the_row-Link-1}
use Rattle.sed_typed.specs.declared.tree.Link.{Link}
use Rattle.sed_typed.specs.Height.{height_of, heights_of, link_height, links_height, stmt_height, stmts_height}
use Rattle.sed_engine.specs.Values.{Val}
use Rattle.sed_engine.specs.State.{State, End}
use Rattle.sed_engine.specs.Expressions.{Setting, eval, evals, meaning, meanings}
use Rattle.sed_engine.specs.Statements.{Flow, exec, execs}
use Rattle.sed_walk.specs.Heights.{heights, link_heights, stmt_heights, body_height, body_heights, left_with}

-- ---- meanings

evals-are : (w : Setting) {n : Count} (row : Row_of-Expr n) → evals w row ≡ map (eval w) (items-the_row-Expr n row)
evals-are w end_of-Expr = refl
evals-are w (more_of-Expr e es) = ap (λ (xs : List (State → End Val)). eval w e ∷ xs) (evals-are w es)

pub evals_hidden : (w : Setting) (args : Vec Expr Global) → evals w (hidden-the_row-Expr-0 args) ≡ map (eval w) args.items
evals_hidden w args = evals-are w (hidden-the_row-Expr-0 args) ∙ ap (map (eval w)) (items_hidden-the_row-Expr-0 args)

meanings-are : (w : Setting) {n : Count} (row : Row_of-Link n) → meanings w row ≡ map (meaning w) (items-the_row-Link n row)
meanings-are w end_of-Link = refl
meanings-are w (more_of-Link l ls) = ap (λ (xs : List (Val → State → End Val)). meaning w l ∷ xs) (meanings-are w ls)

pub meanings_hidden : (w : Setting) (links : Vec Link Global) → meanings w (hidden-the_row-Link-1 links) ≡ map (meaning w) links.items
meanings_hidden w links = meanings-are w (hidden-the_row-Link-1 links) ∙ ap (map (meaning w)) (items_hidden-the_row-Link-1 links)

execs-are : (w : Setting) {n : Count} (row : Row_of-Stmt n) → execs w row ≡ map (exec w) (items-the_row-Stmt n row)
execs-are w end_of-Stmt = refl
execs-are w (more_of-Stmt s ss) = ap (λ (xs : List (State → End Flow)). exec w s ∷ xs) (execs-are w ss)

pub execs_hidden : (w : Setting) (all : Vec Stmt Global) → execs w (hidden-the_row-Stmt-0 all) ≡ map (exec w) all.items
execs_hidden w all = execs-are w (hidden-the_row-Stmt-0 all) ∙ ap (map (exec w)) (items_hidden-the_row-Stmt-0 all)

-- ---- heights

heights-are : {n : Count} (row : Row_of-Expr n) → heights_of row ≡ heights (items-the_row-Expr n row)
heights-are end_of-Expr = refl
heights-are (more_of-Expr e es) = ap (λ (n : ℕ). max (height_of e) n) (heights-are es)

pub heights_hidden : (args : Vec Expr Global) → heights_of (hidden-the_row-Expr-0 args) ≡ heights args.items
heights_hidden args = heights-are (hidden-the_row-Expr-0 args) ∙ ap heights (items_hidden-the_row-Expr-0 args)

links-are : {n : Count} (row : Row_of-Link n) → links_height row ≡ link_heights (items-the_row-Link n row)
links-are end_of-Link = refl
links-are (more_of-Link l ls) = ap (λ (n : ℕ). max (link_height l) n) (links-are ls)

pub links_hidden : (links : Vec Link Global) → links_height (hidden-the_row-Link-1 links) ≡ link_heights links.items
links_hidden links = links-are (hidden-the_row-Link-1 links) ∙ ap link_heights (items_hidden-the_row-Link-1 links)

stmts-are : {n : Count} (row : Row_of-Stmt n) → stmts_height row ≡ stmt_heights (items-the_row-Stmt n row)
stmts-are end_of-Stmt = refl
stmts-are (more_of-Stmt s ss) = ap (λ (n : ℕ). max (stmt_height s) n) (stmts-are ss)

pub stmts_hidden : (all : Vec Stmt Global) → stmts_height (hidden-the_row-Stmt-0 all) ≡ stmt_heights all.items
stmts_hidden all = stmts-are (hidden-the_row-Stmt-0 all) ∙ ap stmt_heights (items_hidden-the_row-Stmt-0 all)

pub height_within : (es : List Expr) (i : ℕ) (e : Expr) → i < length es → e ≡ get_or es i e → height_of e ≤ heights es
height_within [] i e h at = absurd (omega arith)
height_within (x ∷ es) zero e h at = let same = ap height_of at in omega (arith, same)
height_within (x ∷ es) (suc i) e h at = let rest = height_within es i e (omega arith) at in omega (arith, rest)

pub link_within : (ls : List Link) (i : ℕ) (l : Link) → i < length ls → l ≡ get_or ls i l → link_height l ≤ link_heights ls
link_within [] i l h at = absurd (omega arith)
link_within (x ∷ ls) zero l h at = let same = ap link_height at in omega (arith, same)
link_within (x ∷ ls) (suc i) l h at = let rest = link_within ls i l (omega arith) at in omega (arith, rest)

pub stmt_within : (ss : List Stmt) (i : ℕ) (s : Stmt) → i < length ss → s ≡ get_or ss i s → stmt_height s ≤ stmt_heights ss
stmt_within [] i s h at = absurd (omega arith)
stmt_within (x ∷ ss) zero s h at = let same = ap stmt_height at in omega (arith, same)
stmt_within (x ∷ ss) (suc i) s h at = let rest = stmt_within ss i s (omega arith) at in omega (arith, rest)

pub rest_lower : (ss : List Stmt) (n : ℕ) → stmt_heights (drop n ss) ≤ stmt_heights ss
rest_lower ss zero = omega arith
rest_lower [] (suc n) = omega arith
rest_lower (s ∷ ss) (suc n) = let rest = rest_lower ss n in omega (arith, rest)

pub body_within : (ms : List Method) (i : ℕ) (m : Method) → Some m ≡ slice_get ms i → body_height m ≤ body_heights ms
body_within [] i m e = absurd (let never : Some m ≡ None = e in let no : ⊥ = cc in no)
body_within (x ∷ ms) zero m e = let same : m ≡ x = cc in let h = ap body_height same in omega (arith, h)
body_within (x ∷ ms) (suc i) m e = let rest = body_within ms i m e in omega (arith, rest)

pub less_left : (ms : List Method) (n : ℕ) (m : Method) → 0 < n → body_height m ≤ body_heights ms → left_with ms (n - 1) + (8 * body_height m + 1) < left_with ms n
less_left ms zero m h w = absurd (omega arith)
less_left ms (suc n) m h w = grind (arith, w)

pub ruleset within = (body_within, less_left)
