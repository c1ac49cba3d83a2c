-- What small programs come to, computed from the definitions: loops, turns and `switch`.
use Rattle.std.proofs.Common.{◌≡◌, ℕ, pos, [], ◌∷◌, Some, None, Vec, Global, lit<, refl}
use Rattle.std.specs.Int.{int_wrap}
use Rattle.sed_typed.specs.declared.kind.Kind.TheVariants as kind
use Rattle.sed_typed.specs.declared.operators.Arithmetic.TheVariants as op
use Rattle.sed_typed.specs.declared.operators.Binary.TheVariants as binary
use Rattle.sed_typed.specs.declared.operators.Comparison.{Comparison}
use Rattle.sed_typed.specs.declared.operators.Comparison.TheVariants as comparison
use Rattle.sed_typed.specs.declared.operators.Gives.TheVariants.{Old}
use Rattle.sed_typed.specs.declared.operators.Width.TheVariants as width
use Rattle.sed_typed.specs.declared.program.Program.{Program}
use Rattle.sed_typed.specs.declared.statement.Label.{Label}
use Rattle.sed_typed.specs.declared.statement.Label.TheVariants.{Case, Default}
use Rattle.sed_typed.specs.declared.statement.Stmt.{Stmt, end_of-Stmt, more_of-Stmt}
use Rattle.sed_typed.specs.declared.statement.Stmt.TheVariants as stmt
use Rattle.sed_typed.specs.declared.tree.Expr.{Expr}
use Rattle.sed_typed.specs.declared.tree.Expr.TheVariants as expr
use Rattle.sed_typed.specs.declared.tree.Link.TheVariants as link
use Rattle.sed_typed.specs.declared.tree.Place.TheVariants as place
use Rattle.sed_engine.specs.Root.{calls_with}
use Rattle.sed_engine.specs.Statements.{loop}
use Rattle.sed_engine.proofs.Building.{Pointer, three, vec_of, int, chain, by, set_y, y, block, block_of_three, int_field, simple, run, outcome, done, trapped}

-- a comparison of an int
abbrev is : Pointer → Expr → Comparison → Expr → Expr
is p a op b = chain p a (link.Binary (binary.Compare op width.Int) b)

-- y = y + n
abbrev add_y : Pointer → ℕ → Stmt
add_y p n = set_y p (chain p (y p) (by op.Add (int n)))

-- while (y < 3) y = y + 1
counting : Pointer → Program
counting p = simple (int_field ∷ []) (stmt.While' (is p (y p) comparison.Less (int 3)) p (add_y p 1))

counts : (p : Pointer) → outcome (run (counting p) 10) (1 ∷ []) ≡ done 7 (3 ∷ [])
unfolding counting calls_with loop int_wrap
counts p = refl

-- with two turns the third start of the body traps
counts_out : (p : Pointer) → outcome (run (counting p) 2) (1 ∷ []) ≡ trapped 4 (2 ∷ [])
unfolding counting calls_with loop int_wrap
counts_out p = refl

-- with three, the test that ends the loop still takes none
counts_all : (p : Pointer) → outcome (run (counting p) 3) (1 ∷ []) ≡ done 0 (3 ∷ [])
unfolding counting calls_with loop int_wrap
counts_all p = refl

-- do y = y + 1 while (false): the body starts once
once : Pointer → Program
once p = simple (int_field ∷ []) (stmt.DoWhile' p (add_y p 1) (expr.Bool 0))

once_is : (p : Pointer) → outcome (run (once p) 10) (1 ∷ []) ≡ done 9 (1 ∷ [])
unfolding once calls_with loop int_wrap
once_is p = refl

-- do { y = y + 1; continue; y = 9 } while (y < 3): `continue` comes to the test
do_continue : Pointer → Program
do_continue p = simple (int_field ∷ [])
    (stmt.DoWhile' p (block_of_three p (add_y p 1) stmt.Continue (set_y p (int 9))) (is p (y p) comparison.Less (int 3)))

do_continues : (p : Pointer) → outcome (run (do_continue p) 10) (1 ∷ []) ≡ done 7 (3 ∷ [])
unfolding do_continue calls_with loop int_wrap
do_continues p = refl

-- for (int i = 0; i < 4; i++) { if (i == 1) continue; y = y + 1 }: `continue` comes to the last part
local_i : Expr
local_i = expr.Local kind.Int 1

step_i : Pointer → Expr
step_i p = expr.Update' (record { arithmetic = op.Add; width = width.Int; gives = Old }) (place.Local kind.Int 1) p (int 1)

skipping : Pointer → Program
skipping p = simple (int_field ∷ [])
    (stmt.For' p (stmt.Local kind.Int 1 (Some (int 0))) (Some (is p local_i comparison.Less (int 4))) (Some (step_i p)) p
    (block p (stmt.If' (is p local_i comparison.Equal (int 1)) p stmt.Continue p stmt.Empty) (add_y p 1)))

skips : (p : Pointer) → outcome (run (skipping p) 10) (1 ∷ []) ≡ done 6 (3 ∷ [])
unfolding skipping local_i step_i calls_with loop int_wrap
skips p = refl

-- for (;;) { while (true) { break; } y = y + 1; if (y == 2) break; }: a break leaves the inner loop alone
nested : Pointer → Program
nested p = simple (int_field ∷ [])
    (stmt.For' p stmt.Empty None None p
    (block_of_three p
    (stmt.While' (expr.Bool 1) p stmt.Break)
    (add_y p 1)
    (stmt.If' (is p (y p) comparison.Equal (int 2)) p stmt.Break p stmt.Empty)))

nested_is : (p : Pointer) → outcome (run (nested p) 10) (1 ∷ []) ≡ done 6 (2 ∷ [])
unfolding nested calls_with loop int_wrap
nested_is p = refl

-- { int i; i = i + 1; y = y + i } twice: a local without an initial value begins anew as 0
fresh : Pointer → Program
fresh p = simple (int_field ∷ [])
    (stmt.While' (is p (y p) comparison.Less (int 2)) p
    (block_of_three p
    (stmt.Local kind.Int 1 None)
    (stmt.Do (step_i p))
    (set_y p (chain p (y p) (by op.Add local_i)))))

fresh_is : (p : Pointer) → outcome (run (fresh p) 10) (1 ∷ []) ≡ done 8 (2 ∷ [])
unfolding fresh local_i step_i calls_with loop int_wrap
fresh_is p = refl

-- switch (n) { case 1: y += 1  default: y += 10  case 2: y += 100; break .. }
abbrev labels : Pointer → Vec Label Global
labels p = vec_of p (Case (pos 1) ∷ Default ∷ Case (pos 2) ∷ []) (lit< tt)

falling : Pointer → ℕ → Program
falling p n = simple (int_field ∷ [])
    (stmt.Switch' (int n) (labels p) (three p)
    (more_of-Stmt (add_y p 1) (more_of-Stmt (block p (add_y p 10) stmt.Break) (more_of-Stmt (add_y p 100) end_of-Stmt))))

-- case 1 falls through to the default, whose break leaves the switch
falls_through : (p : Pointer) → outcome (run (falling p 1) 10) (1 ∷ []) ≡ done 10 (11 ∷ [])
unfolding falling calls_with int_wrap
falls_through p = refl

falls_to_last : (p : Pointer) → outcome (run (falling p 2) 10) (1 ∷ []) ≡ done 10 (100 ∷ [])
unfolding falling calls_with int_wrap
falls_to_last p = refl

falls_to_default : (p : Pointer) → outcome (run (falling p 7) 10) (1 ∷ []) ≡ done 10 (10 ∷ [])
unfolding falling calls_with int_wrap
falls_to_default p = refl

-- switch (2) { case 1: int i = 5  case 2: i = i + 1; y = i }: a declaration that was jumped over leaves 0
jumped : Pointer → Program
jumped p = simple (int_field ∷ [])
    (stmt.Switch' (int 2) (labels p) (three p)
    (more_of-Stmt (stmt.Local kind.Int 1 (Some (int 5))) (more_of-Stmt stmt.Empty (more_of-Stmt (block p (stmt.Do (step_i p)) (set_y p local_i)) end_of-Stmt))))

jumped_is : (p : Pointer) → outcome (run (jumped p) 10) (1 ∷ []) ≡ done 10 (1 ∷ [])
unfolding jumped step_i local_i calls_with int_wrap
jumped_is p = refl

-- for (int i = 0; i < n; i++) y = i
filling : Pointer → ℕ → Program
filling p n = simple (int_field ∷ [])
    (stmt.For' p (stmt.Local kind.Int 1 (Some (int 0))) (Some (is p local_i comparison.Less (int n))) (Some (step_i p)) p (set_y p local_i))

-- 10,000 rounds with 10,000 turns
fills : (p : Pointer) → outcome (run (filling p 10000) 10000) (1 ∷ []) ≡ done 0 (9999 ∷ [])
unfolding filling step_i local_i calls_with loop int_wrap
fills p = refl

-- one round more than turns
fills_out : (p : Pointer) → outcome (run (filling p 10001) 10000) (1 ∷ []) ≡ trapped 4 (9999 ∷ [])
unfolding filling step_i local_i calls_with loop int_wrap
fills_out p = refl
