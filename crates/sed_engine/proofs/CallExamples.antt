-- What small programs come to, computed from the definitions: calls, frames and turns.
use Rattle.std.proofs.Common.{◌≡◌, ℕ, pos, [], ◌∷◌, Some, codes, true, refl}
use Rattle.std.specs.Int.{int_wrap}
use Rattle.sed_value.specs.declared.value.Value.TheVariants as kept
use Rattle.sed_typed.specs.declared.kind.Kind.TheVariants as kind
use Rattle.sed_typed.specs.declared.operators.Arithmetic.TheVariants as op
use Rattle.sed_typed.specs.declared.operators.Binary.TheVariants as binary
use Rattle.sed_typed.specs.declared.operators.Comparison.TheVariants as comparison
use Rattle.sed_typed.specs.declared.operators.Width.TheVariants as width
use Rattle.sed_typed.specs.declared.program.Method.{Method}
use Rattle.sed_typed.specs.declared.program.Program.{Program}
use Rattle.sed_typed.specs.declared.statement.Stmt.TheVariants as stmt
use Rattle.sed_typed.specs.declared.tree.Expr.{Expr, end_of-Expr, more_of-Expr}
use Rattle.sed_typed.specs.declared.tree.Expr.TheVariants as expr
use Rattle.sed_typed.specs.declared.tree.Link.TheVariants as link
use Rattle.sed_engine.specs.declared.call.Root.TheVariants.{Execute, Callback}
use Rattle.sed_engine.specs.declared.call.Callback.TheVariants.{Start}
use Rattle.sed_typed.specs.Initial.{initial}
use Rattle.sed_engine.specs.Root.{calls_with, root}
use Rattle.sed_engine.proofs.Building.{Pointer, none, one, int, chain, by, this, set_y, y_is, block, int_field, class_info, program_of, method, method_of, execute, run, outcome, done, trapped}

-- int f(int n) { return n == 0 ? 0 : f(n - 1) }, method 1; n is local 1
countdown : Pointer → Method
countdown p =
    let n : Expr = expr.Local kind.Int 1 in
    let below : Expr = chain p n (by op.Subtract (int 1)) in
    method_of 5 (codes "f") (kind.Int ∷ []) kind.Int
    (stmt.Return (Some (expr.Choose' p (chain p n (link.Binary (binary.Compare comparison.Equal width.Int) (int 0))) p (int 0) p
    (chain p this (link.Invoke' kind.Int 1 (one p) (more_of-Expr below end_of-Expr))))))

-- y = 1 + f(n)
deep : Pointer → ℕ → Program
deep p n = program_of (class_info 1 0 (codes "A") (Some 2) true ∷ []) (int_field ∷ [])
    (execute 5 (set_y p (chain p (int 1) (by op.Add (chain p this (link.Invoke' kind.Int 1 (one p) (more_of-Expr (int n) end_of-Expr)))))) ∷ countdown p ∷ [])

deep_30 : (p : Pointer) → outcome (run (deep p 30) 100) (1 ∷ []) ≡ done 69 (1 ∷ [])
unfolding deep countdown calls_with int_wrap
deep_30 p = refl

-- f(0) of f(31) would be frame 33
deep_31 : (p : Pointer) → outcome (run (deep p 31) 100) (1 ∷ []) ≡ trapped 5 (0 ∷ [])
unfolding deep countdown calls_with int_wrap
deep_31 p = refl

-- the turn is taken before the depth is tested
deep_spent : (p : Pointer) → outcome (run (deep p 31) 31) (1 ∷ []) ≡ trapped 4 (0 ∷ [])
unfolding deep countdown calls_with int_wrap
deep_spent p = refl

-- class 6 is based on 5 and overrides g; g of 5 gives 1, g of 6 gives 10 + super.g()
overriding : Pointer → Program
overriding p =
    let one_method : Method = method 5 (codes "g") kind.Int (stmt.Return (Some (int 1))) in
    let other : Method = method 6 (codes "g") kind.Int (stmt.Return (Some (chain p (int 10) (by op.Add (expr.Super' kind.Int 0 (none p) end_of-Expr))))) in
    program_of (class_info 1 0 (codes "A") (Some 2) true ∷ class_info 1 1 (codes "B") (Some 5) true ∷ []) (int_field ∷ [])
    (one_method ∷ other ∷ execute 5 (set_y p (chain p this (link.Invoke' kind.Int 0 (none p) end_of-Expr))) ∷ [])

-- on an object of class 6 the inherited `execute` finds the nearer g
overrides : (p : Pointer) → outcome (root (overriding p) 6 (initial (overriding p) 6) [] Execute kept.Nothing 10 (pos 0)) (1 ∷ []) ≡ done 8 (11 ∷ [])
unfolding overriding calls_with int_wrap
overrides p = refl

-- and on one of class 5 its own
overrides_not : (p : Pointer) → outcome (root (overriding p) 5 (initial (overriding p) 5) [] Execute kept.Nothing 10 (pos 0)) (1 ∷ []) ≡ done 9 (1 ∷ [])
unfolding overriding calls_with int_wrap
overrides_not p = refl

-- null.f(y = 1): the argument is evaluated, then null is tested, and no turn is taken: not even where none is left
null_call : Pointer → Program
null_call p = program_of (class_info 1 0 (codes "A") (Some 2) true ∷ []) (int_field ∷ [])
    (execute 5 (stmt.Do (chain p (expr.Null (kind.Object (record { 0 = 5 }))) (link.Invoke' kind.Int 1 (one p) (more_of-Expr (y_is p 1) end_of-Expr)))) ∷ countdown p ∷ [])

null_call_traps : (p : Pointer) → outcome (run (null_call p) 0) (1 ∷ []) ≡ trapped 2 (1 ∷ [])
unfolding null_call countdown calls_with
null_call_traps p = refl

-- a method without a `return` answers 0: y = 7; y = h(), with int h() {}
silent : Pointer → Program
silent p = program_of (class_info 1 0 (codes "A") (Some 2) true ∷ []) (int_field ∷ [])
    (execute 5 (block p (set_y p (int 7)) (set_y p (chain p this (link.Invoke' kind.Int 1 (none p) end_of-Expr)))) ∷ method 5 (codes "h") kind.Int stmt.Empty ∷ [])

silent_is : (p : Pointer) → outcome (run (silent p) 10) (1 ∷ []) ≡ done 9 (0 ∷ [])
unfolding silent calls_with
silent_is p = refl

-- `Component` has no `start`, so this root call does nothing, whatever the class has
no_callback : Pointer → Program
no_callback p = program_of (class_info 1 0 (codes "A") (Some 2) true ∷ []) (int_field ∷ []) (method 5 (codes "start") kind.Void (set_y p (int 1)) ∷ [])

no_callback_is : (p : Pointer) → outcome (root (no_callback p) 5 (initial (no_callback p) 5) [] (Callback Start) kept.Nothing 10 (pos 0)) (1 ∷ []) ≡ done 10 (0 ∷ [])
unfolding no_callback calls_with
no_callback_is p = refl
