-- The code of statements, worked out by hand.
use Rattle.std.proofs.Common.{◌≡◌, pos, [], ◌∷◌, None, refl}
use Rattle.sed_typed.specs.declared.kind.Kind.TheVariants as kind
use Rattle.sed_typed.specs.declared.operators.Comparison.TheVariants as comparison
use Rattle.sed_typed.specs.declared.statement.Stmt.TheVariants as stmt
use Rattle.sed_engine.proofs.Building.{Pointer, int, set_y, y, block_of_three}
use Rattle.scode_ops.specs.declared.op.Op.TheVariants as op
use Rattle.scode_emit.proofs.Building.{code, q, is, looping, switching, counting}

-- while (y < 3) { y = y + 1; if (y == 1) continue; break }
loops : (p : Pointer) → code p (looping p) ≡
    op.Jump 40 ∷ op.Turn
    ∷ op.Load 0 ∷ op.Load 0 ∷ op.GetInt 4 ∷ op.Int (pos 1) ∷ op.IntAdd ∷ op.PutInt 4
    ∷ op.Load 0 ∷ op.GetInt 4 ∷ op.Int (pos 1) ∷ op.IntEq ∷ op.JumpFalse 37 ∷ op.Jump 40
    ∷ op.Jump 54
    ∷ op.Load 0 ∷ op.GetInt 4 ∷ op.Int (pos 3) ∷ op.IntLt ∷ op.JumpTrue 3
    ∷ op.Return ∷ []
loops p = refl

-- switch (y) { case 1: y = 10; default: y = 20; break; case 3: y = 30 }
switches : (p : Pointer) → code p (switching p (y p)) ≡
    op.Load 0 ∷ op.GetInt 4 ∷ op.Store 2
    ∷ op.Load 2 ∷ op.Int (pos 1) ∷ op.IntEq ∷ op.JumpTrue 32
    ∷ op.Load 2 ∷ op.Int (pos 3) ∷ op.IntEq ∷ op.JumpTrue 55
    ∷ op.Jump 42
    ∷ op.Load 0 ∷ op.Int (pos 10) ∷ op.PutInt 4
    ∷ op.Load 0 ∷ op.Int (pos 20) ∷ op.PutInt 4 ∷ op.Jump 65
    ∷ op.Load 0 ∷ op.Int (pos 30) ∷ op.PutInt 4
    ∷ op.Return ∷ []
switches p = refl

-- for (int i = 0; ; i++) if (i == 4) break
counts : (p : Pointer) → code p (counting p) ≡
    op.Int (pos 0) ∷ op.Store 1 ∷ op.Jump 35 ∷ op.Turn
    ∷ op.Load 1 ∷ op.Int (pos 4) ∷ op.IntEq ∷ op.JumpFalse 25 ∷ op.Jump 40
    ∷ op.Load 1 ∷ op.Int (pos 1) ∷ op.IntAdd ∷ op.Store 1
    ∷ op.Bool 1 ∷ op.JumpTrue 10
    ∷ op.Return ∷ []
counts p = refl

-- do { } while (y != 0)
waits : (p : Pointer) → code p (stmt.DoWhile' p stmt.Empty (is p (y p) comparison.NotEqual (int 0))) ≡
    op.Turn ∷ op.Load 0 ∷ op.GetInt 4 ∷ op.Int (pos 0) ∷ op.IntNe ∷ op.JumpTrue 0 ∷ op.Return ∷ []
waits p = refl

-- if (q) y = 1; else y = 2
branches : (p : Pointer) → code p (stmt.If' (q p) p (set_y p (int 1)) p (set_y p (int 2))) ≡
    op.Load 0 ∷ op.GetBool 43 ∷ op.JumpFalse 21
    ∷ op.Load 0 ∷ op.Int (pos 1) ∷ op.PutInt 4 ∷ op.Jump 31
    ∷ op.Load 0 ∷ op.Int (pos 2) ∷ op.PutInt 4
    ∷ op.Return ∷ []
branches p = refl

-- Str t; return; y = 1: a local begins anew wherever its declaration is executed
dead : (p : Pointer) → code p (block_of_three p (stmt.Local kind.Text 1 None) (stmt.Return None) (set_y p (int 1))) ≡
    op.Null ∷ op.Store 1 ∷ op.Return ∷ op.Load 0 ∷ op.Int (pos 1) ∷ op.PutInt 4 ∷ op.Return ∷ []
dead p = refl
