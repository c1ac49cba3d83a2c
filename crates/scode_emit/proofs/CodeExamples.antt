-- The code of expressions, worked out by hand. In each, local 0 is the component, and behind the method's own locals there
-- wait a bool, an int, a long and an index.
use Rattle.std.proofs.Common.{◌≡◌, pos, [], ◌∷◌, refl}
use Rattle.sed_value.specs.declared.slot_type.Primitive.TheVariants as prim
use Rattle.sed_typed.specs.declared.kind.Kind.TheVariants as kind
use Rattle.sed_typed.specs.declared.operators.Arithmetic.TheVariants as arithmetic
use Rattle.sed_typed.specs.declared.operators.Binary.TheVariants as binary
use Rattle.sed_typed.specs.declared.operators.Comparison.TheVariants as comparison
use Rattle.sed_typed.specs.declared.operators.Gives.TheVariants.{Old, New}
use Rattle.sed_typed.specs.declared.operators.TextCall.TheVariants as text
use Rattle.sed_typed.specs.declared.operators.Unary.TheVariants as unary
use Rattle.sed_typed.specs.declared.operators.Width.TheVariants as width
use Rattle.sed_typed.specs.declared.statement.Stmt.TheVariants as stmt
use Rattle.sed_typed.specs.declared.tree.Expr.{end_of-Expr, more_of-Expr}
use Rattle.sed_typed.specs.declared.tree.Expr.TheVariants as expr
use Rattle.sed_typed.specs.declared.tree.Link.TheVariants as link
use Rattle.sed_typed.specs.declared.tree.Place.TheVariants as place
use Rattle.sed_engine.proofs.Building.{Pointer, none, one, two, chain, by, int, this, own_place, set, set_y, y, y_is}
use Rattle.scode_ops.specs.declared.op.Op.TheVariants as op
use Rattle.scode_emit.proofs.Building.{code, layout, program, m, g, q, a_at, s_of, update, is, m_of}
use Rattle.scode_emit.specs.Method.{code_of}

-- y = 7
assigns : (p : Pointer) → code p (set_y p (int 7)) ≡ op.Load 0 ∷ op.Int (pos 7) ∷ op.PutInt 4 ∷ op.Return ∷ []
assigns p = refl

-- y = (b = 300): the byte waits as it is read back
narrows : (p : Pointer) → code p (set_y p (expr.Set' (own_place p prim.Byte 2) p (int 300))) ≡
    op.Load 0 ∷ op.Load 0 ∷ op.Int (pos 300) ∷ op.IntToByte ∷ op.Store 2 ∷ op.Load 2 ∷ op.PutByte 8 ∷ op.Load 2 ∷
    op.PutInt 4 ∷ op.Return ∷ []
narrows p = refl

-- y = (a[1] += 2)
adds_to_element : (p : Pointer) → code p (set_y p (expr.Update' (update arithmetic.Add width.Int New) (a_at p (int 1)) p (int 2))) ≡
    op.Load 0 ∷ op.Load 0 ∷ op.Int (pos 1)
    ∷ op.Store 4 ∷ op.Dup ∷ op.Load 4 ∷ op.ArrayGetInt 9 3 ∷ op.Store 2 ∷ op.Load 4 ∷ op.Load 2
    ∷ op.Int (pos 2) ∷ op.IntAdd ∷ op.Store 2 ∷ op.Load 2 ∷ op.ArrayPutInt 9 3 ∷ op.Load 2
    ∷ op.PutInt 4 ∷ op.Return ∷ []
adds_to_element p = refl

-- y = a[1]++: the value before waits while 1 is added and stored
element_before : (p : Pointer) → code p (set_y p (expr.Update' (update arithmetic.Add width.Int Old) (a_at p (int 1)) p (int 1))) ≡
    op.Load 0 ∷ op.Load 0 ∷ op.Int (pos 1)
    ∷ op.Store 4 ∷ op.Dup ∷ op.Load 4 ∷ op.ArrayGetInt 9 3 ∷ op.Store 2 ∷ op.Load 4 ∷ op.Load 2
    ∷ op.Int (pos 1) ∷ op.IntAdd ∷ op.ArrayPutInt 9 3 ∷ op.Load 2
    ∷ op.PutInt 4 ∷ op.Return ∷ []
element_before p = refl

-- a[y] = (y = 1): object, index, value; what is assigned is not kept
element : (p : Pointer) → code p (stmt.Do (expr.Set' (a_at p (y p)) p (y_is p 1))) ≡
    op.Load 0 ∷ op.Load 0 ∷ op.GetInt 4 ∷ op.Load 0 ∷ op.Int (pos 1) ∷ op.Store 2 ∷ op.Load 2 ∷ op.PutInt 4 ∷ op.Load 2
    ∷ op.ArrayPutInt 9 3 ∷ op.Return ∷ []
element p = refl

-- y += 2 and y++ as statements are alike
adds : (p : Pointer) → code p (stmt.Do (expr.Update' (update arithmetic.Add width.Int New) (own_place p prim.Int 1) p (int 1))) ≡
    op.Load 0 ∷ op.Dup ∷ op.GetInt 4 ∷ op.Int (pos 1) ∷ op.IntAdd ∷ op.PutInt 4 ∷ op.Return ∷ []
adds p = refl

adds_one : (p : Pointer) → code p (stmt.Do (expr.Update' (update arithmetic.Add width.Int Old) (own_place p prim.Int 1) p (int 1))) ≡
    op.Load 0 ∷ op.Dup ∷ op.GetInt 4 ∷ op.Int (pos 1) ∷ op.IntAdd ∷ op.PutInt 4 ∷ op.Return ∷ []
adds_one p = refl

-- q = q && y < 3: a null on the right is true, so the value is turned twice
both : (p : Pointer) → code p (set p prim.Bool 7 (chain p (q p) (link.And (is p (y p) comparison.Less (int 3))))) ≡
    op.Load 0 ∷ op.Load 0 ∷ op.GetBool 43 ∷ op.JumpFalse 26
    ∷ op.Load 0 ∷ op.GetInt 4 ∷ op.Int (pos 3) ∷ op.IntLt ∷ op.Not ∷ op.Not ∷ op.Jump 28
    ∷ op.Bool 0 ∷ op.PutBool 43 ∷ op.Return ∷ []
both p = refl

-- q = q || q
either : (p : Pointer) → code p (set p prim.Bool 7 (chain p (q p) (link.Or (q p)))) ≡
    op.Load 0 ∷ op.Load 0 ∷ op.GetBool 43 ∷ op.JumpTrue 20
    ∷ op.Load 0 ∷ op.GetBool 43 ∷ op.Not ∷ op.Not ∷ op.Jump 22
    ∷ op.Bool 1 ∷ op.PutBool 43 ∷ op.Return ∷ []
either p = refl

-- y = q ? 1 : 2
chooses : (p : Pointer) → code p (set_y p (expr.Choose' p (q p) p (int 1) p (int 2))) ≡
    op.Load 0 ∷ op.Load 0 ∷ op.GetBool 43 ∷ op.JumpFalse 18 ∷ op.Int (pos 1) ∷ op.Jump 23 ∷ op.Int (pos 2)
    ∷ op.PutInt 4 ∷ op.Return ∷ []
chooses p = refl

-- y = 1 + m(2), of the place 1 in the table
calls : (p : Pointer) → code p (set_y p (chain p (int 1) (by arithmetic.Add (m_of p (int 2))))) ≡
    op.Load 0 ∷ op.Int (pos 1) ∷ op.Load 0 ∷ op.Int (pos 2) ∷ op.VirtualCall 5 1 ∷ op.IntAdd ∷ op.PutInt 4 ∷ op.Return ∷ []
calls p = refl

-- twice(1) as a statement, and super.m(1)
drops : (p : Pointer) → code p (stmt.Do (expr.Call' kind.Int 3 (one p) (more_of-Expr (int 1) end_of-Expr))) ≡
    op.Int (pos 1) ∷ op.Call 3 ∷ op.Pop ∷ op.Return ∷ []
drops p = refl

above : (p : Pointer) → code p (stmt.Do (expr.Super' kind.Int 2 (one p) (more_of-Expr (int 1) end_of-Expr))) ≡
    op.Load 0 ∷ op.Int (pos 1) ∷ op.Call 2 ∷ op.Pop ∷ op.Return ∷ []
above p = refl

-- y = s.length(), s.set(0, 65) and s.copyFromStr("abc"), which are void
lengths : (p : Pointer) → code p (set_y p (s_of (link.TextCall' text.Length (none p) end_of-Expr) p)) ≡
    op.Load 0 ∷ op.Load 0 ∷ op.Str 29 8 ∷ op.StrLen ∷ op.PutInt 4 ∷ op.Return ∷ []
lengths p = refl

sets : (p : Pointer) → code p (stmt.Do (s_of (link.TextCall' text.Set (two p) (more_of-Expr (int 0) (more_of-Expr (int 65) end_of-Expr))) p)) ≡
    op.Load 0 ∷ op.Str 29 8 ∷ op.Int (pos 0) ∷ op.Int (pos 65) ∷ op.StrSet ∷ op.Return ∷ []
sets p = refl

copies : (p : Pointer) → code p (stmt.Do (s_of (link.TextCall' text.Copy (one p) (more_of-Expr (expr.Text 0) end_of-Expr)) p)) ≡
    op.Load 0 ∷ op.Str 29 8 ∷ op.Text 0 ∷ op.StrCopy ∷ op.Return ∷ []
copies p = refl

-- q = g < 5L, and y = (byte) g
compares : (p : Pointer) → code p (set p prim.Bool 7 (chain p (g p) (link.Binary (binary.Compare comparison.Less width.Long) (expr.Long (pos 5))))) ≡
    op.Load 0 ∷ op.Load 0 ∷ op.GetLong 21 ∷ op.Long (pos 5) ∷ op.LongLt ∷ op.PutBool 43 ∷ op.Return ∷ []
compares p = refl

casts : (p : Pointer) → code p (set_y p (expr.Unary' (unary.LowByte width.Long) p (g p))) ≡
    op.Load 0 ∷ op.Load 0 ∷ op.GetLong 21 ∷ op.LongToInt ∷ op.IntToByte ∷ op.PutInt 4 ∷ op.Return ∷ []
casts p = refl

-- g = v++, where v is a static
static_before : (p : Pointer) → code p (set p prim.Long 4 (expr.Update' (update arithmetic.Add width.Long Old) (place.Static prim.Long 1) p (expr.Long (pos 1)))) ≡
    op.Load 0 ∷ op.Statics ∷ op.Dup ∷ op.GetLong 4 ∷ op.Store 3 ∷ op.Load 3 ∷ op.Long (pos 1) ∷ op.LongAdd ∷ op.PutLong 4
    ∷ op.Load 3 ∷ op.PutLong 21 ∷ op.Return ∷ []
static_before p = refl

-- y = f.size + f.bytes[0]
reads_buf : (p : Pointer) → code p (set_y p (chain p (chain p this (link.Size 6)) (by arithmetic.Add (chain p this (link.Byte 6 (int 0)))))) ≡
    op.Load 0 ∷ op.Load 0 ∷ op.BufSize 37 ∷ op.Load 0 ∷ op.Int (pos 0) ∷ op.BufGet 37 4 ∷ op.IntAdd ∷ op.PutInt 4 ∷ op.Return ∷ []
reads_buf p = refl

-- int m(int n) { return n + y }: behind the `return` nothing goes on, and the end of the method still answers 0
returns : (p : Pointer) → code_of (program p stmt.Empty) layout (m p) ≡
    op.Load 1 ∷ op.Load 0 ∷ op.GetInt 4 ∷ op.IntAdd ∷ op.ReturnValue ∷ op.Int (pos 0) ∷ op.ReturnValue ∷ []
returns p = refl
