-- The code of further forms, worked out by hand from the table of instructions: a choice among operands, static arrays,
-- objects inside others, Bufs, members through an instance, `super`, choices without a value, ints that are widened.
use Rattle.std.proofs.Common.{◌≡◌, ℕ, ◌==◌, if◌then◌else◌, true, false, pos, List, [], ◌∷◌, ◌++◌, slice_index, Some, None, lit<, refl, codes}
use Rattle.sed_value.specs.declared.slot_type.Primitive.TheVariants as prim
use Rattle.sed_value.specs.declared.value.Value.TheVariants as kept
use Rattle.sed_typed.specs.declared.kind.Kind.{Kind}
use Rattle.sed_typed.specs.declared.kind.Kind.TheVariants as kind
use Rattle.sed_typed.specs.declared.operators.Arithmetic.TheVariants as arithmetic
use Rattle.sed_typed.specs.declared.operators.Comparison.TheVariants as comparison
use Rattle.sed_typed.specs.declared.operators.Gives.TheVariants.{Old, New}
use Rattle.sed_typed.specs.declared.operators.TextCall.TheVariants as text
use Rattle.sed_typed.specs.declared.operators.Unary.TheVariants as unary
use Rattle.sed_typed.specs.declared.operators.Width.TheVariants as width
use Rattle.sed_typed.specs.declared.program.FieldForm.TheVariants as form
use Rattle.sed_typed.specs.declared.program.Program.{Program}
use Rattle.sed_typed.specs.declared.statement.Label.TheVariants.{Case, Default}
use Rattle.sed_typed.specs.declared.statement.Stmt.{Stmt, end_of-Stmt, more_of-Stmt}
use Rattle.sed_typed.specs.declared.statement.Stmt.TheVariants as stmt
use Rattle.sed_typed.specs.declared.tree.Expr.{Expr, end_of-Expr, more_of-Expr, end_of-Link, more_of-Link}
use Rattle.sed_typed.specs.declared.tree.Expr.TheVariants as expr
use Rattle.sed_typed.specs.declared.tree.Link.TheVariants as link
use Rattle.sed_typed.specs.declared.tree.Place.{Place}
use Rattle.sed_typed.specs.declared.tree.Place.TheVariants as place
use Rattle.sed_engine.proofs.Building.{Pointer, vec_of, one, two, block, chain, chain_of_two, by, int, this, set, set_y, y, field, class_info, execute, sys_classes}
use Rattle.scode_ops.specs.declared.op.Op.{Op}
use Rattle.scode_ops.specs.declared.op.Op.TheVariants as op
use Rattle.scode_emit.proofs.Building.{fields, m, twice, q, a_at, s_of, update, is}
use Rattle.scode_emit.specs.Site.{Layout}
use Rattle.scode_emit.specs.Method.{code_of}

-- Class 5 with one field more, an object c of class 6, which has an int x and byte[2] d. Statics: int u 0, long v 1,
-- int[4] w 2, an object o of class 6, 3.
abbrev point : Kind
point = kind.Object (record { 0 = 6 })

abbrev pub program : Pointer → Stmt → Program
program p body = record {
  schema = record { kits = []; classes = sys_classes ++ class_info 1 0 (codes "A") (Some 2) true ∷ class_info 1 1 (codes "P") (Some 0) false ∷ [] };
  methods = execute 2 stmt.Empty ∷ execute 5 body ∷ m p ∷ twice p ∷ [];
  fields = field 2 (form.Prim prim.Int) (kept.Int (pos 0)) ∷ fields
      ++ field 5 (form.Object (record { 0 = 6 })) kept.Nothing ∷ field 6 (form.Prim prim.Int) (kept.Int (pos 0)) ∷ field 6 (form.Array prim.Byte 2) kept.Nothing ∷ [];
  statics = field 5 (form.Prim prim.Int) (kept.Int (pos 0)) ∷ field 5 (form.Prim prim.Long) (kept.Long (pos 0))
      ∷ field 5 (form.Array prim.Int 4) kept.Nothing ∷ field 5 (form.Object (record { 0 = 6 })) kept.Nothing ∷ [];
  texts = codes "abc" ∷ [];
}

-- of class 6, or of class 5
abbrev offsets : List ℕ → List ℕ → ℕ → List ℕ
offsets of_a of_p class = if class == 6 then of_p else of_a

abbrev pub layout : Layout
layout = record {
  offset = λ class i. slice_index (offsets (0 ∷ 4 ∷ 8 ∷ 9 ∷ 21 ∷ 29 ∷ 37 ∷ 43 ∷ 44 ∷ []) (0 ∷ 4 ∷ []) class) i;
  room = λ class i. slice_index (offsets (0 ∷ 0 ∷ 0 ∷ 0 ∷ 0 ∷ 8 ∷ 4 ∷ 0 ∷ 0 ∷ []) (0 ∷ 0 ∷ []) class) i;
  static_offset = λ i. slice_index (0 ∷ 4 ∷ 12 ∷ 28 ∷ []) i;
  static_room = λ i. 0;
  table_place = λ class method. slice_index (0 ∷ 0 ∷ 1 ∷ []) method;
}

abbrev pub code : Pointer → Stmt → List Op
code p body = code_of (program p body) layout (execute 5 body)

-- ---- bodies

-- q ? 1 : 2
abbrev pub either : Pointer → Expr
either p = expr.Choose' p (q p) p (int 1) p (int 2)

-- a[1] = (q ? 1 : 2)
abbrev pub element_chosen : Pointer → Stmt
element_chosen p = stmt.Do (expr.Set' (a_at p (int 1)) p (either p))

-- a[1] += (q ? 1 : 2)
abbrev pub element_added : Pointer → Stmt
element_added p = stmt.Do (expr.Update' (update arithmetic.Add width.Int New) (a_at p (int 1)) p (either p))

-- A t; while (q) { t = this; t = null }
abbrev a : Kind
a = kind.Object (record { 0 = 5 })

abbrev pub references : Pointer → Stmt
references p =
    block p (stmt.Local a 1 None)
    (stmt.While' (q p) p
    (block p (stmt.Do (expr.Set' (place.Local a 1) p this)) (stmt.Do (expr.Set' (place.Local a 1) p (expr.Null a)))))

-- do { if (q) continue; y = 1 } while (y < 3)
abbrev pub skipping : Pointer → Stmt
skipping p =
    stmt.DoWhile' p (block p (stmt.If' (q p) p stmt.Continue p stmt.Empty) (set_y p (int 1))) (is p (y p) comparison.Less (int 3))

-- for (int i = 0; i < 3; i++) { switch (i) { case 1: continue; default: break } y = i }
abbrev pub passing : Pointer → Stmt
passing p =
    let i : Expr = expr.Local kind.Int 1 in
    stmt.For' p (stmt.Local kind.Int 1 (Some (int 0))) (Some (is p i comparison.Less (int 3)))
    (Some (expr.Update' (update arithmetic.Add width.Int Old) (place.Local kind.Int 1) p (int 1))) p
    (block p
    (stmt.Switch' i (vec_of p (Case (pos 1) ∷ Default ∷ []) (lit< tt)) (two p) (more_of-Stmt stmt.Continue (more_of-Stmt stmt.Break end_of-Stmt)))
    (set_y p i))

-- y = super.m(q ? 1 : 2)
abbrev pub supers : Pointer → Stmt
supers p = set_y p (expr.Super' kind.Int 2 (one p) (more_of-Expr (either p) end_of-Expr))

-- q ? s.set(0, 65) : s.copyFromStr("abc"), neither of which has a value
abbrev pub void_chosen : Pointer → Stmt
void_chosen p =
    stmt.Do (expr.Choose' p (q p)
    p (s_of (link.TextCall' text.Set (two p) (more_of-Expr (int 0) (more_of-Expr (int 65) end_of-Expr))) p)
    p (s_of (link.TextCall' text.Copy (one p) (more_of-Expr (expr.Text 0) end_of-Expr)) p))

-- w[i], where w is a static
abbrev w_at : Pointer → Expr → Place
w_at p i = place.StaticElement' prim.Int 4 2 p i

-- ---- their code

element_chosen_code : (p : Pointer) → code p (element_chosen p) ≡
    op.Load 0 ∷ op.Int (pos 1)
    ∷ op.Load 0 ∷ op.GetBool 43 ∷ op.JumpFalse 23 ∷ op.Int (pos 1) ∷ op.Jump 28 ∷ op.Int (pos 2)
    ∷ op.ArrayPutInt 9 3 ∷ op.Return ∷ []
element_chosen_code p = refl

-- object, index and the value before are on the stack while the operand is chosen
element_added_code : (p : Pointer) → code p (element_added p) ≡
    op.Load 0 ∷ op.Int (pos 1)
    ∷ op.Store 4 ∷ op.Dup ∷ op.Load 4 ∷ op.ArrayGetInt 9 3 ∷ op.Store 2 ∷ op.Load 4 ∷ op.Load 2
    ∷ op.Load 0 ∷ op.GetBool 43 ∷ op.JumpFalse 39 ∷ op.Int (pos 1) ∷ op.Jump 44 ∷ op.Int (pos 2)
    ∷ op.IntAdd ∷ op.ArrayPutInt 9 3 ∷ op.Return ∷ []
element_added_code p = refl

references_code : (p : Pointer) → code p (references p) ≡
    op.Null ∷ op.Store 1
    ∷ op.Jump 14 ∷ op.Turn ∷ op.Load 0 ∷ op.Store 1 ∷ op.Null ∷ op.Store 1
    ∷ op.Load 0 ∷ op.GetBool 43 ∷ op.JumpTrue 6
    ∷ op.Return ∷ []
references_code p = refl

skipping_code : (p : Pointer) → code p (skipping p) ≡
    op.Turn ∷ op.Load 0 ∷ op.GetBool 43 ∷ op.JumpFalse 12 ∷ op.Jump 22
    ∷ op.Load 0 ∷ op.Int (pos 1) ∷ op.PutInt 4
    ∷ op.Load 0 ∷ op.GetInt 4 ∷ op.Int (pos 3) ∷ op.IntLt ∷ op.JumpTrue 0
    ∷ op.Return ∷ []
skipping_code p = refl

-- `continue` goes to the last part of the `for`, `break` behind the `switch`; the value that is compared waits in local 3
passing_code : (p : Pointer) → code p (passing p) ≡
    op.Int (pos 0) ∷ op.Store 1 ∷ op.Jump 52 ∷ op.Turn
    ∷ op.Load 1 ∷ op.Store 3 ∷ op.Load 3 ∷ op.Int (pos 1) ∷ op.IntEq ∷ op.JumpTrue 29 ∷ op.Jump 32
    ∷ op.Jump 42 ∷ op.Jump 35
    ∷ op.Load 0 ∷ op.Load 1 ∷ op.PutInt 4
    ∷ op.Load 1 ∷ op.Int (pos 1) ∷ op.IntAdd ∷ op.Store 1
    ∷ op.Load 1 ∷ op.Int (pos 3) ∷ op.IntLt ∷ op.JumpTrue 10
    ∷ op.Return ∷ []
passing_code p = refl

supers_code : (p : Pointer) → code p (supers p) ≡
    op.Load 0 ∷ op.Load 0
    ∷ op.Load 0 ∷ op.GetBool 43 ∷ op.JumpFalse 20 ∷ op.Int (pos 1) ∷ op.Jump 25 ∷ op.Int (pos 2)
    ∷ op.Call 2 ∷ op.PutInt 4 ∷ op.Return ∷ []
supers_code p = refl

-- there is nothing to take off
void_chosen_code : (p : Pointer) → code p (void_chosen p) ≡
    op.Load 0 ∷ op.GetBool 43 ∷ op.JumpFalse 29
    ∷ op.Load 0 ∷ op.Str 29 8 ∷ op.Int (pos 0) ∷ op.Int (pos 65) ∷ op.StrSet ∷ op.Jump 40
    ∷ op.Load 0 ∷ op.Str 29 8 ∷ op.Text 0 ∷ op.StrCopy
    ∷ op.Return ∷ []
void_chosen_code p = refl

-- w[u] = w[1] + 2
static_elements : (p : Pointer) →
    code p (stmt.Do (expr.Set' (w_at p (expr.Static prim.Int 0)) p (chain p (expr.StaticElement' prim.Int 4 2 p (int 1)) (by arithmetic.Add (int 2))))) ≡
    op.Statics ∷ op.Statics ∷ op.GetInt 0
    ∷ op.Statics ∷ op.Int (pos 1) ∷ op.ArrayGetInt 12 4 ∷ op.Int (pos 2) ∷ op.IntAdd
    ∷ op.ArrayPutInt 12 4 ∷ op.Return ∷ []
static_elements p = refl

-- y = w[1]--
static_element_before : (p : Pointer) →
    code p (set_y p (expr.Update' (update arithmetic.Subtract width.Int Old) (w_at p (int 1)) p (int 1))) ≡
    op.Load 0 ∷ op.Statics ∷ op.Int (pos 1)
    ∷ op.Store 4 ∷ op.Dup ∷ op.Load 4 ∷ op.ArrayGetInt 12 4 ∷ op.Store 2 ∷ op.Load 4 ∷ op.Load 2
    ∷ op.Int (pos 1) ∷ op.IntSub ∷ op.ArrayPutInt 12 4 ∷ op.Load 2
    ∷ op.PutInt 4 ∷ op.Return ∷ []
static_element_before p = refl

-- c.x = o.x + c.d[0]
inner_objects : (p : Pointer) →
    code p (stmt.Do (expr.Set' (place.Field' prim.Int p (chain p this (link.Part point 8)) 0) p
    (expr.Chain' p (expr.StaticPart point 3) (two p)
    (more_of-Link (link.Field prim.Int 0)
    (more_of-Link (by arithmetic.Add (chain_of_two p this (link.Part point 8) (link.Element prim.Byte 2 1 (int 0)))) end_of-Link))))) ≡
    op.Load 0 ∷ op.Inner 44 6
    ∷ op.Statics ∷ op.Inner 28 6 ∷ op.GetInt 0
    ∷ op.Load 0 ∷ op.Inner 44 6 ∷ op.Int (pos 0) ∷ op.ArrayGetByte 4 2 ∷ op.IntAdd
    ∷ op.PutInt 0 ∷ op.Return ∷ []
inner_objects p = refl

-- y = f.bytes[f.size - 1]
last_byte : (p : Pointer) →
    code p (set_y p (chain p this (link.Byte 6 (chain_of_two p this (link.Size 6) (by arithmetic.Subtract (int 1)))))) ≡
    op.Load 0 ∷ op.Load 0
    ∷ op.Load 0 ∷ op.BufSize 37 ∷ op.Int (pos 1) ∷ op.IntSub
    ∷ op.BufGet 37 4 ∷ op.PutInt 4 ∷ op.Return ∷ []
last_byte p = refl

-- y = (q ? this : null).u and y = this.twice(3): the value before the member is taken off
static_through_value : (p : Pointer) →
    code p (set_y p (chain p (expr.Choose' p (q p) p this p (expr.Null a)) (link.After (expr.Static prim.Int 0)))) ≡
    op.Load 0 ∷ op.Load 0 ∷ op.GetBool 43 ∷ op.JumpFalse 15 ∷ op.Load 0 ∷ op.Jump 16 ∷ op.Null
    ∷ op.Pop ∷ op.Statics ∷ op.GetInt 0 ∷ op.PutInt 4 ∷ op.Return ∷ []
static_through_value p = refl

call_through_value : (p : Pointer) →
    code p (set_y p (chain p this (link.After (expr.Call' kind.Int 3 (one p) (more_of-Expr (int 3) end_of-Expr))))) ≡
    op.Load 0 ∷ op.Load 0 ∷ op.Pop ∷ op.Int (pos 3) ∷ op.Call 3 ∷ op.PutInt 4 ∷ op.Return ∷ []
call_through_value p = refl

-- g = y and g += y, where g is a long
widened : (p : Pointer) → code p (set p prim.Long 4 (expr.Unary' unary.ToLong p (y p))) ≡
    op.Load 0 ∷ op.Load 0 ∷ op.GetInt 4 ∷ op.IntToLong ∷ op.PutLong 21 ∷ op.Return ∷ []
widened p = refl

widened_operand : (p : Pointer) →
    code p (stmt.Do (expr.Update' (update arithmetic.Add width.Long New) (place.Field' prim.Long p this 4) p (expr.Unary' unary.ToLong p (y p)))) ≡
    op.Load 0 ∷ op.Dup ∷ op.GetLong 21 ∷ op.Load 0 ∷ op.GetInt 4 ∷ op.IntToLong ∷ op.LongAdd ∷ op.PutLong 21 ∷ op.Return ∷ []
widened_operand p = refl
