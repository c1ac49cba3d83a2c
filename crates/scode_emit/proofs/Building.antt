-- A small program, for examples: the types of `sys`, and one class below `Component` with a field of each form.
use Rattle.std.proofs.Common.{pos, false, true, List, [], ◌∷◌, ◌++◌, map, replicate, slice_index, Some, None, Vec, Global, lit<, codes}
use Rattle.sed_value.specs.declared.value.Value.TheVariants as kept
use Rattle.sed_value.specs.declared.slot_type.Primitive.TheVariants as prim
use Rattle.sed_typed.specs.declared.kind.Kind.TheVariants as kind
use Rattle.sed_typed.specs.declared.program.Field.{Field}
use Rattle.sed_typed.specs.declared.program.FieldForm.TheVariants as form
use Rattle.sed_typed.specs.declared.program.Method.{Method}
use Rattle.sed_typed.specs.declared.program.Program.{Program}
use Rattle.sed_typed.specs.declared.operators.Arithmetic.{Arithmetic}
use Rattle.sed_typed.specs.declared.operators.Arithmetic.TheVariants as arithmetic
use Rattle.sed_typed.specs.declared.operators.Binary.TheVariants as binary
use Rattle.sed_typed.specs.declared.operators.Comparison.{Comparison}
use Rattle.sed_typed.specs.declared.operators.Comparison.TheVariants as comparison
use Rattle.sed_typed.specs.declared.operators.Gives.{Gives}
use Rattle.sed_typed.specs.declared.operators.Gives.TheVariants.{Old}
use Rattle.sed_typed.specs.declared.operators.Update.{Update}
use Rattle.sed_typed.specs.declared.operators.Width.{Width}
use Rattle.sed_typed.specs.declared.operators.Width.TheVariants as width
use Rattle.sed_typed.specs.declared.statement.Label.{Label}
use Rattle.sed_typed.specs.declared.statement.Label.TheVariants.{Case, Default}
use Rattle.sed_typed.specs.declared.statement.Stmt.{Stmt, end_of-Stmt, more_of-Stmt}
use Rattle.sed_typed.specs.declared.statement.Stmt.TheVariants as stmt
use Rattle.sed_typed.specs.declared.tree.Expr.{Expr, end_of-Expr, more_of-Expr}
use Rattle.sed_typed.specs.declared.tree.Expr.TheVariants as expr
use Rattle.sed_typed.specs.declared.tree.Link.{Link}
use Rattle.sed_typed.specs.declared.tree.Link.TheVariants as link
use Rattle.sed_typed.specs.declared.tree.Place.{Place}
use Rattle.sed_typed.specs.declared.tree.Place.TheVariants as place
use Rattle.scode_ops.specs.declared.op.Op.{Op}
use Rattle.sed_engine.proofs.Building.{Pointer, vec_of, one, three, chain, chain_of_two, by, this, own, int, y, set_y, block, block_of_three, field, class_info, execute, method_of, sys_classes}
use Rattle.sed_engine.proofs.Ramp.{nothing}
use Rattle.scode_emit.specs.Site.{Layout}
use Rattle.scode_emit.specs.Method.{code_of}

-- class 5: meta 0, int y 1, byte b 2, int[3] a 3, long g 4, Str(8) s 5, Buf(4) f 6, bool q 7
abbrev pub fields : List Field
fields =
    field 5 (form.Prim prim.Int) (kept.Int (pos 0))
    ∷ field 5 (form.Prim prim.Byte) (kept.Byte 0)
    ∷ field 5 (form.Array prim.Int 3) kept.Nothing
    ∷ field 5 (form.Prim prim.Long) (kept.Long (pos 0))
    ∷ field 5 (form.Str 8) kept.Nothing
    ∷ field 5 (form.Buf 4) (kept.Buf [])
    ∷ field 5 (form.Prim prim.Bool) (kept.Bool 0)
    ∷ []

-- int m(int n) { return n + y }, method 2, which is virtual, and static int twice(int n) { return n + n }, method 3
abbrev pub m : Pointer → Method
m p = method_of 5 (codes "m") (kind.Int ∷ []) kind.Int
    (stmt.Return (Some (chain p (expr.Local kind.Int 1) (by arithmetic.Add (y p)))))

abbrev pub twice : Pointer → Method
twice p = record (method_of 5 (codes "twice") (kind.Int ∷ []) kind.Int
    (stmt.Return (Some (chain p (expr.Local kind.Int 0) (by arithmetic.Add (expr.Local kind.Int 0)))))) { is_static = true; is_virtual = false }

-- the program with this body of `execute`, method 1. Statics: int u 0 and long v 1
abbrev pub program : Pointer → Stmt → Program
program p body = record {
  schema = record { kits = []; classes = sys_classes ++ class_info 1 0 (codes "A") (Some 2) true ∷ [] };
  methods = execute 2 (nothing p) ∷ execute 5 body ∷ m p ∷ twice p ∷ [];
  fields = field 2 (form.Prim prim.Int) (kept.Int (pos 0)) ∷ fields;
  statics = field 5 (form.Prim prim.Int) (kept.Int (pos 0)) ∷ field 5 (form.Prim prim.Long) (kept.Long (pos 0)) ∷ [];
  texts = codes "abc" ∷ [];
}

-- the offsets of the fields and the statics, and the places of methods in the table
abbrev pub layout : Layout
layout = record {
  offset = λ class i. slice_index (0 ∷ 4 ∷ 8 ∷ 9 ∷ 21 ∷ 29 ∷ 37 ∷ 43 ∷ []) i;
  room = λ class i. slice_index (0 ∷ 0 ∷ 0 ∷ 0 ∷ 0 ∷ 8 ∷ 4 ∷ 0 ∷ []) i;
  static_offset = λ i. slice_index (0 ∷ 4 ∷ []) i;
  static_room = λ i. 0;
  table_place = λ class method. slice_index (0 ∷ 0 ∷ 1 ∷ []) method;
}

-- the code of `execute`
abbrev pub code : Pointer → Stmt → List Op
code p body = code_of (program p body) layout (execute 5 body)

-- ---- bodies

abbrev pub b : Pointer → Expr
b p = own p prim.Byte 2

abbrev pub g : Pointer → Expr
g p = own p prim.Long 4

abbrev pub q : Pointer → Expr
q p = own p prim.Bool 7

abbrev pub a_at : Pointer → Expr → Place
a_at p i = place.Element' prim.Int 3 p this 3 p i

abbrev pub s_of : Link → Pointer → Expr
s_of l p = chain_of_two p this (link.Part kind.Text 5) l

abbrev pub update : Arithmetic → Width → Gives → Update
update a w g = record { arithmetic = a; width = w; gives = g }

abbrev pub is : Pointer → Expr → Comparison → Expr → Expr
is p a c n = chain p a (link.Binary (binary.Compare c width.Int) n)

abbrev pub m_of : Pointer → Expr → Expr
m_of p n = chain p this (link.Invoke' kind.Int 2 (one p) (more_of-Expr n end_of-Expr))

abbrev pub labelled : Pointer → Label → Label → Label → Vec Label Global
labelled p a b c = vec_of p (a ∷ b ∷ c ∷ []) (lit< tt)

-- while (y < 3) { y = y + 1; if (y == 1) continue; break }
abbrev pub looping : Pointer → Stmt
looping p =
    stmt.While' (is p (y p) comparison.Less (int 3)) p
    (block_of_three p (set_y p (chain p (y p) (by arithmetic.Add (int 1))))
    (stmt.If' (is p (y p) comparison.Equal (int 1)) p stmt.Continue p stmt.Empty) stmt.Break)

-- switch (n) { case 1: y = 10; default: y = 20; break; case 3: y = 30 }
abbrev pub switching : Pointer → Expr → Stmt
switching p n =
    stmt.Switch' n (labelled p (Case (pos 1)) Default (Case (pos 3))) (three p)
    (more_of-Stmt (set_y p (int 10)) (more_of-Stmt (block p (set_y p (int 20)) stmt.Break) (more_of-Stmt (set_y p (int 30)) end_of-Stmt)))

-- for (int i = 0; ; i++) if (i == 4) break
abbrev pub counting : Pointer → Stmt
counting p =
    let i : Expr = expr.Local kind.Int 1 in
    stmt.For' p (stmt.Local kind.Int 1 (Some (int 0))) None
    (Some (expr.Update' (update arithmetic.Add width.Int Old) (place.Local kind.Int 1) p (int 1))) p
    (stmt.If' (is p i comparison.Equal (int 4)) p stmt.Break p stmt.Empty)
