-- What the definitions presume of a tree: small programs that are not typed, each of which ends by trap 0 where it asks
-- for what only a typed program has, and has written nothing by then.
use Rattle.std.proofs.Common.{◌≡◌, ◌^◌, pos, [], ◌∷◌, None, Some, codes, true, false, refl}
use Rattle.sed_value.specs.declared.slot_type.Primitive.TheVariants as prim
use Rattle.sed_typed.specs.declared.kind.Kind.TheVariants as kind
use Rattle.sed_typed.specs.declared.operators.Arithmetic.TheVariants as op
use Rattle.sed_typed.specs.declared.operators.Binary.TheVariants as binary
use Rattle.sed_typed.specs.declared.operators.TextCall.TheVariants as text
use Rattle.sed_typed.specs.declared.program.Method.{Method}
use Rattle.sed_typed.specs.declared.statement.Stmt.{Stmt}
use Rattle.sed_typed.specs.declared.statement.Stmt.TheVariants as stmt
use Rattle.sed_typed.specs.declared.tree.Expr.{Expr, end_of-Expr}
use Rattle.sed_typed.specs.declared.tree.Expr.TheVariants as expr
use Rattle.sed_typed.specs.declared.tree.Link.TheVariants as link
use Rattle.sed_engine.specs.Root.{calls_with}
use Rattle.sed_engine.proofs.Building.{Pointer, none, int, chain, by, this, own, set_y, int_field, class_info, program_of, simple, method, method_of, execute, run, outcome, trapped}

-- `execute` of a class with the int property y, which is not typed
abbrev body_goes_wrong : Pointer → Stmt → Type 0
body_goes_wrong p body = outcome (run (simple (int_field ∷ []) body) 10) (1 ∷ []) ≡ trapped 0 (0 ∷ [])

-- y = e
abbrev goes_wrong : Pointer → Expr → Type 0
goes_wrong p e = body_goes_wrong p (set_y p e)

-- ---- kinds of operands

-- true + 1
bool_operand : (p : Pointer) → goes_wrong p (chain p (expr.Bool 1) (by op.Add (int 1)))
unfolding calls_with
bool_operand p = refl

-- 1 + a long, without a cast
long_operand : (p : Pointer) → goes_wrong p (chain p (int 1) (by op.Add (expr.Long (pos 1))))
unfolding calls_with
long_operand p = refl

-- 1 ? 2 : 3
int_condition : (p : Pointer) → goes_wrong p (expr.Choose' p (int 1) p (int 2) p (int 3))
unfolding calls_with
int_condition p = refl

-- a comparison of references with a number on the right
int_reference : (p : Pointer) → goes_wrong p (chain p this (link.Binary binary.SameReference (int 1)))
unfolding calls_with
int_reference p = refl

-- (1).f
int_object : (p : Pointer) → goes_wrong p (chain p (int 1) (link.Field prim.Int 1))
unfolding calls_with
int_object p = refl

-- (1).a[0], of an array
int_owner : (p : Pointer) → body_goes_wrong p (stmt.Do (chain p (int 1) (link.Element prim.Int 3 2 (int 0))))
unfolding calls_with
int_owner p = refl

-- ---- what is kept

-- y = true
bool_stored : (p : Pointer) → goes_wrong p (expr.Bool 1)
unfolding calls_with
bool_stored p = refl

-- y = 2147483648, as an int
wide_stored : (p : Pointer) → goes_wrong p (int (2 ^ 31))
unfolding calls_with
wide_stored p = refl

-- a field that the class has not
no_field : (p : Pointer) → goes_wrong p (own p prim.Int 9)
unfolding calls_with
no_field p = refl

-- an int field as a Str
int_text : (p : Pointer) → goes_wrong p (chain p (chain p this (link.Part kind.Text 1)) (link.TextCall' text.Length (none p) end_of-Expr))
unfolding calls_with
int_text p = refl

-- a part that is not there: a Str where an int stands, an object there, and an int, which is no part; and so of the statics
no_text_part : (p : Pointer) → body_goes_wrong p (stmt.Do (chain p this (link.Part kind.Text 1)))
unfolding calls_with
no_text_part p = refl

no_object_part : (p : Pointer) → body_goes_wrong p (stmt.Do (chain p this (link.Part (kind.Object (record { 0 = 5 })) 1)))
unfolding calls_with
no_object_part p = refl

no_int_part : (p : Pointer) → body_goes_wrong p (stmt.Do (chain p this (link.Part kind.Int 1)))
unfolding calls_with
no_int_part p = refl

no_static_text : (p : Pointer) → body_goes_wrong p (stmt.Do (expr.StaticPart kind.Text 0))
unfolding calls_with
no_static_text p = refl

no_static_object : (p : Pointer) → body_goes_wrong p (stmt.Do (expr.StaticPart (kind.Object (record { 0 = 5 })) 0))
unfolding calls_with
no_static_object p = refl

-- a text that the program has not
no_text : (p : Pointer) → goes_wrong p (chain p (expr.Text 1) (link.TextCall' text.Length (none p) end_of-Expr))
unfolding calls_with
no_text p = refl

-- ---- locals

-- a local that the frame has not
no_local : (p : Pointer) → goes_wrong p (expr.Local kind.Int 65)
unfolding calls_with
no_local p = refl

no_local_set : (p : Pointer) → body_goes_wrong p (stmt.Local kind.Int 65 (Some (int 1)))
unfolding calls_with
no_local_set p = refl

-- ---- calls and their ends

-- class 5 with these methods besides `execute`, which assigns to y what a call gives
abbrev call_goes_wrong : Pointer → Expr → Method → Type 0
call_goes_wrong p call m =
    outcome (run (program_of (class_info 1 0 (codes "A") (Some 2) true ∷ []) (int_field ∷ []) (execute 5 (set_y p call) ∷ m ∷ [])) 10) (1 ∷ []) ≡ trapped 0 (0 ∷ [])

-- int f(int n) { return n }, method 1
abbrev same : Method
same = method_of 5 (codes "f") (kind.Int ∷ []) kind.Int (stmt.Return (Some (expr.Local kind.Int 1)))

no_method : (p : Pointer) → call_goes_wrong p (chain p this (link.Invoke' kind.Int 2 (none p) end_of-Expr)) same
unfolding calls_with
no_method p = refl

-- abstract int f()
abbrev bodiless : Method
bodiless = record { class = record { 0 = 5 }; name = codes "f"; is_static = false; is_virtual = true; params = []; result = kind.Int; body = None }

no_body : (p : Pointer) → call_goes_wrong p (chain p this (link.Invoke' kind.Int 1 (none p) end_of-Expr)) bodiless
unfolding calls_with
no_body p = refl

-- static int f() { return this }
abbrev selfless : Method
selfless = record { class = record { 0 = 5 }; name = codes "f"; is_static = true; is_virtual = false; params = []; result = kind.Int; body = Some (stmt.Return (Some this)) }

no_self : (p : Pointer) → call_goes_wrong p (expr.Call' kind.Int 1 (none p) end_of-Expr) selfless
unfolding calls_with
no_self p = refl

-- void f() { return }, whose value is assigned
no_value : (p : Pointer) → call_goes_wrong p (chain p this (link.Invoke' kind.Int 1 (none p) end_of-Expr)) (method 5 (codes "f") kind.Void (stmt.Return None))
unfolding calls_with
no_value p = refl

-- a body that is `break`
loose_break : (p : Pointer) → body_goes_wrong p stmt.Break
unfolding calls_with
loose_break p = refl

-- a component without `execute`
no_execute : (p : Pointer) → outcome (run (program_of (class_info 1 0 (codes "A") (Some 2) true ∷ []) (int_field ∷ []) (same ∷ [])) 10) (1 ∷ []) ≡ trapped 0 (0 ∷ [])
unfolding calls_with
no_execute p = refl
