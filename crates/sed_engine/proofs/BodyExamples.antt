-- Bodies: how deep and how high small trees are, which locals they declare, and which bodies a typed program may have.
use Rattle.std.proofs.Common.{◌≡◌, ◌≢◌, ◌≤◌, ◌<◌, ℕ, zero, suc, false, [], ◌∷◌, Some, None, codes, refl, lit<, lit≤, arith}
use Rattle.sed_value.specs.declared.slot_type.Primitive.TheVariants as prim
use Rattle.sed_typed.specs.declared.kind.Kind.{Kind}
use Rattle.sed_typed.specs.declared.kind.Kind.TheVariants as kind
use Rattle.sed_typed.specs.declared.operators.Arithmetic.TheVariants as op
use Rattle.sed_typed.specs.declared.operators.Unary.TheVariants as unary
use Rattle.sed_typed.specs.declared.operators.Width.TheVariants as width
use Rattle.sed_typed.specs.declared.program.Method.{Method}
use Rattle.sed_typed.specs.declared.statement.Stmt.{Stmt, end_of-Stmt, more_of-Stmt}
use Rattle.sed_typed.specs.declared.statement.Stmt.TheVariants as stmt
use Rattle.sed_typed.specs.declared.tree.Expr.{Expr, end_of-Expr, more_of-Expr}
use Rattle.sed_typed.specs.declared.tree.Expr.TheVariants as expr
use Rattle.sed_typed.specs.declared.tree.Link.TheVariants as link
use Rattle.sed_typed.specs.declared.tree.Place.TheVariants as place
use Rattle.sed_typed.specs.Depth.{depth_of, place_depth, stmt_depth}
use Rattle.sed_typed.specs.Height.{height_of, place_height, stmt_height}
use Rattle.sed_typed.specs.Typed.{IsBody, IsMethod, IsStorable, locals_of}
use Rattle.sed_typed.specs.TypedExpr.{Context}
use Rattle.sed_typed.specs.TypedStmt.{Around, IsStmt}
use Rattle.sed_engine.proofs.Building.{Pointer, one, int, chain, chain_of_two, by, this, y, y_is, block_of_three, method_of}
use Rattle.sed_engine.proofs.MemberNames.{all_of}
use Rattle.sed_engine.proofs.Ramp.{nothing, void_method, ramp}

-- in an instance method of the ramp
abbrev in_ramp : Pointer → Context
in_ramp p = record { program = ramp p; class = 5; is_static = false; locals = kind.Object (record { 0 = 5 }) ∷ []; result = kind.Void }

-- ---- depths

-- -(-1), y = (y = 1), f(1), true ? 1 : 1: one for each; a chain nests no deeper than its deepest operand
negated : (p : Pointer) → depth_of (expr.Unary' (unary.Negate width.Int) p (expr.Unary' (unary.Negate width.Int) p (int 1))) ≡ 2
negated p = refl

assigned : (p : Pointer) → depth_of (y_is p 1) ≡ 1
assigned p = refl

called : (p : Pointer) → depth_of (expr.Call' kind.Int 0 (one p) (more_of-Expr (int 1) end_of-Expr)) ≡ 1
called p = refl

chosen : (p : Pointer) → depth_of (expr.Choose' p (expr.Bool 1) p (int 1) p (y_is p 1)) ≡ 2
chosen p = refl

added : (p : Pointer) → depth_of (chain p (y p) (by op.Add (y_is p 1))) ≡ 1
added p = refl

-- this.a[y], A.a[y] and this.b.bytes[y] read, and this.a[y] and A.a[y] assigned to: the brackets are one
element_depth : (p : Pointer) → depth_of (chain p this (link.Element prim.Int 3 2 (y p))) ≡ 1
element_depth p = refl

static_element_depth : (p : Pointer) → depth_of (expr.StaticElement' prim.Int 3 0 p (y p)) ≡ 1
static_element_depth p = refl

byte_depth : (p : Pointer) → depth_of (chain p this (link.Byte 3 (y p))) ≡ 1
byte_depth p = refl

element_place_depth : (p : Pointer) → place_depth (place.Element' prim.Int 3 p this 2 p (y p)) ≡ 1
element_place_depth p = refl

static_place_depth : (p : Pointer) → place_depth (place.StaticElement' prim.Int 3 0 p (y p)) ≡ 1
static_place_depth p = refl

looped : (p : Pointer) → stmt_depth (stmt.While' (expr.Bool 1) p (stmt.If' (expr.Bool 1) p stmt.Break p stmt.Empty)) ≡ 2
looped p = refl

-- blocks one in the other, of which the innermost is empty and opens nothing
blocks : ℕ → Pointer → Stmt
blocks zero p = nothing p
blocks (suc n) p = stmt.Block' (one p) (more_of-Stmt (blocks n p) end_of-Stmt)

empty_block : (p : Pointer) → stmt_depth (nothing p) ≡ 0
empty_block p = refl

blocks_are_statements : (n : ℕ) (p : Pointer) (c : Context) (around : Around) → IsStmt c around (blocks n p)
unfolding blocks
blocks_are_statements zero p c around = tt
blocks_are_statements (suc n) p c around = (blocks_are_statements n p c around, tt)

-- a method's body with 65 blocks one in the other
blocks_are_typed : (p : Pointer) → IsBody (ramp p) (void_method 5 (codes "f") (blocks 65 p)) (blocks 65 p)
unfolding blocks
blocks_are_typed p = record {
  storable = all_of (IsStorable (ramp p)) (kind.Object (record { 0 = 5 }) ∷ []) (lit< tt, tt);
  numbered = tt;
  most_locals = lit≤ tt;
  typed = blocks_are_statements 65 p (in_ramp p) (record { breaks = false; continues = false });
  depth = lit≤ tt;
}

one_block_more : (p : Pointer) → IsBody (ramp p) (void_method 5 (codes "f") (blocks 66 p)) (blocks 66 p) → ⊥
unfolding blocks
one_block_more p is = let most : 65 ≤ 64 = is.depth in omega (arith, most)

-- ---- heights

-- a chain is one higher than its head and its operands, an assignment than its place and its value
chain_height : (p : Pointer) → height_of (chain_of_two p (int 1) (by op.Add (int 2)) (by op.Add (int 3))) ≡ 2
chain_height p = refl

operand_height : (p : Pointer) → height_of (chain p (int 1) (by op.Add (chain p (int 2) (by op.Multiply (int 3))))) ≡ 3
operand_height p = refl

assigned_height : (p : Pointer) → height_of (y_is p 1) ≡ 2
assigned_height p = refl

-- this.a[y], A.a[y] and this.b.bytes[y]; f(y); true ? 1 : y; this.o.y = 1; and this.a[y] and A.a[y] as places
element_height : (p : Pointer) → height_of (chain p this (link.Element prim.Int 3 2 (y p))) ≡ 3
element_height p = refl

static_element_height : (p : Pointer) → height_of (expr.StaticElement' prim.Int 3 0 p (y p)) ≡ 3
static_element_height p = refl

byte_height : (p : Pointer) → height_of (chain p this (link.Byte 3 (y p))) ≡ 3
byte_height p = refl

argument_height : (p : Pointer) → height_of (expr.Call' kind.Int 0 (one p) (more_of-Expr (y p) end_of-Expr)) ≡ 3
argument_height p = refl

branch_height : (p : Pointer) → height_of (expr.Choose' p (expr.Bool 1) p (int 1) p (y p)) ≡ 3
branch_height p = refl

place_is_as_high : (p : Pointer) → height_of (expr.Set' (place.Field' prim.Int p (chain p this (link.Part (kind.Object (record { 0 = 5 })) 2)) 1) p (int 1)) ≡ 3
place_is_as_high p = refl

element_place_height : (p : Pointer) → place_height (place.Element' prim.Int 3 p this 2 p (y p)) ≡ 2
element_place_height p = refl

static_place_height : (p : Pointer) → place_height (place.StaticElement' prim.Int 3 0 p (y p)) ≡ 2
static_place_height p = refl

loop_height : (p : Pointer) → stmt_height (stmt.While' (expr.Bool 1) p (stmt.If' (expr.Bool 1) p stmt.Break p stmt.Empty)) ≡ 3
loop_height p = refl

-- a head of a head of a head: nothing nests, however high the tree is
heads : ℕ → Pointer → Expr
heads zero p = int 1
heads (suc n) p = chain p (heads n p) (by op.Add (int 1))

heads_nest_nowhere : (p : Pointer) → depth_of (heads 2080 p) ≡ 0
unfolding heads
heads_nest_nowhere p = refl

-- ---- locals

-- { long a; for (int b = 1; ; ) { Str c }  { bool d } } of an instance method with one parameter
declaring : ℕ → Pointer → Stmt
declaring first p =
    block_of_three p
    (stmt.Local kind.Long first None)
    (stmt.For' p (stmt.Local kind.Int 3 (Some (int 1))) None None p (stmt.Block' (one p) (more_of-Stmt (stmt.Local kind.Text 4 None) end_of-Stmt)))
    (stmt.Block' (one p) (more_of-Stmt (stmt.Local kind.Bool 5 None) end_of-Stmt))

declaring_method : ℕ → Pointer → Method
declaring_method first p = method_of 5 (codes "f") (kind.Int ∷ []) kind.Void (declaring first p)

locals_are : (p : Pointer) → locals_of (declaring_method 2 p) ≡ kind.Object (record { 0 = 5 }) ∷ kind.Int ∷ kind.Long ∷ kind.Int ∷ kind.Text ∷ kind.Bool ∷ []
unfolding declaring declaring_method
locals_are p = refl

declaring_is_typed : (p : Pointer) → IsBody (ramp p) (declaring_method 2 p) (declaring 2 p)
unfolding declaring declaring_method
declaring_is_typed p = record {
  storable = all_of (IsStorable (ramp p)) (locals_of (declaring_method 2 p)) (lit< tt, (tt, (tt, (tt, (tt, (tt, tt))))));
  numbered = (refl, (refl, (refl, (refl, tt))));
  most_locals = lit≤ tt;
  typed = ((refl, tt, omits), ((tt, (refl, (refl, refl), omits), tt, tt, ((refl, tt, omits), tt)), (((refl, tt, omits), tt), tt)));
  depth = lit≤ tt;
}
  where
    omits : {n : ℕ} → false ≡ false → suc n ≢ 0
    omits e same = omega (arith, same)

-- a local that has the number of another
number_twice : (p : Pointer) → IsBody (ramp p) (declaring_method 3 p) (declaring 3 p) → ⊥
unfolding declaring declaring_method
number_twice p is = let next : 3 ≡ 2 = is.numbered.0 in omega (arith, next)

-- ---- classes that are not there

-- as the kind of a parameter, of a result, and of a local
unknown : Kind
unknown = kind.Object (record { 0 = 9999 })

unknown_parameter : (p : Pointer) → IsMethod (ramp p) (record (void_method 5 (codes "f") (nothing p)) { params = unknown ∷ [] }) → ⊥
unfolding unknown
unknown_parameter p is = let there : 9999 < 6 = is.params 0 kind.Int (lit< tt) in omega (arith, there)

unknown_result : (p : Pointer) → IsMethod (ramp p) (record (void_method 5 (codes "f") (nothing p)) { result = unknown }) → ⊥
unfolding unknown
unknown_result p is = let there : 9999 < 6 = is.result in omega (arith, there)

unknown_local : (p : Pointer) → IsBody (ramp p) (void_method 5 (codes "f") (stmt.Local unknown 1 None)) (stmt.Local unknown 1 None) → ⊥
unfolding unknown
unknown_local p is = let there : 9999 < 6 = is.storable 1 kind.Int (lit< tt) in omega (arith, there)
