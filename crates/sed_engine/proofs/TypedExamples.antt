-- Typing of small programs: the bodies of examples are typed, and wrong ones are not.
use Rattle.std.proofs.Common.{◌≡◌, [], ◌∷◌, false, refl}
use Rattle.sed_typed.specs.declared.kind.Kind.{Kind}
use Rattle.sed_typed.specs.declared.kind.Kind.TheVariants as kind
use Rattle.sed_typed.specs.declared.operators.Arithmetic.TheVariants as op
use Rattle.sed_typed.specs.declared.operators.Binary.TheVariants as binary
use Rattle.sed_typed.specs.declared.operators.Comparison.TheVariants as comparison
use Rattle.sed_typed.specs.declared.operators.Unary.TheVariants as unary
use Rattle.sed_typed.specs.declared.operators.Width.TheVariants as width
use Rattle.sed_typed.specs.declared.program.Program.{Program}
use Rattle.sed_typed.specs.declared.statement.Stmt.{Stmt}
use Rattle.sed_typed.specs.declared.statement.Stmt.TheVariants as stmt
use Rattle.sed_typed.specs.declared.tree.Expr.TheVariants as expr
use Rattle.sed_typed.specs.declared.tree.Link.TheVariants as link
use Rattle.sed_typed.specs.Depth.{depth_of, stmt_depth, body_depth}
use Rattle.sed_typed.specs.TypedExpr.{Context, IsExpr}
use Rattle.sed_typed.specs.TypedStmt.{Around, IsStmt}
use Rattle.sed_engine.proofs.Building.{Pointer, block, int, chain, by, set_y, y, int_field, simple}

-- while (y < 3) y = y + 1
body : Pointer → Stmt
body p = stmt.While' (chain p (y p) (link.Binary (binary.Compare comparison.Less width.Int) (int 3))) p (set_y p (chain p (y p) (by op.Add (int 1))))

-- in a method of class 5 with the receiver alone
context : Program → Context
context k = record { program = k; class = 5; is_static = false; locals = kind.Object (record { 0 = 5 }) ∷ []; result = kind.Void }

outside : Around
outside = record { breaks = false; continues = false }

body_is_typed : (p : Pointer) → IsStmt (context (simple (int_field ∷ []) (body p))) outside (body p)
unfolding body context
body_is_typed p =
    (((((refl, refl), (refl, tt)), ((refl, (refl, refl)), tt)), refl), (((refl, refl), refl), (((refl, refl), (refl, tt)), ((refl, (refl, refl)), tt)), refl))

-- the loop's body stands within the loop, and the right side within the assignment
loop_depth : (p : Pointer) → body_depth (body p) ≡ 2
unfolding body
loop_depth p = refl

-- `{ while .. }` as a method's own body opens no more, within another statement it does
block_depth : (p : Pointer) → body_depth (block p (body p) stmt.Break) ≡ 2
unfolding body
block_depth p = refl

inner_block_depth : (p : Pointer) → stmt_depth (block p (body p) stmt.Break) ≡ 3
unfolding body
inner_block_depth p = refl

-- an int that goes to a long by itself opens nothing
widened_depth : (p : Pointer) → depth_of (expr.Unary' unary.ToLong p (expr.Unary' (unary.Negate width.Int) p (int 1))) ≡ 1
widened_depth p = refl

-- `true + 1` has no kind
sum_of_bool : (p : Pointer) (c : Context) → IsExpr c (chain p (expr.Bool 1) (by op.Add (int 1))) → ⊥
sum_of_bool p c typed = let e : ◌≡◌ {A = Kind} kind.Bool kind.Int = typed.1.0.1.0 in let never : ⊥ = cc in never

-- a local that the frame has not is no expression
no_local : (k : Program) → IsExpr (context k) (expr.Local kind.Int 1) → ⊥
unfolding context
no_local k typed = let never : ⊥ = cc in never

-- `break` outside a loop is no statement
no_break : (k : Program) → IsStmt (context k) outside stmt.Break → ⊥
unfolding context outside
no_break k typed = let never : ⊥ = cc in never
