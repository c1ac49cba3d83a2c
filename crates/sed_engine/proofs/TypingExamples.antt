-- Kinds of small trees, calls, and fields: what the rules give, and what they refuse.
use Rattle.std.proofs.Common.{◌≡◌, ◌≤◌, ℕ, pos, Bool, true, false, [], ◌∷◌, List, Option, Some, None, codes, refl, ap, lit<, arith}
use Rattle.sed_value.specs.declared.slot_type.Primitive.TheVariants as prim
use Rattle.sed_value.specs.declared.value.Value.TheVariants as kept
use Rattle.sed_typed.specs.declared.kind.Kind.{Kind}
use Rattle.sed_typed.specs.declared.kind.Kind.TheVariants as kind
use Rattle.sed_typed.specs.declared.operators.Arithmetic.{Arithmetic}
use Rattle.sed_typed.specs.declared.operators.Arithmetic.TheVariants as op
use Rattle.sed_typed.specs.declared.operators.Binary.TheVariants as binary
use Rattle.sed_typed.specs.declared.operators.Gives.{Gives}
use Rattle.sed_typed.specs.declared.operators.Gives.TheVariants.{New, Old}
use Rattle.sed_typed.specs.declared.operators.Unary.TheVariants as unary
use Rattle.sed_typed.specs.declared.operators.Width.{Width}
use Rattle.sed_typed.specs.declared.operators.Width.TheVariants as width
use Rattle.sed_typed.specs.declared.program.FieldForm.{FieldForm}
use Rattle.sed_typed.specs.declared.program.FieldForm.TheVariants as form
use Rattle.sed_typed.specs.declared.program.Program.{Program}
use Rattle.sed_typed.specs.declared.tree.Expr.{Expr}
use Rattle.sed_typed.specs.declared.tree.Expr.TheVariants as expr
use Rattle.sed_typed.specs.declared.tree.Link.TheVariants as link
use Rattle.sed_typed.specs.declared.tree.Place.{Place}
use Rattle.sed_typed.specs.declared.tree.Place.TheVariants as place
use Rattle.sed_typed.specs.Depth.{depth_of}
use Rattle.sed_typed.specs.Kinds.{kind_of}
use Rattle.sed_typed.specs.Typed.{IsMethod}
use Rattle.sed_typed.specs.TypedExpr.{Context, IsExpr, GoesTo, IsStaticCall, IsInvocation, IsSuperCall}
use Rattle.sed_typed.specs.TypedSchema.{IsField}
use Rattle.sed_typed.specs.TypedStmt.{IsReturned}
use Rattle.sed_engine.proofs.Building.{Pointer, int, chain, by, this, own_place, field, int_field, simple}
use Rattle.sed_engine.proofs.Ramp.{nothing, void_method, ramp}

-- in an instance method of the ramp, and in a static one, that gives this kind
in_method : Bool → Kind → Pointer → Context
in_method is_static result p = record { program = ramp p; class = 5; is_static = is_static; locals = kind.Object (record { 0 = 5 }) ∷ []; result = result }

never_kind : {P : Type 0} → kind.Int ≡ kind.Long → P
never_kind e = let never : ⊥ = cc in absurd never

-- ---- kinds

kind_of_ticks : kind_of expr.Ticks ≡ kind.Long
kind_of_ticks = refl

-- a class goes to the one above it, and not the other way
to_base : (p : Pointer) → GoesTo (ramp p) (kind.Object (record { 0 = 5 })) (kind.Object (record { 0 = 2 }))
to_base p = refl

not_to_derived : (p : Pointer) → GoesTo (ramp p) (kind.Object (record { 0 = 2 })) (kind.Object (record { 0 = 5 })) → ⊥
not_to_derived p h = let never : ⊥ = cc in never

-- the count of a shift is an int: 1L << 1, and not 1 << 1L
long_shift : Pointer → Expr
long_shift p = chain p (expr.Long (pos 1)) (link.Binary (binary.Arithmetic op.ShiftLeft width.Long) (int 1))

long_shift_is_typed : (p : Pointer) → IsExpr (in_method false kind.Void p) (long_shift p)
unfolding in_method long_shift
long_shift_is_typed p = (refl, ((refl, (refl, refl)), tt))

shift_by_long : (p : Pointer) → IsExpr (in_method false kind.Void p) (chain p (int 1) (by op.ShiftLeft (expr.Long (pos 1)))) → ⊥
shift_by_long p h = let count : kind.Long ≡ kind.Int = h.1.0.1.1 in let never : ⊥ = cc in never

-- (byte) 300L: one cast of a long, one level
byte_of_long : Pointer → Expr
byte_of_long p = expr.Unary' (unary.LowByte width.Long) p (expr.Long (pos 300))

byte_of_long_is_typed : (p : Pointer) → IsExpr (in_method false kind.Void p) (byte_of_long p)
unfolding in_method byte_of_long
byte_of_long_is_typed p = (refl, refl)

byte_of_long_is_int : (p : Pointer) → kind_of (byte_of_long p) ≡ kind.Int
unfolding byte_of_long
byte_of_long_is_int p = refl

byte_of_long_depth : (p : Pointer) → depth_of (byte_of_long p) ≡ 1
unfolding byte_of_long
byte_of_long_depth p = refl

-- out++, where `out` is field 2, and i-- of a long local
update : Arithmetic → Gives → Width → Place → Pointer → Expr → Expr
update op gives width target p e = expr.Update' (record { arithmetic = op; width = width; gives = gives }) target p e

step_up : (p : Pointer) → IsExpr (in_method false kind.Void p) (update op.Add Old width.Int (own_place p prim.Int 2) p (int 1))
unfolding in_method update
step_up p = (((refl, refl), refl), refl, refl, refl, refl)

step_down : (p : Pointer) → IsExpr (record (in_method false kind.Void p) { locals = kind.Object (record { 0 = 5 }) ∷ kind.Long ∷ [] }) (update op.Subtract Old width.Long (place.Local kind.Long 1) p (expr.Long (pos 1)))
unfolding in_method update
step_down p = ((refl, λ e i. let never : ⊥ = cc in never), refl, refl, refl, refl)

-- out *= 2 gives the new value; no form of the source gives the old one of a product, or of a sum with 2
product : (p : Pointer) → IsExpr (in_method false kind.Void p) (update op.Multiply New width.Int (own_place p prim.Int 2) p (int 2))
unfolding in_method update
product p = (((refl, refl), refl), refl, refl, refl, tt)

old_of_product : (p : Pointer) → IsExpr (in_method false kind.Void p) (update op.Multiply Old width.Int (own_place p prim.Int 2) p (int 1)) → ⊥
unfolding update
old_of_product p h = h.4

old_of_sum_with_2 : (p : Pointer) → IsExpr (in_method false kind.Void p) (update op.Add Old width.Int (own_place p prim.Int 2) p (int 2)) → ⊥
unfolding update
old_of_sum_with_2 p h =
    let one : int 2 ≡ int 1 = h.4 in
    let same : 2 ≡ 1 = ap int_of one in
    omega (arith, same)
  where
    int_of : Expr → ℕ
    int_of (expr.Int (pos n)) = n
    int_of e = 0

-- this.a[0] and this.b.size, of an array of 3 bytes and a Buf(4), which are fields 2 and 3
with_parts : Pointer → Program
with_parts p = simple (int_field ∷ field 5 (form.Array prim.Byte 3) kept.Nothing ∷ field 5 (form.Buf 4) (kept.Buf []) ∷ []) (nothing p)

in_parts : Pointer → Context
in_parts p = record { program = with_parts p; class = 5; is_static = false; locals = kind.Object (record { 0 = 5 }) ∷ []; result = kind.Void }

element_is_typed : (p : Pointer) → IsExpr (in_parts p) (chain p this (link.Element prim.Byte 3 2 (int 0)))
unfolding with_parts in_parts
element_is_typed p = ((refl, refl), ((refl, refl, refl), tt))

size_is_typed : (p : Pointer) → IsExpr (in_parts p) (chain p this (link.Size 3))
unfolding with_parts in_parts
size_is_typed p = ((refl, refl), ((4, refl), tt))

count_of : Option FieldForm → ℕ
count_of (Some (form.Array t n)) = n
count_of o = 0

-- as an array of 4
another_count : (p : Pointer) → IsExpr (in_parts p) (chain p this (link.Element prim.Byte 4 2 (int 0))) → ⊥
unfolding with_parts in_parts count_of
another_count p h =
    let same : Some (form.Array prim.Byte 3) ≡ Some (form.Array prim.Byte 4) = h.1.0.0 in
    let count : 3 ≡ 4 = ap count_of same in
    omega (arith, count)

-- as a value: an array is no part
no_array_value : (p : Pointer) (k : Kind) → IsExpr (in_parts p) (chain p this (link.Part k 2)) → ⊥
unfolding with_parts in_parts
no_array_value p k h = let none : ◌≡◌ {A = Option Kind} None (Some k) = h.1.0 in let never : ⊥ = cc in never

-- `null` as an object of a class that is there, and of one that is not
null_is_typed : (p : Pointer) → IsExpr (in_method false kind.Void p) (expr.Null (kind.Object (record { 0 = 5 })))
unfolding in_method
null_is_typed p = (tt, lit< tt)

null_of_nothing : (p : Pointer) → IsExpr (in_method false kind.Void p) (expr.Null (kind.Object (record { 0 = 9999 }))) → ⊥
unfolding in_method
null_of_nothing p h = omega (arith, h.1)

-- true ? 1 : 1L
two_kinds : (p : Pointer) → IsExpr (in_method false kind.Void p) (expr.Choose' p (expr.Bool 1) p (int 1) p (expr.Long (pos 1))) → ⊥
two_kinds p h = never_kind h.4

-- `this` in a static method
static_this : (p : Pointer) → IsExpr (in_method true kind.Void p) (expr.This (record { 0 = 5 })) → ⊥
unfolding in_method
static_this p h = let instance : true ≡ false = h.0 in let never : ⊥ = cc in never

-- `return` without a value, where one is due
returns_nothing : (p : Pointer) → IsReturned (in_method false kind.Int p) None → ⊥
unfolding in_method
returns_nothing p h = let result : kind.Int ≡ kind.Void = h in let never : ⊥ = cc in never

-- ---- calls

-- an argument too many
with_argument : (p : Pointer) → IsInvocation (ramp p) (Some 5) 5 kind.Void (kind.Int ∷ []) → ⊥
with_argument p h = h.1.1.takes

-- a method that is not the nearest of its name
not_the_nearest : (p : Pointer) → IsInvocation (ramp p) (Some 5) 0 kind.Void [] → ⊥
not_the_nearest p h = let same : ◌≡◌ {A = Option ℕ} (Some 5) (Some 0) = h.0 in let never : ⊥ = cc in never

-- an instance method that is called as a static one
not_static : (p : Pointer) → IsStaticCall (ramp p) 5 kind.Void [] → ⊥
not_static p h = let static : false ≡ true = h.0 in let never : ⊥ = cc in never

super_call : (p : Pointer) → IsSuperCall (ramp p) 5 0 kind.Void []
super_call p = ((refl, (refl, record { gives = refl; takes = tt })), λ e. let never : ⊥ = cc in never)

-- `super` of an abstract method
super_of_abstract : (p : Pointer) → IsSuperCall (record (ramp p) { methods = record (void_method 2 (codes "execute") (nothing p)) { body = None } ∷ [] }) 5 0 kind.Void [] → ⊥
super_of_abstract p h = h.1 refl

-- ---- frames and fields

nine : List Kind
nine = kind.Int ∷ kind.Int ∷ kind.Int ∷ kind.Int ∷ kind.Int ∷ kind.Int ∷ kind.Int ∷ kind.Int ∷ kind.Int ∷ []

nine_parameters : (p : Pointer) → IsMethod (ramp p) (record (void_method 5 (codes "f") (nothing p)) { params = nine }) → ⊥
unfolding nine
nine_parameters p is = let most : 9 ≤ 8 = is.params_most in omega (arith, most)

empty_array : (p : Pointer) → IsField (ramp p) (field 5 (form.Array prim.Int 0) kept.Nothing) → ⊥
empty_array p h = let some : 1 ≤ 0 = h.form.0 in omega (arith, some)

-- a component inside an object
component_inside : (p : Pointer) → IsField (ramp p) (field 5 (form.Object (record { 0 = 4 })) kept.Nothing) → ⊥
component_inside p h = let none : true ≡ false = h.form.2 in let never : ⊥ = cc in never

-- a Buf that is no property
buf_alone : (p : Pointer) → IsField (ramp p) (field 5 (form.Buf 8) (kept.Buf [])) → ⊥
buf_alone p h = h.form.2 refl
