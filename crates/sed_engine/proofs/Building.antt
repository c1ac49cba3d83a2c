-- Small programs as literals, for the worked examples.
use Rattle.std.proofs.Common.{ℕ, pos, ◌^◌, ◌<◌, Bool, true, false, List, [], ◌∷◌, ◌++◌, map, length, Option, Some, None, Box, Vec, Global, refl, lit<, arith, codes}
use Rattle.sed_typed.specs.Contents.{value_at}
use Rattle.sed_value.specs.declared.value.Value.{Value}
use Rattle.sed_value.specs.declared.value.Value.TheVariants as kept
use Rattle.sed_value.specs.declared.slot_type.Primitive.{Primitive}
use Rattle.sed_value.specs.declared.slot_type.Primitive.TheVariants as prim
use Rattle.sed_value.specs.declared.slot_type.SlotType.TheVariants as slot
use Rattle.sed_typed.specs.declared.kind.Kind.{Kind}
use Rattle.sed_typed.specs.declared.kind.Kind.TheVariants as kind
use Rattle.sed_typed.specs.declared.schema.ClassInfo.{ClassInfo}
use Rattle.sed_typed.specs.declared.schema.SlotInfo.{SlotInfo}
use Rattle.sed_typed.specs.declared.schema.SlotForm.TheVariants.{Prop}
use Rattle.sed_typed.specs.declared.program.Field.{Field}
use Rattle.sed_typed.specs.declared.program.FieldForm.{FieldForm}
use Rattle.sed_typed.specs.declared.program.FieldForm.TheVariants as form
use Rattle.sed_typed.specs.declared.program.Method.{Method}
use Rattle.sed_typed.specs.declared.program.Program.{Program}
use Rattle.sed_typed.specs.declared.statement.Stmt.{Stmt, end_of-Stmt, more_of-Stmt}
use Rattle.sed_typed.specs.declared.statement.Stmt.TheVariants as stmt
use Rattle.sed_typed.specs.declared.tree.Expr.{Expr, end_of-Link, more_of-Link}
use Rattle.sed_typed.specs.declared.tree.Expr.TheVariants as expr
use Rattle.sed_typed.specs.declared.tree.Link.{Link}
use Rattle.sed_typed.specs.declared.tree.Link.TheVariants as link
use Rattle.sed_typed.specs.declared.tree.Place.{Place}
use Rattle.sed_typed.specs.declared.tree.Place.TheVariants as place
use Rattle.sed_typed.specs.declared.operators.Binary.TheVariants as binary
use Rattle.sed_typed.specs.declared.operators.Arithmetic.{Arithmetic}
use Rattle.sed_typed.specs.declared.operators.Width.TheVariants as width
use Rattle.sed_typed.specs.Initial.{initial, initial_statics}
use Rattle.sed_engine.specs.declared.call.CallEnd.{CallEnd}
use Rattle.sed_engine.specs.declared.call.CallEnd.TheVariants as end
use Rattle.sed_engine.specs.declared.call.Root.TheVariants.{Execute}
use Rattle.sed_engine.specs.Root.{RootEnd, root}

-- what stands where the trees have pointers
abbrev pub Pointer : Type 0
Pointer = Box (Unit {0}) Global

abbrev pub vec_of : {T : Type 0} → Pointer → (xs : List T) → length xs < 2 ^ 63 → Vec T Global
vec_of p xs small = record { ptr = p.ptr; len = length xs; cap = length xs; alloc = p.alloc; items = xs; ok = (refl, omega arith); small = small }

abbrev pub Shape : Type 0
Shape = Vec (Unit {0}) Global

abbrev pub none : Pointer → Shape
none p = vec_of p [] (lit< tt)

abbrev pub one : Pointer → Shape
one p = vec_of p (tt ∷ []) (lit< tt)

abbrev pub two : Pointer → Shape
two p = vec_of p (tt ∷ tt ∷ []) (lit< tt)

abbrev pub three : Pointer → Shape
three p = vec_of p (tt ∷ tt ∷ tt ∷ []) (lit< tt)

-- an operand with one link, and with two
abbrev pub chain : Pointer → Expr → Link → Expr
chain p e l = expr.Chain' p e (one p) (more_of-Link l end_of-Link)

abbrev pub chain_of_two : Pointer → Expr → Link → Link → Expr
chain_of_two p e l m = expr.Chain' p e (two p) (more_of-Link l (more_of-Link m end_of-Link))

abbrev pub int : ℕ → Expr
int n = expr.Int (pos n)

-- an int operator with its right operand
abbrev pub by : Arithmetic → Expr → Link
by op e = link.Binary (binary.Arithmetic op width.Int) e

-- the class of the examples, 5, is the first after those of `sys`
abbrev pub this : Expr
this = expr.This (record { 0 = 5 })

-- a field of `this`, read and assigned
abbrev pub own : Pointer → Primitive → ℕ → Expr
own p t i = chain p this (link.Field t i)

abbrev pub own_place : Pointer → Primitive → ℕ → Place
own_place p t i = place.Field' t p this i

abbrev pub set : Pointer → Primitive → ℕ → Expr → Stmt
set p t i e = stmt.Do (expr.Set' (own_place p t i) p e)

-- y = n, where y is field 1
abbrev pub set_y : Pointer → Expr → Stmt
set_y p e = set p prim.Int 1 e

abbrev pub y : Pointer → Expr
y p = own p prim.Int 1

-- (y = n) as an operand
abbrev pub y_is : Pointer → ℕ → Expr
y_is p n = expr.Set' (own_place p prim.Int 1) p (int n)

abbrev pub block : Pointer → Stmt → Stmt → Stmt
block p a b = stmt.Block' (two p) (more_of-Stmt a (more_of-Stmt b end_of-Stmt))

abbrev pub block_of_three : Pointer → Stmt → Stmt → Stmt → Stmt
block_of_three p a b c = stmt.Block' (three p) (more_of-Stmt a (more_of-Stmt b (more_of-Stmt c end_of-Stmt)))

-- the types of `sys`, by their numbers
abbrev pub meta : SlotInfo
meta = record { name = codes "meta"; config = true; form = Prop (slot.Prim prim.Int) }

abbrev pub class_info : ℕ → ℕ → List ℕ → Option ℕ → Bool → ClassInfo
class_info kit number name None component = record { kit = kit; number = number; name = name; base = None; is_abstract = false; is_component = component; size = 0; slots = [] }
class_info kit number name (Some base) component = record { kit = kit; number = number; name = name; base = Some (record { 0 = base }); is_abstract = false; is_component = component; size = 0; slots = meta ∷ [] }

abbrev pub sys_classes : List ClassInfo
sys_classes =
    class_info 0 0 (codes "Obj") None false
    ∷ class_info 0 1 (codes "Virtual") (Some 0) false
    ∷ class_info 0 2 (codes "Component") (Some 1) true
    ∷ class_info 0 3 (codes "App") (Some 2) true
    ∷ class_info 0 4 (codes "Folder") (Some 2) true
    ∷ []

abbrev pub field : ℕ → FieldForm → Value → Field
field class f v = record { class = record { 0 = class }; name = codes "f"; form = f; slot = None; initial = v }

abbrev pub int_field : Field
int_field = field 5 (form.Prim prim.Int) (kept.Int (pos 0))

abbrev pub method_of : ℕ → List ℕ → List Kind → Kind → Stmt → Method
method_of class name params result body = record { class = record { 0 = class }; name = name; is_static = false; is_virtual = true; params = params; result = result; body = Some body }

abbrev pub method : ℕ → List ℕ → Kind → Stmt → Method
method class name result body = method_of class name [] result body

abbrev pub execute : ℕ → Stmt → Method
execute class body = method class (codes "execute") kind.Void body

-- classes after those of `sys`, fields after `meta`, and methods
abbrev pub program_of : List ClassInfo → List Field → List Method → Program
program_of classes fields methods = record {
  schema = record { kits = []; classes = sys_classes ++ classes };
  methods = methods;
  fields = field 2 (form.Prim prim.Int) (kept.Int (pos 0)) ∷ fields;
  statics = [];
  texts = codes "abc" ∷ [];
}

-- a program of one class with these fields, from number 1 on, and this `execute`
abbrev pub simple : List Field → Stmt → Program
simple fields body = program_of (class_info 1 0 (codes "A") (Some 2) true ∷ []) fields (execute 5 body ∷ [])

-- `execute` on a new object of class 5
abbrev pub run : Program → ℕ → RootEnd
run k turns = root k 5 (initial k 5) (initial_statics k) Execute kept.Nothing turns (pos 0)

-- how a call ends, with what it leaves in the fields of these numbers
abbrev pub outcome : RootEnd → List ℕ → CallEnd × List (Option Value)
outcome e numbers = (e.end, map (λ i. value_at e.contents (i ∷ [])) numbers)

abbrev pub int_value : ℕ → Option Value
int_value n = Some (kept.Int (pos n))

-- ends normally with so many turns left, and with these ints
abbrev pub done : ℕ → List ℕ → CallEnd × List (Option Value)
done left ints = (end.Done left, map int_value ints)

-- ends by the trap of this number, and with these ints
abbrev pub trapped : ℕ → List ℕ → CallEnd × List (Option Value)
trapped number ints = (end.Trap number, map int_value ints)
