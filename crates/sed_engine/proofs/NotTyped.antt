-- Programs that are nearly that of the ramp, and not typed: each breaks one rule.
use Rattle.std.proofs.Common.{◌≡◌, ◌≤◌, ◌<◌, ℕ, zero, suc, pos, true, false, [], ◌∷◌, ◌++◌, List, Option, Some, None, codes, refl, ap, lit<, arith}
use Rattle.sed_value.specs.declared.value.Value.{Value}
use Rattle.sed_value.specs.declared.value.Value.TheVariants as kept
use Rattle.sed_value.specs.declared.slot_type.Primitive.TheVariants as prim
use Rattle.sed_value.specs.declared.slot_type.SlotType.TheVariants as slot
use Rattle.sed_typed.specs.declared.kind.Kind.{Kind}
use Rattle.sed_typed.specs.declared.kind.Kind.TheVariants as kind
use Rattle.sed_typed.specs.declared.number.SlotNo.{SlotNo}
use Rattle.sed_typed.specs.declared.program.Field.{Field}
use Rattle.sed_typed.specs.declared.program.FieldForm.TheVariants as form
use Rattle.sed_typed.specs.declared.program.Method.{Method}
use Rattle.sed_typed.specs.declared.program.Program.{Program}
use Rattle.sed_typed.specs.declared.schema.ActionArg.TheVariants as argument
use Rattle.sed_typed.specs.declared.schema.ClassInfo.{ClassInfo}
use Rattle.sed_typed.specs.declared.schema.SlotForm.TheVariants.{Prop, Action}
use Rattle.sed_typed.specs.declared.statement.Label.TheVariants.{Case}
use Rattle.sed_typed.specs.declared.statement.Stmt.{Stmt, end_of-Stmt, more_of-Stmt}
use Rattle.sed_typed.specs.declared.statement.Stmt.TheVariants as stmt
use Rattle.sed_typed.specs.declared.tree.Expr.{end_of-Expr, more_of-Expr}
use Rattle.sed_typed.specs.declared.tree.Expr.TheVariants as expr
use Rattle.sed_typed.specs.declared.tree.Link.TheVariants as link
use Rattle.sed_typed.specs.declared.tree.Place.TheVariants as place
use Rattle.sed_typed.specs.SysTypes.{meta_slot}
use Rattle.sed_typed.specs.Typed.{Typed, IsBody}
use Rattle.sed_typed.specs.TypedSchema.{HasSlot}
use Rattle.sed_engine.proofs.Building.{Pointer, vec_of, none, one, two, int, chain, this, field, set}
use Rattle.sed_engine.proofs.Ramp.{class_of, based_on, ramp_class, int_slot, int_property, meta_field, step_field, out_field, nothing, adding, void_method, changed_method, sys_methods_in, program_with, ramp}

-- a test cannot be both
absurd_test : true ≡ false → ⊥
absurd_test e = let never : ⊥ = cc in never

absurd_other : false ≡ true → ⊥
absurd_other e = let never : ⊥ = cc in never

-- ---- kits and classes

with_class : ClassInfo → Pointer → Program
with_class c p = program_with (c ∷ []) (step_field ∷ out_field ∷ []) p

-- a kit twice
one_kit_twice : (p : Pointer) → Typed (record (ramp p) { schema = record { kits = record { name = codes "sys"; checksum = pos 0 } ∷ record { name = codes "sys"; checksum = pos 1 } ∷ []; classes = (ramp p).schema.classes } }) → ⊥
one_kit_twice p typed = let once : 2 ≤ 1 = typed.kits.names_once (codes "sys") in omega (arith, once)

-- numbers of types that do not begin with 0
number_left_out : (p : Pointer) → Typed (with_class (record (ramp_class 2) { number = 1 }) p) → ⊥
unfolding with_class
number_left_out p typed = let one : 0 ≡ 1 = typed.kits.numbered 1 0 (lit< tt) in omega (arith, one)

-- a name that is reserved
named_str : (p : Pointer) → Typed (with_class (record (ramp_class 2) { name = codes "Str" }) p) → ⊥
unfolding with_class
named_str p typed = absurd_test (typed.classes 5).name_free

-- a class twice in its kit
one_class_twice : (p : Pointer) → Typed (program_with (ramp_class 2 ∷ record (ramp_class 2) { number = 1 } ∷ []) (step_field ∷ out_field ∷ []) p) → ⊥
one_class_twice p typed = let once : 2 ≡ 1 = (typed.classes 5).name_once in omega (arith, once)

-- a class without a base that is not Obj
without_base : (p : Pointer) → Typed (with_class (record (ramp_class 2) { base = None }) p) → ⊥
unfolding with_class
without_base p typed = let first : 1 ≡ 0 = ((typed.classes 5).based refl).0 in omega (arith, first)

-- a class that stands before its base
based_on_later : (p : Pointer) → Typed (program_with (ramp_class 6 ∷ class_of 1 1 (codes "Later") (based_on 2) true true 4 (meta_slot ∷ []) ∷ []) (step_field ∷ out_field ∷ []) p) → ⊥
based_on_later p typed = let before : 6 < 5 = (typed.classes 5).base.before in omega (arith, before)

-- a class based on App
based_on_app : (p : Pointer) → Typed (with_class (ramp_class 3) p) → ⊥
unfolding with_class
based_on_app p typed = (typed.classes 5).base.no_app refl

-- a component that is said to be none
not_a_component : (p : Pointer) → Typed (with_class (record (ramp_class 2) { is_component = false }) p) → ⊥
unfolding with_class
not_a_component p typed = absurd_other (typed.classes 5).component

-- a size that is not that of the fields
another_size : (p : Pointer) → Typed (with_class (record (ramp_class 2) { size = 16 }) p) → ⊥
unfolding with_class
another_size p typed = let size : 16 ≡ 12 = (typed.classes 5).size in omega (arith, size)

-- ---- what `sys` declares

-- a sixth type of kit 0
sixth_type : (p : Pointer) → Typed (with_class (record (ramp_class 2) { kit = 0; number = 5 }) p) → ⊥
unfolding with_class
sixth_type p typed = let five : 6 ≡ 5 = typed.kits.sys_types.five in omega (arith, five)

-- a field of Component besides `meta`
field_of_component : (p : Pointer) → Typed (program_with (ramp_class 2 ∷ []) (field 2 (form.Prim prim.Int) (kept.Int (pos 0)) ∷ step_field ∷ out_field ∷ []) p) → ⊥
field_of_component p typed =
    let alone : ◌≡◌ {A = List Field} (meta_field ∷ field 2 (form.Prim prim.Int) (kept.Int (pos 0)) ∷ []) (meta_field ∷ []) = (typed.sys 2 refl).fields in
    let never : ⊥ = cc in
    never

-- `meta` that does not begin at 0
meta_at_1 : (p : Pointer) → Typed (record (ramp p) { fields = int_property 2 (codes "meta") 0 1 ∷ step_field ∷ out_field ∷ [] }) → ⊥
meta_at_1 p typed =
    let zero_first : ◌≡◌ {A = List Field} (int_property 2 (codes "meta") 0 1 ∷ []) (meta_field ∷ []) = (typed.sys 2 refl).fields in
    let same : int_of (kept.Int (pos 1)) ≡ int_of (kept.Int (pos 0)) = ap first_int zero_first in
    omega (arith, same)
  where
    int_of : Value → ℕ
    int_of (kept.Int (pos n)) = n
    int_of v = 0

    first_int : List Field → ℕ
    first_int [] = 0
    first_int (f ∷ fs) = int_of f.initial

-- a static of the App
static_of_app : (p : Pointer) → Typed (record (ramp p) { statics = record step_field { class = record { 0 = 3 }; slot = None } ∷ [] }) → ⊥
static_of_app p typed =
    let none : ◌≡◌ {A = List Field} (record step_field { class = record { 0 = 3 }; slot = None } ∷ []) [] = (typed.sys 3 refl).statics in
    let never : ⊥ = cc in
    never

-- the methods of `sys` after another first one, and what follows
with_sys : (Pointer → List Method) → Pointer → Program
with_sys methods p = record (ramp p) { methods = methods p ++ void_method 3 (codes "save") (nothing p) ∷ void_method 5 (codes "execute") (adding p) ∷ [] }

-- Component without callbacks, as it once was
no_callbacks : Pointer → List Method
no_callbacks p = void_method 2 (codes "execute") (nothing p) ∷ []

without_callbacks : (p : Pointer) → Typed (with_sys no_callbacks p) → ⊥
unfolding with_sys no_callbacks
without_callbacks p typed = (typed.sys 2 refl).methods.1

-- a method of Component more
one_method_more : Pointer → List Method
one_method_more p =
    void_method 2 (codes "execute") (nothing p)
    ∷ void_method 2 (codes "start") (nothing p)
    ∷ void_method 2 (codes "stop") (nothing p)
    ∷ changed_method 2 (nothing p)
    ∷ void_method 2 (codes "loaded") (nothing p)
    ∷ []

with_one_more : (p : Pointer) → Typed (with_sys one_method_more p) → ⊥
unfolding with_sys one_method_more
with_one_more p typed = (typed.sys 2 refl).methods.1.1.1.1

-- `changed` without its argument
changed_of_nothing : Pointer → List Method
changed_of_nothing p =
    void_method 2 (codes "execute") (nothing p)
    ∷ void_method 2 (codes "start") (nothing p)
    ∷ void_method 2 (codes "stop") (nothing p)
    ∷ void_method 2 (codes "changed") (nothing p)
    ∷ []

without_argument : (p : Pointer) → Typed (with_sys changed_of_nothing p) → ⊥
unfolding with_sys changed_of_nothing
without_argument p typed =
    let takes : ◌≡◌ {A = List Kind} [] (kind.Int ∷ []) = (typed.sys 2 refl).methods.1.1.1.0.form.3 in
    let never : ⊥ = cc in
    never

-- an `execute` of Component that does something
busy : Pointer → List Method
busy p = void_method 2 (codes "execute") stmt.Break ∷ []

with_busy : (p : Pointer) → Typed (with_sys busy p) → ⊥
unfolding with_sys busy
with_busy p typed = (typed.sys 2 refl).methods.0.body

-- ---- slots and fields

with_fields : List Field → Pointer → Program
with_fields fields p = program_with (ramp_class 2 ∷ []) fields p

-- a property without its field
without_out : (p : Pointer) → Typed (with_fields (step_field ∷ []) p) → ⊥
unfolding with_fields
without_out p typed =
    let property : HasSlot (with_fields (step_field ∷ []) p) 5 2 (int_slot (codes "out") false) (Prop (slot.Prim prim.Int)) = (typed.slots 5).each 2 in
    let none : ◌≡◌ {A = List Field} [] (property.0 ∷ []) = property.1 in
    let never : ⊥ = cc in
    never

-- a property whose field has another type
another_type : (p : Pointer) → Typed (with_class (record (ramp_class 2) { slots = meta_slot ∷ int_slot (codes "step") true ∷ record { name = codes "out"; config = false; form = Prop (slot.Prim prim.Long) } ∷ [] }) p) → ⊥
unfolding with_class
another_type p typed =
    let property : HasSlot (with_class (record (ramp_class 2) { slots = meta_slot ∷ int_slot (codes "step") true ∷ record { name = codes "out"; config = false; form = Prop (slot.Prim prim.Long) } ∷ [] }) p) 5 2 (record { name = codes "out"; config = false; form = Prop (slot.Prim prim.Long) }) (Prop (slot.Prim prim.Long)) = (typed.slots 5).each 2 in
    let one : ◌≡◌ {A = List Field} (out_field ∷ []) (property.0 ∷ []) = property.1 in
    let long : property.0.form ≡ form.Prim prim.Long = property.2.0 in
    let never : ⊥ = cc in
    never

-- an action that the application file keeps
kept_action : (p : Pointer) → Typed (with_class (record (ramp_class 2) { slots = (ramp_class 2).slots ++ record { name = codes "go"; config = true; form = Action argument.Void } ∷ [] }) p) → ⊥
unfolding with_class
kept_action p typed = absurd_test ((typed.slots 5).each 3).2

-- an action `execute` of class 5 behind `meta`
with_action : (Pointer → List Method) → Pointer → Program
with_action methods p = record (program_with (class_of 1 0 (codes "A") (based_on 2) false true 4 (meta_slot ∷ record { name = codes "execute"; config = false; form = Action argument.Void } ∷ []) ∷ []) [] p) { methods = methods p }

-- which it inherits as a method, and does not declare
action_undeclared : (p : Pointer) → Typed (with_action (sys_methods_in 2 3) p) → ⊥
unfolding with_action
action_undeclared p typed = absurd_other ((typed.slots 5).added 0 meta_slot (lit< tt)).0

-- which it declares, and so overrides what is no action
overriding : Pointer → List Method
overriding p = sys_methods_in 2 3 p ++ void_method 5 (codes "execute") (nothing p) ∷ []

action_overrides : (p : Pointer) → Typed (with_action overriding p) → ⊥
unfolding with_action overriding
action_overrides p typed =
    let none : ◌≡◌ {A = Option ℕ} (Some 0) None = ((typed.slots 5).added 0 meta_slot (lit< tt)).1 in
    let never : ⊥ = cc in
    never

-- a property that a class adds for a field of its base
with_inherited : Pointer → Program
with_inherited p = record (program_with (class_of 1 0 (codes "Base") (based_on 2) false true 8 (meta_slot ∷ []) ∷ class_of 1 1 (codes "Ramp") (based_on 5) false true 8 (meta_slot ∷ int_slot (codes "step") true ∷ []) ∷ []) (step_field ∷ []) p) { methods = sys_methods_in 2 3 p }

slot_for_inherited : (p : Pointer) → Typed (with_inherited p) → ⊥
unfolding with_inherited
slot_for_inherited p typed = let there : 1 < 1 = (typed.slots 5).within 1 step_field (lit< tt) in omega (arith, there)

-- properties that are numbered against the order of their fields
numbered_backwards : (p : Pointer) → Typed (program_with (record (ramp_class 2) { slots = meta_slot ∷ int_slot (codes "out") false ∷ int_slot (codes "step") true ∷ [] } ∷ []) (int_property 5 (codes "step") 2 1 ∷ int_property 5 (codes "out") 1 0 ∷ []) p) → ⊥
numbered_backwards p typed = let rises : 2 < 1 = (typed.slots 5).in_order 0 (lit< tt) in omega (arith, rises)

-- fields of a class before those of an earlier one
fields_backwards : (p : Pointer) → Typed (record (ramp p) { fields = step_field ∷ out_field ∷ meta_field ∷ [] }) → ⊥
fields_backwards p typed =
    let by_class : ◌≡◌ {A = List Field} (meta_field ∷ step_field ∷ out_field ∷ []) (step_field ∷ out_field ∷ meta_field ∷ []) = typed.fields_by_class in
    let same : 2 ≡ 5 = ap first_class by_class in
    omega (arith, same)
  where
    first_class : List Field → ℕ
    first_class [] = 0
    first_class (f ∷ fs) = f.class.0

-- a first value of another type
begun_as_bool : (p : Pointer) → Typed (with_fields (record step_field { initial = kept.Bool 1 } ∷ out_field ∷ []) p) → ⊥
unfolding with_fields
begun_as_bool p typed = absurd_other (typed.fields 1 step_field (lit< tt)).initial

-- two fields of one name
one_name_twice : (p : Pointer) → Typed (with_fields (step_field ∷ record out_field { name = codes "step" } ∷ []) p) → ⊥
unfolding with_fields
one_name_twice p typed = let once : 2 ≤ 1 = (typed.members 5 (lit< tt)).once (codes "step") in omega (arith, once)

-- a field of the name of an inherited one
named_as_inherited : (p : Pointer) → Typed (with_fields (record step_field { name = codes "meta" } ∷ out_field ∷ []) p) → ⊥
unfolding with_fields
named_as_inherited p typed = let new : 2 ≡ 1 = (typed.members 5 (lit< tt)).fields 1 step_field (lit< tt) refl in omega (arith, new)

-- an object that holds itself
holds_itself : (p : Pointer) → Typed (program_with (ramp_class 2 ∷ class_of 1 1 (codes "Inner") (based_on 0) false false 0 [] ∷ []) (step_field ∷ out_field ∷ field 6 (form.Object (record { 0 = 6 })) kept.Nothing ∷ []) p) → ⊥
holds_itself p typed = let deeper : typed.depth 6 < typed.depth 6 = typed.deeper 6 0 step_field (lit< tt) in omega (arith, deeper)

-- a static that is a property
static_property : (p : Pointer) → Typed (record (ramp p) { statics = record step_field { name = codes "shared" } ∷ [] }) → ⊥
static_property p typed =
    let none : ◌≡◌ {A = Option SlotNo} (Some (record { 0 = 1 })) None = typed.statics_apart 0 step_field (lit< tt) in
    let never : ⊥ = cc in
    never

-- ---- methods

with_execute : Method → Pointer → Program
with_execute m p = record (ramp p) { methods = sys_methods_in 2 3 p ++ m ∷ [] }

-- a method that overrides with another result
another_result : (p : Pointer) → Typed (with_execute (record (void_method 5 (codes "execute") (adding p)) { result = kind.Int }) p) → ⊥
unfolding with_execute
another_result p typed =
    let result : ◌≡◌ {A = Kind} kind.Int kind.Void = ((typed.members 5 (lit< tt)).methods 5 (void_method 5 [] (nothing p)) (lit< tt) refl).result in
    let never : ⊥ = cc in
    never

-- a virtual method that is static
virtual_static : (p : Pointer) → Typed (with_execute (record (void_method 5 (codes "execute") (adding p)) { is_static = true }) p) → ⊥
unfolding with_execute
virtual_static p typed = absurd_test ((typed.methods 5 (void_method 5 [] (nothing p)) (lit< tt)).virtual refl).0

-- a method without a body in a class that is not abstract
without_body : (p : Pointer) → Typed (with_execute (record (void_method 5 (codes "execute") (adding p)) { body = None }) p) → ⊥
unfolding with_execute
without_body p typed = absurd_other ((typed.methods 5 (void_method 5 [] (nothing p)) (lit< tt)).no_body refl).1

-- a method of the name of an inherited field
named_as_field : (p : Pointer) → Typed (record (program_with (ramp_class 2 ∷ record (ramp_class 5) { number = 1; name = codes "Steep" } ∷ []) (step_field ∷ out_field ∷ []) p) { methods = void_method 6 (codes "step") (nothing p) ∷ [] }) → ⊥
named_as_field p typed = let apart : 1 ≡ 0 = (typed.members 6 (lit< tt)).methods_apart 0 (void_method 6 [] (nothing p)) (lit< tt) refl in omega (arith, apart)

-- a method that takes an object of a class that is not there
taking : Pointer → Method
taking p = record (void_method 5 (codes "take") (nothing p)) { params = kind.Object (record { 0 = 9999 }) ∷ [] }

takes_unknown : (p : Pointer) → Typed (record (ramp p) { methods = (ramp p).methods ++ taking p ∷ [] }) → ⊥
unfolding taking
takes_unknown p typed = let there : 9999 < 6 = (typed.methods 6 (taking p) (lit< tt)).params 0 kind.Int (lit< tt) in omega (arith, there)

-- ---- bodies

with_body : (Pointer → Stmt) → Pointer → Program
with_body body p = with_execute (void_method 5 (codes "execute") (body p)) p

body_in : (body : Pointer → Stmt) (p : Pointer) → Typed (with_body body p) → IsBody (with_body body p) (void_method 5 (codes "execute") (body p)) (body p)
unfolding with_body with_execute
body_in body p typed = (typed.methods 5 (void_method 5 [] (nothing p)) (lit< tt)).body

-- a value that a void method returns
returns_a_value : (p : Pointer) → Typed (with_body (λ q. stmt.Return (Some (int 1))) p) → ⊥
returns_a_value p typed = (body_in (λ q. stmt.Return (Some (int 1))) p typed).typed.2 refl

-- `continue` outside a loop
no_continue : (p : Pointer) → Typed (with_body (λ q. stmt.Continue) p) → ⊥
no_continue p typed = absurd_other (body_in (λ q. stmt.Continue) p typed).typed

-- `continue` in a switch that stands in no loop
switched : Pointer → Stmt
switched p = stmt.Switch' (int 1) (vec_of p (Case (pos 1) ∷ []) (lit< tt)) (one p) (more_of-Stmt stmt.Continue end_of-Stmt)

no_continue_in_switch : (p : Pointer) → Typed (with_body switched p) → ⊥
unfolding switched
no_continue_in_switch p typed = absurd_other (body_in switched p typed).typed.4.0

-- a long that is stored in an int
long_to_int : (p : Pointer) → Typed (with_body (λ q. set q prim.Int 2 (expr.Long (pos 1))) p) → ⊥
long_to_int p typed =
    let goes : ◌≡◌ {A = Kind} kind.Long kind.Int = (body_in (λ q. set q prim.Int 2 (expr.Long (pos 1))) p typed).typed.2 in
    let never : ⊥ = cc in
    never

-- the receiver stored in: this = null
receiver_changed : Pointer → Stmt
receiver_changed p = stmt.Do (expr.Set' (place.Local (kind.Object (record { 0 = 5 })) 0) p (expr.Null (kind.Object (record { 0 = 5 }))))

no_receiver_changed : (p : Pointer) → Typed (with_body receiver_changed p) → ⊥
unfolding receiver_changed
no_receiver_changed p typed = (body_in receiver_changed p typed).typed.0.1 refl refl

-- a case twice
case_twice : Pointer → Stmt
case_twice p = stmt.Switch' (int 1) (vec_of p (Case (pos 1) ∷ Case (pos 1) ∷ []) (lit< tt)) (two p) (more_of-Stmt stmt.Empty (more_of-Stmt stmt.Empty end_of-Stmt))

no_case_twice : (p : Pointer) → Typed (with_body case_twice p) → ⊥
unfolding case_twice
no_case_twice p typed = let once : 2 ≤ 1 = (body_in case_twice p typed).typed.2.cases (pos 1) in omega (arith, once)

-- 65 loops inside one another
nested : ℕ → Pointer → Stmt
nested zero p = stmt.Empty
nested (suc n) p = stmt.While' (expr.Bool 1) p (nested n p)

too_deep : (p : Pointer) → Typed (with_body (nested 65) p) → ⊥
unfolding nested
too_deep p typed = let most : 65 ≤ 64 = (body_in (nested 65) p typed).depth in omega (arith, most)

-- this.changed(), without its argument: the method with the number 3 takes an int
without_its_argument : Pointer → Stmt
without_its_argument p = stmt.Do (chain p this (link.Invoke' kind.Void 3 (none p) end_of-Expr))

no_argument_missing : (p : Pointer) → Typed (with_body without_its_argument p) → ⊥
unfolding without_its_argument with_body with_execute
no_argument_missing p typed = (body_in without_its_argument p typed).typed.1.0.1.1.1.takes

-- Component.execute(this), a static call of an instance method
with_a_receiver : Pointer → Stmt
with_a_receiver p = stmt.Do (expr.Call' kind.Void 0 (one p) (more_of-Expr this end_of-Expr))

no_static_call_of_an_instance_method : (p : Pointer) → Typed (with_body with_a_receiver p) → ⊥
unfolding with_a_receiver with_body with_execute
no_static_call_of_an_instance_method p typed = absurd_other (body_in with_a_receiver p typed).typed.1.0

-- a declaration that leaves out a number
leaving_out : Pointer → Stmt
leaving_out p = stmt.Local kind.Int 2 None

local_left_out : (p : Pointer) → Typed (with_body leaving_out p) → ⊥
unfolding leaving_out
local_left_out p typed = let next : 2 ≡ 1 = (body_in leaving_out p typed).numbered.0 in omega (arith, next)

-- a text that stands twice
text_twice : (p : Pointer) → Typed (record (ramp p) { texts = codes "a" ∷ codes "a" ∷ [] }) → ⊥
text_twice p typed = let once : 2 ≤ 1 = typed.texts_once (codes "a") in omega (arith, once)
