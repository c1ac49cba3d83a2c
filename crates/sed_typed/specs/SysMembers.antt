-- What the types of kit `sys` declare, and no more.
use Rattle.std.specs.Prelude.{ℕ, pos, ◌≡◌, ◌==◌, if◌then◌else◌, List, [], ◌∷◌, map, Option, Some, codes}
use Rattle.sed_value.specs.declared.value.Value.TheVariants as kept
use Rattle.sed_value.specs.declared.slot_type.Primitive.TheVariants as prim
use Rattle.sed_typed.specs.declared.program.Field.{Field}
use Rattle.sed_typed.specs.declared.program.FieldForm.TheVariants.{Prim}
use Rattle.sed_typed.specs.declared.program.Method.{Method}
use Rattle.sed_typed.specs.declared.program.Program.{Program}
use Rattle.sed_typed.specs.declared.schema.ActionArg.{ActionArg}
use Rattle.sed_typed.specs.declared.schema.ActionArg.TheVariants.{Void, Int}
use Rattle.sed_typed.specs.declared.schema.ClassInfo.{ClassInfo}
use Rattle.sed_typed.specs.declared.statement.Stmt.{Stmt, Row_of-Stmt, end_of-Stmt, more_of-Stmt}
use Rattle.sed_typed.specs.declared.statement.Stmt.TheVariants.{Block'}
use Rattle.sed_typed.specs.Classes.{declared_fields, declared_methods}
use Rattle.sed_typed.specs.SysTypes.{component_type, app_type}
use Rattle.sed_typed.specs.TypedSchema.{IsAction}

-- the field behind the property `meta`, which begins at 0
abbrev pub meta_field : ℕ → Field
meta_field class = record {
  class = record { 0 = class };
  name = codes "meta";
  form = Prim prim.Int;
  slot = Some (record { 0 = 0 });
  initial = kept.Int (pos 0);
}

-- the fields that the type of a number declares
abbrev pub sys_fields : ℕ → ℕ → List Field
sys_fields number class = if number == component_type then meta_field class ∷ [] else []

-- the methods that it declares, by name and argument: what a root call on a component runs, and the action of the App
abbrev pub component_methods : List (List ℕ × ActionArg)
component_methods = (codes "execute", Void) ∷ (codes "start", Void) ∷ (codes "stop", Void) ∷ (codes "changed", Int) ∷ []

-- their names, in their order; `execute` is no callback, the others are
abbrev pub component_names : List (List ℕ)
component_names = map (λ (want : List ℕ × ActionArg). want.0) component_methods

abbrev pub app_methods : List (List ℕ × ActionArg)
app_methods = (codes "save", Void) ∷ []

abbrev pub sys_methods : ℕ → List (List ℕ × ActionArg)
sys_methods number = if number == component_type then component_methods
    else if number == app_type then app_methods else []

-- `{}`
abbrev pub IsEmptyRow : {n : _} → Row_of-Stmt n → Type 0
IsEmptyRow end_of-Stmt = Unit {0}
IsEmptyRow (more_of-Stmt x xs) = ⊥

abbrev pub IsEmptyBody : Option Stmt → Type 0
IsEmptyBody (Some (Block' shape all)) = IsEmptyRow all
IsEmptyBody body = ⊥

-- a virtual void method of this name with this argument, which does nothing
pub record IsSysMethod (name : List ℕ) (a : ActionArg) (m : Method) : Type 0 where
  pub name_is : m.name ≡ name
  pub form : IsAction a m
  pub body : IsEmptyBody m.body

abbrev pub AreSysMethods : List (List ℕ × ActionArg) → List Method → Type 0
AreSysMethods [] [] = Unit {0}
AreSysMethods (want ∷ more) (m ∷ ms) = IsSysMethod want.0 want.1 m × AreSysMethods more ms
AreSysMethods wants ms = ⊥

-- a class of kit 0 against the members of its number
pub record HasSysMembers (program : Program) (class : ℕ) (info : ClassInfo) : Type 0 where
  pub fields : declared_fields program.fields class ≡ sys_fields info.number class
  pub statics : declared_fields program.statics class ≡ []
  pub methods : AreSysMethods (sys_methods info.number) (declared_methods program.methods class)
