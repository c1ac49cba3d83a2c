-- The program that units spell, but for the bodies of its methods.
use Rattle.std.specs.Prelude.{◌≡◌, Bool, true, false, List, [], ◌∷◌, map, Option, Some, None}
use Rattle.sed_typed.specs.declared.program.Method.{Method}
use Rattle.sed_typed.specs.declared.program.Program.{Program}
use Rattle.sed_classes.specs.declared.kit_units.KitUnits.{KitUnits}
use Rattle.sed_classes.specs.Members.{form_body, form_params, is_static}
use Rattle.sed_classes.specs.Schema.{schema_of}
use Rattle.sed_program.specs.Fields.{fields_of, statics_of}
use Rattle.sed_program.specs.Methods.{MethodAt, methods_of, is_virtual}
use Rattle.sed_program.specs.Texts.{program_texts}
use Rattle.sed_program.specs.Types.{type_no, param_kind, result_kind}

abbrev pub is_there : {A : Type 0} → Option A → Bool
is_there (Some a) = true
is_there None = false

-- a method is what a member declares, but for what stands in its body
pub record IsHead (units : List KitUnits) (e : MethodAt) (m : Method) : Type 0 where
  pub class : m.class ≡ type_no e.class
  pub name : m.name ≡ e.owned.member.name.bytes
  pub static : m.is_static ≡ is_static e.owned.member
  pub virtual : m.is_virtual ≡ is_virtual e.owned.member
  pub params : map (λ k. Some k) m.params ≡ map (param_kind units e.owned.kit) (form_params e.owned.member.form)
  pub result : Some m.result ≡ result_kind units e.owned.kit e.owned.member
  pub bodied : is_there m.body ≡ is_there (form_body e.owned.member.form)

abbrev pub AreHeads : List KitUnits → List MethodAt → List Method → Type 0
AreHeads units [] [] = Unit {0}
AreHeads units (e ∷ es) (m ∷ ms) = IsHead units e m × AreHeads units es ms
AreHeads units es ms = ⊥

pub record IsOutlined (units : List KitUnits) (program : Program) : Type 0 where
  pub schema : program.schema ≡ schema_of units
  pub fields : program.fields ≡ fields_of units
  pub statics : program.statics ≡ statics_of units
  pub texts : program.texts ≡ program_texts units
  pub methods : AreHeads units (methods_of units) program.methods
