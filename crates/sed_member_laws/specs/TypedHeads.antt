-- A typed method but for its body.
use Rattle.std.specs.Prelude.{◌≡◌, ◌<◌, ◌≤◌, true, false, IsTrue, All, length, None}
use Rattle.sed_typed.specs.declared.program.Method.{Method}
use Rattle.sed_typed.specs.declared.program.Program.{Program}
use Rattle.sed_typed.specs.SysTypes.{virtual_type}
use Rattle.sed_typed.specs.Typed.{IsStorable}
use Rattle.sed_typed.specs.TypedExpr.{IsKindOf}
use Rattle.sed_typed.specs.TypedSchema.{is_abstract, is_below_sys}

-- what a typed program asks of a method, without what stands in its body
pub record IsTypedHead (program : Program) (m : Method) : Type 0 where
  pub class : m.class.0 < length program.schema.classes
  pub params : All (IsStorable program) m.params
  pub params_most : length m.params ≤ 8
  pub result : IsKindOf program m.result
  pub virtual : m.is_virtual ≡ true → (m.is_static ≡ false)
      × IsTrue (is_below_sys program.schema.classes virtual_type m.class.0)
  pub no_body : m.body ≡ None → (m.is_virtual ≡ true) × (is_abstract program.schema.classes m.class.0 ≡ true)
