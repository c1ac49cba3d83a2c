-- Bodies in which nothing stands.
use Rattle.std.specs.Prelude.{ℕ, ◌≡◌, List, [], length, slice_get, Some}
use Rattle.sed_typed.specs.declared.program.Method.{Method}
use Rattle.sed_typed.specs.declared.program.Program.{Program}
use Rattle.sed_typed.specs.SysMembers.{IsEmptyBody}
use Rattle.sed_classes.specs.declared.kit_units.KitUnits.{KitUnits}
use Rattle.sed_classes.specs.Members.{form_body}
use Rattle.sed_program.specs.Methods.{MethodAt, methods_of}

-- a method whose member has an empty body has one
pub record EmptyStays (units : List KitUnits) (program : Program) : Type 0 where
  pub empty : (i : ℕ) (e : MethodAt) (m : Method) → slice_get (methods_of units) i ≡ Some e →
      slice_get program.methods i ≡ Some m →
      form_body e.owned.member.form ≡ Some [] → IsEmptyBody m.body
