-- Methods with one signature, both virtual, as one that overrides and what it overrides have.
use Rattle.std.specs.Prelude.{ℕ, ◌≡◌, true, false, List, map}
use Rattle.sed_units.specs.declared.classes.Member.{Member}
use Rattle.sed_classes.specs.declared.kit_units.KitUnits.{KitUnits}
use Rattle.sed_classes.specs.Members.{form_params, is_method, is_static}
use Rattle.sed_program.specs.Methods.{is_virtual}
use Rattle.sed_program.specs.Types.{param_kind, result_kind}

-- a member of a class in one kit and one of a class in another
pub record Alike (units : List KitUnits) (kit : ℕ) (m : Member) (other : ℕ) (n : Member) : Type 0 where
  pub method : is_method m ≡ true
  pub method_too : is_method n ≡ true
  pub instance : is_static m ≡ false
  pub instance_too : is_static n ≡ false
  pub virtual : is_virtual m ≡ true
  pub virtual_too : is_virtual n ≡ true
  pub params : map (param_kind units kit) (form_params m.form) ≡ map (param_kind units other) (form_params n.form)
  pub result : result_kind units kit m ≡ result_kind units other n
