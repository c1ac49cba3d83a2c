-- The methods of a program by their names, in the classes that declare them.
use Rattle.std.specs.Prelude.{ℕ, ◌≡◌, ◌<◌, true, false, List, length, slice_get, Some, None}
use Rattle.sed_units.specs.declared.classes.Member.{Member}
use Rattle.sed_typed.specs.declared.program.Method.{Method}
use Rattle.sed_typed.specs.declared.program.Program.{Program}
use Rattle.sed_typed.specs.Classes.{declared_method}
use Rattle.sed_classes.specs.declared.kit_units.KitUnits.{KitUnits}
use Rattle.sed_classes.specs.Declarations.{all_classes}
use Rattle.sed_classes.specs.Members.{declares, is_method, kit_of, members_of, owned}
use Rattle.sed_program.specs.Outlined.{IsHead}
use Rattle.sed_program.specs.Ordered.{number}

-- the method that a member of a class is
pub record HasHead (units : List KitUnits) (program : Program) (class : ℕ) (m : Member) : Type 0 where
  pub place : ℕ
  pub method : Method
  pub named : declared_method program.methods m.name.bytes (number units class) ≡ Some place
  pub at : slice_get program.methods place ≡ Some method
  pub head : IsHead units (record { class = number units class; owned = owned class (kit_of units class) m }) method

-- each member that is a method is there, and a class that declares no member of a name has no method of it
pub record HasHeads (units : List KitUnits) (program : Program) : Type 0 where
  pub declared : (class i : ℕ) (m : Member) → class < length (all_classes units) →
      slice_get (members_of units class) i ≡ Some m →
      is_method m ≡ true → HasHead units program class m
  pub lacking : (class : ℕ) (name : List ℕ) → class < length (all_classes units) → declares units name class ≡ false →
      declared_method program.methods name (number units class) ≡ None
