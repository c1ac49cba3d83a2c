-- Classes that break no rule.
use Rattle.std.specs.Prelude.{ℕ, ◌≡◌, List, [], Some}
use Rattle.sed_classes.specs.declared.kit_units.KitUnits.{KitUnits}
use Rattle.sed_classes.specs.Declarations.{Declaration, class_at}
use Rattle.sed_classes.specs.Faults.{declaration_faults}

-- no class breaks a rule on what it declares, those of `sys` among them
abbrev pub AllFree : List KitUnits → Type 0
AllFree units = (class : ℕ) (d : Declaration) → class_at units class ≡ Some d → declaration_faults units class d ≡ []
