-- Units whose bodies a memory holds.
use Rattle.std.specs.Prelude.{All, IfSome, List}
use Rattle.sed_units.specs.declared.classes.Member.{Member}
use Rattle.sed_units.specs.declared.classes.MemberForm.{MemberForm}
use Rattle.sed_units.specs.declared.classes.MemberForm.TheVariants as form
use Rattle.sed_body_laws.specs.Trees.{IsShort}
use Rattle.sed_classes.specs.declared.kit_units.KitUnits.{KitUnits}
use Rattle.sed_classes.specs.Declarations.{Declaration, declared_in}

abbrev pub IsShortForm : MemberForm → Type 0
IsShortForm (form.Field value) = Unit {0}
IsShortForm (form.Method params body) = IfSome body IsShort

-- the bodies of all methods that the units declare
abbrev pub AreShort : List KitUnits → Type 0
AreShort units = All (λ (d : Declaration). All (λ (m : Member). IsShortForm m.form) d.class.members) (declared_in units)
