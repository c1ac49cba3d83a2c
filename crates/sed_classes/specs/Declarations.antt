-- The classes of a program in their order: those of kit `sys`, and then those that the units declare.
use Rattle.std.specs.Prelude.{ℕ, ◌+◌, List, [], ◌∷◌, ◌++◌, length, Option, slice_get}
use Rattle.sed_units.specs.declared.classes.Class.{Class}
use Rattle.sed_units.specs.declared.classes.Unit.{Unit as SourceUnit}
use Rattle.sed_classes.specs.declared.kit_units.KitUnits.{KitUnits}
use Rattle.sed_classes.specs.SysSource.{sys_classes}

-- A class where it is declared: the number of its kit, `sys` being 0; the number of its text in the kit; and its own
-- number in the kit, counted from 0 in the order of the texts.
pub record Declaration : Type 0 where
  pub kit : ℕ
  pub text : ℕ
  pub number : ℕ
  pub class : Class

-- classes of one text, numbered on
abbrev pub text_declares : ℕ → ℕ → ℕ → List Class → List Declaration
text_declares kit text number [] = []
text_declares kit text number (c ∷ cs) =
    record { kit = kit; text = text; number = number; class = c } ∷ text_declares kit text (number + 1) cs

-- classes of the texts of one kit
abbrev pub kit_declares : ℕ → ℕ → ℕ → List SourceUnit → List Declaration
kit_declares kit text number [] = []
kit_declares kit text number (u ∷ us) =
    text_declares kit text number u.classes ++ kit_declares kit (text + 1) (number + length u.classes) us

-- classes of kits
abbrev pub kits_declare : ℕ → List KitUnits → List Declaration
kits_declare kit [] = []
kits_declare kit (k ∷ ks) = kit_declares kit 0 0 k.units ++ kits_declare (kit + 1) ks

-- the classes that the units declare
abbrev pub declared_in : List KitUnits → List Declaration
declared_in units = kits_declare 1 units

abbrev pub sys_declares : List Declaration
sys_declares = text_declares 0 0 0 sys_classes

-- All classes. A class's place is its place in this list: the types of `sys` have 0 to 4.
unfoldable pub all_classes : List KitUnits → List Declaration
all_classes units = sys_declares ++ declared_in units

abbrev pub class_at : List KitUnits → ℕ → Option Declaration
class_at units class = slice_get (all_classes units) class
