-- Units whose schema can be written down.
use Rattle.std.specs.Prelude.{ℕ, ℤ, ◌+◌, ◌*◌, ◌<◌, ◌≤◌, ◌≡◌, IsTrue, All, List, [], length, Option}
use Rattle.std.specs.Option.{option_and_then, option_map}
use Rattle.sed_value.specs.Names.{is_identifier, is_word}
use Rattle.sed_value.specs.declared.kit.KitRef.{KitRef}
use Rattle.sed_typed.specs.declared.number.TypeNo.{TypeNo}
use Rattle.sed_typed.specs.declared.schema.Schema.{Schema}
use Rattle.sed_classes.specs.Checksum.{kit_checksum}
use Rattle.sed_units.specs.declared.classes.Member.{Member}
use Rattle.sed_classes.specs.declared.kit_units.KitUnits.{KitUnits}
use Rattle.sed_classes.specs.Declarations.{Declaration, all_classes, declared_in}
use Rattle.sed_classes.specs.Bases.{base_of}
use Rattle.sed_classes.specs.Members.{members_of}
use Rattle.sed_classes.specs.Objects.{data_size}
use Rattle.sed_classes.specs.Faults.{faults_of}
use Rattle.sed_classes.specs.Schema.{type_number}

-- what a class has that its schema can be told: its number and its kit's fit a byte, and its name is a word
pub record Written (kits : ℕ) (d : Declaration) : Type 0 where
  pub kit : d.kit ≤ kits
  pub number : d.number < 64
  pub name : IsTrue (is_word d.class.name.bytes)

-- the name of a member is a word
abbrev pub IsNamed : Member → Type 0
IsNamed m = IsTrue (is_word m.name.bytes)

-- At most 15 kits, of at most 64 classes each, whose names and whose members' names are words, and whose objects take
-- no more than 65,535 bytes.
pub record Fits (units : List KitUnits) : Type 0 where
  pub kits : length units ≤ 15
  pub count : length (all_classes units) ≤ 5 + 64 * 15
  pub written : All (Written (length units)) (all_classes units)
  pub named : (class : ℕ) → All IsNamed (members_of units class)
  pub sizes : (class : ℕ) → data_size units class ≤ 65535

-- the names of a class and of its members are identifiers, as the grammar has them
pub record Spelled (d : Declaration) : Type 0 where
  pub class : IsTrue (is_identifier d.class.name.bytes)
  pub members : All (λ (m : Member). IsTrue (is_identifier m.name.bytes)) d.class.members

-- At most 15 kits of units that the grammar has, which break none of the rules on classes and members.
pub record Unbroken (units : List KitUnits) : Type 0 where
  pub kits : length units ≤ 15
  pub spelled : All Spelled (declared_in units)
  pub faultless : faults_of units ≡ []

abbrev pub signed_as : List ℕ → ℤ → KitRef
signed_as name checksum = record { name = name; checksum = checksum }

-- a kit with its checksum, where this is a schema without
abbrev pub signed_in : Schema → ℕ × KitRef → KitRef
signed_in outline e = record { name = e.1.name; checksum = kit_checksum outline e.0 }

-- the number of the base of a class
abbrev pub base_number : List KitUnits → ℕ → Option TypeNo
base_number units class = option_map (λ n. record { 0 = n }) (option_and_then (type_number units) (base_of units class))
