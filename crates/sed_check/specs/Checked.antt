-- The faults of a program, the first of them, and the program that units without a fault spell.
use Rattle.std.specs.Prelude.{ℕ, ◌≡◌, ◌+◌, ◌-◌, Bool, List, ◌++◌, length, map, sum_by, take, Option}
use Rattle.sed_typed.specs.declared.program.Method.{Method}
use Rattle.sed_typed.specs.declared.program.Program.{Program}
use Rattle.sed_classes.specs.declared.kit_units.KitUnits.{KitUnits}
use Rattle.sed_classes.specs.declared.source_type.PlacedFault.{PlacedFault}
use Rattle.sed_classes.specs.Faults.{first_of}
use Rattle.sed_program.specs.Methods.{methods_of}
use Rattle.sed_program.specs.Outlined.{IsOutlined}
use Rattle.sed_first_fault.specs.Faults.{cycle_faults, declared_faults}
use Rattle.sed_check.specs.Bodies.{AreBodies, body_faults}

-- ---- faults

-- all of them: of what is declared, of what stands in bodies, and of what `cycles` asks where it is that. A pair that
-- never comes first may be left out, or stand twice.
abbrev pub faults : List KitUnits → Bool → List PlacedFault
faults units cycles = declared_faults units ++ body_faults units ++ cycle_faults units cycles

-- the least by kit, then by text, then by place, then by rule
abbrev pub first_fault : List KitUnits → Bool → Option PlacedFault
first_fault units cycles = first_of (faults units cycles)

-- the number of a text of a kit among all texts, those of the kits before it first
abbrev pub file_number : List KitUnits → ℕ → ℕ → ℕ
file_number units kit text = sum_by (λ (k : KitUnits). length k.units) (take (kit - 1) units) + text

-- a fault as it is answered: its rule, the number of its text among all, and its byte place there
pub record IsFault (units : List KitUnits) (rule file at : ℕ) (f : PlacedFault) : Type 0 where
  pub rule_is : f.rule ≡ rule
  pub file_is : file_number units f.kit f.text ≡ file
  pub at_is : f.at ≡ at

-- ---- the program

-- What is declared, and each body as it is judged. A body is told by its term and its tree is flat, so there is one
-- such program, but for where its trees lie in memory.
pub record IsSpelled (units : List KitUnits) (program : Program) : Type 0 where
  pub outlined : IsOutlined units program
  pub bodies : AreBodies units (methods_of units) (map (λ (m : Method). m.body) program.methods)
