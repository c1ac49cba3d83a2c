-- What is answered to bytes that shall begin with a front of a schema's kits.
use Rattle.std.specs.Prelude.{◌≡◌, ℕ, List, Option, Result, Ok, Err}
use Rattle.sed_value.specs.declared.kit.KitRef.{KitRef}
use Rattle.sed_typed.specs.declared.schema.Schema.{Schema}
use Rattle.sed_engine.specs.Code.{Meaning}
use Rattle.app_file.specs.Reading.{HasNoFront, HasWrongKits, IsFront}
use Rattle.app_file.specs.declared.refusal.AppRefusal.{AppRefusal}
use Rattle.app_file.specs.declared.refusal.AppRefusal.TheVariants.{NotAnApp, WrongKits, OverLimit, Memory}

-- the version of a front with the schema's kits, behind which these bytes are left, or why there is none: want of
-- memory may come in the place of any answer
abbrev pub IsFrontOutcome : Schema → List ℕ → List ℕ → Result ℕ AppRefusal → Type 0
IsFrontOutcome schema bytes left (Ok version) = IsFront version schema.kits bytes left
IsFrontOutcome schema bytes left (Err (NotAnApp at)) = HasNoFront bytes
IsFrontOutcome schema bytes left (Err (WrongKits place in_file in_kits)) =
    (m : Meaning) → m.schema ≡ schema → HasWrongKits m bytes place in_file in_kits
IsFrontOutcome schema bytes left (Err (OverLimit which)) = ⊥
IsFrontOutcome schema bytes left (Err Memory) = Unit {0}

-- this version, with these bytes left, unless memory ran out
abbrev pub IsVersionAnswer : ℕ → List ℕ → List ℕ → Result ℕ AppRefusal → Type 0
IsVersionAnswer version rest left (Ok read) = (read ≡ version) × (left ≡ rest)
IsVersionAnswer version rest left (Err (NotAnApp at)) = ⊥
IsVersionAnswer version rest left (Err (WrongKits place in_file in_kits)) = ⊥
IsVersionAnswer version rest left (Err (OverLimit which)) = ⊥
IsVersionAnswer version rest left (Err Memory) = Unit {0}

-- this difference, unless memory ran out
abbrev pub IsWrongKitsAnswer : ℕ → Option KitRef → Option KitRef → Result ℕ AppRefusal → Type 0
IsWrongKitsAnswer place in_file in_kits (Ok read) = ⊥
IsWrongKitsAnswer place in_file in_kits (Err (NotAnApp at)) = ⊥
IsWrongKitsAnswer place in_file in_kits (Err (WrongKits at one other)) =
    (at ≡ place) × (one ≡ in_file) × (other ≡ in_kits)
IsWrongKitsAnswer place in_file in_kits (Err (OverLimit which)) = ⊥
IsWrongKitsAnswer place in_file in_kits (Err Memory) = Unit {0}

-- no front, unless memory ran out
abbrev pub IsNoFrontAnswer : Result ℕ AppRefusal → Type 0
IsNoFrontAnswer (Ok read) = ⊥
IsNoFrontAnswer (Err (NotAnApp at)) = Unit {0}
IsNoFrontAnswer (Err (WrongKits place in_file in_kits)) = ⊥
IsNoFrontAnswer (Err (OverLimit which)) = ⊥
IsNoFrontAnswer (Err Memory) = Unit {0}
