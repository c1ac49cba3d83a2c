-- What is answered by what the form of a front reads. Want of memory is free.
use Rattle.std.specs.Prelude.{◌≡◌, ℕ, List, Option, Result, Ok, Err}
use Rattle.sed_value.specs.declared.kit.KitRef.{KitRef}
use Rattle.sed_wire.specs.FormReading.{Reading, Found, Stuck}
use Rattle.app_file.specs.Reading.{DifferAt}
use Rattle.app_file.specs.declared.refusal.AppRefusal.{AppRefusal}
use Rattle.app_file.specs.declared.refusal.AppRefusal.TheVariants.{NotAnApp, WrongKits, OverLimit, Memory as NoMemory}
use Rattle.app_front.specs.declared.front.Front.{Front}

-- a front was read whose kits differ from these
pub record ReadsOtherKits (kits : List KitRef) (reading : Reading Front) (place : ℕ)
    (in_file in_kits : Option KitRef) : Type 0 where
  pub front : Front
  pub rest : List ℕ
  pub found : reading ≡ Found front rest
  pub differ : DifferAt front.kits kits place in_file in_kits

-- a front was read with these kits, or with others, or none
abbrev pub IsAnswerTo : List KitRef → Reading Front → List ℕ → Result ℕ AppRefusal → Type 0
IsAnswerTo kits reading left (Ok version) = reading ≡ Found (record { version = version; kits = kits }) left
IsAnswerTo kits reading left (Err (NotAnApp at)) = reading ≡ Stuck left
IsAnswerTo kits reading left (Err (WrongKits place in_file in_kits)) = ReadsOtherKits kits reading place in_file in_kits
IsAnswerTo kits reading left (Err (OverLimit which)) = ⊥
IsAnswerTo kits reading left (Err NoMemory) = Unit {0}
