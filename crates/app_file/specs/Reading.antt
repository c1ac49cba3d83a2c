-- What bytes are to the kits, under a data limit: an application, or why they are none.
use Rattle.std.specs.Prelude.{ℕ, ◌≡◌, ◌≢◌, ◌⊎◌, ◌<◌, IsTrue, List, ◌++◌, length, slice_get, Option, Some}
use Rattle.std.specs.List.{All}
use Rattle.std.specs.Int.{w32}
use Rattle.sed_value.specs.Names.{is_kit_name}
use Rattle.sed_value.specs.Value.{is_signed}
use Rattle.sed_value.specs.declared.kit.KitRef.{KitRef}
use Rattle.sed_engine.specs.Code.{Meaning}
use Rattle.comp_tree.specs.Application.{Application}
use Rattle.comp_tree.specs.Parts.{Kept}
use Rattle.comp_tree.specs.Whole.{IsFormed, Whole}
use Rattle.comp_tree.specs.Limits.{limit_passed}
use Rattle.app_file.specs.Text.{IsTextOf, front_text, old_version, version as new_version}
use Rattle.app_file.specs.declared.refusal.AppRefusal.{AppRefusal}
use Rattle.app_file.specs.declared.refusal.AppRefusal.TheVariants.{NotAnApp, WrongKits, OverLimit, Memory}

-- ---- the front

-- the bytes begin with the mark, one of the two versions, and these kits, whose names are of a kit's form
pub record IsFront (version : ℕ) (kits : List KitRef) (bytes rest : List ℕ) : Type 0 where
  pub known : (version ≡ new_version) ⊎ (version ≡ old_version)
  pub few : length kits < 256
  pub names : All (λ kit. IsTrue (is_kit_name kit.name)) kits
  pub checksums : All (λ kit. IsTrue (is_signed w32 kit.checksum)) kits
  pub front : bytes ≡ front_text version kits ++ rest

abbrev pub HasNoFront : List ℕ → Type 0
HasNoFront bytes = (version : ℕ) (kits : List KitRef) (rest : List ℕ) → IsFront version kits bytes rest → ⊥

-- the first place at which two lists of kits differ, and what each has there
pub record DifferAt (file kits : List KitRef) (place : ℕ) (in_file in_kits : Option KitRef) : Type 0 where
  pub before : (k : ℕ) → k < place → slice_get file k ≡ slice_get kits k
  pub file_has : slice_get file place ≡ in_file
  pub kits_have : slice_get kits place ≡ in_kits
  pub differ : in_file ≢ in_kits

-- ---- applications

-- the bytes are a text of this application, which is as the file keeps it, under the data limit; it may pass limits
pub record StandsFor (m : Meaning) (limit : ℕ) (bytes : List ℕ) (a : Application) : Type 0 where
  pub formed : IsFormed m a
  pub kept : Kept m a ≡ a
  pub under : a.components.limit ≡ limit
  pub text : IsTextOf m a bytes

-- and the application is whole, so that it passes none
pub record IsFile (m : Meaning) (limit : ℕ) (bytes : List ℕ) (a : Application) : Type 0 where
  pub whole : Whole m a
  pub kept : Kept m a ≡ a
  pub under : a.components.limit ≡ limit
  pub text : IsTextOf m a bytes

-- ---- refusals

-- behind a front with the code's own kits stands what is no file
pub record HasNoBody (m : Meaning) (limit : ℕ) (bytes : List ℕ) : Type 0 where
  pub version : ℕ
  pub rest : List ℕ
  pub front : IsFront version m.schema.kits bytes rest
  pub none : (a : Application) → StandsFor m limit bytes a → ⊥

abbrev pub IsNoFile : Meaning → ℕ → List ℕ → Type 0
IsNoFile m limit bytes = HasNoFront bytes ⊎ HasNoBody m limit bytes

-- whatever stands behind the front
pub record HasWrongKits (m : Meaning) (bytes : List ℕ) (place : ℕ) (in_file in_kits : Option KitRef) : Type 0 where
  pub version : ℕ
  pub kits : List KitRef
  pub rest : List ℕ
  pub front : IsFront version kits bytes rest
  pub first : DifferAt kits m.schema.kits place in_file in_kits

pub record IsOverLimit (m : Meaning) (limit : ℕ) (bytes : List ℕ) (which : ℕ) : Type 0 where
  pub application : Application
  pub stands : StandsFor m limit bytes application
  pub first : limit_passed m application ≡ Some which

-- ---- what bytes are read as

pub data Reading : Type 0 where
  no_file : Reading
  wrong_kits : (place : ℕ) (in_file in_kits : Option KitRef) → Reading
  over_limit : (which : ℕ) → Reading
  file : (application : Application) → Reading

abbrev pub IsReadAs : Meaning → ℕ → List ℕ → Reading → Type 0
IsReadAs m limit bytes no_file = IsNoFile m limit bytes
IsReadAs m limit bytes (wrong_kits place in_file in_kits) = HasWrongKits m bytes place in_file in_kits
IsReadAs m limit bytes (over_limit which) = IsOverLimit m limit bytes which
IsReadAs m limit bytes (file application) = IsFile m limit bytes application

-- why no application is read: of what is no file the place is left open, and want of memory may come in the place of
-- any answer
abbrev pub IsRefusedFor : Meaning → ℕ → List ℕ → AppRefusal → Type 0
IsRefusedFor m limit bytes (NotAnApp at) = IsReadAs m limit bytes no_file
IsRefusedFor m limit bytes (WrongKits place in_file in_kits) = IsReadAs m limit bytes (wrong_kits place in_file in_kits)
IsRefusedFor m limit bytes (OverLimit which) = IsReadAs m limit bytes (over_limit which)
IsRefusedFor m limit bytes Memory = Unit {0}
