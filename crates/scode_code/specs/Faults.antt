-- The first broken rule of an image.
use Rattle.std.specs.Prelude.{◌≡◌, ℕ, suc, if◌then◌else◌, List, [], ◌∷◌, Option, Some, None}
use Rattle.scode_image.specs.declared.image.Image.{Image}
use Rattle.scode_image.specs.declared.image.ImageMethod.{ImageMethod}
use Rattle.scode_code.specs.CodeRules.{Fault, code_fault}
use Rattle.scode_code.specs.TableRules.{tables_agree}

-- a rule that is broken at a place of a method; the tables are told by the method 65,535 and the place 0
pub record Broken : Type 0 where
  pub method : ℕ
  pub at : ℕ
  pub rule : ℕ

abbrev pub broken_in : ℕ → Fault → Broken
broken_in method fault = record { method = method; at = fault.0; rule = fault.1 }

abbrev pub or_later : ℕ → Option Fault → Option Broken → Option Broken
or_later method (Some fault) later = Some (broken_in method fault)
or_later method None later = later

-- the first fault of methods that are numbered from here on
abbrev pub methods_broken : Image → ℕ → List ImageMethod → Option Broken
methods_broken image number [] = None
methods_broken image number (m ∷ ms) = or_later number (code_fault image m) (methods_broken image (suc number) ms)

abbrev pub first_broken : Image → Option Broken
first_broken image =
    if tables_agree image then methods_broken image 0 image.methods else Some
    (record { method = 65535; at = 0; rule = 1 })

-- an image that breaks no rule
abbrev pub IsVerified : Image → Type 0
IsVerified image = first_broken image ≡ None
