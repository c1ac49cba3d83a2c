-- What stands behind the front of a file, as a form of bytes, and what is answered by its reading.
use Rattle.std.specs.Prelude.{◌≡◌, ◌⊎◌, ℕ, List, [], length, Result, Ok, Err, refl}
use Rattle.sed_typed.specs.declared.schema.ClassInfo.{ClassInfo}
use Rattle.sed_typed.specs.declared.schema.Schema.{Schema}
use Rattle.sed_engine.specs.Code.{Meaning}
use Rattle.sed_wire.specs.Form.{Form, given, seen_as, ◌&◌}
use Rattle.sed_wire.specs.Leaves.{number}
use Rattle.sed_wire.specs.FormReading.{Found}
use Rattle.comp_tree.specs.Application.{Link}
use Rattle.app_file.specs.Reading.{HasNoFront, HasWrongKits, IsFront}
use Rattle.app_file.specs.declared.refusal.AppRefusal.{AppRefusal}
use Rattle.app_file.specs.declared.refusal.AppRefusal.TheVariants.{NotAnApp, WrongKits, OverLimit, Memory}
use Rattle.app_front.specs.LinkForm.{end, links}
use Rattle.app_front.specs.RowForm.{rows}
use Rattle.app_front.specs.declared.rows.FileRow.{FileRow}
use Rattle.app_front.specs.declared.rows.FileRows.{FileRows}

abbrev pub BodyParts : Type 0
BodyParts = ℕ × (ℕ × (List FileRow × (List Link × Unit {0})))

abbrev pub body_parts : FileRows → BodyParts
body_parts f = (f.version, (f.greatest, (f.rows, (f.links, tt))))

abbrev pub body_of : BodyParts → FileRows
body_of (version, (greatest, (rows, (links, _)))) =
    record { version = version; greatest = greatest; rows = rows; links = links }

-- with a version that is known, and fewer than so many components and links
unfoldable pub body : List ClassInfo → ℕ → ℕ → Form FileRows
body classes version most =
    seen_as body_of body_parts (λ f. refl)
    (given version & (number 2 & (rows classes most & (links most & end)))) (λ f bytes h. refl)

-- behind a front with these kits a body is read, to the end of the bytes
pub record ReadsRows (schema : Schema) (bytes : List ℕ) (f : FileRows) : Type 0 where
  pub rest : List ℕ
  pub front : IsFront f.version schema.kits bytes rest
  pub found : (body schema.classes f.version (length bytes)).reads rest ≡ Found f []

-- behind such a front none is read
pub record ReadsNoRows (schema : Schema) (bytes : List ℕ) : Type 0 where
  pub version : ℕ
  pub rest : List ℕ
  pub front : IsFront version schema.kits bytes rest
  pub none : (f : FileRows) → (body schema.classes version (length bytes)).reads rest ≡ Found f [] → ⊥

abbrev pub IsBodyAnswer : Schema → List ℕ → Result FileRows AppRefusal → Type 0
IsBodyAnswer schema bytes (Ok f) = ReadsRows schema bytes f
IsBodyAnswer schema bytes (Err (NotAnApp at)) = HasNoFront bytes ⊎ ReadsNoRows schema bytes
IsBodyAnswer schema bytes (Err (WrongKits place in_file in_kits)) =
    (m : Meaning) → m.schema ≡ schema → HasWrongKits m bytes place in_file in_kits
IsBodyAnswer schema bytes (Err (OverLimit which)) = ⊥
IsBodyAnswer schema bytes (Err Memory) = Unit {0}
