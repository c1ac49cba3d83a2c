-- Which bytes are rows and links of a code, behind a front with its kits.
use Rattle.std.specs.Prelude.{ℕ, ◌≡◌, ◌⊎◌, ◌<◌, IsTrue, IfSome, List, map as map_list, slice_get, Option, Some, Result}
use Rattle.std.specs.Prelude.{Ok, Err}
use Rattle.std.specs.List.{All}
use Rattle.std.specs.Option.{option_map}
use Rattle.sed_value.specs.Names.{is_name}
use Rattle.sed_value.specs.declared.id.Id.{Id}
use Rattle.sed_value.specs.declared.kit.KitRef.{KitRef}
use Rattle.sed_typed.specs.Schemas.{type_at}
use Rattle.sed_typed.specs.declared.schema.ClassInfo.{ClassInfo}
use Rattle.sed_engine.specs.Code.{Meaning}
use Rattle.node_table.specs.Properties.{config_types}
pub use Rattle.node_table.specs.Values.{AreOfTypes}
use Rattle.comp_tree.specs.Application.{Link}
use Rattle.comp_tree.specs.Parts.{no_id}
use Rattle.app_file.specs.Reading.{HasNoFront, HasWrongKits, IsFront}
use Rattle.app_file.specs.Rows.{Row}
use Rattle.app_file.specs.Text.{body_text}
use Rattle.app_file.specs.declared.refusal.AppRefusal.{AppRefusal}
use Rattle.app_file.specs.declared.refusal.AppRefusal.TheVariants.{NotAnApp, WrongKits, OverLimit, Memory}
use Rattle.app_front.specs.declared.rows.FileRow.{FileRow}
use Rattle.app_front.specs.declared.rows.FileRows.{FileRows}

abbrev pub number_of_id : Option Id → Option ℕ
number_of_id id = option_map (λ (i : Id). i.0) id

-- what a row tells of a component
abbrev pub told_row : FileRow → Row
told_row r = record {
  id = r.id.0;
  class = r.kind.0;
  name = r.name;
  parent = number_of_id r.parent;
  first_child = number_of_id r.first_child;
  next_sibling = number_of_id r.next_sibling;
  config = r.config;
}

-- an id that stands in a file
abbrev pub IsToldId : Id → Type 0
IsToldId id = id.0 < no_id

-- the class is there, the first one with its kit and its number there, and these are bytes
pub record IsToldClass (m : Meaning) (class : ℕ) : Type 0 where
  pub info : ClassInfo
  pub there : slice_get m.schema.classes class ≡ Some info
  pub first : type_at m.schema.classes info.kit info.number ≡ Some class
  pub kit : info.kit < 256
  pub number : info.number < 256

-- a row that may stand in a file of a code, whatever the others are
pub record IsToldRow (m : Meaning) (r : FileRow) : Type 0 where
  pub id : IsToldId r.id
  pub class : IsToldClass m r.kind.0
  pub name : IsTrue (is_name r.name)
  pub parent : IfSome r.parent IsToldId
  pub first_child : IfSome r.first_child IsToldId
  pub next_sibling : IfSome r.next_sibling IsToldId
  pub config : AreOfTypes (config_types m r.kind.0) r.config

pub record IsToldLink (l : Link) : Type 0 where
  pub from : l.from < no_id
  pub from_slot : l.from_slot < 256
  pub to : l.to < 65536
  pub to_slot : l.to_slot < 256

-- behind a front with the code's kits stand these rows and links, and nothing else
pub record AreRows (m : Meaning) (bytes : List ℕ) (f : FileRows) : Type 0 where
  pub front : IsFront f.version m.schema.kits bytes (body_text m f.greatest (map_list told_row f.rows) f.links)
  pub greatest : f.greatest < 65536
  pub rows : All (IsToldRow m) f.rows
  pub links : All IsToldLink f.links

-- behind such a front stand no rows and links
pub record HasNoRows (m : Meaning) (bytes : List ℕ) : Type 0 where
  pub version : ℕ
  pub rest : List ℕ
  pub front : IsFront version m.schema.kits bytes rest
  pub none : (f : FileRows) → AreRows m bytes f → ⊥

-- the rows and links that bytes are to a code, or why they are none: want of memory may come in the place of any answer
abbrev pub IsRowsOutcome : Meaning → List ℕ → Result FileRows AppRefusal → Type 0
IsRowsOutcome m bytes (Ok f) = AreRows m bytes f
IsRowsOutcome m bytes (Err (NotAnApp at)) = HasNoFront bytes ⊎ HasNoRows m bytes
IsRowsOutcome m bytes (Err (WrongKits place in_file in_kits)) = HasWrongKits m bytes place in_file in_kits
IsRowsOutcome m bytes (Err (OverLimit which)) = ⊥
IsRowsOutcome m bytes (Err Memory) = Unit {0}

-- these rows and links, unless memory ran out
abbrev pub IsRowsAnswer : FileRows → Result FileRows AppRefusal → Type 0
IsRowsAnswer f (Ok read) = read ≡ f
IsRowsAnswer f (Err (NotAnApp at)) = ⊥
IsRowsAnswer f (Err (WrongKits place in_file in_kits)) = ⊥
IsRowsAnswer f (Err (OverLimit which)) = ⊥
IsRowsAnswer f (Err Memory) = Unit {0}

-- this difference, unless memory ran out
abbrev pub IsOtherKitsAnswer : ℕ → Option KitRef → Option KitRef → Result FileRows AppRefusal → Type 0
IsOtherKitsAnswer place in_file in_kits (Ok read) = ⊥
IsOtherKitsAnswer place in_file in_kits (Err (NotAnApp at)) = ⊥
IsOtherKitsAnswer place in_file in_kits (Err (WrongKits at one other)) =
    (at ≡ place) × (one ≡ in_file) × (other ≡ in_kits)
IsOtherKitsAnswer place in_file in_kits (Err (OverLimit which)) = ⊥
IsOtherKitsAnswer place in_file in_kits (Err Memory) = Unit {0}

-- no rows, unless memory ran out
abbrev pub IsNoRowsAnswer : Result FileRows AppRefusal → Type 0
IsNoRowsAnswer (Ok read) = ⊥
IsNoRowsAnswer (Err (NotAnApp at)) = Unit {0}
IsNoRowsAnswer (Err (WrongKits place in_file in_kits)) = ⊥
IsNoRowsAnswer (Err (OverLimit which)) = ⊥
IsNoRowsAnswer (Err Memory) = Unit {0}
