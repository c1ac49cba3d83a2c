-- The classes of a program beside those of units: what holds of places and numbers.
use Rattle.std.specs.Prelude.{ℕ, ◌≡◌, ◌<◌, List, [], ◌∷◌, length, map, reverse, slice_get, unwrap_or, Some, None}
use Rattle.std.specs.List.{filter_map, flat_map}
use Rattle.std.specs.Option.{option_and_then}
use Rattle.sed_typed.specs.declared.program.Program.{Program}
use Rattle.sed_typed.specs.Classes as typed
use Rattle.sed_typed.specs.Schemas.{type_at}
use Rattle.sed_typed.specs.TypedSchema as schemas
use Rattle.sed_classes.specs.declared.kit_units.KitUnits.{KitUnits}
use Rattle.sed_classes.specs.Declarations.{Declaration, all_classes, class_at}
use Rattle.sed_classes.specs.Bases.{base_of, is_below, lineage}
use Rattle.sed_classes.specs.Schema.{class_info, type_number}
use Rattle.sed_program.specs.Fields.{field_of, own_fields}
use Rattle.sed_program.specs.Types.{place_of}

abbrev pub places : List KitUnits → ℕ
places units = length (all_classes units)

abbrev pub number : List KitUnits → ℕ → ℕ
number units class = unwrap_or (type_number units class) 0

pub record IsOrdered (units : List KitUnits) (program : Program) : Type 0 where
  pub number_is : (c : ℕ) → c < places units → type_number units c ≡ Some (number units c)
  pub number_in : (c : ℕ) → c < places units → number units c < places units
  pub place_is : (c : ℕ) → c < places units → place_of units (number units c) ≡ Some c
  pub place_in : (k c : ℕ) → place_of units k ≡ Some c →
      (k < places units) × (c < places units) × (type_number units c ≡ Some k)
  pub placed : (k : ℕ) → k < places units → (c : ℕ) × (place_of units k ≡ Some c)
  pub infos_len : length program.schema.classes ≡ places units
  pub info_at : (k c : ℕ) (d : Declaration) → place_of units k ≡ Some c → class_at units c ≡ Some d →
      slice_get program.schema.classes k ≡ Some (class_info units c d)
  pub base_in : (c b : ℕ) → base_of units c ≡ Some b → b < places units
  pub base_at : (k c : ℕ) → place_of units k ≡ Some c → typed.base_of program.schema.classes k
      ≡ option_and_then (type_number units) (base_of units c)
  pub lineage_at : (k c : ℕ) → place_of units k ≡ Some c →
      typed.lineage program.schema.classes k ≡ map (number units) (lineage units c)
  pub lineage_cons : (c b : ℕ) → base_of units c ≡ Some b → lineage units c ≡ c ∷ lineage units b
  pub lineage_one : (c : ℕ) → base_of units c ≡ None → lineage units c ≡ c ∷ []
  pub below_at : (a above k c : ℕ) → place_of units a ≡ Some above → place_of units k ≡ Some c →
      schemas.is_below program.schema.classes a k ≡ is_below units above c
  pub type_at_is : (c : ℕ) (d : Declaration) → class_at units c ≡ Some d →
      type_at program.schema.classes d.kit d.number ≡ Some (number units c)
  pub fields_at : (k c : ℕ) → place_of units k ≡ Some c →
      typed.fields program k ≡ flat_map (λ b. filter_map (field_of units (number units b) b) (own_fields units b))
      (reverse (lineage units c))
