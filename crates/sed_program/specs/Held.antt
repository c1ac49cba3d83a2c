-- What tables of classes hold, row by row.
use Rattle.std.specs.Prelude.{◌≡◌, ◌≤◌, ◌^◌, ℕ, List, length}
use Rattle.sed_classes.specs.declared.kit_units.KitUnits.{KitUnits}
use Rattle.sed_classes.specs.Bases.{lineage}
use Rattle.sed_classes.specs.Schema.{class_order}
use Rattle.sed_outline.specs.Rounds.{row_of}
use Rattle.sed_program.specs.declared.parts.Part.TheVariants as part
use Rattle.sed_program.specs.Parts.{count_of}
use Rattle.sed_program.specs.Places.{IsPlaced}

pub record IsOrdered (units defines : List KitUnits) (order : List ℕ) (lineages : List (List ℕ))
    (fields statics methods : List ℕ) (field_places static_places method_places : List (List ℕ)) : Type 0 where
  pub defines_are : defines ≡ units
  pub order_is : order ≡ class_order units
  pub small : length order ≤ 2 ^ 16
  pub lineages_are : lineages ≡ row_of units (lineage units)
  pub fields_are : fields ≡ row_of units (count_of part.Field units)
  pub statics_are : statics ≡ row_of units (count_of part.Static units)
  pub methods_are : methods ≡ row_of units (count_of part.Method units)
  pub fields_placed : IsPlaced part.Field units field_places
  pub statics_placed : IsPlaced part.Static units static_places
  pub methods_placed : IsPlaced part.Method units method_places
