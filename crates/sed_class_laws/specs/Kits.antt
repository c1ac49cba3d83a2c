-- The names of kits.
use Rattle.std.specs.Prelude.{ℕ, ◌≤◌, IsTrue, All, List, count_by}
use Rattle.std.specs.Str.{bytes_eq}
use Rattle.sed_value.specs.Names.{is_kit_name}
use Rattle.sed_classes.specs.declared.kit_units.KitUnits.{KitUnits}
use Rattle.sed_classes.specs.Schema.{kit_names}

-- kits have names of kits, none twice, and none is `sys`
pub record KitsNamed (units : List KitUnits) : Type 0 where
  pub names : All (λ name. IsTrue (is_kit_name name)) (kit_names units)
  pub once : (name : List ℕ) → count_by (λ n. bytes_eq n name) (kit_names units) ≤ 1
