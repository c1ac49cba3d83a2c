-- The bases of a class.
use Rattle.std.specs.Prelude.{ℕ, zero, suc, Bool, false, ◌==◌, ◌||◌, if◌then◌else◌, List, [], ◌∷◌, ◌++◌, drop, length}
use Rattle.std.specs.Prelude.{Option, Some, None}
use Rattle.std.specs.List.{list_any}
use Rattle.std.specs.Option.{option_and_then, option_map_or}
use Rattle.sed_units.specs.declared.leaves.TypeName.{TypeName}
use Rattle.sed_units.specs.declared.classes.Class.{Class}
use Rattle.sed_classes.specs.declared.kit_units.KitUnits.{KitUnits}
use Rattle.sed_classes.specs.Declarations.{Declaration, all_classes, class_at}
use Rattle.sed_classes.specs.SysSource.{object_class}
use Rattle.sed_classes.specs.Names.{class_of_name, is_text_name, is_buffer_name}

-- the base that a class without `extends` has: `Obj`, which itself has none
abbrev pub base_unnamed : ℕ → Option ℕ
base_unnamed class = if class == object_class then None else Some object_class

-- the class that the name behind `extends` stands for
abbrev pub base_named : List KitUnits → ℕ → TypeName → Option ℕ
base_named units kit name =
    if is_text_name name || is_buffer_name name then None else class_of_name units kit name

abbrev pub base_written : List KitUnits → ℕ → ℕ → Option TypeName → Option ℕ
base_written units class kit None = base_unnamed class
base_written units class kit (Some name) = base_named units kit name

-- the base of the class at a place
abbrev pub base_of : List KitUnits → ℕ → Option ℕ
base_of units class = option_and_then (λ d. base_written units class d.kit d.class.base) (class_at units class)

-- what is reached by going on from a row, each once: it ends where nothing comes, or one that is there already, and
-- after so many steps
abbrev pub gone_on : (ℕ → Option ℕ) → ℕ → List ℕ → Option ℕ → List ℕ
gone_on next zero far at = far
gone_on next (suc steps) far None = far
gone_on next (suc steps) far (Some at) =
    if list_any (λ f. f == at) far then far else gone_on next steps (far ++ at ∷ []) (next at)

-- a class, its base, the base of that, and so on, each once
abbrev pub lineage : List KitUnits → ℕ → List ℕ
lineage units class = gone_on (base_of units) (length (all_classes units)) (class ∷ []) (base_of units class)

-- the bases of a class, the nearest first; the class itself is not among them
abbrev pub bases : List KitUnits → ℕ → List ℕ
bases units class = drop 1 (lineage units class)

-- a class that is another or stands below it
abbrev pub is_below : List KitUnits → ℕ → ℕ → Bool
is_below units above class = list_any (λ c. c == above) (lineage units class)

-- what is reached from a start in at most so many steps comes to this place
abbrev pub comes_to : (ℕ → Option ℕ) → ℕ → ℕ → Option ℕ → Bool
comes_to next to zero at = false
comes_to next to (suc steps) None = false
comes_to next to (suc steps) (Some at) = (at == to) || comes_to next to steps (next at)

-- the bases of a class lead back to it
abbrev pub leads_back : List KitUnits → ℕ → Bool
leads_back units class = comes_to (base_of units) class (length (all_classes units)) (base_of units class)
