use Rattle.std.proofs.Common.{◌≡◌, ◌≤◌, ℕ, List, length, drop}
use Rattle.std.specs.List.{position_from}
use Rattle.sed_classes.specs.Entries.{declarations}
use Rattle.sed_classes.specs.Indexed.{place_in}
use Rattle.sed_classes.specs.Names.{is_named}
use Rattle.sed_classes.proofs.name_places.class_names.Given as goal

-- the names of the classes from here on
abbrev pub invariant-backwards : goal.invariant-backwards
invariant-backwards l = record {
  within : l.left ≤ length l.all;
  found : (kit : ℕ) (name : List ℕ) → place_in l.names.items kit name ≡ position_from (is_named name kit) l.left (drop l.left (declarations l.all));
}

abbrev pub decreases-backwards : goal.decreases-backwards
decreases-backwards l = l.left
