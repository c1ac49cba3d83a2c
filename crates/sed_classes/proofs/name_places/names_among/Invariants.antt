use Rattle.std.proofs.Common.{◌≡◌, ◌≤◌, ℕ, List, length, drop}
use Rattle.std.specs.List.{position_from}
use Rattle.sed_classes.specs.Indexed.{place_of}
use Rattle.sed_classes.specs.Members.{has_name}
use Rattle.sed_classes.proofs.name_places.names_among.Given as goal

-- the names of the members from here on
abbrev pub invariant-backwards : goal.invariant-backwards
invariant-backwards l = record {
  within : l.left ≤ length l.members;
  found : (name : List ℕ) → place_of l.names name ≡ position_from (has_name name) l.left (drop l.left l.members);
}

abbrev pub decreases-backwards : goal.decreases-backwards
decreases-backwards l = l.left
