use Rattle.std.proofs.Common.{◌≡◌, ◌<◌, ℕ, List, length, position}
use Rattle.sed_classes.specs.Entries.{declarations}
use Rattle.sed_classes.specs.Indexed.{members_at, place_in}
use Rattle.sed_classes.specs.Members.{has_name}
use Rattle.sed_classes.proofs.name_places.member_names.Given as goal

-- the names of the members of the classes so far
abbrev pub invariant-loop-class : goal.invariant-loop-class
invariant-loop-class l = record {
  count : length l.names.items ≡ l.class;
  found : (class : ℕ) (name : List ℕ) → class < l.class → place_in l.names.items class name ≡ position (has_name name) (members_at (declarations l.all) class);
}
