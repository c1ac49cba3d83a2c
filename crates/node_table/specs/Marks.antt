-- Marks: which of a component's parts may have changed since they were settled, for each session place.
use Rattle.std.specs.Prelude.{ℕ, ◌+◌, ◌/◌, ◌%◌, ◌==◌, ◌||◌, ◌&&◌, true, false, not, if◌then◌else◌, List, slice_index_or}
use Rattle.node_table.specs.declared.marks.Parts.{Parts}

abbrev pub all_parts : Parts
all_parts = record { tree = true; config = true; runtime = true }

-- the part that tells of the tree: type, name, parent and children
abbrev pub tree_parts : Parts
tree_parts = record { tree = true; config = false; runtime = false }

-- the two that tell of values
abbrev pub value_parts : Parts
value_parts = record { tree = false; config = true; runtime = true }

abbrev pub with_parts : Parts → Parts → Parts
with_parts more p = record {
  tree = p.tree || more.tree;
  config = p.config || more.config;
  runtime = p.runtime || more.runtime;
}

abbrev pub without_parts : Parts → Parts → Parts
without_parts fewer p = record {
  tree = p.tree && not fewer.tree;
  config = p.config && not fewer.config;
  runtime = p.runtime && not fewer.runtime;
}

-- the marks at a session place; of what is no place, all are set
abbrev pub parts_at : List Parts → ℕ → Parts
parts_at marks place = slice_index_or marks place all_parts

-- the parts as the bits of a mask: 1 the tree, 2 the config values, 4 the runtime values
abbrev pub mask_of : Parts → ℕ
mask_of p = (if p.tree then 1 else 0) + (if p.config then 2 else 0) + (if p.runtime then 4 else 0)

abbrev pub parts_in : ℕ → Parts
parts_in mask = record { tree = mask % 2 == 1; config = mask / 2 % 2 == 1; runtime = mask / 4 % 2 == 1 }
