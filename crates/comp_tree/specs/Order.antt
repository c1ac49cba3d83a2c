-- The order of a tree of components, and its ids.
use Rattle.std.specs.Prelude.{ℕ, zero, suc, if◌then◌else◌, List, [], ◌∷◌, length}
use Rattle.std.specs.List.{flat_map}
use Rattle.sed_typed.specs.Classes.{reached}
use Rattle.comp_tree.specs.Application.{ById, children_of, greatest_depth, is_live, most_components, parent_of}

-- so many levels has a tree at most, the App's among them
abbrev pub most_levels : ℕ
most_levels = suc greatest_depth

-- the components at and below one, depth first: a parent before its children, and these in their order; down to so many
-- levels
unfoldable pub down_from : ById → ℕ → ℕ → List ℕ
down_from all zero id = []
down_from all (suc levels) id = id ∷ flat_map (down_from all levels) (children_of all id)

abbrev pub subtree : ById → ℕ → List ℕ
subtree all id = down_from all most_levels id

-- all components, depth first
abbrev pub depth_first : ById → List ℕ
depth_first all = subtree all 0

-- the components above one, its parent first
abbrev pub ancestors : ById → ℕ → List ℕ
ancestors all id = reached (parent_of all) most_levels (parent_of all id)

-- how deep a component stands, the App at 0
abbrev pub depth : ById → ℕ → ℕ
depth all id = length (ancestors all id)

-- the first id from one on that is free, of so many
unfoldable pub free_from : ById → ℕ → ℕ → ℕ
free_from all zero id = id
free_from all (suc more) id = if is_live all id then free_from all more (suc id) else id

-- the least id that is free
abbrev pub least_free : ById → ℕ
least_free all = free_from all most_components 0
