-- Marks of a tree: which of the parts t, c and r of a component may have changed since they were settled for a session
-- place; and the table of the marks that each call may set.
use Rattle.std.specs.Prelude.{ℕ, ◌≡◌, ◌⊎◌, ◌==◌, Bool, true, false, if◌then◌else◌, IsTrue, List, []}
use Rattle.std.specs.List.{list_any}
use Rattle.std.specs.Option.{option_map_or}
use Rattle.std.specs.FinMap as map
use Rattle.sed_engine.specs.declared.engine.Engine.{Ghosts}
use Rattle.sed_engine.specs.Code.{Meaning}
use Rattle.node_table.specs.declared.marks.Parts.{Parts}
use Rattle.node_table.specs.declared.node.Node.{Node}
pub use Rattle.node_table.specs.Marks.{all_parts, tree_parts, value_parts, with_parts, without_parts, parts_at, mask_of}
pub use Rattle.node_table.specs.Marks.{parts_in}
use Rattle.comp_tree.specs.Application.{ById, Component, is_live, parent_of}
use Rattle.comp_tree.specs.Held.{Held, Nodes, components_of}
use Rattle.comp_tree.specs.Parts.{config_part, runtime_part, tree_part}

-- ---- parts

-- the part `t`, `c` or `r`
pub data Part : Type 0 where
  Tree : Part
  Config : Part
  Runtime : Part

abbrev pub bytes_of : Meaning → Part → Component → List ℕ
bytes_of m Tree c = tree_part m c
bytes_of m Config c = config_part m c
bytes_of m Runtime c = runtime_part m c

-- the bytes of a part of the component with an id
abbrev pub part_at : Meaning → ById → ℕ → Part → List ℕ
part_at m all id part = option_map_or (bytes_of m part) (map.get all id) []

abbrev pub is_among : Part → Parts → Bool
is_among Tree p = p.tree
is_among Config p = p.config
is_among Runtime p = p.runtime

-- ---- marks

-- the parts of the component with an id that are marked for a place; of what is not live, all
abbrev pub marks_in : Nodes → ℕ → ℕ → Parts
marks_in nodes id place = option_map_or (λ (n : Node). parts_at n.marks place) (map.get nodes id) all_parts

abbrev pub marks_at : {E : Type 0} → Held E → ℕ → ℕ → Parts
marks_at h id place = marks_in h.nodes id place

-- parts of one component, and of no other
abbrev pub no_parts : Parts
no_parts = record { tree = false; config = false; runtime = false }

abbrev pub only : ℕ → Parts → ℕ → Parts
only at parts id = if id == at then parts else no_parts

-- what a call does to the marks, where it may set those of a row: a mark that is clear after it was clear before, and
-- the bytes of its part are the same; of what is live after, at most the row's marks are set and none is cleared
pub record KeepsMarks {E : Type 0} (g : Ghosts E) (row : ℕ → Parts) (before after : Held E) : Type 0 where
  pub tells : (id place : ℕ) (part : Part) → is_among part (marks_at after id place) ≡ false →
      (is_among part (marks_at before id place) ≡ false)
      × (part_at (g.meaning before.engine) (components_of g before).by_id id part
      ≡ part_at (g.meaning after.engine) (components_of g after).by_id id part)
  pub sets : (id place : ℕ) (part : Part) → IsTrue (is_live (components_of g after).by_id id)
      → is_among part (marks_at after id place) ≡ true →
      (is_among part (marks_at before id place) ≡ true) ⊎ (is_among part (row id) ≡ true)
  pub clears_none : (id place : ℕ) (part : Part) → IsTrue (is_live (components_of g after).by_id id)
      → is_among part (marks_at before id place) ≡ true →
      is_among part (marks_at after id place) ≡ true

-- ---- the table: the marks that each call may set, for every place

-- `execute`, `invoke`, `write` and `callback`: c and r at the component; `copy`: at its target
abbrev pub values_at : ℕ → ℕ → Parts
values_at id = only id value_parts

-- `rename` and `reorder`: t at the component
abbrev pub tree_at : ℕ → ℕ → Parts
tree_at id = only id tree_parts

-- `add`: t at the parent, and all at the new component, which are then set
abbrev pub added_at : ℕ → ℕ → ℕ → Parts
added_at parent new id = with_parts (only new all_parts id) (only parent tree_parts id)

-- `delete`: t at the parent; those that go have no marks any more, though their `stop` may have set c and r
abbrev pub tree_above : ById → ℕ → ℕ → Parts
tree_above all at id = option_map_or (λ parent. only parent tree_parts id) (parent_of all at) no_parts

abbrev pub values_of_all : List ℕ → ℕ → Parts
values_of_all ids id = if list_any (λ other. other == id) ids then value_parts else no_parts

-- `clear`, and what is refused: none
abbrev pub no_marks : ℕ → Parts
no_marks id = no_parts
