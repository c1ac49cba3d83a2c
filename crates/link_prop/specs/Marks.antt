-- Marks of an application: which of the parts t, c, r and l of a component may have changed since they were settled for
-- a session place; and the table of the marks that each call may set. Those of t, c and r are the tree's.
use Rattle.std.specs.Prelude.{ℕ, ◌≡◌, ◌⊎◌, ◌==◌, ◌&&◌, ◌||◌, ◌+◌, ◌/◌, ◌%◌, Bool, true, false, if◌then◌else◌, IsTrue}
use Rattle.std.specs.Prelude.{List}
use Rattle.std.specs.List.{list_any}
use Rattle.sed_engine.specs.declared.engine.Engine.{Ghosts}
pub use Rattle.node_table.specs.declared.marks.Parts.{Parts}
use Rattle.sub_table.specs.Link.{Link}
use Rattle.sub_table.specs.Links.{links_at}
pub use Rattle.sub_table.specs.Marked.{has_mark}
pub use Rattle.comp_tree.specs.Marks.{Part, added_at, is_among, marks_at, mask_of, no_marks, part_at, parts_in}
pub use Rattle.comp_tree.specs.Marks.{tree_above, tree_at, values_at}
use Rattle.comp_tree.specs.Application.{is_live}
use Rattle.comp_tree.specs.Held.{components_of}
use Rattle.comp_tree.specs.Parts.{link_part}
use Rattle.link_prop.specs.Linked.{Linked, application_of}

-- ---- parts

-- a part that events tell of: t, c or r, of which the tree keeps the marks, or l
pub data AppPart : Type 0 where
  OfTree : Part → AppPart
  OfLinks : AppPart

-- the bytes of a part of the component with an id
abbrev pub bytes_at : {E : Type 0} → Ghosts E → Linked E → ℕ → AppPart → List ℕ
bytes_at g h id (OfTree part) = part_at (g.meaning h.tree.engine) (components_of g h.tree).by_id id part
bytes_at g h id OfLinks = link_part id h.links

-- whether a part of the component with an id is marked for a place
abbrev pub is_marked : {E : Type 0} → Linked E → ℕ → ℕ → AppPart → Bool
is_marked h id place (OfTree part) = is_among part (marks_at h.tree id place)
is_marked h id place OfLinks = has_mark h.marks id place

-- ---- masks: 1 is t, 2 is c, 4 is r and 8 is l

abbrev pub is_in_mask : ℕ → AppPart → Bool
is_in_mask mask (OfTree part) = is_among part (parts_in mask)
is_in_mask mask OfLinks = mask / 8 % 2 == 1

-- the marked parts of a component
abbrev pub mask_at : {E : Type 0} → Linked E → ℕ → ℕ → ℕ
mask_at h id place = mask_of (marks_at h.tree id place) + (if has_mark h.marks id place then 8 else 0)

-- ---- what a call does to the marks

-- what the mark of a part for a place tells, from one state to a later one: where it is clear after, it was clear
-- before, and the part has the same bytes
abbrev pub MarkTells : {E : Type 0} → Ghosts E → ℕ → ℕ → AppPart → Linked E → Linked E → Type 0
MarkTells g id place part before after =
    is_marked after id place part ≡ false
    → (is_marked before id place part ≡ false) × (bytes_at g before id part ≡ bytes_at g after id part)

-- each mark tells so
abbrev pub Tells : {E : Type 0} → Ghosts E → Linked E → Linked E → Type 0
Tells g before after = (id place : ℕ) (part : AppPart) → MarkTells g id place part before after

-- a part is in a row of the table, which has marks of the tree and marks of links
abbrev pub is_in_row : (ℕ → Parts) → (ℕ → Bool) → ℕ → AppPart → Bool
is_in_row own linked id (OfTree part) = is_among part (own id)
is_in_row own linked id OfLinks = linked id

-- what a call does where it may set the marks of a row: it tells of them; and of what is live after, at most the row's
-- marks are set, and none is cleared
pub record KeepsAppMarks {E : Type 0} (g : Ghosts E) (own : ℕ → Parts) (linked : ℕ
    → Bool) (before after : Linked E) : Type 0 where
  pub tells : Tells g before after
  pub sets : (id place : ℕ) (part : AppPart) → IsTrue (is_live (components_of g after.tree).by_id id)
      → is_marked after id place part ≡ true
      → (is_marked before id place part ≡ true) ⊎ (is_in_row own linked id part ≡ true)
  pub clears_none : (id place : ℕ) (part : AppPart) → IsTrue (is_live (components_of g after.tree).by_id id)
      → is_marked before id place part ≡ true
      → is_marked after id place part ≡ true

-- ---- settling

-- the mark of a part for a place is among those that a `settle` of a mask clears at a component for a place
abbrev pub is_settled : ℕ → ℕ → ℕ → ℕ → ℕ → AppPart → Bool
is_settled id place mask other at part = ((other == id) && (at == place)) && is_in_mask mask part

-- what `settle` does: it clears the marks of a mask at a component for a place, and changes nothing else
pub record Settles {E : Type 0} (g : Ghosts E) (id place mask : ℕ) (before after : Linked E) : Type 0 where
  pub marks : (other at : ℕ) (part : AppPart) → is_marked after other at part
      ≡ (if is_settled id place mask other at part then false else is_marked before other at part)
  pub stays : application_of g after ≡ application_of g before
  pub meaning : g.meaning after.tree.engine ≡ g.meaning before.tree.engine

-- ---- the table: the marks of links that each call may set, for every place; those of the tree are in the tree's table

-- `add`: l of the new component, which is then set
abbrev pub links_of_new : ℕ → ℕ → Bool
links_of_new new id = id == new

-- `link` and `unlink`: l at the two components
abbrev pub links_at_ends : Link → ℕ → Bool
links_at_ends l id = (l.from == id) || (l.to == id)

-- `delete`: l at each component that had a link with one that goes
abbrev pub links_with : List ℕ → List Link → ℕ → Bool
links_with gone links id =
    list_any (λ (l : Link). list_any (λ other. (l.from == other) || (l.to == other)) gone) (links_at id links)

-- every other call: none
abbrev pub no_links : ℕ → Bool
no_links id = false
