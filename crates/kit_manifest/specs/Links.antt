-- The dependences of kits as links between their places, and marks on places.
use Rattle.std.specs.Prelude.{◌≡◌, ℕ, ◌+◌, ◌<◌, List, [], length, All, Bool, true, false, not, count_by, slice_get}
use Rattle.std.specs.Prelude.{slice_index_or, Contains, Vec, ◌⊎◌}
use Rattle.std.specs.Option.{option_map_or}
use Rattle.std.specs.declared.alloc.Global.{Global}
use Rattle.kit_manifest.specs.Order.{IsFirst, IsOrder, DependsOn}
use Rattle.kit_manifest.specs.declared.manifest.Manifest.{Manifest}
use Rattle.kit_manifest.specs.Walk.{Walk}
use Rattle.kit_manifest.specs.declared.links.Ordered.{Ordered}
use Rattle.kit_manifest.specs.declared.links.Ordered.TheVariants.{Order, Cycle}

-- The places that a place has links to.
abbrev pub links_at : List (Vec ℕ Global) → ℕ → List ℕ
links_at links i = option_map_or (λ to. to.items) (slice_get links i) []

abbrev pub IsLink : List (Vec ℕ Global) → ℕ → ℕ → Type 0
IsLink links i j = Contains (links_at links i) j

-- Each link leads to a place below n.
abbrev pub StaysBelow : ℕ → List (Vec ℕ Global) → Type 0
StaysBelow n links = (i : ℕ) → All (λ j. j < n) (links_at links i)

abbrev pub is_marked : List Bool → ℕ → Bool
is_marked marks i = slice_index_or marks i false

abbrev pub unmarked_count : List Bool → ℕ
unmarked_count marks = count_by (λ mark. not mark) marks

-- All of these places are marked.
abbrev pub AreMarked : List Bool → List ℕ → Type 0
AreMarked marks places = All (λ i. is_marked marks i ≡ true) places

-- The place is not marked, and all that it has links to are.
pub record IsReady (links : List (Vec ℕ Global)) (marks : List Bool) (i : ℕ) : Type 0 where
  pub within : i < length links
  pub left : is_marked marks i ≡ false
  pub met : AreMarked marks (links_at links i)

-- Nothing can be taken.
abbrev pub IsStalled : List (Vec ℕ Global) → List Bool → Type 0
IsStalled links marks = (i : ℕ) → IsReady links marks i → ⊥

-- These places were marked, and those of them that were not marked before wait.
pub record Reaches (places : List ℕ) (before now : List Bool) (waiting waiting_now : List ℕ) : Type 0 where
  pub same_length : length now ≡ length before
  pub kept : (i : ℕ) → is_marked before i ≡ true → is_marked now i ≡ true
  pub all : AreMarked now places
  pub from_places : (i : ℕ) → is_marked now i ≡ true → (is_marked before i ≡ true) ⊎ Contains places i
  pub new_wait : (i : ℕ) → is_marked now i ≡ true → (is_marked before i ≡ true) ⊎ Contains waiting_now i
  pub still_wait : (i : ℕ) → Contains waiting i → Contains waiting_now i
  pub from_new : (i : ℕ) → Contains waiting_now i → Contains waiting i ⊎ (is_marked now i ≡ true)
  pub size : unmarked_count now + length waiting_now ≡ unmarked_count before + length waiting

-- The order of the places by their links, or the first place that links lead back to.
abbrev pub IsOrdered : List (Vec ℕ Global) → Ordered → Type 0
IsOrdered links (Order order) = IsOrder (length links) (IsLink links) order.items
IsOrdered links (Cycle at) = IsFirst (length links) (λ i. Walk (IsLink links) i i) at

-- The links are the dependences of the kits.
pub record AreLinksOf (kits : List Manifest) (links : List (Vec ℕ Global)) : Type 0 where
  pub same_length : length links ≡ length kits
  pub depends : (i j : ℕ) → IsLink links i j → DependsOn kits i j
  pub linked : (i j : ℕ) → DependsOn kits i j → IsLink links i j
