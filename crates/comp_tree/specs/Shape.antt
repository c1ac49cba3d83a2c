-- The shape of a tree: which ids are live, the parent of each, and the children of each.
use Rattle.std.specs.Prelude.{ℕ, zero, suc, ◌≡◌, ◌≤◌, Bool, IsTrue, List, [], ◌∷◌, nat_eq, Option, Some, None}
use Rattle.std.specs.List.{Contains, IsDistinct, flat_map}
use Rattle.std.specs.Option.{option_and_then}

-- so many steps up from an id
abbrev pub up_by : (ℕ → Option ℕ) → ℕ → ℕ → Option ℕ
up_by parent zero id = Some id
up_by parent (suc n) id = option_and_then (up_by parent n) (parent id)

-- the App is the root; each other live id is among the children of its parent, once, and comes up to the App,
-- however deep it stands; of what is not live there is neither parent nor child
pub record IsRooted (live : ℕ → Bool) (parent : ℕ → Option ℕ) (children : ℕ → List ℕ) : Type 0 where
  pub app : IsTrue (live 0)
  pub root : parent 0 ≡ None
  pub up : (id above : ℕ) → parent id ≡ Some above → Contains (children above) id
  pub down : (id above : ℕ) → Contains (children above) id → parent id ≡ Some above
  pub once : (above : ℕ) → IsDistinct nat_eq (children above)
  pub known : (id above : ℕ) → parent id ≡ Some above → IsTrue (live id)
  pub reached : (id : ℕ) → IsTrue (live id) → (n : ℕ) × (up_by parent n id ≡ Some 0)

-- what is rooted, where each live id comes up to the App in at most 16 steps
pub record IsTree (live : ℕ → Bool) (parent : ℕ → Option ℕ) (children : ℕ → List ℕ) : Type 0 where
  pub app : IsTrue (live 0)
  pub root : parent 0 ≡ None
  pub up : (id above : ℕ) → parent id ≡ Some above → Contains (children above) id
  pub down : (id above : ℕ) → Contains (children above) id → parent id ≡ Some above
  pub once : (above : ℕ) → IsDistinct nat_eq (children above)
  pub known : (id above : ℕ) → parent id ≡ Some above → IsTrue (live id)
  pub within : (id : ℕ) → IsTrue (live id) → (n : ℕ) × (n ≤ 16) × (up_by parent n id ≡ Some 0)

-- an id and those below it, down to so many levels
unfoldable pub down_by : (ℕ → List ℕ) → ℕ → ℕ → List ℕ
down_by children zero id = []
down_by children (suc levels) id = id ∷ flat_map (down_by children levels) (children id)
