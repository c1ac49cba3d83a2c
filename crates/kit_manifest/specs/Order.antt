-- Which kits depend on which, and the order of kits.
use Rattle.std.specs.Prelude.{◌≡◌, ◌≢◌, ℕ, ◌<◌, List, [], ◌∷◌, ◌++◌, length, codes, slice_get, Contains, AllPairs, ◌⊎◌}
use Rattle.std.specs.Option.{option_map_or}
use Rattle.kit_manifest.specs.declared.manifest.Manifest.{Manifest}
use Rattle.kit_manifest.specs.declared.fault.ManifestFault.{ManifestFault}
use Rattle.kit_manifest.specs.declared.fault.ManifestFault.TheVariants.{UnknownKit, Cycle, RepeatedKit, Memory}
use Rattle.kit_manifest.specs.Walk.{Walk}

-- The name of the kit at a place of the list, and the names that it depends on.
abbrev pub name_of : List Manifest → ℕ → List ℕ
name_of kits i = option_map_or (λ kit. kit.name) (slice_get kits i) []

abbrev pub depends_of : List Manifest → ℕ → List (List ℕ)
depends_of kits i = option_map_or (λ kit. kit.depends) (slice_get kits i) []

-- A kit depends on each kit of the list whose name is among its dependences.
abbrev pub DependsOn : List Manifest → ℕ → ℕ → Type 0
DependsOn kits i j = (j < length kits) × Contains (depends_of kits i) (name_of kits j)

-- The name is that of no kit of the list, and not that of the built-in kit `sys`.
pub record IsUnknown (kits : List Manifest) (name : List ℕ) : Type 0 where
  pub not_sys : name ≢ codes "sys"
  pub not_there : (j : ℕ) → j < length kits → name_of kits j ≢ name

-- A dependence of the kit is unknown.
pub record HasUnknown (kits : List Manifest) (i : ℕ) : Type 0 where
  pub name : List ℕ
  pub wanted : Contains (depends_of kits i) name
  pub unknown : IsUnknown kits name

-- Dependences lead back to the kit: a walk of them goes from it to itself.
abbrev pub LeadsBack : List Manifest → ℕ → Type 0
LeadsBack kits i = Walk (DependsOn kits) i i

-- Another kit of the list has the kit's name, or it is the name of the built-in kit.
abbrev pub IsRepeated : List Manifest → ℕ → Type 0
IsRepeated kits i = (name_of kits i ≡ codes "sys")
    ⊎ ((j : ℕ) × (j < length kits) × (j ≢ i) × (name_of kits j ≡ name_of kits i))

-- Nowhere below n does the fact hold.
abbrev pub IsNowhere : ℕ → (ℕ → Type 0) → Type 0
IsNowhere n Holds = (i : ℕ) → i < n → Holds i → ⊥

-- The place is the first below n at which the fact holds.
pub record IsFirst (n : ℕ) (Holds : ℕ → Type 0) (i : ℕ) : Type 0 where
  pub within : i < n
  pub holds : Holds i
  pub before : (j : ℕ) → j < i → Holds j → ⊥

-- Of n kits, this one can be taken after those that were taken: it is not yet, and each that it needs is.
pub record CanBeTaken (n : ℕ) (Needs : ℕ → ℕ → Type 0) (taken : List ℕ) (i : ℕ) : Type 0 where
  pub within : i < n
  pub left : Contains taken i → ⊥
  pub met : (j : ℕ) → Needs i j → Contains taken j

-- Places taken again and again, each time the first that can be taken.
pub data Takes (n : ℕ) (Needs : ℕ → ℕ → Type 0) : List ℕ → Type 0 where
  nothing : Takes n Needs []
  next : (taken : List ℕ) (i : ℕ) → Takes n Needs taken → IsFirst n (CanBeTaken n Needs taken) i
      → Takes n Needs (taken ++ i ∷ [])

-- The order of the kits: the first kit of the list whose dependences are taken is taken, again and again, until each
-- is. The built-in kit `sys` is there before all: no kit of the list waits for it.
pub record IsOrder (n : ℕ) (Needs : ℕ → ℕ → Type 0) (order : List ℕ) : Type 0 where
  pub taken : Takes n Needs order
  pub whole : (i : ℕ) → i < n → Contains order i

-- Each of the first n places stands in the list once, and nothing else does.
pub record IsPermutationOf (n : ℕ) (order : List ℕ) : Type 0 where
  pub each : (i : ℕ) → i < n → Contains order i
  pub within : (i : ℕ) → Contains order i → i < n
  pub once : AllPairs (λ i j. i ≢ j) order

-- The place j stands in the order before the place i.
pub record StandsBefore (order : List ℕ) (j i : ℕ) : Type 0 where
  pub front : List ℕ
  pub back : List ℕ
  pub parts : order ≡ front ++ i ∷ back
  pub there : Contains front j

-- The refusals of a list at a place, each where none before it holds anywhere.
abbrev pub UnknownAt : List Manifest → ℕ → Type 0
UnknownAt kits at = IsFirst (length kits) (HasUnknown kits) at

pub record CycleAt (kits : List Manifest) (at : ℕ) : Type 0 where
  pub known : IsNowhere (length kits) (HasUnknown kits)
  pub first : IsFirst (length kits) (LeadsBack kits) at

pub record RepeatedAt (kits : List Manifest) (at : ℕ) : Type 0 where
  pub known : IsNowhere (length kits) (HasUnknown kits)
  pub no_cycle : IsNowhere (length kits) (LeadsBack kits)
  pub first : IsFirst (length kits) (IsRepeated kits) at

-- No refusal holds anywhere.
pub record IsOrderly (kits : List Manifest) : Type 0 where
  pub known : IsNowhere (length kits) (HasUnknown kits)
  pub no_cycle : IsNowhere (length kits) (LeadsBack kits)
  pub different : IsNowhere (length kits) (IsRepeated kits)

-- The places are the order of the kits, and no refusal holds.
pub record IsOrderOf (kits : List Manifest) (places : List ℕ) : Type 0 where
  pub order : IsOrder (length kits) (DependsOn kits) places
  pub orderly : IsOrderly kits

-- The fault is the refusal of the list, or want of memory.
abbrev pub IsListRefusal : List Manifest → ManifestFault → Type 0
IsListRefusal kits (UnknownKit at) = UnknownAt kits at
IsListRefusal kits (Cycle at) = CycleAt kits at
IsListRefusal kits (RepeatedKit at) = RepeatedAt kits at
IsListRefusal kits Memory = Unit {0}
IsListRefusal kits _ = ⊥
