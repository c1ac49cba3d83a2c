-- Many saves in one run, and what a crash at any moment of it leaves. Nothing here speaks of gates, bytes or syncs.
use Rattle.std.specs.Prelude.{◌≡◌, ◌+◌, ◌-◌, ◌≤◌, ℕ, zero, suc, Bool, if◌then◌else◌, List, [], ◌∷◌, length, take}
use Rattle.disk_model.specs.Disk.{Image, Meaning}
use Rattle.app_save.specs.Store.{Opens}

-- The saves that a run began, the first one first: each one's payload, and whether it was acknowledged.
abbrev pub Saves : Type 0
Saves = List (List ℕ × Bool)

abbrev pub acknowledged : Saves → ℕ
acknowledged [] = 0
acknowledged (save ∷ saves) = acknowledged saves + (if save.1 then 1 else 0)

-- Entry 0 is what was opened, and entry k the payload of the k-th save.
abbrev pub entry : List ℕ → Saves → ℕ → List ℕ
entry opened saves zero = opened
entry opened [] (suc k) = opened
entry opened (save ∷ saves) (suc k) = entry save.0 saves k

-- An entry that isn't before the m-th acknowledged one; with m = 0 that is what was opened.
pub record IsEntrySince (opened : List ℕ) (saves : Saves) (m : ℕ) (payload : List ℕ) : Type 0 where
  pub k : ℕ
  pub there : k ≤ length saves
  pub not_before : m ≤ acknowledged (take k saves)
  pub is : payload ≡ entry opened saves k

-- The image opens to such an entry.
pub record OpensToEntry (S : ℕ) (opened : List ℕ) (saves : Saves) (m : ℕ) (image : Image) : Type 0 where
  pub payload : List ℕ
  pub opens : Opens S image payload
  pub is_entry : IsEntrySince opened saves m payload

-- From the start on these saves began. Each acknowledged one made one mark, and at each moment a crash leaves only
-- images that open to an entry, none before the last one acknowledged by then.
pub record IsRun (S : ℕ) (opened : List ℕ) (saves : Saves) (start now : Meaning) : Type 0 where
  pub later : start.now ≤ now.now
  pub made : now.marks now.now ≡ start.marks start.now + acknowledged saves
  pub each : (u : ℕ) (c : Image) → start.now ≤ u → u ≤ now.now → now.leaves u c
      → OpensToEntry S opened saves (now.marks u - start.marks start.now) c
