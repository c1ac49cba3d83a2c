-- When a command attaches its store.
use Rattle.std.specs.Prelude.{◌≡◌, ◌⊎◌, ℕ, List, [], ◌∷◌, Option, Some, None}
use Rattle.disk_model.specs.Disk.{Attaches as IsAttach}
use Rattle.disk_model.specs.declared.disk.Disk.{Ghosts as DiskGhosts}
use Rattle.sedona_cli.specs.Puts.{IsOneOf}
use Rattle.sedona_cli.specs.Program.{at_store}

-- The statuses before whose refusals no step comes to the store, and those behind which it was come to.
abbrev pub before_store : List ℕ
before_store = 2 ∷ 3 ∷ 6 ∷ 9 ∷ 11 ∷ 12 ∷ []

-- A command with a store attaches its name, once, exactly where the order comes to it, and before anything else is
-- asked of the disk: as many calls had been made then as when the command began; with want of memory once or never.
pub record AttachesBy {T : Type 0} (D : DiskGhosts T) (name : List ℕ) (status : ℕ) (disk disk_now : T) : Type 0 where
  pub never : IsOneOf before_store status → disk_now ≡ disk
  pub once : IsOneOf at_store status
      → IsAttach (D.meaning disk).calls (D.meaning disk).attached (D.meaning disk_now).attached name
  pub at_most_once : status ≡ 7
      → (disk_now ≡ disk)
      ⊎ IsAttach (D.meaning disk).calls (D.meaning disk).attached (D.meaning disk_now).attached name

-- without a store it leaves the disk
abbrev pub AsksStore : {T : Type 0} → DiskGhosts T → Option (List ℕ) → ℕ → T → T → Type 0
AsksStore D None status disk disk_now = disk_now ≡ disk
AsksStore D (Some name) status disk disk_now = AttachesBy D name status disk disk_now
