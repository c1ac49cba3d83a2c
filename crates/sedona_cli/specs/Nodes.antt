-- What commands share that run a node: the store that is opened, the run, and what it leaves.
use Rattle.std.specs.Prelude.{◌≡◌, ◌<◌, ◌≤◌, ◌+◌, ◌-◌, ℕ, ℤ, true, IsTrue, List, Result}
use Rattle.disk_model.specs.Disk.{Image, Meaning}
use Rattle.sed_engine.specs.declared.engine.Engine.{Ghosts}
use Rattle.sed_engine.specs.Code.{Meaning as Code}
use Rattle.comp_tree.specs.Application.{Application}
use Rattle.app_file.specs.Opens.{Opens}
use Rattle.app_save.specs.Store.{IsStore}
use Rattle.dasp_session.specs.declared.user.User.{User}
use Rattle.node_events.specs.Node.{opened}
use Rattle.sed_node.specs.Running.{ComesTo, OpensSince, acknowledged_in}
use Rattle.sed_node.specs.Standing.{StandsFor, code_of, is_fixed, setup_of}
use Rattle.sed_node.specs.declared.kept.Kept.{Kept}
use Rattle.sed_outside.specs.Steps.{AndThen}
use Rattle.sedona_cli.specs.declared.refusal.Refusal.{Refusal}
use Rattle.sedona_cli.specs.Outside.{Ask, Ran, saves_in}
use Rattle.sedona_cli.specs.Store.{AppRead, StoreAttached, StoreOpened}

-- ---- what is opened

-- The store of a name is attached and opened, and its payload read as an application over a code, with at most so many
-- bytes of data.
unfoldable pub Opened : List ℕ → ℕ → Code → List Ask → Result Application Refusal → Type 0
Opened store limit code =
    AndThen (StoreAttached store) (λ (attached : Unit {0}).
    AndThen StoreOpened (λ (payload : List ℕ).
    AppRead code limit payload))

-- ---- what is run

-- A run of the node over this code that begins at a moment with this application and without sessions, for these users
-- and with this secret, with so many turns for each root call.
pub record IsRunFrom (moment : ℤ) (given : ℕ) (m : Code) (users : List User) (secret : List ℕ) (a : Application)
    (ran : Ran) : Type 0 where
  pub code : ran.code ≡ m
  pub turns : ran.setup.turns ≡ given
  pub start : ran.start ≡ opened ran.code ran.setup a users secret moment

-- A node that is ready to be run: it is of this code, has so many turns for each root call, never wants memory, and
-- stands for the node that begins at this moment with this application.
pub record IsReady {E : Type 0} (g : Ghosts E) (moment : ℤ) (turns : ℕ) (code : Code) (users : List User)
    (secret : List ℕ) (a : Application) (node : Kept E) : Type 0 where
  pub code_is : code_of g node ≡ code
  pub turns_are : (setup_of node).turns ≡ turns
  pub fixed : is_fixed g node ≡ true
  pub stands : StandsFor g node (opened code (setup_of node) a users secret moment)

-- ---- what it leaves

-- What a run leaves of its store. Its entries came to its events, in none of which memory was wanted. The node began
-- with the application that the store's file opens to, in slots of the store's size. Each save that was acknowledged
-- made a mark; what was opened counts as acknowledged. From the opening's sync on, each image that a crash at a moment
-- may leave opens to an application that was opened or saved, and to none before the last one acknowledged by then: as
-- many were as marks were made.
pub record LeavesStore (limit : ℕ) (a : Application) (ran : Ran) (disk disk_now : Meaning) : Type 0 where
  pub comes : ComesTo true ran.entries disk.faults disk_now.faults ran.events
  pub slots : IsTrue disk.tells → IsStore ran.setup.slot disk.content
  pub opens : IsTrue disk.tells → Opens ran.code limit disk.content a
  pub made : IsTrue disk.tells_marks
      → disk_now.marks disk_now.now + 1 ≡ disk.marks disk.now + acknowledged_in (saves_in a ran)
  pub crashes : IsTrue disk.tells → IsTrue disk.tells_marks → IsTrue disk.tells_syncs
      → (moment : ℕ) (image : Image) → moment ≤ disk_now.now → disk.syncs disk.now < disk_now.syncs moment
      → disk.now ≤ moment → disk_now.leaves moment image
      → OpensSince ran.code (saves_in a ran) (disk_now.marks moment - disk.marks disk.now) image
