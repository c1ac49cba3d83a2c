-- The application of a new store, its text, and what a crash leaves of the store.
use Rattle.std.specs.Prelude.{ℕ, List, []}
use Rattle.disk_model.specs.Disk.{Image, Meaning as DiskMeaning}
use Rattle.app_save.specs.Store.{IsStore}
use Rattle.sed_engine.specs.Code.{Meaning}
use Rattle.comp_tree.specs.Application.{Application}
use Rattle.comp_tree.specs.Edits.{app_class, first_components}
use Rattle.comp_tree.specs.Parts.{Kept}
use Rattle.app_file.specs.Opens.{Opens}
use Rattle.app_file.specs.Text.{app_text}

-- the App alone, as it begins under a data limit: no other component, and no links
abbrev pub app_alone : Meaning → ℕ → Application
app_alone m limit = record { components = first_components m m.initial_statics limit; links = [] }

unfoldable pub text_alone : Meaning → ℕ → List ℕ
text_alone m limit = app_text m (app_alone m limit)

-- the bytes of data that the App has
abbrev pub data_alone : Meaning → ℕ
data_alone m = m.data_size (app_class m)

-- the image is a store with slots of S bytes that opens to what a file keeps of the App alone
pub record IsNewStore (S : ℕ) (m : Meaning) (limit : ℕ) (image : Image) : Type 0 where
  pub store : IsStore S image
  pub opens : Opens m limit image (Kept m (app_alone m limit))

-- so is every image that a crash now may leave
abbrev pub AllNew : ℕ → Meaning → ℕ → DiskMeaning → Type 0
AllNew S m limit d = (c : Image) → d.leaves d.now c → IsNewStore S m limit c
