-- What opens to the text of the App alone is a new store.
use Rattle.std.proofs.Common.{ℕ}
use Rattle.disk_model.specs.Disk.{Image}
use Rattle.app_save.specs.Store.{Opens}
use Rattle.sed_engine.specs.Code.{Meaning}
use Rattle.comp_tree.specs.Parts.{Kept}
use Rattle.app_file.specs.Reading.{IsFile}
use Rattle.app_file.specs.Text.{app_text}
use Rattle.app_writer.specs.Alone.{IsNewStore, app_alone, text_alone}

pub new_image : (S : ℕ) (m : Meaning) (limit : ℕ) (image : Image) → IsFile m limit (app_text m (app_alone m limit)) (Kept m (app_alone m limit)) → Opens S image (text_alone m limit) → IsNewStore S m limit image
unfolding text_alone
new_image S m limit image file open_to = record {
  store = open_to.store;
  opens = record { size = S; payload = app_text m (app_alone m limit); store = open_to; file = file };
}
