-- The application that a store holds.
use Rattle.std.specs.Prelude.{ℕ, List}
use Rattle.disk_model.specs.Disk.{Image}
use Rattle.app_save.specs.Store.{Opens as OpensTo}
use Rattle.sed_engine.specs.Code.{Meaning}
use Rattle.comp_tree.specs.Application.{Application}
use Rattle.app_file.specs.Reading.{IsFile}

-- the image is a whole store, and the payload of its newest slot is a text of this application
pub record Opens (m : Meaning) (limit : ℕ) (image : Image) (a : Application) : Type 0 where
  pub size : ℕ
  pub payload : List ℕ
  pub store : OpensTo size image payload
  pub file : IsFile m limit payload a
