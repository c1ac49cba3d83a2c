-- The application that rows and links tell.
use Rattle.std.specs.Prelude.{ℕ, ◌≡◌, List, map as map_list}
use Rattle.std.specs.FinMap as map
use Rattle.sed_engine.specs.Code.{Meaning}
use Rattle.comp_tree.specs.Application.{Application, Link}
use Rattle.comp_tree.specs.Parts.{Kept}
use Rattle.comp_tree.specs.Whole.{IsFormed}
use Rattle.app_file.specs.Rows.{Row, rows_of}
use Rattle.app_file.specs.Telling.{told_application}
use Rattle.app_file.specs.Text.{HasShortNames, greatest_of, old_version}
use Rattle.app_front.specs.Rows.{AreRows, told_row}
use Rattle.app_front.specs.declared.rows.FileRow.{FileRow}
use Rattle.app_front.specs.declared.rows.FileRows.{FileRows}
use Rattle.row_tree.specs.Tree.{children_in}
use Rattle.app_reader.specs.FormedFile.{tree_rows}

-- what the rows of a file tell, each of its component
abbrev pub rows_told : FileRows → List Row
rows_told f = map_list told_row f.rows

-- the application that rows and links tell, with lists of the places of the rows' children, under a data limit
abbrev pub application_of_rows : Meaning → List FileRow → List (List ℕ) → List Link → ℕ → Application
application_of_rows m rows lists links limit =
    told_application m (children_in (tree_rows rows) lists) (map_list told_row rows) links limit

-- the application is formed and as a file keeps it, under the data limit, and these are its rows, its links and its
-- greatest id; of a file of the old version the names are short
pub record Tells (m : Meaning) (limit : ℕ) (f : FileRows) (a : Application) : Type 0 where
  pub formed : IsFormed m a
  pub kept : Kept m a ≡ a
  pub under : a.components.limit ≡ limit
  pub rows : rows_told f ≡ rows_of m a.components.by_id
  pub links : f.links ≡ a.links
  pub greatest : f.greatest ≡ greatest_of (map.keys a.components.by_id)
  pub short : f.version ≡ old_version → HasShortNames a.components.by_id

-- the bytes are rows and links that tell the application
pub record AreToldBy (m : Meaning) (limit : ℕ) (bytes : List ℕ) (a : Application) : Type 0 where
  pub file : FileRows
  pub are : AreRows m bytes file
  pub tells : Tells m limit file a
