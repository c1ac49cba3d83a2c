-- Rows and links of a file that hold together, and what is made of them.
use Rattle.std.specs.Prelude.{ℕ, ◌≡◌, List, length, Option}
use Rattle.std.specs.List.{All}
use Rattle.sed_typed.specs.Contents.{Contents}
use Rattle.sed_engine.specs.Code.{Meaning}
use Rattle.comp_tree.specs.Application.{Application, ById, Components}
use Rattle.comp_tree.specs.Limits.{limit_passed}
use Rattle.comp_tree.specs.Whole.{IsFormed}
use Rattle.row_tree.specs.Reached.{StayWithin}
use Rattle.row_tree.specs.Tree.{children_in}
use Rattle.app_file.specs.Telling.{told_by}
use Rattle.app_file.specs.declared.refusal.AppRefusal.{AppRefusal}
use Rattle.app_file.specs.declared.refusal.AppRefusal.TheVariants.{NotAnApp, WrongKits, OverLimit, Memory}
use Rattle.app_front.specs.Rows.{IsToldRow}
use Rattle.app_reader.specs.FormedFile.{IsFormedFile, tree_rows}
use Rattle.app_reader.specs.Tells.{application_of_rows, rows_told}
use Rattle.app_reader.specs.declared.ready.FormedRows.{FormedRows}

-- the children of each id
abbrev pub children_told : FormedRows → ℕ → List ℕ
children_told rows = children_in (tree_rows rows.file.rows) rows.lists

-- the components that the rows tell
abbrev pub components_told : Meaning → FormedRows → ById
components_told m rows = told_by m (children_told rows) (rows_told rows.file)

-- components with statics, under a data limit
abbrev pub tree_with : Contents → ℕ → ById → Components
tree_with statics limit all = record { by_id = all; statics = statics; limit = limit }

-- the application that the rows and links tell, under a data limit
abbrev pub application_told : Meaning → ℕ → FormedRows → Application
application_told m limit rows = application_of_rows m rows.file.rows rows.lists rows.file.links limit

-- the first limit that it passes
abbrev pub limit_told : Meaning → ℕ → FormedRows → Option ℕ
limit_told m limit rows = limit_passed m (application_told m limit rows)

-- rows and links hold together, with these lists of the rows' children; so they tell an application that is formed,
-- whether or not it passes a limit
pub record HoldTogether (m : Meaning) (limit : ℕ) (rows : FormedRows) : Type 0 where
  pub told : All (IsToldRow m) rows.file.rows
  pub formed : IsFormedFile m rows.file (children_told rows)
  pub tree : rows.tree ≡ tree_rows rows.file.rows
  pub size : length rows.lists ≡ length rows.file.rows
  pub within : StayWithin rows.lists
  pub application : IsFormed m (application_told m limit rows)

-- a limit that is passed, or want of memory: of the bytes nothing is left to refuse
abbrev pub IsLimitOrMemory : AppRefusal → Type 0
IsLimitOrMemory (NotAnApp at) = ⊥
IsLimitOrMemory (WrongKits place in_file in_kits) = ⊥
IsLimitOrMemory (OverLimit which) = Unit {0}
IsLimitOrMemory Memory = Unit {0}
