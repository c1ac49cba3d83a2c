-- What is asked of rows for their limits.
use Rattle.std.specs.Prelude.{ℕ, List, length, sum_by}
use Rattle.sed_typed.specs.Classes.{reached}
use Rattle.sed_engine.specs.Code.{Meaning}
use Rattle.comp_tree.specs.Order.{most_levels}
use Rattle.row_tree.specs.TreeRows.{parent_in}
use Rattle.app_front.specs.declared.rows.FileRow.{FileRow}
use Rattle.row_tree.specs.declared.tree_rows.TreeRow.{TreeRow}

-- how deep a row stands, the App's at 0; no more than there may be levels
abbrev pub depth_in : List TreeRow → TreeRow → ℕ
depth_in rows r = length (reached (parent_in rows) most_levels (parent_in rows r.id))

-- the data sizes of the classes of rows together
abbrev pub data_of_rows : Meaning → List FileRow → ℕ
data_of_rows m rows = sum_by (λ (r : FileRow). m.data_size r.kind.0) rows
