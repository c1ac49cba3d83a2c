-- The first row.
use Rattle.std.specs.Prelude.{◌≡◌, List, slice_get, Some, None}
use Rattle.row_tree.specs.declared.tree_rows.TreeRow.{TreeRow}

-- it is the App's, which alone has neither parent nor sibling
pub record HasRoot (rows : List TreeRow) : Type 0 where
  pub row : TreeRow
  pub is : slice_get rows 0 ≡ Some row
  pub app : row.id ≡ 0
  pub root : row.parent ≡ None
  pub alone : row.next_sibling ≡ None
