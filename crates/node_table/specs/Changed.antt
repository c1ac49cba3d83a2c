-- Nodes with one part changed. Another name and other children are marked for every place.
use Rattle.std.specs.Prelude.{ℕ, List, map as map_list, slice_set}
use Rattle.node_table.specs.declared.marks.Parts.{Parts}
use Rattle.node_table.specs.declared.node.Node.{Node}
use Rattle.node_table.specs.Marks.{parts_at, tree_parts, with_parts, without_parts}

-- these parts marked for every place
abbrev pub touched : Parts → List Parts → List Parts
touched parts marks = map_list (with_parts parts) marks

-- these parts settled for a place
abbrev pub settled : ℕ → Parts → List Parts → List Parts
settled place parts marks = slice_set marks place (without_parts parts (parts_at marks place))

abbrev pub with_marks : List Parts → Node → Node
with_marks marks n = record {
  kind = n.kind;
  name = n.name;
  parent = n.parent;
  children = n.children;
  fault = n.fault;
  place = n.place;
  marks = marks;
}

abbrev pub with_fault : ℕ → Node → Node
with_fault fault n = record {
  kind = n.kind;
  name = n.name;
  parent = n.parent;
  children = n.children;
  fault = fault;
  place = n.place;
  marks = n.marks;
}

abbrev pub with_name : List ℕ → Node → Node
with_name name n =
    record {
      kind = n.kind;
      name = name;
      parent = n.parent;
      children = n.children;
      fault = n.fault;
      place = n.place;
      marks = touched tree_parts n.marks;
    }

abbrev pub with_children : List ℕ → Node → Node
with_children children n =
    record {
      kind = n.kind;
      name = n.name;
      parent = n.parent;
      children = children;
      fault = n.fault;
      place = n.place;
      marks = touched tree_parts n.marks;
    }
