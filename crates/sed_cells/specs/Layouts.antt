-- Layouts: each object, field and element that stands in an object has a number, so that it is found without its path.
use Rattle.std.specs.Prelude.{ℕ, ◌≡◌, ◌+◌, ◌-◌, ◌<◌, ◌≤◌, Bool, true, false, nat_lt, if◌then◌else◌, List, [], ◌∷◌, ◌++◌}
use Rattle.std.specs.Prelude.{map, length, replicate, slice_index_or, slice_set, Option, Some, None}
use Rattle.sed_value.specs.declared.value.Value.{Value}
use Rattle.sed_value.specs.declared.value.Value.TheVariants as kept
use Rattle.sed_value.specs.declared.slot_type.Primitive.{Primitive}
use Rattle.sed_typed.specs.declared.program.FieldForm.{FieldForm}
use Rattle.sed_typed.specs.declared.program.FieldForm.TheVariants.{Prim, Str, Buf, Array, Object}
use Rattle.sed_typed.specs.declared.program.Field.{Field}
use Rattle.sed_typed.specs.declared.program.Program.{Program}
use Rattle.sed_typed.specs.Classes.{fields}
use Rattle.sed_typed.specs.Initial.{zero_value}
use Rattle.sed_typed.specs.Objects.{form_class}
use Rattle.sed_cells.specs.declared.layout.Node.{Node}
use Rattle.sed_cells.specs.declared.layout.Stands.{Stands}
use Rattle.sed_cells.specs.declared.layout.Stands.TheVariants.{Statics, Part}
use Rattle.sed_cells.specs.Cells.{start_of}

-- a field, or an element of an array: what it holds, and the value with which it begins
pub record Piece : Type 0 where
  pub form : FieldForm
  pub initial : Value

abbrev pub piece_of : Field → Piece
piece_of f = record { form = f.form; initial = f.initial }

abbrev pub element_of : Primitive → Piece
element_of p = record { form = Prim p; initial = zero_value p }

-- what stands in a field of a form
abbrev pub pieces_in : Program → FieldForm → List Piece
pieces_in program (Prim p) = []
pieces_in program (Str n) = []
pieces_in program (Buf n) = []
pieces_in program (Array p n) = replicate n (element_of p)
pieces_in program (Object t) = map piece_of (fields program t.0)

abbrev pub pieces_of : Program → Stands → List Piece
pieces_of program Statics = map piece_of program.statics
pieces_of program (Part form) = pieces_in program form

-- whether a value is kept there
abbrev pub keeps_value : Stands → Bool
keeps_value Statics = false
keeps_value (Part (Prim p)) = true
keeps_value (Part (Str n)) = true
keeps_value (Part (Buf n)) = true
keeps_value (Part (Array p n)) = false
keeps_value (Part (Object t)) = false

-- the class of an object that stands there
abbrev pub class_standing : Stands → Option ℕ
class_standing Statics = None
class_standing (Part form) = form_class form

-- Room is how many objects may still lie inside one another. An object takes of it.
abbrev pub room_below : Stands → ℕ → ℕ
room_below Statics room = room
room_below (Part form) room = room - 1

abbrev pub HasRoom : Stands → ℕ → Type 0
HasRoom Statics room = Unit {0}
HasRoom (Part (Prim p)) room = Unit {0}
HasRoom (Part (Str n)) room = Unit {0}
HasRoom (Part (Buf n)) room = Unit {0}
HasRoom (Part (Array p n)) room = Unit {0}
HasRoom (Part (Object t)) room = 0 < room

-- ---- nodes

abbrev pub no_node : Node
no_node = record { parent = 0; step = 0; first = 0; count = 0; room = 0; stands = Statics }

abbrev pub node_at : List Node → ℕ → Node
node_at nodes n = slice_index_or nodes n no_node

-- the number of what stands at a step from a node
abbrev pub child_of : Node → ℕ → Option ℕ
child_of node step = if nat_lt step node.count then Some (node.first + step) else None

abbrev pub child : List Node → ℕ → ℕ → Option ℕ
child nodes n step = child_of (node_at nodes n) step

-- the pieces of each node lie within
abbrev pub HasFits : List Node → Type 0
HasFits nodes = (n : ℕ) → (node_at nodes n).first + (node_at nodes n).count ≤ length nodes

-- a piece of a node has a node that leads back to it, with a value to begin with
pub record IsPiece (nodes : List Node) (values : List Value) (n k space : ℕ) (piece : Piece) (m : ℕ) : Type 0 where
  pub within : m < length nodes
  pub later : n < m
  pub parent : (node_at nodes m).parent ≡ n
  pub step : (node_at nodes m).step ≡ k
  pub room : (node_at nodes m).room ≡ space
  pub stands : (node_at nodes m).stands ≡ Part piece.form
  pub value : slice_index_or values m kept.Nothing ≡ start_of piece.form piece.initial

-- the pieces that stand at a node follow one another from its first one on
pub record HasPieces (program : Program) (nodes : List Node) (values : List Value) (n : ℕ) (node : Node) : Type 0 where
  pub count : node.count ≡ length (pieces_of program node.stands)
  pub room : HasRoom node.stands node.room
  pub fits : node.first + node.count ≤ length nodes
  pub each : (k : ℕ) (d : Piece) → k < length (pieces_of program node.stands) →
      IsPiece nodes values n k (room_below node.stands node.room) (slice_index_or (pieces_of program node.stands) k d)
      (node.first + k)

-- a node but the first is a piece of an earlier one
pub record IsBelow (nodes : List Node) (m bound : ℕ) : Type 0 where
  pub before : (node_at nodes m).parent < m
  pub done : (node_at nodes m).parent < bound
  pub child : child nodes (node_at nodes m).parent (node_at nodes m).step ≡ Some m

-- nodes of which the first so many have their pieces
pub record IsGrowing (program : Program) (top : Stands) (nodes : List Node)
    (values : List Value) (done : ℕ) : Type 0 where
  pub some : 0 < length nodes
  pub root : (node_at nodes 0).stands ≡ top
  pub room : (node_at nodes 0).room ≡ length program.schema.classes
  pub nothing : slice_index_or values 0 kept.Nothing ≡ kept.Nothing
  pub lengths : length values ≡ length nodes
  pub below : (m : ℕ) → 0 < m → m < length nodes → IsBelow nodes m done
  pub pieces : (n : ℕ) → n < done → HasPieces program nodes values n (node_at nodes n)

-- a layout, with the values of new cells
pub record Layout : Type 0 where
  pub nodes : List Node
  pub values : List Value

-- the layout of the statics, or of an object of a class
abbrev pub IsLayout : Program → Stands → Layout → Type 0
IsLayout program top layout = IsGrowing program top layout.nodes layout.values (length layout.nodes)

-- a new node
abbrev pub node_of : ℕ → ℕ → ℕ → FieldForm → Node
node_of parent step room form =
    record { parent = parent; step = step; first = 0; count = 0; room = room; stands = Part form }

-- the nodes of the pieces of one
abbrev pub children : ℕ → ℕ → ℕ → List Piece → List Node
children parent step room [] = []
children parent step room (p ∷ ps) = node_of parent step room p.form ∷ children parent (step + 1) room ps

abbrev pub starts : List Piece → List Value
starts pieces = map (λ p. start_of p.form p.initial) pieces

-- a node with its pieces
abbrev pub with_pieces : Node → ℕ → ℕ → Node
with_pieces node first count = record node { first = first; count = count }

-- nodes with the pieces of one of them behind
abbrev pub grown : Program → List Node → ℕ → List Node
grown program nodes n =
    slice_set (nodes ++ children n 0 (room_below (node_at nodes n).stands (node_at nodes n).room)
    (pieces_of program (node_at nodes n).stands)) n
    (with_pieces (node_at nodes n) (length nodes) (length (pieces_of program (node_at nodes n).stands)))
