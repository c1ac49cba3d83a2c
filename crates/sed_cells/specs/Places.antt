-- Numbers of places, and the contents that cells stand for.
use Rattle.std.specs.Prelude.{ℕ, zero, suc, ◌≡◌, ◌≤◌, nat_lt, if◌then◌else◌, List, [], ◌∷◌, length, map, slice_index_or}
use Rattle.std.specs.Prelude.{◌+◌, Option, Some, None}
use Rattle.sed_value.specs.declared.value.Value.{Value}
use Rattle.sed_value.specs.declared.value.Value.TheVariants as kept
use Rattle.sed_typed.specs.declared.program.FieldForm.TheVariants.{Object}
use Rattle.sed_typed.specs.declared.program.Program.{Program}
use Rattle.sed_typed.specs.Contents.{Contents, Path}
use Rattle.sed_typed.specs.Initial.{initial, initial_statics}
use Rattle.sed_typed.specs.Objects.{form_class, object_class, static_class_at}
use Rattle.std.specs.Option.{option_map_or}
use Rattle.sed_cells.specs.declared.layout.Node.{Node}
use Rattle.sed_cells.specs.declared.layout.Stands.{Stands}
use Rattle.sed_cells.specs.declared.layout.Stands.TheVariants.{Statics, Part}
use Rattle.sed_cells.specs.Layouts.{Layout, IsLayout, node_at, child}

-- the number at the end of a path
abbrev pub walk : List Node → Path → Option ℕ → Option ℕ
walk nodes path None = None
walk nodes [] (Some n) = Some n
walk nodes (step ∷ path) (Some n) = walk nodes path (child nodes n step)

abbrev pub number_of : List Node → Path → Option ℕ
number_of nodes path = walk nodes path (Some 0)

-- the path from the first node to a node, in front of a rest
abbrev pub climb : List Node → ℕ → ℕ → Path → Path
climb nodes zero n rest = rest
climb nodes (suc most) zero rest = rest
climb nodes (suc most) (suc n) rest =
    climb nodes most (node_at nodes (suc n)).parent ((node_at nodes (suc n)).step ∷ rest)

-- a number that no node has stands for the whole
abbrev pub known : List Node → ℕ → ℕ
known nodes n = if nat_lt n (length nodes) then n else 0

abbrev pub path_of : List Node → ℕ → Path
path_of nodes n = climb nodes (known nodes n) (known nodes n) []

-- the value in a cell by its number
abbrev pub value_in : List Value → Option ℕ → Value
value_in values None = kept.Nothing
value_in values (Some n) = slice_index_or values n kept.Nothing

-- the contents that cells stand for: each path of first contents with the value in its cell
abbrev pub seen : List Node → Contents → List Value → Contents
seen nodes first values = map (λ e. (e.0, value_in values (number_of nodes e.0))) first

-- ---- a program with its layouts

-- a layout for each class, and behind them that of the statics
pub record Plan : Type 0 where
  pub program : Program
  pub layouts : List Layout

abbrev pub classes_in : Plan → ℕ
classes_in plan = length plan.program.schema.classes

abbrev pub stands_at : Program → ℕ → Stands
stands_at program top =
    if nat_lt top (length program.schema.classes) then Part (Object (record { 0 = top })) else Statics

-- the contents with which what stands at the top begins
abbrev pub first_of : Program → Stands → Contents
first_of program Statics = initial_statics program
first_of program (Part form) = option_map_or (initial program) (form_class form) []

-- the class of the object at a path from it
abbrev pub class_under : Program → Stands → Path → Option ℕ
class_under program Statics path = static_class_at program path
class_under program (Part form) path = object_class program path (form_class form)

abbrev pub first_at : Program → ℕ → Contents
first_at program top = first_of program (stands_at program top)

abbrev pub class_there : Program → ℕ → Path → Option ℕ
class_there program top path = class_under program (stands_at program top) path

abbrev pub no_layout : Layout
no_layout = record { nodes = []; values = [] }

abbrev pub layout_at : Plan → ℕ → Layout
layout_at plan top = slice_index_or plan.layouts top no_layout

pub record IsPlan (plan : Plan) : Type 0 where
  pub layouts : length plan.layouts ≡ classes_in plan + 1
  pub each : (top : ℕ) → top ≤ classes_in plan → IsLayout plan.program (stands_at plan.program top) (layout_at plan top)

-- the path of a number
abbrev pub place_of : Plan → ℕ → ℕ → Path
place_of plan top n = path_of (layout_at plan top).nodes n

-- the contents of an object of a class, or of the statics, that cells with these values stand for
abbrev pub contents_of : Plan → ℕ → List Value → Contents
contents_of plan top values = seen (layout_at plan top).nodes (first_at plan.program top) values
