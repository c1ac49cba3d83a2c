-- What an add asks before it asks for room: the type, the place among the parent's children, and the values.
use Rattle.std.specs.Prelude.{ℕ, ◌≡◌, ◌<◌, Bool, not, nat_le, IsTrue, List, [], ◌∷◌, length, Some, None}
use Rattle.std.specs.FinMap as map
use Rattle.sed_value.specs.Names.{is_name}
use Rattle.sed_value.specs.declared.refusal.Refusal.{Refusal}
use Rattle.sed_value.specs.declared.refusal.Refusal.TheVariants.{AbstractType, BadName, ComponentLimit, DataFull}
use Rattle.sed_value.specs.declared.refusal.Refusal.TheVariants.{NameTaken, NoType, TooDeep, TooManyChildren}
use Rattle.sed_typed.specs.Schemas.{type_at as class_numbered}
use Rattle.sed_engine.specs.Code.{Meaning, is_creatable}
use Rattle.comp_tree.specs.Application.{ById, Components, children_of, greatest_depth, is_live, most_children}
use Rattle.comp_tree.specs.Application.{most_components}
use Rattle.comp_tree.specs.Order.{depth}
use Rattle.node_table.specs.Properties.{config_types}
use Rattle.node_table.specs.Read.{refusal_of_values}
use Rattle.comp_tree.specs.Refusals.{first_refusal, has_no_type, is_abstract_type, is_child_named, passes_limit}
use Rattle.comp_tree.specs.Refusals.{refusals_of_add}

-- the rows of an add that ask for the type
abbrev pub kind_rows : Meaning → ℕ → ℕ → List (Bool × Refusal)
kind_rows m kit number = (has_no_type m kit number, NoType) ∷ (is_abstract_type m kit number, AbstractType) ∷ []

-- those that ask for the place among the parent's children
abbrev pub child_rows : ById → ℕ → List ℕ → List (Bool × Refusal)
child_rows all parent name =
    (not (is_name name), BadName)
    ∷ (is_child_named all parent name, NameTaken)
    ∷ (nat_le most_children (length (children_of all parent)), TooManyChildren)
    ∷ (nat_le greatest_depth (depth all parent), TooDeep)
    ∷ (nat_le most_components (map.len all), ComponentLimit)
    ∷ []

-- a class of which a component may be made
pub record IsKindToAdd (m : Meaning) (kit number class : ℕ) : Type 0 where
  pub class_is : class_numbered m.schema.classes kit number ≡ Some class
  pub creatable : IsTrue (is_creatable m class)
  pub allowed : first_refusal (kind_rows m kit number) ≡ None

-- there is room for one more child
pub record HasRoom (all : ById) (parent : ℕ) : Type 0 where
  pub children : length (children_of all parent) < most_children
  pub deep : depth all parent < greatest_depth
  pub few : map.len all < most_components

-- a name that a new child may have
pub record IsNewChild (all : ById) (parent : ℕ) (name new : List ℕ) : Type 0 where
  pub same : new ≡ name
  pub room : HasRoom all parent
  pub allowed : first_refusal (child_rows all parent name) ≡ None

-- only the data limit may still refuse an add
pub record MayAdd (m : Meaning) (a : Components) (parent kit number : ℕ)
    (name config : List ℕ) (class : ℕ) (new : List ℕ) : Type 0 where
  pub kind : IsKindToAdd m kit number class
  pub live : IsTrue (is_live a.by_id parent)
  pub child : IsNewChild a.by_id parent name new
  pub good : refusal_of_values (config_types m class) config ≡ None
  pub refused : first_refusal (refusals_of_add m a parent kit number name config)
      ≡ first_refusal ((passes_limit m a kit number, DataFull) ∷ [])
