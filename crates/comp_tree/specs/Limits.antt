-- The limits that an application may pass, and applications under another limit of data.
use Rattle.std.specs.Prelude.{ℕ, Bool, nat_le, nat_lt, if◌then◌else◌, List, [], ◌∷◌, length, Option, Some, None}
use Rattle.std.specs.List.{list_any}
use Rattle.std.specs.FinMap as map
use Rattle.sed_engine.specs.Code.{Meaning}
use Rattle.comp_tree.specs.Application.{Application, Component, data_size_of, greatest_depth, most_children}
use Rattle.comp_tree.specs.Application.{most_components, most_links, most_links_at_component}
use Rattle.comp_tree.specs.Order.{depth}
use Rattle.comp_tree.specs.Parts.{links_at}

-- each with its number, in the order in which they are told: the ids, the links, the depth, the children of a
-- component, the links at one, and the data
abbrev pub limits_passed : Meaning → Application → List (Bool × ℕ)
limits_passed m a =
    (list_any (λ id. nat_le most_components id) (map.keys a.components.by_id), 1)
    ∷ (nat_lt most_links (length a.links), 2)
    ∷ (list_any (λ id. nat_lt greatest_depth (depth a.components.by_id id)) (map.keys a.components.by_id), 3)
    ∷ (list_any (λ (c : Component). nat_lt most_children (length c.children)) (map.values a.components.by_id), 4)
    ∷ (list_any (λ id. nat_lt most_links_at_component (length (links_at id a.links))) (map.keys a.components.by_id), 5)
    ∷ (nat_lt a.components.limit (data_size_of m a.components.by_id), 6)
    ∷ []

-- the number of the first that holds
abbrev pub first_passed : List (Bool × ℕ) → Option ℕ
first_passed [] = None
first_passed (row ∷ rows) = if row.0 then Some row.1 else first_passed rows

abbrev pub limit_passed : Meaning → Application → Option ℕ
limit_passed m a = first_passed (limits_passed m a)

-- the same application, but with this limit of data
abbrev pub under : ℕ → Application → Application
under limit a = record {
  components = record { by_id = a.components.by_id; statics = a.components.statics; limit = limit };
  links = a.links;
}
