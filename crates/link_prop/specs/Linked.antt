-- What contracts see of an application over an engine, and the application that it stands for.
use Rattle.std.specs.Prelude.{ℕ, ◌≤◌, Bool, true, false, List, length, refl}
use Rattle.std.specs.List.{All}
use Rattle.std.specs.Coded.{Coded, code_by, coded×, coded_bool, coded_list, coded_ℕ}
use Rattle.sed_engine.specs.declared.engine.Engine.{Ghosts}
use Rattle.sed_engine.specs.Code.{Meaning}
use Rattle.sub_table.specs.Link.{Link}
use Rattle.sub_table.specs.Links.{links_at}
use Rattle.sub_table.specs.Marked.{Marked}
use Rattle.comp_tree.specs.Application.{Application, ById, most_links_at_component}
use Rattle.comp_tree.specs.Held.{Held, components_of, held_code}
use Rattle.node_table.specs.declared.node.Node.{Node}
use Rattle.comp_tree.specs.Whole.{IsLink}

abbrev pub link_code : Coded Link
link_code =
    code_by (ℕ × (ℕ × (ℕ × ℕ))) (coded× coded_ℕ (coded× coded_ℕ (coded× coded_ℕ coded_ℕ)))
    (λ l. (l.from, (l.from_slot, (l.to, l.to_slot))))
    (λ p. record { from = p.0; from_slot = p.1.0; to = p.1.1.0; to_slot = p.1.1.1 }) (λ _. refl)

-- a tree over an engine, the links in the order of their targets, and the components whose links are marked
pub record Linked (E : Type 0) : Type 0 where
  pub tree : Held E
  pub links : List Link
  pub marks : Marked

abbrev pub linked_code : {E : Type 0} → Coded E → Coded Node → Coded (Linked E)
linked_code {E} engine node =
    code_by (Held E × (List Link × Marked))
    (coded× (held_code engine node) (coded× (coded_list link_code) (coded_list (coded_list coded_bool))))
    (λ h. (h.tree, (h.links, h.marks))) (λ p. record { tree = p.0; links = p.1.0; marks = p.1.1 }) (λ _. refl)

-- the application that they stand for, whatever is marked
abbrev pub application_of : {E : Type 0} → Ghosts E → Linked E → Application
application_of g h = record { components = components_of g h.tree; links = h.links }

-- each link is between properties of live components whose types go together, and no component has more than it may
pub record AreLinked (m : Meaning) (all : ById) (links : List Link) : Type 0 where
  pub typed : All (IsLink m all) links
  pub at_each : (id : ℕ) → length (links_at id links) ≤ most_links_at_component

-- how many a test counts
abbrev pub one_if : Bool → ℕ
one_if true = 1
one_if false = 0
