-- The text of a component from its entry.
use Rattle.std.proofs.Common.{◌≡◌, ℕ, [], ◌++◌, Option, Some, None, ap, ◌∙◌}
use Rattle.std.specs.Prelude.{IsSomeAnd}
use Rattle.std.specs.FinMap as map
use Rattle.sed_engine.specs.Code.{Meaning, Places}
use Rattle.comp_tree.specs.Application.{ById, Component}
use Rattle.comp_tree.specs.Told.{IsEntry}
use Rattle.comp_tree.specs.declared.entry.Entry.{Entry}
use Rattle.std.specs.Option.{option_map_or}
use Rattle.printed_app.specs.Application.{component_line, component_text, property_lines}

-- a component that has this entry
pub text_of_entry : (m : Meaning) (all : ById) (id : ℕ) (live : Places) (e : Entry) →
    IsSomeAnd (map.get all id) (IsEntry live e) →
    component_line m all id e.kind.0 e.fault ++ property_lines m all id e.kind.0 ≡ component_text m all id
text_of_entry m all id live e = by_case (map.get all id)
  where
    by_case : (r : Option Component) → IsSomeAnd r (IsEntry live e) →
        component_line m all id e.kind.0 e.fault ++ property_lines m all id e.kind.0
        ≡ option_map_or (λ (c : Component).
        component_line m all id c.class c.fault ++ property_lines m all id c.class) r []
    by_case (Some c) told =
        ap (λ (k : ℕ). component_line m all id k e.fault ++ property_lines m all id k) told.kind
        ∙ ap (λ (f : ℕ). component_line m all id c.class f ++ property_lines m all id c.class) told.fault
    by_case None told = elim told [ ]
