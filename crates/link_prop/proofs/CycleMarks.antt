-- Marks of values, through many calls.
use Rattle.std.proofs.Common.{ℕ, ℤ, ◌≡◌, inl, inr, Bool, true, false, refl, sym, ◌∙◌, ap}
use Rattle.std.specs.Prelude.{Option, Some, None, is_some, List, ◌==◌, if◌then◌else◌}
use Rattle.std.specs.Option.{option_map}
use Rattle.std.specs.FinMap as map
use Rattle.sed_engine.specs.declared.engine.Engine.{Ghosts}
use Rattle.sed_engine.specs.Code.{Meaning}
use Rattle.node_table.specs.Marks.{value_parts}
use Rattle.sub_table.specs.Link.{Link}
use Rattle.comp_tree.specs.Application.{ById, Component, is_live}
use Rattle.comp_tree.specs.Calls.{Counted}
use Rattle.comp_tree.specs.Held.{components_of}
use Rattle.comp_tree.specs.Links.{copy_into}
use Rattle.comp_tree.specs.Marks.{Part, is_among, no_parts, values_at}
use Rattle.comp_tree.specs.Marks.Part.{Tree, Config, Runtime}
use Rattle.sub_table.specs.Links.{links_into}
use Rattle.link_prop.specs.Linked.{Linked}
use Rattle.link_prop.specs.Marks.{AppPart, KeepsAppMarks, is_in_row, no_links}
use Rattle.link_prop.specs.CycleMarks.{values_of_any}
use Rattle.link_prop.specs.Marks.AppPart.{OfTree, OfLinks}
use Rattle.link_prop.proofs.AlikeComponents.{AreAlike}
use Rattle.link_prop.proofs.CopiedLinks.{alike_copies}

among_values : (b : Bool) (part : Part) → is_among part (if b then value_parts else no_parts) ≡ true → is_among part value_parts ≡ true
among_values true part e = e
among_values false Tree e = absurd (let no : false ≡ true = e in cc)
among_values false Config e = absurd (let no : false ≡ true = e in cc)
among_values false Runtime e = absurd (let no : false ≡ true = e in cc)

in_any : (id q : ℕ) (part : AppPart) → is_in_row (values_at id) no_links q part ≡ true → is_in_row values_of_any no_links q part ≡ true
in_any id q (OfTree part) e = among_values (q == id) part e
in_any id q OfLinks e = e

-- nothing has changed
pub marked_none : {E : Type 0} (g : Ghosts E) (a : Linked E) → KeepsAppMarks g values_of_any no_links a a
marked_none g a = record {
  tells = λ id place part clear. (clear, refl);
  sets = λ id place part live set. inl set;
  clears_none = λ id place part live set. set;
}

-- the values of one component are values of any
pub marked_any : {E : Type 0} (g : Ghosts E) (id : ℕ) (before after : Linked E) → KeepsAppMarks g (values_at id) no_links before after → KeepsAppMarks g values_of_any no_links before after
marked_any g id before after keeps = record {
  tells = keeps.tells;
  sets = λ q place part live set. elim (keeps.sets q place part live set) [ inl was ↦ inl was | inr there ↦ inr (in_any id q part there) ];
  clears_none = keeps.clears_none;
}

-- a call after others, that leaves what is live
pub marked_again : {E : Type 0} (g : Ghosts E) (before mid after : Linked E) → KeepsAppMarks g values_of_any no_links before mid → KeepsAppMarks g values_of_any no_links mid after
    → ((q : ℕ) → is_live (components_of g after.tree).by_id q ≡ is_live (components_of g mid.tree).by_id q) → KeepsAppMarks g values_of_any no_links before after
marked_again g before mid after first next same = record {
  tells = λ id place part clear.
      let n = next.tells id place part clear in
      let f = first.tells id place part n.0 in
      (f.0, f.1 ∙ n.1);
  sets = λ id place part live set. elim (next.sets id place part live set) [
    | inl was ↦ first.sets id place part (sym (same id) ∙ live) was
    | inr there ↦ inr there
  ];
  clears_none = λ id place part live set. next.clears_none id place part live (first.clears_none id place part (sym (same id) ∙ live) set);
}

-- ---- copies leave what is live

there_by_class : (o : Option Component) → is_some o ≡ is_some (option_map (λ (c : Component). c.class) o)
there_by_class None = refl
there_by_class (Some c) = refl

live_alike : (a b : ById) → AreAlike a b → (q : ℕ) → is_live b q ≡ is_live a q
live_alike a b alike q = there_by_class (map.get b q) ∙ ap is_some (alike q) ∙ sym (there_by_class (map.get a q))

pub copied_live : (m : Meaning) (links : List Link) (turns : ℕ) (moment : ℤ) (s : Counted) (id q : ℕ) → is_live (copy_into m links turns moment s id).left.by_id q ≡ is_live s.left.by_id q
copied_live m links turns moment s id q = live_alike s.left.by_id (copy_into m links turns moment s id).left.by_id (alike_copies m turns moment (links_into id links) s) q
