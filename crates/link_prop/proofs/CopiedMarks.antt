-- Marks of copies along links.
use Rattle.std.proofs.Common.{ℕ, ◌≡◌, refl, sym}
use Rattle.std.specs.Prelude.{List, ◌==◌}
use Rattle.std.specs.List.{All}
use Rattle.std.proofs.lemmas.Bool.{eqb-true}
use Rattle.std.proofs.lemmas.List.Elements.{filter_passes}
use Rattle.sed_engine.specs.declared.engine.Engine.{Ghosts}
use Rattle.sub_table.specs.Link.{Link}
use Rattle.sub_table.specs.Links.{links_into}
use Rattle.comp_tree.specs.Held.{Held, components_of}
use Rattle.comp_tree.specs.Marks.{KeepsMarks, values_at}
use Rattle.comp_tree.proofs.MarkCalls.{keeps_same, keeps_then, same_either}
use Rattle.link_prop.proofs.AlikeComponents.{AreAlike, live_with_class}

-- nothing has changed
pub keeps_none : {E : Type 0} (g : Ghosts E) (id : ℕ) (a : Held E) → KeepsMarks g (values_at id) a a
keeps_none g id a = keeps_same g (values_at id) a a refl

-- values of a component, and then again
pub keeps_more : {E : Type 0} (g : Ghosts E) (id : ℕ) (before mid after : Held E) → KeepsMarks g (values_at id) before mid → KeepsMarks g (values_at id) mid after
    → AreAlike (components_of g mid).by_id (components_of g after).by_id → KeepsMarks g (values_at id) before after
keeps_more g id before mid after first next alike =
    keeps_then g (values_at id) (values_at id) (values_at id) before mid after first next
    (λ q live. live_with_class (g.meaning mid.engine) (components_of g after).by_id (components_of g mid).by_id q (sym (alike q)) live)
    (λ q part live either. same_either either)

-- all that lead into a component lead there
pub all_to : (id : ℕ) (links : List Link) → All (λ (l : Link). l.to ≡ id) (links_into id links)
all_to id links = λ k d lt. eqb-true _ id (filter_passes (λ (l : Link). l.to == id) links k d lt)
