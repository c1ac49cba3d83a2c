-- The bytes of a part, as what puts them says it.
use Rattle.std.proofs.Common.{ℕ, ◌≡◌, true, false, List, [], Option, Some, None, refl, ◌∙◌, ap, take}
use Rattle.std.specs.Prelude.{IsSome}
use Rattle.std.specs.Option.{option_map_or, option_and_then}
use Rattle.std.specs.FinMap as map
use Rattle.sed_engine.specs.declared.engine.Engine.{Ghosts}
use Rattle.sed_engine.specs.Code.{Meaning}
use Rattle.sub_table.specs.Link.{Link}
use Rattle.comp_tree.specs.Application.{Component}
use Rattle.comp_tree.specs.Edit.{part_bytes}
use Rattle.comp_tree.specs.Held.{components_of}
use Rattle.comp_tree.specs.Parts.{link_part, part_of, tree_part, config_part, runtime_part}
use Rattle.link_prop.specs.Linked.{Linked, application_of}
use Rattle.sub_table.specs.declared.part.Part.{Part}
use Rattle.sub_table.specs.declared.part.Part.TheVariants.{Tree, Config, Runtime, Links}
use Rattle.sed_wire.proofs.WritingLemmas.{puts-taken}
use Rattle.sox_msg.specs.Reply.{Puts}
use Rattle.sox_events.specs.Due.{bytes_of, letter_of}

letter_t : (m : Meaning) (links : List Link) (id : ℕ) (o : Option Component)
    → option_map_or (λ (bytes : List ℕ). bytes) (option_and_then (λ (c : Component). part_of m links id c 116) o) [] ≡ option_map_or (tree_part m) o []
letter_t m links id None = refl
letter_t m links id (Some c) = refl

letter_c : (m : Meaning) (links : List Link) (id : ℕ) (o : Option Component)
    → option_map_or (λ (bytes : List ℕ). bytes) (option_and_then (λ (c : Component). part_of m links id c 99) o) [] ≡ option_map_or (config_part m) o []
letter_c m links id None = refl
letter_c m links id (Some c) = refl

letter_r : (m : Meaning) (links : List Link) (id : ℕ) (o : Option Component)
    → option_map_or (λ (bytes : List ℕ). bytes) (option_and_then (λ (c : Component). part_of m links id c 114) o) [] ≡ option_map_or (runtime_part m) o []
letter_r m links id None = refl
letter_r m links id (Some c) = refl

letter_l : (m : Meaning) (links : List Link) (id : ℕ) (o : Option Component) → IsSome o
    → option_map_or (λ (bytes : List ℕ). bytes) (option_and_then (λ (c : Component). part_of m links id c 108) o) [] ≡ link_part id links
letter_l m links id None live = absurd (let wrong : false ≡ true = live in cc)
letter_l m links id (Some c) live = refl

module _ {E : Type 0} (g : Ghosts E) where
  letter_bytes : (a : Linked E) (id : ℕ) (part : Part) → IsSome (map.get (components_of g a.tree).by_id id)
      → part_bytes (g.meaning a.tree.engine) (application_of g a) id (letter_of part) ≡ bytes_of g a id part
  letter_bytes a id Tree live = letter_t (g.meaning a.tree.engine) a.links id (map.get (components_of g a.tree).by_id id)
  letter_bytes a id Config live = letter_c (g.meaning a.tree.engine) a.links id (map.get (components_of g a.tree).by_id id)
  letter_bytes a id Runtime live = letter_r (g.meaning a.tree.engine) a.links id (map.get (components_of g a.tree).by_id id)
  letter_bytes a id Links live = letter_l (g.meaning a.tree.engine) a.links id (map.get (components_of g a.tree).by_id id) live

  pub put_bytes : (a : Linked E) (id : ℕ) (part : Part) (letter count : ℕ) (old new : List ℕ) → IsSome (map.get (components_of g a.tree).by_id id) → letter ≡ letter_of part
      → Puts (part_bytes (g.meaning a.tree.engine) (application_of g a) id letter) count old new → take count new ≡ bytes_of g a id part
  put_bytes a id part letter count old new live el puts =
      let text = part_bytes (g.meaning a.tree.engine) (application_of g a) id letter in
      puts-taken text count old new puts
      ∙ ap (λ (k : ℕ). part_bytes (g.meaning a.tree.engine) (application_of g a) id k) el ∙ letter_bytes a id part live
