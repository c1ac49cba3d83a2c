-- What the commands that leave the tree as it is leave of a whole application.
use Rattle.std.proofs.Common.{ℕ, suc, ℤ, ◌≡◌, ◌≤◌, Bool, true, false, refl, ap, arith}
use Rattle.std.specs.Prelude.{Option, Some, None, not, if◌then◌else◌, List, [], ◌∷◌, length}
use Rattle.std.specs.Option.{option_map_or}
use Rattle.std.specs.List.{list_any}
use Rattle.std.specs.FinMap as map
use Rattle.std.proofs.lemmas.List.Filters.{length-filter_both}
use Rattle.sed_engine.specs.declared.call.Root.TheVariants.{Action}
use Rattle.sed_engine.specs.Code.{Meaning}
use Rattle.sed_engine.specs.Fits.{Fits}
use Rattle.sed_engine.specs.Whole.{IsWhole}
use Rattle.sub_table.specs.Link.{Link, most_links}
use Rattle.sub_table.specs.Links.{AreInOrder, has_target, is_before, is_same_link, links_at, with_link, without_link}
use Rattle.comp_tree.specs.Application.{Application, Component}
use Rattle.comp_tree.specs.Edit.{over}
use Rattle.comp_tree.specs.Edits.{after_clear, after_invoke, first_of, without_fault}
use Rattle.comp_tree.specs.Refusals.{first_refusal, invoke_types, refusals_of_link}
use Rattle.comp_tree.specs.Values.{taken}
use Rattle.comp_tree.specs.Whole.{Whole}
use Rattle.link_prop.specs.Linked.{AreLinked}
use Rattle.link_prop.proofs.ChangedLinks.{has_room, linked_with, linked_without, no_target}
use Rattle.app_file.proofs.PutComponents.{here, whole_put}
use Rattle.app_file.proofs.RootCalls.{whole_run}

module _ (m : Meaning) (a : Application) (whole : Whole m a) where
  -- ---- a fault that is cleared

  cleared : (id : ℕ) (r : Option Component) → map.get a.components.by_id id ≡ r
      → Whole m (over a (record { by_id = option_map_or (λ (c : Component). map.insert a.components.by_id id (without_fault c)) r a.components.by_id; statics = a.components.statics; limit = a.components.limit }))
  cleared id None there = whole
  cleared id (Some c) there =
      whole_put m a whole id c (without_fault c) there refl refl refl refl
      (here (λ (c : Component). Fits m.fields (m.fields c.class) (m.initial c.class) c.contents) (map.get a.components.by_id id) c there (whole.formed.values id))
      (omega arith) a.components.statics whole.formed.statics

  pub whole_clear : (id : ℕ) → Whole m (over a (after_clear a.components id))
  whole_clear id = cleared id (map.get a.components.by_id id) refl

  -- ---- an action

  pub whole_invoke : IsWhole m → (id slot : ℕ) (argument : List ℕ) (turns : ℕ) (moment : ℤ) (save : Bool)
      → Whole m (if save then a else over a (after_invoke m a.components id (record { 0 = slot }) argument turns moment).left)
  whole_invoke code id slot argument turns moment true = whole
  whole_invoke code id slot argument turns moment false =
      whole_run m code a whole id (Action (record { 0 = slot })) (first_of (taken (invoke_types m a.components.by_id id slot) argument)) turns moment

  -- ---- links

  whole_links : (links : List Link) → AreLinked m a.components.by_id links → AreInOrder links → length links ≤ most_links → Whole m (record { components = a.components; links = links })
  whole_links links are order few = record {
    formed = record {
      tree = whole.formed.tree;
      app = whole.formed.app;
      others = whole.formed.others;
      names = whole.formed.names;
      siblings = whole.formed.siblings;
      links = are.typed;
      order = order;
      values = whole.formed.values;
      faults = whole.formed.faults;
      statics = whole.formed.statics;
      ids = whole.formed.ids;
    };
    ids = whole.ids;
    link_count = few;
    depths = whole.depths;
    children = whole.children;
    links_at_each = are.at_each;
    data_sizes = whole.data_sizes;
    least_limit = whole.least_limit;
    most_limit = whole.most_limit;
  }

  linked : AreLinked m a.components.by_id a.links
  linked = record { typed = whole.formed.links; at_each = whole.links_at_each }

  one_more : (l : Link) (links : List Link) → length (with_link l links) ≡ suc (length links)
  one_more l [] = refl
  one_more l (k ∷ ks) = at (is_before k l) (one_more l ks)
    where
      at : (b : Bool) → length (with_link l ks) ≡ suc (length ks) → length (if b then k ∷ with_link l ks else l ∷ k ∷ ks) ≡ suc (suc (length ks))
      at true rest = ap suc rest
      at false rest = refl

  pub whole_link : (l : Link)
      → ((id : ℕ) → length (links_at id (with_link l a.links)) ≡ length (links_at id (l ∷ a.links)))
      → (list_any (has_target l.to l.to_slot) a.links ≡ false → AreInOrder (with_link l a.links))
      → first_refusal (refusals_of_link m a.components.by_id a.links l) ≡ None
      → Whole m (record { components = a.components; links = with_link l a.links })
  whole_link l count order none =
      whole_links (with_link l a.links) (linked_with m a.components.by_id a.links l none count linked)
      (order (no_target m a.components.by_id a.links l none))
      (let room = has_room m a.components.by_id a.links l none in let more = one_more l a.links in omega arith)

  pub whole_unlink : (l : Link) → ((id : ℕ) → length (links_at id (without_link l a.links)) ≤ length (links_at id a.links)) → AreInOrder (without_link l a.links)
      → Whole m (record { components = a.components; links = without_link l a.links })
  whole_unlink l fewer order =
      whole_links (without_link l a.links) (linked_without m a.components.by_id a.links l fewer linked) order
      (let both = length-filter_both (λ (k : Link). not (is_same_link k l)) (λ (k : Link). not (not (is_same_link k l))) (λ k. refl) a.links in
      let few = whole.link_count in
      omega arith)
