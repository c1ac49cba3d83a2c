-- The row of a component by what is found of it.
use Rattle.std.proofs.Common.{◌≡◌, ℕ, List, [], ◌++◌, map, refl, sym, ◌∙◌, ap, append_assoc}
use Rattle.std.specs.Prelude.{Option, Some, None, IsSomeAnd, slice_get}
use Rattle.std.specs.Option.{option_map, option_map_or}
use Rattle.std.specs.FinMap as finite
use Rattle.sed_value.specs.declared.id.Id.{Id}
use Rattle.sed_value.specs.declared.value.Value.TheVariants.{Nothing}
use Rattle.sed_engine.specs.Code.{Meaning, Places, slot_value}
use Rattle.comp_tree.specs.Application.{ById, Component, children_of, object_of}
use Rattle.comp_tree.specs.Parts.{class_bytes, config_slots, text, u1, u2, values_in}
use Rattle.comp_tree.specs.Told.{IsEntry}
use Rattle.comp_tree.specs.Values.{spelling_of_all}
use Rattle.comp_tree.specs.declared.entry.Entry.{Entry}
use Rattle.app_file.specs.Rows.{row_of, sibling_behind}
use Rattle.app_file.specs.Text.{id_text, row_text}
use Rattle.app_parts.specs.Values.{values_bytes}
use Rattle.app_parts.specs.declared.values.Values.TheVariants.{Config}
use Rattle.app_writer.specs.Written.{found_text, id_or_none, row_at}

pub id-same : (r : Option Id) (k : Option ℕ) → option_map (λ (i : Id). i.0) r ≡ k → id_or_none r ≡ id_text k
id-same r k is = mapped r ∙ ap id_text is
  where
    mapped : (r : Option Id) → id_or_none r ≡ id_text (option_map (λ (i : Id). i.0) r)
    mapped None = refl
    mapped (Some i) = refl

module _ (m : Meaning) (live : Places) (all : ById) (id : ℕ) (e : Entry) (first next : Option Id)
    (first-is : option_map (λ (i : Id). i.0) first ≡ slice_get (children_of all id) 0)
    (next-is : option_map (λ (i : Id). i.0) next ≡ sibling_behind (children_of all) id (option_map (λ (i : Id). i.0) e.parent)) where
  of_component : (c : Component) → finite.get all id ≡ Some c → IsEntry live e c → found_text m all id e first next ≡ row_text m (row_of m (children_of all) id c)
  of_component c at is =
      let kind = is.kind in
      let name = is.name in
      let found = at in
      let parent : id_or_none e.parent ≡ id_text c.parent = id-same e.parent c.parent is.parent in
      let children : children_of all id ≡ c.children = ap (λ (r : Option Component). option_map_or (λ (c : Component). c.children) r []) at in
      let child : id_or_none first ≡ id_text (slice_get c.children 0) = id-same first (slice_get c.children 0) (first-is ∙ ap (λ (ks : List ℕ). slice_get ks 0) children) in
      let sibling : id_or_none next ≡ id_text (sibling_behind (children_of all) id c.parent) =
      id-same next (sibling_behind (children_of all) id c.parent) (next-is ∙ ap (sibling_behind (children_of all) id) is.parent) in
      let values : values_bytes m all id e.kind.0 Config ≡ spelling_of_all (values_in m c (config_slots m c.class)) =
      λ i. spelling_of_all (map (λ (slot : ℕ). option_map_or (λ (c : Component). slot_value m (object_of c) slot) (found i) Nothing) (config_slots m (kind i))) in
      let head = u2 id ++ class_bytes m c.class ++ text c.name in
      let a = id_text c.parent in
      let b = id_text (slice_get c.children 0) in
      let d = id_text (sibling_behind (children_of all) id c.parent) in
      let behind = spelling_of_all (values_in m c (config_slots m c.class)) in
      let parts : found_text m all id e first next ≡ head ++ (a ++ b ++ d) ++ behind ++ u1 0x3b =
      λ i. (u2 id ++ class_bytes m (kind i) ++ text (name i)) ++ (parent i ++ child i ++ sibling i) ++ values i ++ u1 0x3b in
      let regroup : head ++ (a ++ b ++ d) ≡ head ++ a ++ b ++ d = sym (append_assoc head (a ++ b) d) ∙ ap (λ (t : List ℕ). t ++ d) (sym (append_assoc head a b)) in
      parts ∙ ap (λ (t : List ℕ). t ++ behind ++ u1 0x3b) regroup

  pub found-is : IsSomeAnd (finite.get all id) (IsEntry live e) → found_text m all id e first next ≡ row_at m all id
  found-is told = by (finite.get all id) refl told
    where
      by : (r : Option Component) → finite.get all id ≡ r → IsSomeAnd r (IsEntry live e)
          → found_text m all id e first next ≡ option_map_or (λ (c : Component). row_text m (row_of m (children_of all) id c)) r []
      by None at told = absurd told
      by (Some c) at told = of_component c at told

pub class-told : (live : Places) (r : Option Component) (e : Entry) → IsSomeAnd r (IsEntry live e) → IsSomeAnd r (λ (c : Component). c.class ≡ e.kind.0)
class-told live None e told = told
class-told live (Some c) e told = sym told.kind
