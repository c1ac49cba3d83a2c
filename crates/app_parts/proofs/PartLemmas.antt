-- The part of a component by what is found of it.
use Rattle.std.proofs.Common.{◌≡◌, ◌≢◌, ℕ, Bool, false, List, [], ◌++◌, length, map, refl, sym, ◌∙◌, ap, subst, arith}
use Rattle.std.specs.Prelude.{Option, Some, None, IsSomeAnd, ◌==◌, if◌then◌else◌}
use Rattle.std.proofs.lemmas.Bool.Decides.{nat_tests}
use Rattle.std.specs.Option.{option_and_then, option_map, option_map_or}
use Rattle.std.specs.List.{flat_map}
use Rattle.std.specs.FinMap as finite
use Rattle.sed_value.specs.declared.id.Id.{Id}
use Rattle.sed_engine.specs.Code.{Meaning, Places, slot_value}
use Rattle.comp_tree.specs.Application.{Application, Component, children_of, object_of}
use Rattle.comp_tree.specs.Edit.{part_bytes}
use Rattle.comp_tree.specs.Parts.{class_bytes, config_part, fault_part, link_part, no_id, part_of, runtime_part, slots_that, text, tree_part, u1, u2, values_in}
use Rattle.comp_tree.specs.Told.{IsEntry}
use Rattle.comp_tree.specs.Values.{spelling_of_all}
use Rattle.comp_tree.specs.declared.entry.Entry.{Entry}
use Rattle.app_parts.specs.Told.{tree_bytes}
use Rattle.app_parts.specs.Values.{is_told, values_bytes}
use Rattle.app_parts.specs.declared.values.Values.{Values}
use Rattle.app_parts.specs.declared.values.Values.TheVariants.{Config, Runtime}
use Rattle.sed_value.specs.declared.value.Value.TheVariants.{Nothing}
pub use Rattle.sed_value.proofs.Options.{some_and}

is_not : (a b : ℕ) → a ≢ b → (a == b) ≡ false
is_not a b apart = grind (arith, nat_tests)

-- a function of the component with an id, where it is there
there : {A : Type 0} (r : Option Component) (c : Component) (f : Component → A) (d : A) → r ≡ Some c → option_map_or f r d ≡ f c
there r c f d is = ap (λ (r : Option Component). option_map_or f r d) is

module _ (m : Meaning) (live : Places) (a : Application) (id : ℕ) (e : Entry) (c : Component) (at : finite.get a.components.by_id id ≡ Some c) (is : IsEntry live e c) where
  pub children-count : e.children ≡ length (children_of a.components.by_id id)
  children-count = is.children ∙ ap length (sym (there (finite.get a.components.by_id id) c (λ (c : Component). c.children) [] at))

  pub class_is : IsSomeAnd (finite.get a.components.by_id id) (λ (c : Component). c.class ≡ e.kind.0)
  class_is = subst (λ (r : Option Component). IsSomeAnd r (λ (c : Component). c.class ≡ e.kind.0)) (sym at) (sym is.kind)

  part_is : (letter : ℕ) (bytes : List ℕ) → part_of m a.links id c letter ≡ Some bytes → part_bytes m a id letter ≡ bytes
  part_is letter bytes part =
      ap (λ (r : Option Component). option_map_or (λ (b : List ℕ). b) (option_and_then (λ (c : Component). part_of m a.links id c letter) r) []) at
      ∙ ap (λ (r : Option (List ℕ)). option_map_or (λ (b : List ℕ). b) r []) part

  -- each part by its letter
  of_letter : (letter known : ℕ) (bytes : List ℕ) → letter ≡ known → part_of m a.links id c known ≡ Some bytes → bytes ≡ part_bytes m a id letter
  of_letter letter known bytes same part =
      sym (ap (λ (n : ℕ). part_bytes m a id n) same ∙ part_is known bytes part)

  parent-is : option_map_or (λ (i : Id). i.0) e.parent no_id ≡ option_map_or (λ (i : ℕ). i) c.parent no_id
  parent-is = mapped e.parent ∙ ap (λ (r : Option ℕ). option_map_or (λ (i : ℕ). i) r no_id) is.parent
    where
      mapped : (r : Option Id) → option_map_or (λ (i : Id). i.0) r no_id ≡ option_map_or (λ (i : ℕ). i) (option_map (λ (i : Id). i.0) r) no_id
      mapped None = refl
      mapped (Some i) = refl

  pub tree-is : (letter : ℕ) → letter ≡ 116 → tree_bytes m a.components.by_id id e ≡ part_bytes m a id letter
  tree-is letter same =
      let kind = is.kind in
      let name = is.name in
      let parent = parent-is in
      let count = is.children in
      let children = there (finite.get a.components.by_id id) c (λ (c : Component). c.children) [] at in
      let whole : tree_bytes m a.components.by_id id e ≡ tree_part m c =
      λ i. class_bytes m (kind i) ++ text (name i) ++ u2 (parent i) ++ u1 255 ++ u1 (count i) ++ flat_map u2 (children i) in
      whole ∙ of_letter letter 116 (tree_part m c) same refl

  values-are : (which : Values) → values_bytes m a.components.by_id id e.kind.0 which ≡ spelling_of_all (values_in m c (slots_that (is_told which) m c.class))
  values-are which =
      let kind = is.kind in
      let found = at in
      λ i. spelling_of_all (map (λ (slot : ℕ). option_map_or (λ (c : Component). slot_value m (object_of c) slot) (found i) Nothing) (slots_that (is_told which) m (kind i)))

  pub config-is : (letter : ℕ) → letter ≡ 99 → values_bytes m a.components.by_id id e.kind.0 Config ≡ part_bytes m a id letter
  config-is letter same = values-are Config ∙ of_letter letter 99 (config_part m c) same refl

  pub runtime-is : (letter : ℕ) → letter ≡ 114 → values_bytes m a.components.by_id id e.kind.0 Runtime ≡ part_bytes m a id letter
  runtime-is letter same = values-are Runtime ∙ of_letter letter 114 (runtime_part m c) same refl

  pub link-is : (letter : ℕ) → letter ≡ 108 → link_part id a.links ≡ part_bytes m a id letter
  link-is letter same = of_letter letter 108 (link_part id a.links) same refl

  pub fault-is : (letter : ℕ) → letter ≡ 102 → u1 e.fault ≡ part_bytes m a id letter
  fault-is letter same = ap u1 is.fault ∙ of_letter letter 102 (fault_part c) same refl

  -- no other letter names one
  pub no_other : (letter : ℕ) → letter ≢ 116 → letter ≢ 99 → letter ≢ 114 → letter ≢ 108 → letter ≢ 102 → part_bytes m a id letter ≡ []
  no_other letter t k r l f =
      ap (λ (r : Option Component). option_map_or (λ (b : List ℕ). b) (option_and_then (λ (c : Component). part_of m a.links id c letter) r) []) at
      ∙ ap (λ (r : Option (List ℕ)). option_map_or (λ (b : List ℕ). b) r []) (no_part (letter == 116) (letter == 99) (letter == 114) (letter == 108) (letter == 102)
      (is_not letter 116 t) (is_not letter 99 k) (is_not letter 114 r) (is_not letter 108 l) (is_not letter 102 f))
    where
      no_part : (t k r l f : Bool) → t ≡ false → k ≡ false → r ≡ false → l ≡ false → f ≡ false →
          (if t then Some (tree_part m c) else if k then Some (config_part m c) else if r then Some (runtime_part m c) else if l then Some (link_part id a.links) else if f then Some (fault_part c) else None) ≡ None
      no_part t k r l f not_t not_k not_r not_l not_f = rw not_t (rw not_k (rw not_r (rw not_l (rw not_f refl))))

-- of what is not live there is no part
pub not_there : (m : Meaning) (a : Application) (id letter : ℕ) → finite.get a.components.by_id id ≡ None → part_bytes m a id letter ≡ []
not_there m a id letter none =
    ap (λ (r : Option Component). option_map_or (λ (b : List ℕ). b) (option_and_then (λ (c : Component). part_of m a.links id c letter) r) []) none
