-- When an add is allowed, but for its data.
use Rattle.std.proofs.Common.{ℕ, ◌≡◌, ◌≢◌, ◌<◌, ◌≤◌, Bool, true, false, not, List, [], ◌∷◌, ◌++◌, length, refl, sym, ◌∙◌, ap, subst, arith}
use Rattle.std.specs.Prelude.{Option, Some, None, nat_le}
use Rattle.std.specs.Option.{option_and_then, option_map, option_map_or}
use Rattle.std.specs.List.{list_any}
use Rattle.std.specs.Str.{bytes_eq}
use Rattle.std.specs.FinMap as map
use Rattle.std.proofs.lemmas.Bool.Decides.{nat_tests}
use Rattle.sed_value.specs.Names.{is_name}
use Rattle.sed_value.specs.declared.id.Id.{Id}
use Rattle.sed_value.specs.declared.refusal.Refusal.{Refusal}
use Rattle.sed_value.specs.declared.refusal.Refusal.TheVariants.{AbstractType, BadName, BadValue, BufferTooLong, ComponentLimit, DataFull, NameTaken, NoComponent, NoType, TooDeep, TooManyChildren}
use Rattle.sed_typed.specs.Classes.{reached}
use Rattle.sed_typed.specs.Schemas.{type_at as class_numbered}
use Rattle.sed_engine.specs.Code.{Meaning, Places}
use Rattle.node_table.specs.declared.node.Node.{Node}
use Rattle.comp_tree.specs.Allowed.{IsKindToAdd, IsNewChild, MayAdd, child_rows, kind_rows}
use Rattle.comp_tree.specs.Application.{Component, Components, children_of, greatest_depth, is_live, most_children, most_components, name_of, parent_of}
use Rattle.comp_tree.specs.Held.{Nodes, by_id_of, component_of, name_in, parent_in}
use Rattle.comp_tree.specs.Order.{depth, most_levels}
use Rattle.node_table.specs.Read.{refusal_of_values}
use Rattle.comp_tree.specs.Refusals.{config_types, config_types_of, first_refusal, is_abstract_class, is_child_named, is_for_components, passes_limit, refusals_of_add}
use Rattle.comp_tree.specs.Values.{are_bad_values, have_long_buffer}
use Rattle.comp_tree.proofs.EditLemmas.{children_is, first_refusal-append, name_is, or_else}
use Rattle.comp_tree.proofs.HeldLemmas.{get-by_id}
use Rattle.comp_tree.proofs.MapLemmas.{len-map_values}

-- ---- the type

module _ (m : Meaning) (kit number : ℕ) where
  kind_by : Option ℕ → Option Refusal
  kind_by r = first_refusal ((option_map_or (λ class. not (is_for_components m class)) r true, NoType) ∷ (option_map_or (is_abstract_class m) r false, AbstractType) ∷ [])

  kind_is : (r : Option ℕ) → class_numbered m.schema.classes kit number ≡ r → first_refusal (kind_rows m kit number) ≡ kind_by r
  unfolding kind_by
  kind_is r e = ap kind_by e

  pub no_such_kind : class_numbered m.schema.classes kit number ≡ None → first_refusal (kind_rows m kit number) ≡ Some NoType
  unfolding kind_by
  no_such_kind e = kind_is None e

-- ---- the place among the parent's children

pub few_of : (r k : ℕ) → r ≡ k → k ≤ 200 → r ≢ 200 → k < 200
few_of r k same most ne = omega arith

child_by : List ℕ → Bool → ℕ → ℕ → ℕ → Option Refusal
child_by name named kids deep count =
    first_refusal ((not (is_name name), BadName) ∷ (named, NameTaken) ∷ (nat_le most_children kids, TooManyChildren)
    ∷ (nat_le greatest_depth deep, TooDeep) ∷ (nat_le most_components count, ComponentLimit) ∷ [])

module _ (live : Places) (nodes : Nodes) (parent : ℕ) (name : List ℕ) (n : Node) (found : map.get nodes parent ≡ Some n) where
  kids_are : children_of (by_id_of live nodes) parent ≡ n.children
  kids_are = children_is live nodes parent ∙ ap (λ r. option_map_or (λ (n : Node). n.children) r []) found

  named_is : is_child_named (by_id_of live nodes) parent name ≡ list_any (λ child. bytes_eq (name_in nodes child) name) n.children
  named_is =
      let names : name_of (by_id_of live nodes) ≡ name_in nodes = λ i child. name_is live nodes child i in
      ap (λ names. list_any (λ child. bytes_eq (names child) name) (children_of (by_id_of live nodes) parent)) names
      ∙ ap (list_any (λ child. bytes_eq (name_in nodes child) name)) kids_are

  parents_are : parent_of (by_id_of live nodes) ≡ parent_in nodes
  parents_are = λ i id. (ap (option_and_then (λ (c : Component). c.parent)) (get-by_id live nodes id) ∙ through (map.get nodes id)) i
    where
      through : (r : Option Node) → option_and_then (λ (c : Component). c.parent) (option_map (component_of live) r) ≡ option_and_then (λ (n : Node). option_map (λ (i : Id). i.0) n.parent) r
      through None = refl
      through (Some n) = refl

  pub depth_there : depth (by_id_of live nodes) parent ≡ length (reached (parent_in nodes) most_levels (parent_in nodes parent))
  depth_there = ap (λ up. length (reached up most_levels (up parent))) parents_are

  pub count_there : map.len (by_id_of live nodes) ≡ map.len nodes
  count_there = len-map_values (component_of live) nodes

  module _ (named : Bool) (deep : ℕ) (named_so : named ≡ list_any (λ child. bytes_eq (name_in nodes child) name) n.children) (deep_is : deep ≡ length (reached (parent_in nodes) most_levels (parent_in nodes parent))) where
    child_is : first_refusal (child_rows (by_id_of live nodes) parent name) ≡ child_by name named (length n.children) deep (map.len nodes)
    unfolding child_by
    child_is =
        ap (λ (b : Bool). child_by name b (length (children_of (by_id_of live nodes) parent)) (depth (by_id_of live nodes) parent) (map.len (by_id_of live nodes))) (named_is ∙ sym named_so)
        ∙ ap (λ (xs : List ℕ). child_by name named (length xs) (depth (by_id_of live nodes) parent) (map.len (by_id_of live nodes))) kids_are
        ∙ ap (λ (d : ℕ). child_by name named (length n.children) d (map.len (by_id_of live nodes))) (depth_there ∙ sym deep_is)
        ∙ ap (child_by name named (length n.children) deep) count_there

    pub child_bad_name : is_name name ≡ false → first_refusal (child_rows (by_id_of live nodes) parent name) ≡ Some BadName
    unfolding child_by
    child_bad_name bad = child_is ∙ rw bad refl

    module _ (good : is_name name ≡ true) where
      pub child_taken : named ≡ true → first_refusal (child_rows (by_id_of live nodes) parent name) ≡ Some NameTaken
      unfolding child_by
      child_taken so = child_is ∙ rw (good, so) refl

      module _ (other : named ≡ false) where
        pub child_many : length n.children ≡ most_children → first_refusal (child_rows (by_id_of live nodes) parent name) ≡ Some TooManyChildren
        unfolding child_by
        child_many many = let full : nat_le most_children (length n.children) ≡ true = grind (arith, nat_tests) in child_is ∙ rw (good, other, full) refl

        module _ (few : length n.children < most_children) where
          few_kids : nat_le most_children (length n.children) ≡ false
          few_kids = grind (arith, nat_tests)

          pub child_deep : greatest_depth ≤ deep → first_refusal (child_rows (by_id_of live nodes) parent name) ≡ Some TooDeep
          unfolding child_by
          child_deep low = let full : nat_le greatest_depth deep ≡ true = grind (arith, nat_tests) in child_is ∙ rw (good, other, few_kids, full) refl

          module _ (high : deep < greatest_depth) where
            few_levels : nat_le greatest_depth deep ≡ false
            few_levels = grind (arith, nat_tests)

            pub child_limit : most_components ≤ map.len nodes → first_refusal (child_rows (by_id_of live nodes) parent name) ≡ Some ComponentLimit
            unfolding child_by
            child_limit all = let full : nat_le most_components (map.len nodes) ≡ true = grind (arith, nat_tests) in child_is ∙ rw (good, other, few_kids, few_levels, full) refl

            pub child_allowed : (new : List ℕ) → new ≡ name → map.len nodes < most_components → IsNewChild (by_id_of live nodes) parent name new
            unfolding child_by
            child_allowed new same some = record {
              same = same;
              room = record {
                children = subst (λ (xs : List ℕ). length xs < most_children) (sym kids_are) few;
                deep = subst (λ (d : ℕ). d < greatest_depth) (deep_is ∙ sym depth_there) high;
                few = subst (λ (k : ℕ). k < most_components) (sym count_there) some;
              };
              allowed = (let not_full : nat_le most_components (map.len nodes) ≡ false = grind (arith, nat_tests) in child_is ∙ rw (good, other, few_kids, few_levels, not_full) refl);
            }

-- ---- the rows together

module _ (m : Meaning) (a : Components) (parent kit number : ℕ) (name config : List ℕ) where
  value_rows : List (Bool × Refusal)
  value_rows = (are_bad_values (config_types_of m kit number) config, BadValue) ∷ (have_long_buffer (config_types_of m kit number) config, BufferTooLong) ∷ []

  rows_are : first_refusal (refusals_of_add m a parent kit number name config)
      ≡ or_else (first_refusal ((not (is_live a.by_id parent), NoComponent) ∷ [])) (or_else (first_refusal (kind_rows m kit number)) (or_else (first_refusal (child_rows a.by_id parent name))
      (or_else (first_refusal value_rows) (first_refusal ((passes_limit m a kit number, DataFull) ∷ [])))))
  unfolding value_rows
  rows_are =
      first_refusal-append ((not (is_live a.by_id parent), NoComponent) ∷ []) (kind_rows m kit number ++ (child_rows a.by_id parent name ++ (value_rows ++ ((passes_limit m a kit number, DataFull) ∷ []))))
      ∙ ap (or_else (first_refusal ((not (is_live a.by_id parent), NoComponent) ∷ [])))
      (first_refusal-append (kind_rows m kit number) (child_rows a.by_id parent name ++ (value_rows ++ ((passes_limit m a kit number, DataFull) ∷ [])))
      ∙ ap (or_else (first_refusal (kind_rows m kit number)))
      (first_refusal-append (child_rows a.by_id parent name) (value_rows ++ ((passes_limit m a kit number, DataFull) ∷ []))
      ∙ ap (or_else (first_refusal (child_rows a.by_id parent name))) (first_refusal-append value_rows ((passes_limit m a kit number, DataFull) ∷ []))))

  pub add_no_parent : is_live a.by_id parent ≡ false → first_refusal (refusals_of_add m a parent kit number name config) ≡ Some NoComponent
  unfolding or_else
  add_no_parent out = rows_are ∙ ap (λ (b : Bool). or_else (first_refusal ((not b, NoComponent) ∷ [])) (or_else (first_refusal (kind_rows m kit number)) (or_else (first_refusal (child_rows a.by_id parent name))
      (or_else (first_refusal value_rows) (first_refusal ((passes_limit m a kit number, DataFull) ∷ [])))))) out

  module _ (live : is_live a.by_id parent ≡ true) where
    there : first_refusal ((not (is_live a.by_id parent), NoComponent) ∷ []) ≡ None
    there = ap (λ (b : Bool). first_refusal ((not b, NoComponent) ∷ [])) live

    after_live : first_refusal (refusals_of_add m a parent kit number name config)
        ≡ or_else (first_refusal (kind_rows m kit number)) (or_else (first_refusal (child_rows a.by_id parent name)) (or_else (first_refusal value_rows) (first_refusal ((passes_limit m a kit number, DataFull) ∷ []))))
    unfolding or_else
    after_live = rows_are ∙ ap (λ r. or_else r (or_else (first_refusal (kind_rows m kit number)) (or_else (first_refusal (child_rows a.by_id parent name)) (or_else (first_refusal value_rows) (first_refusal ((passes_limit m a kit number, DataFull) ∷ [])))))) there

    pub add_no_kind : (refusal : Refusal) → first_refusal (kind_rows m kit number) ≡ Some refusal → first_refusal (refusals_of_add m a parent kit number name config) ≡ Some refusal
    unfolding or_else
    add_no_kind refusal e = after_live ∙ ap (λ r. or_else r (or_else (first_refusal (child_rows a.by_id parent name)) (or_else (first_refusal value_rows) (first_refusal ((passes_limit m a kit number, DataFull) ∷ []))))) e

    module _ (class : ℕ) (kind : IsKindToAdd m kit number class) where
      after_kind : first_refusal (refusals_of_add m a parent kit number name config) ≡ or_else (first_refusal (child_rows a.by_id parent name)) (or_else (first_refusal value_rows) (first_refusal ((passes_limit m a kit number, DataFull) ∷ [])))
      unfolding or_else
      after_kind = after_live ∙ ap (λ r. or_else r (or_else (first_refusal (child_rows a.by_id parent name)) (or_else (first_refusal value_rows) (first_refusal ((passes_limit m a kit number, DataFull) ∷ []))))) kind.allowed

      pub add_no_child : (refusal : Refusal) → first_refusal (child_rows a.by_id parent name) ≡ Some refusal → first_refusal (refusals_of_add m a parent kit number name config) ≡ Some refusal
      unfolding or_else
      add_no_child refusal e = after_kind ∙ ap (λ r. or_else r (or_else (first_refusal value_rows) (first_refusal ((passes_limit m a kit number, DataFull) ∷ [])))) e

      module _ (new : List ℕ) (child : IsNewChild a.by_id parent name new) where
        values_are : first_refusal value_rows ≡ refusal_of_values (config_types m class) config
        unfolding value_rows
        values_are =
            ap (λ r. refusal_of_values (option_map_or (config_types m) r []) config) kind.class_is

        after_child : first_refusal (refusals_of_add m a parent kit number name config) ≡ or_else (refusal_of_values (config_types m class) config) (first_refusal ((passes_limit m a kit number, DataFull) ∷ []))
        unfolding or_else
        after_child =
            after_kind ∙ ap (λ r. or_else r (or_else (first_refusal value_rows) (first_refusal ((passes_limit m a kit number, DataFull) ∷ [])))) child.allowed
            ∙ ap (λ r. or_else r (first_refusal ((passes_limit m a kit number, DataFull) ∷ []))) values_are

        pub add_bad_values : (refusal : Refusal) → refusal_of_values (config_types m class) config ≡ Some refusal → first_refusal (refusals_of_add m a parent kit number name config) ≡ Some refusal
        unfolding or_else
        add_bad_values refusal e = after_child ∙ ap (λ r. or_else r (first_refusal ((passes_limit m a kit number, DataFull) ∷ []))) e

        pub may_add : refusal_of_values (config_types m class) config ≡ None → MayAdd m a parent kit number name config class new
        unfolding or_else
        may_add good = record {
          kind = kind;
          live = live;
          child = child;
          good = good;
          refused = after_child ∙ ap (λ r. or_else r (first_refusal ((passes_limit m a kit number, DataFull) ∷ []))) good;
        }
