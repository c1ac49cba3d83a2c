-- What is formed and passes no limit is a tree, and it is whole.
use Rattle.std.proofs.Common.{◌≡◌, ℕ, zero, suc, ◌<◌, ◌≤◌, ◌⊎◌, inl, inr, Bool, true, false, IsTrue, List, [], ◌∷◌, length, refl, sym, subst, ◌∙◌, ap, arith}
use Rattle.std.specs.Prelude.{Option, Some, None, IfSome, is_some, nat_le, nat_lt, ◌==◌, if◌then◌else◌, ◌||◌, map as map_list}
use Rattle.std.specs.Option.{option_and_then}
use Rattle.std.specs.List.{AllByRecursion, list_any}
use Rattle.std.specs.FinMap as map
use Rattle.std.specs.Ordering.{nat_cmp, eq_by_cmp}
use Rattle.std.proofs.lemmas.Bool.{cases_order}
use Rattle.std.proofs.lemmas.Bool.Decides.{nat_tests}
use Rattle.std.proofs.lemmas.List.Elements.{recursion_from_All}
use Rattle.sed_typed.specs.Classes.{reached}
use Rattle.sed_engine.specs.Code.{Meaning}
use Rattle.comp_tree.specs.Application.{Application, Component, Link, children_of, data_size_of, greatest_depth, is_live, most_children, most_components, most_links, most_links_at_component, parent_of}
use Rattle.comp_tree.specs.Limits.{first_passed, limit_passed}
use Rattle.comp_tree.specs.Order.{depth}
use Rattle.comp_tree.specs.Parts.{links_at}
use Rattle.comp_tree.specs.Shape.{IsTree, up_by}
use Rattle.comp_tree.specs.Whole.{Each, IsFormed, IsLink, Whole}
use Rattle.comp_tree.proofs.EntriesOfMaps.{tied_is}

-- ---- lists

-- of each key no more than the test says
not_of_key : (p : ℕ → Bool) (keys : List ℕ) (q : ℕ) → list_any (eq_by_cmp nat_cmp q) keys ≡ true → list_any p keys ≡ false → p q ≡ false
not_of_key p [] q there none = absurd (let no : false ≡ true = there in cc)
not_of_key p (k ∷ keys) q there none = by_tests (eq_by_cmp nat_cmp q k) refl (p k) refl there none (not_of_key p keys q)
  where
    by_tests : (t : Bool) → eq_by_cmp nat_cmp q k ≡ t → (b : Bool) → p k ≡ b → (t || list_any (eq_by_cmp nat_cmp q) keys) ≡ true → (b || list_any p keys) ≡ false
        → (list_any (eq_by_cmp nat_cmp q) keys ≡ true → list_any p keys ≡ false → p q ≡ false) → p q ≡ false
    by_tests t tied true is there none later = absurd (let no : true ≡ false = none in cc)
    by_tests true tied false is there none later = ap p (tied_is q k tied) ∙ is
    by_tests false tied false is there none later = later there none

not_of_entry : (p : Component → Bool) (es : List (ℕ × Component)) → list_any p (map_list (λ e. e.1) es) ≡ false → AllByRecursion (λ e. p e.1 ≡ false) es
not_of_entry p [] none = tt
not_of_entry p (e ∷ es) none = by_test (p e.1) refl none (not_of_entry p es)
  where
    by_test : (b : Bool) → p e.1 ≡ b → (b || list_any p (map_list (λ e. e.1) es)) ≡ false
        → (list_any p (map_list (λ e. e.1) es) ≡ false → AllByRecursion (λ e. p e.1 ≡ false) es) → AllByRecursion (λ e. p e.1 ≡ false) (e ∷ es)
    by_test true is none later = absurd (let no : true ≡ false = none in cc)
    by_test false is none later = (is, later none)

-- ---- the rows of limits

record NonePassed (m : Meaning) (a : Application) : Type 0 where
  ids : list_any (λ id. nat_le most_components id) (map.keys a.components.by_id) ≡ false
  links : nat_lt most_links (length a.links) ≡ false
  deep : list_any (λ id. nat_lt greatest_depth (depth a.components.by_id id)) (map.keys a.components.by_id) ≡ false
  children : list_any (λ (c : Component). nat_lt most_children (length c.children)) (map.values a.components.by_id) ≡ false
  links_at_one : list_any (λ id. nat_lt most_links_at_component (length (links_at id a.links))) (map.keys a.components.by_id) ≡ false
  data_size : nat_lt a.components.limit (data_size_of m a.components.by_id) ≡ false

none_of_six : (p q r s t u : Bool) → first_passed ((p, 1) ∷ (q, 2) ∷ (r, 3) ∷ (s, 4) ∷ (t, 5) ∷ (u, 6) ∷ []) ≡ None
    → (p ≡ false) × (q ≡ false) × (r ≡ false) × (s ≡ false) × (t ≡ false) × (u ≡ false)
none_of_six false false false false false false none = (refl, refl, refl, refl, refl, refl)
none_of_six true q r s t u none = absurd (let no : ◌≡◌ {A = Option ℕ} (Some 1) None = none in cc)
none_of_six false true r s t u none = absurd (let no : ◌≡◌ {A = Option ℕ} (Some 2) None = none in cc)
none_of_six false false true s t u none = absurd (let no : ◌≡◌ {A = Option ℕ} (Some 3) None = none in cc)
none_of_six false false false true t u none = absurd (let no : ◌≡◌ {A = Option ℕ} (Some 4) None = none in cc)
none_of_six false false false false true u none = absurd (let no : ◌≡◌ {A = Option ℕ} (Some 5) None = none in cc)
none_of_six false false false false false true none = absurd (let no : ◌≡◌ {A = Option ℕ} (Some 6) None = none in cc)

none_passed : (m : Meaning) (a : Application) → limit_passed m a ≡ None → NonePassed m a
none_passed m a none =
    let six = none_of_six _ _ _ _ _ _ none in
    record { ids = six.0; links = six.1; deep = six.2; children = six.3; links_at_one = six.4; data_size = six.5 }

-- ---- depth

-- of more steps up at least so many are reached
deep_enough : (parent : ℕ → Option ℕ) (k n id : ℕ) → k ≤ n → up_by parent n id ≡ Some 0 → length (reached parent k (parent id)) ≡ k
deep_enough parent zero n id few up = refl
deep_enough parent (suc k) zero id few up = absurd (omega arith)
deep_enough parent (suc k) (suc n) id few up = by_parent (λ y. deep_enough parent k n y (omega arith)) (parent id) up
  where
    by_parent : ((y : ℕ) → up_by parent n y ≡ Some 0 → length (reached parent k (parent y)) ≡ k) → (r : Option ℕ) → option_and_then (up_by parent n) r ≡ Some 0
        → length (reached parent (suc k) r) ≡ suc k
    by_parent more None up = absurd (let no : ◌≡◌ {A = Option ℕ} None (Some 0) = up in cc)
    by_parent more (Some y) up = ap suc (more y up)

-- what is formed, and stands nowhere deeper than a tree may, is a tree
module _ (m : Meaning) (a : Application) (formed : IsFormed m a) (depths : (id : ℕ) → IsTrue (is_live a.components.by_id id) → depth a.components.by_id id ≤ greatest_depth) where
  few_steps : (id : ℕ) → IsTrue (is_live a.components.by_id id) → (n : ℕ) × (n ≤ 16) × (up_by (parent_of a.components.by_id) n id ≡ Some 0)
  few_steps id live = by_order (formed.tree.reached id live)
    where
      by_order : (n : ℕ) × (up_by (parent_of a.components.by_id) n id ≡ Some 0) → (n : ℕ) × (n ≤ 16) × (up_by (parent_of a.components.by_id) n id ≡ Some 0)
      by_order r = by_cases (cases_order r.0 16)
        where
          by_cases : (r.0 ≡ 16) ⊎ ((r.0 < 16) ⊎ (16 < r.0)) → (n : ℕ) × (n ≤ 16) × (up_by (parent_of a.components.by_id) n id ≡ Some 0)
          by_cases (inl same) = (r.0, omega (arith, same), r.1)
          by_cases (inr (inl less)) = (r.0, omega (arith, less), r.1)
          by_cases (inr (inr more)) =
              let deep : depth a.components.by_id id ≡ 17 = deep_enough (parent_of a.components.by_id) 17 r.0 id (omega (arith, more)) r.1 in
              let shallow = depths id live in
              absurd (omega (arith, deep, shallow))

  tree_within : IsTree (is_live a.components.by_id) (parent_of a.components.by_id) (children_of a.components.by_id)
  tree_within = record {
    app = formed.tree.app;
    root = formed.tree.root;
    up = formed.tree.up;
    down = formed.tree.down;
    once = formed.tree.once;
    known = formed.tree.known;
    within = few_steps;
  }

module _ (m : Meaning) (a : Application) (formed : IsFormed m a) (passed : NonePassed m a) where
  key_there : (id : ℕ) → IsTrue (is_live a.components.by_id id) → list_any (eq_by_cmp nat_cmp id) (map.keys a.components.by_id) ≡ true
  key_there id live = sym (map.contains_key-keys a.components.by_id id) ∙ live

  not_deep : (id : ℕ) → IsTrue (is_live a.components.by_id id) → depth a.components.by_id id ≤ greatest_depth
  not_deep id live =
      let none = not_of_key (λ id. nat_lt greatest_depth (depth a.components.by_id id)) (map.keys a.components.by_id) id (key_there id live) passed.deep in
      at_most (depth a.components.by_id id) none
    where
      at_most : (d : ℕ) → nat_lt greatest_depth d ≡ false → d ≤ greatest_depth
      at_most d none = grind (arith, nat_tests)

  each : (P : ℕ → Component → Type 0) → ((id : ℕ) (c : Component) → map.get a.components.by_id id ≡ Some c → P id c) → Each a.components.by_id P
  each P at id = by_component (map.get a.components.by_id id) refl
    where
      by_component : (r : Option Component) → map.get a.components.by_id id ≡ r → IfSome r (P id)
      by_component None got = tt
      by_component (Some c) got = at id c got

  small : (id : ℕ) (c : Component) → map.get a.components.by_id id ≡ Some c → id < most_components
  small id c got =
      let none = not_of_key (λ id. nat_le most_components id) (map.keys a.components.by_id) id (key_there id (ap is_some got)) passed.ids in
      below id none
    where
      below : (id : ℕ) → nat_le most_components id ≡ false → id < most_components
      below id none = grind (arith, nat_tests)

  few_in : (es : List (ℕ × Component)) → AllByRecursion (λ e. nat_lt most_children (length e.1.children) ≡ false) es → (q : ℕ) (c : Component) → map.find nat_cmp q es ≡ Some c → length c.children ≤ most_children
  few_in [] all q c got = absurd (let no : ◌≡◌ {A = Option Component} None (Some c) = got in cc)
  few_in (e ∷ es) all q c got = by_test (eq_by_cmp nat_cmp q e.0) got (few_in es all.1 q c)
    where
      at_most : (n : ℕ) → nat_lt most_children n ≡ false → n ≤ most_children
      at_most n none = grind (arith, nat_tests)

      by_test : (b : Bool) → (if b then Some e.1 else map.find nat_cmp q es) ≡ Some c → (map.find nat_cmp q es ≡ Some c → length c.children ≤ most_children) → length c.children ≤ most_children
      by_test true got later = let same : e.1 ≡ c = cc in subst (λ (c : Component). length c.children ≤ most_children) same (at_most (length e.1.children) all.0)
      by_test false got later = later got

  few_children : (id : ℕ) (c : Component) → map.get a.components.by_id id ≡ Some c → length c.children ≤ most_children
  few_children id c got =
      few_in (map.entries a.components.by_id) (not_of_entry (λ (c : Component). nat_lt most_children (length c.children)) (map.entries a.components.by_id) passed.children) id c
      (sym (map.get-entries a.components.by_id id) ∙ got)

  -- no link is at what is not live
  none_at : (id : ℕ) → is_live a.components.by_id id ≡ false → (links : List Link) → AllByRecursion (IsLink m a.components.by_id) links → links_at id links ≡ []
  none_at id dead [] all = refl
  none_at id dead (l ∷ links) all = by_ends (l.from == id) refl (l.to == id) refl (none_at id dead links all.1)
    where
      at_dead : (end : ℕ) → (end == id) ≡ true → IsTrue (is_live a.components.by_id end) → ⊥
      at_dead end same live =
          let here : end ≡ id = grind (arith, nat_tests) in
          let no : true ≡ false = sym live ∙ ap (is_live a.components.by_id) here ∙ dead in
          absurd (cc)

      by_ends : (b : Bool) → (l.from == id) ≡ b → (t : Bool) → (l.to == id) ≡ t → links_at id links ≡ [] → ◌≡◌ {A = List Link} (if b || t then l ∷ links_at id links else links_at id links) []
      by_ends true from t to rest = absurd (at_dead l.from from all.0.from)
      by_ends false from true to rest = absurd (at_dead l.to to all.0.to)
      by_ends false from false to rest = rest

  few_links : (id : ℕ) → length (links_at id a.links) ≤ most_links_at_component
  few_links id = by_life (is_live a.components.by_id id) refl
    where
      at_most : (n : ℕ) → nat_lt most_links_at_component n ≡ false → n ≤ most_links_at_component
      at_most n none = grind (arith, nat_tests)

      by_life : (b : Bool) → is_live a.components.by_id id ≡ b → length (links_at id a.links) ≤ most_links_at_component
      by_life true live = at_most _ (not_of_key (λ id. nat_lt most_links_at_component (length (links_at id a.links))) (map.keys a.components.by_id) id (key_there id live) passed.links_at_one)
      by_life false dead =
          let none = none_at id dead a.links (recursion_from_All _ a.links formed.links) in
          let long : length (links_at id a.links) ≡ 0 = ap length none in
          omega (arith, long)

not_more : (most n : ℕ) → nat_lt most n ≡ false → n ≤ most
not_more most n none = grind (arith, nat_tests)

pub is_whole : (m : Meaning) (a : Application) → IsFormed m a → limit_passed m a ≡ None → 1 ≤ a.components.limit → a.components.limit ≤ 4194304
    → Whole m a
is_whole m a formed none least most =
    let passed = none_passed m a none in
    record {
      formed = formed;
      ids = each m a formed passed (λ id c. id < most_components) (small m a formed passed);
      link_count = not_more most_links (length a.links) passed.links;
      depths = not_deep m a formed passed;
      children = each m a formed passed (λ id c. length c.children ≤ most_children) (few_children m a formed passed);
      links_at_each = few_links m a formed passed;
      data_sizes = not_more a.components.limit (data_size_of m a.components.by_id) passed.data_size;
      least_limit = least;
      most_limit = most;
    }

pub is_tree : (m : Meaning) (a : Application) → IsFormed m a → limit_passed m a ≡ None
    → IsTree (is_live a.components.by_id) (parent_of a.components.by_id) (children_of a.components.by_id)
is_tree m a formed none = tree_within m a formed (not_deep m a formed (none_passed m a none))

pub tree_of : (m : Meaning) (a : Application) → Whole m a → IsTree (is_live a.components.by_id) (parent_of a.components.by_id) (children_of a.components.by_id)
tree_of m a whole = tree_within m a whole.formed whole.depths
