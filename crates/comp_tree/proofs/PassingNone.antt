-- What is whole passes no limit.
use Rattle.std.proofs.Common.{◌≡◌, ℕ, ◌<◌, ◌≤◌, Bool, true, false, List, [], ◌∷◌, length, refl, subst, ap, arith}
use Rattle.std.specs.Prelude.{Some, None, IfSome, is_some, nat_le, nat_lt, ◌||◌, map as map_list}
use Rattle.std.specs.List.{AllByRecursion, list_any}
use Rattle.std.specs.FinMap as map
use Rattle.std.proofs.lemmas.Bool.Decides.{nat_tests}
use Rattle.sed_engine.specs.Code.{Meaning}
use Rattle.comp_tree.specs.Application.{Application, ById, Component, data_size_of, greatest_depth, most_children, most_components, most_links, most_links_at_component}
use Rattle.comp_tree.specs.Limits.{first_passed, limit_passed}
use Rattle.comp_tree.specs.Order.{depth}
use Rattle.comp_tree.specs.Parts.{links_at}
use Rattle.comp_tree.specs.Whole.{Whole}
use Rattle.comp_tree.proofs.EntriesOfMaps.{entries_are_got}

or_false : (b c : Bool) → b ≡ false → c ≡ false → (b || c) ≡ false
or_false true c is rest = is
or_false false c is rest = rest

no_key : (all : ById) (p : ℕ → Bool) (es : List (ℕ × Component)) → AllByRecursion (λ e. map.get all e.0 ≡ Some e.1) es
    → ((id : ℕ) (c : Component) → map.get all id ≡ Some c → p id ≡ false) → list_any p (map_list (λ e. e.0) es) ≡ false
no_key all p [] got none = refl
no_key all p (e ∷ es) got none = or_false (p e.0) (list_any p (map_list (λ e. e.0) es)) (none e.0 e.1 got.0) (no_key all p es got.1 none)

no_value : (all : ById) (p : Component → Bool) (es : List (ℕ × Component)) → AllByRecursion (λ e. map.get all e.0 ≡ Some e.1) es
    → ((id : ℕ) (c : Component) → map.get all id ≡ Some c → p c ≡ false) → list_any p (map_list (λ e. e.1) es) ≡ false
no_value all p [] got none = refl
no_value all p (e ∷ es) got none = or_false (p e.1) (list_any p (map_list (λ e. e.1) es)) (none e.0 e.1 got.0) (no_value all p es got.1 none)

not_above : (most n : ℕ) → n ≤ most → nat_lt most n ≡ false
not_above most n le = grind (arith, nat_tests)

not_from : (most n : ℕ) → n < most → nat_le most n ≡ false
not_from most n lt = grind (arith, nat_tests)

module _ (m : Meaning) (a : Application) (whole : Whole m a) where
  at_component : (P : ℕ → Component → Type 0) (id : ℕ) (c : Component) → map.get a.components.by_id id ≡ Some c → IfSome (map.get a.components.by_id id) (P id) → P id c
  at_component P id c got all = subst (λ r. IfSome r (P id)) got all

  pub within : limit_passed m a ≡ None
  within =
      let all = a.components.by_id in
      let got = entries_are_got all in
      let ids : list_any (λ id. nat_le most_components id) (map.keys all) ≡ false =
      no_key all (λ id. nat_le most_components id) (map.entries all) got (λ id c is. not_from most_components id (at_component (λ id c. id < most_components) id c is (whole.ids id))) in
      let links : nat_lt most_links (length a.links) ≡ false = not_above most_links (length a.links) whole.link_count in
      let deep : list_any (λ id. nat_lt greatest_depth (depth all id)) (map.keys all) ≡ false =
      no_key all (λ id. nat_lt greatest_depth (depth all id)) (map.entries all) got (λ id c is. not_above greatest_depth (depth all id) (whole.depths id (ap is_some is))) in
      let children : list_any (λ (c : Component). nat_lt most_children (length c.children)) (map.values all) ≡ false =
      no_value all (λ (c : Component). nat_lt most_children (length c.children)) (map.entries all) got
      (λ id c is. not_above most_children (length c.children) (at_component (λ id c. length c.children ≤ most_children) id c is (whole.children id))) in
      let at_one : list_any (λ id. nat_lt most_links_at_component (length (links_at id a.links))) (map.keys all) ≡ false =
      no_key all (λ id. nat_lt most_links_at_component (length (links_at id a.links))) (map.entries all) got
      (λ id c is. not_above most_links_at_component (length (links_at id a.links)) (whole.links_at_each id)) in
      let data_size : nat_lt a.components.limit (data_size_of m all) ≡ false = not_above a.components.limit (data_size_of m all) whole.data_sizes in
      none_of _ _ _ _ _ _ ids links deep children at_one data_size
    where
      none_of : (p q r s t u : Bool) → p ≡ false → q ≡ false → r ≡ false → s ≡ false → t ≡ false → u ≡ false
          → first_passed ((p, 1) ∷ (q, 2) ∷ (r, 3) ∷ (s, 4) ∷ (t, 5) ∷ (u, 6) ∷ []) ≡ None
      none_of p q r s t u pf qf rf sf tf uf = rw (pf, qf, rf, sf, tf, uf) refl
