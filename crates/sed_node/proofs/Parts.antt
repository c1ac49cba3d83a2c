-- Where a part stands among all parts of an application.
use Rattle.std.proofs.Common.{◌≡◌, ◌∙◌, ◌<◌, ℕ, Bool, true, false, List, [], ◌∷◌, ◌++◌, map as map_list, refl, sym, ap}
use Rattle.std.proofs.Common.{subst, arith}
use Rattle.std.specs.Prelude.{◌&&◌, ◌||◌, ◌==◌, nat_lt, T}
use Rattle.std.specs.List.{AllByRecursion, flat_map, list_any}
use Rattle.std.specs.FinMap as finite
use Rattle.std.specs.FinMap.{is_sorted}
use Rattle.std.specs.FinMap.Entries.{below_all}
use Rattle.std.specs.Ordering.{eq_by_cmp, is_lt, nat_cmp}
use Rattle.std.proofs.lemmas.Bool.Decides.{nat_tests}
use Rattle.comp_tree.specs.Application.{Application, Component, is_live}
use Rattle.sub_table.specs.declared.part.Part.{Part}
use Rattle.sub_table.specs.declared.part.Part.TheVariants.{Tree, Config, Runtime, Links}
use Rattle.sox_events.specs.Due.{before_it, rank}
use Rattle.node_events.specs.Events.{PartAt, parts_at, parts_of}
use Rattle.sed_value.proofs.Orders.{below_is as less_is}

abbrev Entries : Type 0
Entries = List (ℕ × Component)

abbrev keys_of : Entries → List ℕ
keys_of es = map_list (λ (e : ℕ × Component). e.0) es

-- all of which it stands behind, and what stands behind it
pub record Split (all : List PartAt) (id : ℕ) (part : Part) : Type 0 where
  pub first : List PartAt
  pub later : List PartAt
  pub parted : all ≡ first ++ record { id = id; part = part } ∷ later
  pub before : AllByRecursion (λ (q : PartAt). before_it id part q.id q.part ≡ true) first

first_of : (a b : Bool) → T (a && b) → T a
first_of true b h = tt
first_of false b h = h

second_of : (a b : Bool) → T (a && b) → T b
second_of true b h = h
second_of false b h = absurd h

same_is : (a b : ℕ) → eq_by_cmp nat_cmp a b ≡ true → a ≡ b
same_is a b is = grind (arith, nat_tests)

-- a key that is there is above what all keys are above
below_any : (k id : ℕ) (es : Entries) → T (below_all nat_cmp k es) → list_any (eq_by_cmp nat_cmp id) (keys_of es) ≡ true
    → k < id
below_any k id [] below there = absurd (let no : false ≡ true = there in cc)
below_any k id (e ∷ es) below there = by_test (eq_by_cmp nat_cmp id e.0) refl there
    (below_any k id es (second_of (is_lt (nat_cmp k e.0)) (below_all nat_cmp k es) below))
  where
    less : k < e.0
    less = less_is k e.0 (first_of (is_lt (nat_cmp k e.0)) (below_all nat_cmp k es) below)

    by_test : (b : Bool) → eq_by_cmp nat_cmp id e.0 ≡ b → (b || list_any (eq_by_cmp nat_cmp id) (keys_of es)) ≡ true
        → (list_any (eq_by_cmp nat_cmp id) (keys_of es) ≡ true → k < id) → k < id
    by_test true is there later = let same = same_is id e.0 is in omega (arith, less, same)
    by_test false is there later = later there

-- ---- among the four of one component

module _ (id : ℕ) (later : List PartAt) where
  lower : (part other : Part) → nat_lt (rank other) (rank part) ≡ true → before_it id part id other ≡ true
  lower part other less = ap (λ (b : Bool). nat_lt id id || (id == id && b)) less
      ∙ (let so : (nat_lt id id || (id == id && true)) ≡ true = grind (arith, nat_tests) in so)

  of_four : (part : Part) → Split (parts_at id ++ later) id part
  of_four Tree = record {
    first = [];
    later = record { id = id; part = Config } ∷ record { id = id; part = Runtime } ∷ record { id = id; part = Links } ∷
        later;
    parted = refl;
    before = tt;
  }
  of_four Config = record {
    first = record { id = id; part = Tree } ∷ [];
    later = record { id = id; part = Runtime } ∷ record { id = id; part = Links } ∷ later;
    parted = refl;
    before = (lower Config Tree refl, tt);
  }
  of_four Runtime = record {
    first = record { id = id; part = Tree } ∷ record { id = id; part = Config } ∷ [];
    later = record { id = id; part = Links } ∷ later;
    parted = refl;
    before = (lower Runtime Tree refl, (lower Runtime Config refl, tt));
  }
  of_four Links = record {
    first = record { id = id; part = Tree } ∷ record { id = id; part = Config } ∷ record { id = id; part = Runtime } ∷
        [];
    later = later;
    parted = refl;
    before = (lower Links Tree refl, (lower Links Config refl, (lower Links Runtime refl, tt)));
  }

-- ---- among all

-- those of a component with a smaller id stand before it
module _ (k id : ℕ) (part : Part) (less : k < id) where
  smaller : (other : Part) → before_it id part k other ≡ true
  smaller other = ap (λ (b : Bool). b || (k == id && nat_lt (rank other) (rank part)))
      (let so : nat_lt k id ≡ true = grind (arith, nat_tests) in so)

  behind : (all : List PartAt) → Split all id part → Split (parts_at k ++ all) id part
  behind all s = record {
    first = parts_at k ++ s.first;
    later = s.later;
    parted = ap (λ (rest : List PartAt). parts_at k ++ rest) s.parted;
    before = (smaller Tree, (smaller Config, (smaller Runtime, (smaller Links, s.before))));
  }

split_entries : (id : ℕ) (part : Part) (es : Entries) → T (is_sorted nat_cmp es)
    → list_any (eq_by_cmp nat_cmp id) (keys_of es) ≡ true
    → Split (flat_map parts_at (keys_of es)) id part
split_entries id part [] sorted there = absurd (let no : false ≡ true = there in cc)
split_entries id part (e ∷ es) sorted there = by_test (eq_by_cmp nat_cmp id e.0) refl there
    (split_entries id part es (second_of (below_all nat_cmp e.0 es) (is_sorted nat_cmp es) sorted))
  where
    below : T (below_all nat_cmp e.0 es)
    below = first_of (below_all nat_cmp e.0 es) (is_sorted nat_cmp es) sorted

    by_test : (b : Bool) → eq_by_cmp nat_cmp id e.0 ≡ b → (b || list_any (eq_by_cmp nat_cmp id) (keys_of es)) ≡ true
        → (list_any (eq_by_cmp nat_cmp id) (keys_of es) ≡ true → Split (flat_map parts_at (keys_of es)) id part)
        → Split (parts_at e.0 ++ flat_map parts_at (keys_of es)) id part
    by_test true is there later =
        subst (λ (k : ℕ). Split (parts_at k ++ flat_map parts_at (keys_of es)) id part) (same_is id e.0 is)
        (of_four id (flat_map parts_at (keys_of es)) part)
    by_test false is there later =
        behind e.0 id part (below_any e.0 id es below there) (flat_map parts_at (keys_of es)) (later there)

pub split_of : (a : Application) (id : ℕ) (part : Part) → is_live a.components.by_id id ≡ true
    → Split (parts_of a) id part
split_of a id part live =
    split_entries id part (finite.entries a.components.by_id) (finite.entries_sorted a.components.by_id)
    (sym (finite.contains_key-keys a.components.by_id id) ∙ live)
