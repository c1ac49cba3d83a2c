-- Names that differ, and a set of them.
use Rattle.std.proofs.Common.{◌≡◌, ℕ, suc, ◌<◌, ◌≤◌, ◌+◌, Bool, true, false, List, [], ◌∷◌, ◌++◌, length, take, drop, get_or, refl, sym, ◌∙◌, ap, subst, arith}
use Rattle.std.specs.Prelude.{◌||◌, not, cond, map as map_list}
use Rattle.std.specs.BTreeSet.{BTreeSet, Updates, contains}
use Rattle.std.specs.BTreeMap.{is_at}
use Rattle.std.specs.Cmp.{IsEquivalence}
use Rattle.std.specs.Cmp.Lexicographic.{slice_cmp}
use Rattle.std.specs.List.{AllByRecursion, IsDistinct, list_any}
use Rattle.std.specs.Ordering.{nat_cmp}
use Rattle.std.specs.Str.{bytes_eq}
use Rattle.std.proofs.Math.Seq.{drop-cons, take-suc}
use Rattle.std.proofs.lemmas.List.{map-append, take-append-drop, take_all}
use Rattle.std.proofs.lemmas.Map.Keys.{IsDistinct-head, IsDistinct-push, IsDistinct-tail}
use Rattle.std.proofs.lemmas.Map.Text.{is_eq-slice_cmp}
use Rattle.std.proofs.lemmas.Slice.Eq.{bytes_eq-Decides}

-- ---- equal names

turned : (x y : List ℕ) → bytes_eq x y ≡ bytes_eq y x
turned x y = by_tests (bytes_eq x y) refl (bytes_eq y x) refl
  where
    by_tests : (a : Bool) → bytes_eq x y ≡ a → (b : Bool) → bytes_eq y x ≡ b → bytes_eq x y ≡ bytes_eq y x
    by_tests true is true is' = is ∙ sym is'
    by_tests false is false is' = is ∙ sym is'
    by_tests true is false is' = absurd
        (let yes : bytes_eq y x ≡ true = (bytes_eq-Decides y x).1 (sym ((bytes_eq-Decides x y).0 is)) in
        let no : ◌≡◌ {A = Bool} true false = sym yes ∙ is' in cc)
    by_tests false is true is' = absurd
        (let yes : bytes_eq x y ≡ true = (bytes_eq-Decides x y).1 (sym ((bytes_eq-Decides y x).0 is')) in
        let no : ◌≡◌ {A = Bool} true false = sym yes ∙ is in cc)

same_names : IsEquivalence bytes_eq
same_names = record {
  refl = λ x. (bytes_eq-Decides x x).1 refl;
  symm = turned;
  congr = λ x y z is. ap (λ n. bytes_eq n z) ((bytes_eq-Decides x y).0 is);
}

-- ---- a name behind others

or_behind : (a b rest whole : Bool) → whole ≡ cond b true rest → (a || whole) ≡ cond b true (a || rest)
or_behind true true rest whole is = refl
or_behind true false rest whole is = refl
or_behind false true rest whole is = is
or_behind false false rest whole is = is

any_push : (q name : List ℕ) (names : List (List ℕ)) → list_any (bytes_eq q) (names ++ name ∷ []) ≡ cond (bytes_eq q name) true (list_any (bytes_eq q) names)
any_push q name [] = by_test (bytes_eq q name)
  where
    by_test : (b : Bool) → (b || false) ≡ cond b true false
    by_test true = refl
    by_test false = refl
any_push q name (x ∷ names) = or_behind (bytes_eq q x) (bytes_eq q name) (list_any (bytes_eq q) names) (list_any (bytes_eq q) (names ++ name ∷ [])) (any_push q name names)

in_middle : (P : List ℕ → Type 0) (xs : List (List ℕ)) (y : List ℕ) (ys : List (List ℕ)) → AllByRecursion P (xs ++ y ∷ ys) → P y
in_middle P [] y ys all = all.0
in_middle P (x ∷ xs) y ys all = in_middle P xs y ys all.1

-- a name that stands among those before it
not_twice : (names : List (List ℕ)) (name : List ℕ) (behind : List (List ℕ)) → IsDistinct bytes_eq (names ++ name ∷ behind) → list_any (bytes_eq name) names ≡ true → ⊥
not_twice [] name behind distinct there = let no : false ≡ true = there in cc
not_twice (x ∷ names) name behind distinct there =
    by_test (bytes_eq name x) refl there (not_twice names name behind (IsDistinct-tail bytes_eq x (names ++ name ∷ behind) distinct))
  where
    by_test : (b : Bool) → bytes_eq name x ≡ b → (b || list_any (bytes_eq name) names) ≡ true → (list_any (bytes_eq name) names ≡ true → ⊥) → ⊥
    by_test true is there more =
        let out : bytes_eq x name ≡ false = in_middle (λ y. bytes_eq x y ≡ false) names name behind (IsDistinct-head bytes_eq x (names ++ name ∷ behind) distinct) in
        let no : ◌≡◌ {A = Bool} true false = sym is ∙ turned name x ∙ out in
        cc
    by_test false is there more = more there

-- ---- a set of names beside the list of those that were put into it

pub record IsBeside (s : BTreeSet (List ℕ)) (names : List (List ℕ)) : Type 0 where
  pub apart : IsDistinct bytes_eq names
  pub same : (q : List ℕ) → contains (slice_cmp nat_cmp) s q ≡ list_any (bytes_eq q) names

pub beside_none : (s : BTreeSet (List ℕ)) → s.keys ≡ [] → IsBeside s []
unfolding IsDistinct
beside_none s empty = record { apart = tt; same = λ q. ap (list_any (is_at (slice_cmp nat_cmp q))) empty }

beside_more : (s t : BTreeSet (List ℕ)) (names : List (List ℕ)) (name : List ℕ) → IsBeside s names → contains (slice_cmp nat_cmp) s name ≡ false → Updates (slice_cmp nat_cmp) s t name true → IsBeside t (names ++ name ∷ [])
beside_more s t names name beside new put = record {
  apart = IsDistinct-push same_names names name beside.apart (sym (beside.same name) ∙ new);
  same = λ q.
      put.0 q ∙ (λ i. cond (is_eq-slice_cmp name q i) true (beside.same q i)) ∙ ap (λ b. cond b true (list_any (bytes_eq q) names)) (turned name q)
      ∙ sym (any_push q name names);
}

-- ---- the names of the rows at the first of some places

module _ (name : ℕ → List ℕ) (places : List ℕ) where
  abbrev pub first_names : ℕ → List (List ℕ)
  first_names n = map_list name (take n places)

  one_more : (n : ℕ) → n < length places → first_names (n + 1) ≡ first_names n ++ name (get_or places n 0) ∷ []
  one_more n lt =
      ap (λ k. map_list name (take k places)) (let step : n + 1 ≡ suc n = omega arith in step) ∙ ap (map_list name) (take-suc places n 0 lt)
      ∙ map-append name (take n places) (get_or places n 0 ∷ [])

  split : (n : ℕ) → n < length places → map_list name places ≡ first_names n ++ name (get_or places n 0) ∷ map_list name (drop (suc n) places)
  split n lt =
      ap (map_list name) (sym (take-append-drop n places)) ∙ map-append name (take n places) (drop n places)
      ∙ ap (λ rest. first_names n ++ map_list name rest) (drop-cons places n 0 lt)

  all_first : (n : ℕ) → length places ≤ n → first_names n ≡ map_list name places
  all_first n over = ap (map_list name) (take_all n places over)

  -- one more name is put, which is new
  pub put_new : (n : ℕ) (here : List ℕ) (s t : BTreeSet (List ℕ)) (is_new : Bool) → n < length places → here ≡ name (get_or places n 0)
      → is_new ≡ not (contains (slice_cmp nat_cmp) s here) → is_new ≡ true → Updates (slice_cmp nat_cmp) s t here true → IsBeside s (first_names n) → IsBeside t (first_names (n + 1))
  put_new n here s t is_new lt named tells new put beside =
      subst (IsBeside t) (ap (λ x. first_names n ++ x ∷ []) named ∙ sym (one_more n lt))
      (beside_more s t (first_names n) here beside (is_not (contains (slice_cmp nat_cmp) s here) (sym tells ∙ new)) put)
    where
      is_not : (b : Bool) → not b ≡ true → b ≡ false
      is_not false h = refl
      is_not true h = absurd (let no : false ≡ true = h in cc)

  -- or it stands there already
  pub put_twice : (n : ℕ) (here : List ℕ) (s : BTreeSet (List ℕ)) (is_new : Bool) → n < length places → here ≡ name (get_or places n 0)
      → is_new ≡ not (contains (slice_cmp nat_cmp) s here) → is_new ≡ false → IsBeside s (first_names n) → IsDistinct bytes_eq (map_list name places) → ⊥
  put_twice n here s is_new lt named tells new beside distinct =
      not_twice (first_names n) (name (get_or places n 0)) (map_list name (drop (suc n) places)) (subst (IsDistinct bytes_eq) (split n lt) distinct)
      (subst (λ x. list_any (bytes_eq x) (first_names n) ≡ true) named (sym (beside.same here) ∙ is_there (contains (slice_cmp nat_cmp) s here) (sym tells ∙ new)))
    where
      is_there : (b : Bool) → not b ≡ false → b ≡ true
      is_there true h = refl
      is_there false h = absurd (let no : true ≡ false = h in cc)

  pub all_put : (n : ℕ) (s : BTreeSet (List ℕ)) → length places ≤ n → IsBeside s (first_names n) → IsDistinct bytes_eq (map_list name places)
  all_put n s over beside = subst (IsDistinct bytes_eq) (all_first n over) beside.apart
