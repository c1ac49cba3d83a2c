-- Nodes found through an index: what is found, and what one change does.
use Rattle.std.proofs.Common.{◌≡◌, ◌≢◌, ℕ, zero, suc, inl, inr, ◌+◌, ◌<◌, ◌≤◌, List, [], ◌∷◌, true, false, cond, length, get_or, refl, sym, ◌∙◌, ap, subst, arith}
use Rattle.std.proofs.Math.ListN.{set, get_or-eq_default}
use Rattle.std.specs.Prelude.{Option, Some, None, is_some, IfSome, IsSome, OnSome, count_by, replicate}
use Rattle.std.specs.FinMap as finite
use Rattle.std.specs.FinMap.{find, from_entries}
use Rattle.std.specs.Ordering.{nat_cmp, eq_by_cmp}
use Rattle.std.specs.Cmp.{nat_cmp_total}
use Rattle.std.proofs.lemmas.Grind.{common_steps}
use Rattle.std.proofs.lemmas.Bool.{cases_eq, cases_lt}
use Rattle.std.proofs.lemmas.List.Sums.{sum_by-cons}
use Rattle.std.proofs.lemmas.List.{get_or-replicate, get_or-set_same, get_or-set_other, length-set, length-replicate}
use Rattle.slab.specs.Slab.{Slab, get, slab_len, Updates}
use Rattle.node_table.specs.Indexed.{kept_at, kept, numbered, by_number, IsIndexed}
pub use Rattle.sed_value.proofs.Orders.{tied_same, tied_apart}
use Rattle.std.proofs.lemmas.Option.{same_Some as some_inj}

module _ {T : Type 0} where
  -- ---- a list of slots as a map

  below_first : (n : ℕ) (xs : List (Option T)) (q : ℕ) → q < n → find nat_cmp q (numbered n xs) ≡ None
  below_first n [] q lt = refl
  below_first n (None ∷ xs) q lt = below_first (n + 1) xs q (omega arith)
  below_first n (Some x ∷ xs) q lt = rw (tied_apart q n (omega arith)) (below_first (n + 1) xs q (omega arith))

  found_at : (n : ℕ) (xs : List (Option T)) (k : ℕ) → find nat_cmp (n + k) (numbered n xs) ≡ get_or xs k None
  found_at n [] k = refl
  found_at n (None ∷ xs) zero = below_first (n + 1) xs (n + 0) (omega arith)
  found_at n (None ∷ xs) (suc k) = let e : n + suc k ≡ (n + 1) + k = omega arith in rw e (found_at (n + 1) xs k)
  found_at n (Some x ∷ xs) zero = let e : n + 0 ≡ n = omega arith in rw (e, tied_same n) refl
  found_at n (Some x ∷ xs) (suc k) =
      let ne : n + suc k ≢ n = omega arith in
      let e : n + suc k ≡ (n + 1) + k = omega arith in
      rw (tied_apart (n + suc k) n ne) (ap (λ q. find nat_cmp q (numbered (n + 1) xs)) e ∙ found_at (n + 1) xs k)

  pub get-by_number : (xs : List (Option T)) (k : ℕ) → finite.get (by_number xs) k ≡ get_or xs k None
  get-by_number xs k = finite.get-from_entries nat_cmp_total (numbered 0 xs) k ∙ ap (λ q. find nat_cmp q (numbered 0 xs)) (omega arith) ∙ found_at 0 xs k

  len_from : (n : ℕ) (xs : List (Option T)) → finite.len (from_entries {R = nat_cmp} (numbered n xs)) ≡ count_by is_some xs
  len_from n [] = finite.len-empty nat_cmp T
  len_from n (None ∷ xs) = len_from (n + 1) xs
  len_from n (Some x ∷ xs) =
      let fresh : finite.contains_key (from_entries {R = nat_cmp} (numbered (n + 1) xs)) n ≡ false =
      ap is_some (finite.get-from_entries nat_cmp_total (numbered (n + 1) xs) n ∙ below_first (n + 1) xs n (omega arith))
      in
      finite.len-insert nat_cmp_total (from_entries (numbered (n + 1) xs)) n x ∙ rw fresh (ap (λ c. c + 1) (len_from (n + 1) xs) ∙ grind (arith, common_steps))

  pub len-by_number : (xs : List (Option T)) → finite.len (by_number xs) ≡ count_by is_some xs
  len-by_number xs = len_from 0 xs

  -- lists that differ at one place make maps that differ there
  pub put_is : (xs ys : List (Option T)) (k : ℕ) (x : T) → get_or ys k None ≡ Some x → ((q : ℕ) → q ≢ k → get_or ys q None ≡ get_or xs q None) → by_number ys ≡ finite.insert (by_number xs) k x
  put_is xs ys k x at others =
      let step : (q : ℕ) → get_or ys q None ≡ cond (eq_by_cmp nat_cmp q k) (Some x) (get_or xs q None) =
      λ q. elim (cases_eq q k) [ inl e ↦ rw (e, tied_same k) at | inr ne ↦ rw (tied_apart q k ne) (others q ne) ]
      in
      finite.same_map nat_cmp_total finite.nat_cmp-IsAntisymmetric _ _ (λ q.
      get-by_number ys q ∙ step q ∙ sym (finite.get-insert nat_cmp_total (by_number xs) k x q ∙ ap (cond (eq_by_cmp nat_cmp q k) (Some x)) (get-by_number xs q)))

  pub taken_is : (xs ys : List (Option T)) (k : ℕ) → get_or ys k None ≡ None → ((q : ℕ) → q ≢ k → get_or ys q None ≡ get_or xs q None) → by_number ys ≡ finite.remove (by_number xs) k
  taken_is xs ys k at others =
      let step : (q : ℕ) → get_or ys q None ≡ cond (eq_by_cmp nat_cmp q k) None (get_or xs q None) =
      λ q. elim (cases_eq q k) [ inl e ↦ rw (e, tied_same k) at | inr ne ↦ rw (tied_apart q k ne) (others q ne) ]
      in
      finite.same_map nat_cmp_total finite.nat_cmp-IsAntisymmetric _ _ (λ q.
      get-by_number ys q ∙ step q ∙ sym (finite.get-remove nat_cmp_total (by_number xs) k q ∙ ap (cond (eq_by_cmp nat_cmp q k) None) (get-by_number xs q)))

  pub empty_is : (xs : List (Option T)) → ((q : ℕ) → get_or xs q None ≡ None) → by_number xs ≡ finite.empty
  empty_is xs none = finite.same_map nat_cmp_total finite.nat_cmp-IsAntisymmetric _ _ (λ q. get-by_number xs q ∙ none q ∙ sym (finite.get-empty nat_cmp q))

  -- ---- through an index

  pub get-kept : (index : List (Option ℕ)) (slab : Slab T) (id : ℕ) → get_or (kept index slab) id None ≡ kept_at slab (get_or index id None)
  get-kept [] slab id = refl
  get-kept (key ∷ index) slab zero = refl
  get-kept (key ∷ index) slab (suc id) = get-kept index slab id

  -- the node with an id
  pub node_at : (index : List (Option ℕ)) (slab : Slab T) (id : ℕ) → finite.get (by_number (kept index slab)) id ≡ kept_at slab (get_or index id None)
  node_at index slab id = get-by_number (kept index slab) id ∙ get-kept index slab id

  pub kept_none : (slab : Slab T) (key : Option ℕ) → ((k : ℕ) → key ≡ Some k → IsSome (get slab k)) → kept_at slab key ≡ None → key ≡ None
  kept_none slab None there none = refl
  kept_none slab (Some k) there none = absurd (let yes = there k refl in let no = ap is_some none in cc)

  pub kept_some : (slab : Slab T) (key : Option ℕ) (x : T) → kept_at slab key ≡ Some x → (k : ℕ) × (key ≡ Some k)
  kept_some slab None x h = absurd (let no = ap is_some h in cc)
  kept_some slab (Some k) x h = (k, refl)

  -- a key that is had by one id
  at_key : (slab : Slab T) (key : Option ℕ) (k : ℕ) → key ≡ Some k → kept_at slab key ≡ get slab k
  at_key slab key k e = ap (kept_at slab) e

  -- two slabs that differ under one key keep the same under any other
  alike : (slab left : Slab T) (k : ℕ) → ((other : ℕ) → other ≢ k → get left other ≡ get slab other) → (key : Option ℕ) → ((j : ℕ) → key ≡ Some j → j ≢ k) → kept_at left key ≡ kept_at slab key
  alike slab left k others None apart = refl
  alike slab left k others (Some j) apart = others j (apart j refl)

count_put : (xs : List (Option ℕ)) (id key : ℕ) → id < length xs → get_or xs id None ≡ None → count_by is_some (set xs id (Some key)) ≡ count_by is_some xs + 1
count_put [] id key lt none = absurd (omega arith)
count_put (x ∷ xs) zero key lt none = let e : x ≡ None = none in rw e (grind (arith, common_steps))
count_put (x ∷ xs) (suc id) key lt none =
    let rest = count_put xs id key (omega arith) none in grind (arith, common_steps)

one_more : (xs : List (Option ℕ)) (key : ℕ) → count_by is_some (None ∷ xs) + 1 ≡ count_by is_some (Some key ∷ xs)
one_more xs key =
    let f : Option ℕ → ℕ = λ y. cond (is_some y) 1 0 in
    omega (arith, sum_by-cons f None xs, sum_by-cons f (Some key) xs)

count_taken : (xs : List (Option ℕ)) (id key : ℕ) → id < length xs → get_or xs id None ≡ Some key → count_by is_some (set xs id None) + 1 ≡ count_by is_some xs
count_taken [] id key lt some = absurd (omega arith)
count_taken (x ∷ xs) zero key lt some = let e : x ≡ Some key = some in subst (λ (y : Option ℕ). count_by is_some (None ∷ xs) + 1 ≡ count_by is_some (y ∷ xs)) (sym e) (one_more xs key)
count_taken (x ∷ xs) (suc id) key lt some =
    let rest = count_taken xs id key (omega arith) some in grind (arith, common_steps)

pub count_le : (xs : List (Option ℕ)) → count_by is_some xs ≤ length xs
count_le [] = omega arith
count_le (None ∷ xs) = let rest = count_le xs in grind (arith, common_steps)
count_le (Some x ∷ xs) = let rest = count_le xs in grind (arith, common_steps)

pub count_less : (xs : List (Option ℕ)) (id : ℕ) → id < length xs → get_or xs id None ≡ None → count_by is_some xs < length xs
count_less xs id lt none = omega (arith, count_put xs id 0 lt none, count_le (set xs id (Some 0)), length-set xs id (Some 0))

-- where every place has a key there are as many keys as places
pub count_all : (xs : List (Option ℕ)) → ((k : ℕ) → k < length xs → IsSome (get_or xs k None)) → count_by is_some xs ≡ length xs
count_all [] all = refl
count_all (None ∷ xs) all = absurd (let no = all 0 (omega arith) in cc)
count_all (Some x ∷ xs) all = let rest = count_all xs (λ k lt. all (suc k) (omega arith)) in grind (arith, common_steps)

pub in_range : (xs : List (Option ℕ)) (id key : ℕ) → get_or xs id None ≡ Some key → id < length xs
in_range xs id key some = elim (cases_lt id (length xs)) [ inl lt ↦ lt | inr le ↦ absurd (let no = sym (get_or-eq_default xs None le) ∙ some in cc) ]

module _ {T : Type 0} (most : ℕ) (index : List (Option ℕ)) (slab : Slab T) (was : IsIndexed most index slab) where
  pub none_here : (id : ℕ) → finite.get (by_number (kept index slab)) id ≡ None → get_or index id None ≡ None
  none_here id none = kept_none slab (get_or index id None) (was.there id) (sym (node_at index slab id) ∙ none)

  -- room for one more, where an id is free
  pub has_room : (id : ℕ) → id < most → finite.get (by_number (kept index slab)) id ≡ None → slab_len slab + 1 ≤ slab.capacity
  has_room id lt none =
      omega (arith, was.count, was.room, was.size, count_less index id (omega (arith, was.size, lt)) (none_here id none))

  -- no id has a key under which nothing is kept
  not_vacant : (key : ℕ) → get slab key ≡ None → (id j : ℕ) → get_or index id None ≡ Some j → j ≢ key
  not_vacant key vacant id j at e = let yes = was.there id j at in let no : get slab j ≡ None = ap (get slab) e ∙ vacant in let t = ap is_some no in cc

  -- a node under a new key, for an id that had none
  module _ (left : Slab T) (id key : ℕ) (x : T) (lt : id < most) (free : get_or index id None ≡ None) (vacant : get slab key ≡ None) (updates : Updates slab left key (Some x)) (len : slab_len left ≡ slab_len slab + 1) (capacity : left.capacity ≡ slab.capacity) where
    new_index : List (Option ℕ)
    new_index = set index id (Some key)

    within : id < length index
    within = omega (arith, was.size, lt)

    here : get_or (set index id (Some key)) id None ≡ Some key
    here = get_or-set_same index id (Some key) None within

    there : (q : ℕ) → q ≢ id → get_or (set index id (Some key)) q None ≡ get_or index q None
    there q ne = get_or-set_other index id q (Some key) None ne

    pub indexed_insert : IsIndexed most (set index id (Some key)) left
    indexed_insert = record {
      size = length-set index id _ ∙ was.size;
      there = λ q k at. elim (cases_eq q id) [
        | inl e ↦
            let same : key ≡ k = some_inj key k (sym here ∙ ap (λ p. get_or (set index id (Some key)) p None) (sym e) ∙ at) in
            ap is_some (ap (get left) (sym same) ∙ updates.changed)
        | inr ne ↦
            let old : get_or index q None ≡ Some k = sym (there q ne) ∙ at in
            ap is_some (updates.others k (not_vacant key vacant q k old)) ∙ was.there q k old
      ];
      apart = λ q r k at also. elim (cases_eq q id) [
        | inl e ↦ elim (cases_eq r id) [
          | inl d ↦ e ∙ sym d
          | inr nd ↦
              let same : key ≡ k = some_inj key k (sym here ∙ ap (λ p. get_or (set index id (Some key)) p None) (sym e) ∙ at) in
              absurd (not_vacant key vacant r k (sym (there r nd) ∙ also) (sym same))
        ]
        | inr ne ↦ elim (cases_eq r id) [
          | inl d ↦
              let same : key ≡ k = some_inj key k (sym here ∙ ap (λ p. get_or (set index id (Some key)) p None) (sym d) ∙ also) in
              absurd (not_vacant key vacant q k (sym (there q ne) ∙ at) (sym same))
          | inr nd ↦ was.apart q r k (sym (there q ne) ∙ at) (sym (there r nd) ∙ also)
        ]
      ];
      count = len ∙ ap (λ n. n + 1) was.count ∙ sym (count_put index id key within free);
      room = omega (arith, was.room, capacity);
    }

    pub insert_is : by_number (kept (set index id (Some key)) left) ≡ finite.insert (by_number (kept index slab)) id x
    insert_is = put_is (kept index slab) (kept (set index id (Some key)) left) id x
        (get-kept (set index id (Some key)) left id ∙ ap (kept_at left) here ∙ updates.changed)
        (λ q ne. get-kept (set index id (Some key)) left q ∙ ap (kept_at left) (there q ne)
        ∙ alike slab left key updates.others (get_or index q None) (λ j at. not_vacant key vacant q j at)
        ∙ sym (get-kept index slab q))

  -- another node under the same key
  module _ (left : Slab T) (id key : ℕ) (x : T) (at : get_or index id None ≡ Some key) (updates : Updates slab left key (Some x)) (len : slab_len left ≡ slab_len slab) (capacity : left.capacity ≡ slab.capacity) where
    another : (q j : ℕ) → q ≢ id → get_or index q None ≡ Some j → j ≢ key
    another q j ne is e = ne (was.apart q id key (is ∙ ap Some e) at)

    pub indexed_replace : IsIndexed most index left
    indexed_replace = record {
      size = was.size;
      there = λ q k is. elim (cases_eq k key) [
        | inl e ↦ ap is_some (ap (get left) e ∙ updates.changed)
        | inr ne ↦ ap is_some (updates.others k ne) ∙ was.there q k is
      ];
      apart = was.apart;
      count = len ∙ was.count;
      room = omega (arith, was.room, capacity);
    }

    pub replace_is : by_number (kept index left) ≡ finite.insert (by_number (kept index slab)) id x
    replace_is = put_is (kept index slab) (kept index left) id x
        (get-kept index left id ∙ ap (kept_at left) at ∙ updates.changed)
        (λ q ne. get-kept index left q ∙ alike slab left key updates.others (get_or index q None) (λ j is. another q j ne is) ∙ sym (get-kept index slab q))

  -- no node any more
  module _ (left : Slab T) (id key : ℕ) (at : get_or index id None ≡ Some key) (updates : Updates slab left key None) (len : slab_len left + 1 ≡ slab_len slab) (capacity : left.capacity ≡ slab.capacity) where
    within_2 : id < length index
    within_2 = in_range index id key at

    here_2 : get_or (set index id None) id None ≡ None
    here_2 = get_or-set_same index id None None within_2

    there_2 : (q : ℕ) → q ≢ id → get_or (set index id None) q None ≡ get_or index q None
    there_2 q ne = get_or-set_other index id q None None ne

    not_here : (q j : ℕ) → get_or (set index id None) q None ≡ Some j → q ≢ id
    not_here q j is e = let no = sym here_2 ∙ ap (λ p. get_or (set index id None) p None) (sym e) ∙ is in let t = ap is_some no in cc

    old : (q j : ℕ) → get_or (set index id None) q None ≡ Some j → get_or index q None ≡ Some j
    old q j is = sym (there_2 q (not_here q j is)) ∙ is

    another_2 : (q j : ℕ) → q ≢ id → get_or index q None ≡ Some j → j ≢ key
    another_2 q j ne is e = ne (was.apart q id key (is ∙ ap Some e) at)

    pub indexed_remove : IsIndexed most (set index id None) left
    indexed_remove = record {
      size = length-set index id _ ∙ was.size;
      there = λ q k is. ap is_some (updates.others k (another_2 q k (not_here q k is) (old q k is))) ∙ was.there q k (old q k is);
      apart = λ q r k is also. was.apart q r k (old q k is) (old r k also);
      count = let e = count_taken index id key within_2 at in omega (arith, len, was.count, e);
      room = omega (arith, was.room, capacity);
    }

    pub remove_is : by_number (kept (set index id None) left) ≡ finite.remove (by_number (kept index slab)) id
    remove_is = taken_is (kept index slab) (kept (set index id None) left) id
        (get-kept (set index id None) left id ∙ ap (kept_at left) here_2)
        (λ q ne. get-kept (set index id None) left q ∙ ap (kept_at left) (there_2 q ne)
        ∙ alike slab left key updates.others (get_or index q None) (λ j is. another_2 q j ne is)
        ∙ sym (get-kept index slab q))

    pub taken_at : finite.get (by_number (kept index slab)) id ≡ get slab key
    taken_at = node_at index slab id ∙ ap (kept_at slab) at

-- ---- nothing yet

pub none_in : (n id : ℕ) → get_or {A = Option ℕ} (replicate {A = Option ℕ} n None) id None ≡ None
none_in n id = elim (cases_lt id n) [
  | inl lt ↦ get_or-replicate {A = Option ℕ} n id None None lt
  | inr le ↦ let all = length-replicate {A = Option ℕ} n None in get_or-eq_default (replicate {A = Option ℕ} n None) None (omega (arith, all, le))
]

none_counted : (xs : List (Option ℕ)) → ((id : ℕ) → get_or xs id None ≡ None) → count_by is_some xs ≡ 0
none_counted [] none = refl
none_counted (None ∷ xs) none = none_counted xs (λ id. none (suc id))
none_counted (Some x ∷ xs) none = absurd (let no = ap is_some (none 0) in cc)

module _ {T : Type 0} (most : ℕ) (index : List (Option ℕ)) (slab : Slab T) (size : length index ≡ most) (none : (id : ℕ) → get_or index id None ≡ None) (empty : slab_len slab ≡ 0) (room : most ≤ slab.capacity) where
  no_key : (id key : ℕ) → get_or index id None ≡ Some key → ⊥
  no_key id key at = let no = ap is_some (sym (none id) ∙ at) in cc

  pub indexed_none : IsIndexed most index slab
  indexed_none = record {
    size = size;
    there = λ id key at. absurd (no_key id key at);
    apart = λ id other key at also. absurd (no_key id key at);
    count = empty ∙ sym (none_counted index none);
    room = room;
  }

module _ {T : Type 0} where
  pub none_is : (index : List (Option ℕ)) (slab : Slab T) → ((id : ℕ) → get_or index id None ≡ None) → by_number (kept index slab) ≡ finite.empty
  none_is index slab none = empty_is (kept index slab) (λ q. get-kept index slab q ∙ ap (kept_at slab) (none q))

  -- what a removal says where something was removed
  pub on_some : (r : Option T) (P : Type 0) → OnSome r P → IsSome r → P
  on_some None P h there = absurd (let t = there in cc)
  on_some (Some x) P h there = h

-- ---- how many, and the first that is free

module _ {T : Type 0} (most : ℕ) (index : List (Option ℕ)) (slab : Slab T) (was : IsIndexed most index slab) where
  kept_counts : (some : List (Option ℕ)) → ((id key : ℕ) → get_or some id None ≡ Some key → IsSome (get slab key)) → count_by is_some (kept some slab) ≡ count_by is_some some
  kept_counts [] there = refl
  kept_counts (None ∷ some) there = kept_counts some (λ id key at. there (suc id) key at)
  kept_counts (Some key ∷ some) there =
      let yes : is_some (get slab key) ≡ true = there 0 key refl in
      let f : Option T → ℕ = λ y. cond (is_some y) 1 0 in
      let g : Option ℕ → ℕ = λ y. cond (is_some y) 1 0 in
      sum_by-cons f (get slab key) (kept some slab) ∙ ap (λ b. cond b 1 0 + count_by is_some (kept some slab)) yes
      ∙ ap (λ n. 1 + n) (kept_counts some (λ id key at. there (suc id) key at)) ∙ sym (sum_by-cons g (Some key) some)

  pub len_is : slab_len slab ≡ finite.len (by_number (kept index slab))
  len_is = was.count ∙ sym (len-by_number (kept index slab) ∙ kept_counts index was.there)

  -- where fewer than all ids have a node, one before the index's end has no key
  pub is_within : (first : ℕ) → finite.len (by_number (kept index slab)) < most → first ≤ length index → ((k : ℕ) → k < first → IsSome (get_or index k None)) → first < most
  is_within first few within below =
      elim (cases_lt first most) [
        | inl lt ↦ lt
        | inr le ↦
            let all = count_all index (λ k lt. below k (omega (arith, lt, was.size, le))) in
            absurd (omega (arith, all, was.size, sym len_is, was.count, few))
      ]

  -- an id has a key where it has a node
  pub live_at : (id : ℕ) → is_some (get_or index id None) ≡ is_some (finite.get (by_number (kept index slab)) id)
  live_at id = by_key (get_or index id None) refl ∙ ap is_some (sym (node_at index slab id))
    where
      by_key : (key : Option ℕ) → get_or index id None ≡ key → is_some (get_or index id None) ≡ is_some (kept_at slab (get_or index id None))
      by_key None e = ap is_some e ∙ sym (ap (λ (k : Option ℕ). is_some (kept_at slab k)) e)
      by_key (Some key) e = ap is_some e ∙ sym (ap (λ (k : Option ℕ). is_some (kept_at slab k)) e ∙ was.there id key e)

  pub few_kept : finite.len (by_number (kept index slab)) ≤ most
  few_kept =
      let len = len_is in
      let count = was.count in
      let le = count_le index in
      let size = was.size in
      omega arith

  -- an id that has a node is that of a place
  pub id_fits : (id : ℕ) → IsSome (finite.get (by_number (kept index slab)) id) → id < most
  id_fits id live = elim (cases_lt id (length index)) [
    | inl lt ↦ let size = was.size in omega arith
    | inr le ↦ absurd (let none = ap is_some (node_at index slab id ∙ ap (kept_at slab) (get_or-eq_default index None le)) in let no : false ≡ true = sym none ∙ live in cc)
  ]

  pub kept_there : (id : ℕ) → IsSome (get_or index id None) → IsSome (finite.get (by_number (kept index slab)) id)
  kept_there id here = elim (get_or index id None) as (λ r. get_or index id None ≡ r → IsSome r → IsSome (finite.get (by_number (kept index slab)) id)) [
    | None ↦ λ e empty. absurd (let t = empty in cc)
    | Some key ↦ λ e some. ap is_some (node_at index slab id ∙ ap (kept_at slab) e) ∙ was.there id key e
  ] refl here

  -- a node that is changed under the same key
  pub faulted_is : (left : Slab T) (id key : ℕ) (change : T → T) → get_or index id None ≡ Some key → IfSome (get slab key) (λ x. Updates slab left key (Some (change x))) → slab_len left ≡ slab_len slab → left.capacity ≡ slab.capacity →
      IfSome (finite.get (by_number (kept index slab)) id) (λ x. by_number (kept index left) ≡ finite.insert (by_number (kept index slab)) id (change x))
  faulted_is left id key change at updates len capacity =
      let here : finite.get (by_number (kept index slab)) id ≡ get slab key = node_at index slab id ∙ ap (kept_at slab) at in
      subst (λ (r : Option T). IfSome r (λ x. by_number (kept index left) ≡ finite.insert (by_number (kept index slab)) id (change x))) (sym here)
      (elim (get slab key) as (λ r. IfSome r (λ x. Updates slab left key (Some (change x))) → IfSome r (λ x. by_number (kept index left) ≡ finite.insert (by_number (kept index slab)) id (change x))) [
        | None ↦ λ u. tt
        | Some x ↦ λ u. replace_is most index slab was left id key (change x) at u len capacity
      ] updates)
