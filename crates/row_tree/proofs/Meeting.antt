-- Places that are met one after another.
use Rattle.std.proofs.Common.{◌≡◌, ◌≢◌, ℕ, zero, suc, ◌<◌, ◌≤◌, ◌+◌, ◌⊎◌, inl, inr, Bool, true, false, List, [], ◌∷◌, ◌++◌, length, get_or, replicate, refl, sym, subst, ◌∙◌, ap, arith, eqb-true, length-append, length-set}
use Rattle.std.proofs.lemmas.List.{length-replicate}
use Rattle.std.specs.Prelude.{Option, Some, None, ◌==◌, ◌||◌, nat_eq, slice_get, slice_index_or, slice_set, if◌then◌else◌}
use Rattle.std.specs.List.{AllPairs, Contains, IsDistinct, list_all, list_any}
use Rattle.std.proofs.lemmas.Bool.Decides.{nat_tests}
use Rattle.std.proofs.lemmas.List.Elements.{Contains-append_left, Contains-push, Contains-push_cases}
use Rattle.std.proofs.lemmas.List.Quantifiers.{all_pairs_push}
use Rattle.std.proofs.lemmas.Option.{get_or_from_slice_get, slice_get_within, slice_get-get_or}
use Rattle.std.proofs.lemmas.Map.Steps.{length-le_from_distinct_below}
use Rattle.row_tree.specs.Reached.{AllReached, LacksOne, Reached, StayWithin, root, below}
use Rattle.row_tree.specs.Tree.{list_at}
use Rattle.row_tree.specs.Visits.{IsMet, IsVisited, Visit, meet, meet_each}
use Rattle.row_tree.proofs.Chaining.{all_from_each, apart_test}

-- ---- lists

pub contains_at : {A : Type 0} (xs : List A) (n : ℕ) (x : A) → slice_get xs n ≡ Some x → Contains xs x
contains_at xs n x at = (n, slice_get_within xs n x at, get_or_from_slice_get xs n x x at)

pub at_of : {A : Type 0} (xs : List A) (x : A) → Contains xs x → (n : ℕ) × (slice_get xs n ≡ Some x)
at_of xs x there = (there.0, slice_get-get_or xs there.0 x there.1 ∙ ap Some there.2)

pub before_push : {A : Type 0} (xs : List A) (y : A) (k : ℕ) → k < length xs → slice_get (xs ++ y ∷ []) k ≡ slice_get xs k
before_push [] y k lt = absurd (omega arith)
before_push (x ∷ xs) y zero lt = refl
before_push (x ∷ xs) y (suc k) lt = before_push xs y k (omega arith)

set_here : (bs : List Bool) (k : ℕ) → k < length bs → slice_get (slice_set bs k true) k ≡ Some true
set_here [] k lt = absurd (omega arith)
set_here (b ∷ bs) zero lt = refl
set_here (b ∷ bs) (suc k) lt = set_here bs k (omega arith)

set_other : (bs : List Bool) (k j : ℕ) → (j ≡ k → ⊥) → slice_get (slice_set bs k true) j ≡ slice_get bs j
set_other [] k j ne = refl
set_other (b ∷ bs) zero zero ne = absurd (ne refl)
set_other (b ∷ bs) zero (suc j) ne = refl
set_other (b ∷ bs) (suc k) zero ne = refl
set_other (b ∷ bs) (suc k) (suc j) ne = set_other bs k j (λ e. ne (ap suc e))

or_true : (bs : List Bool) (k : ℕ) → k < length bs → slice_index_or bs k true ≡ true → slice_get bs k ≡ Some true
or_true bs k lt is = slice_get-get_or bs k true lt ∙ ap Some is

or_false : (bs : List Bool) (k : ℕ) → slice_index_or bs k true ≡ false → slice_get bs k ≡ Some false
or_false [] k is = absurd (let no : true ≡ false = is in cc)
or_false (b ∷ bs) zero is = ap Some is
or_false (b ∷ bs) (suc k) is = or_false bs k is

all_true : (bs : List Bool) (k : ℕ) → list_all (λ b. b) bs ≡ true → k < length bs → slice_get bs k ≡ Some true
all_true [] k all lt = absurd (omega arith)
all_true (true ∷ bs) zero all lt = refl
all_true (true ∷ bs) (suc k) all lt = all_true bs k all (omega arith)
all_true (false ∷ bs) k all lt = absurd (let no : false ≡ true = all in cc)

one_false : (bs : List Bool) → list_all (λ b. b) bs ≡ false → (k : ℕ) × (slice_get bs k ≡ Some false)
one_false [] all = absurd (let no : true ≡ false = all in cc)
one_false (true ∷ bs) all = let there = one_false bs all in (suc there.0, there.1)
one_false (false ∷ bs) all = (0, refl)

-- ---- one more

-- what holds after some places were met, where they are reached and within
record Meets (lists : List (List ℕ)) (done : ℕ) (v : Visit) (places : List ℕ) (w : Visit) : Type 0 where
  met : IsMet lists done w
  here : (n place : ℕ) → slice_get places n ≡ Some place → Contains w.1 place
  kept : (place : ℕ) → Contains v.1 place → Contains w.1 place
  stays : (n : ℕ) → n < length v.1 → slice_get w.1 n ≡ slice_get v.1 n

module _ (lists : List (List ℕ)) (done : ℕ) (v : Visit) (is : IsMet lists done v) (c : ℕ) (within : c < length lists) (reached : Reached lists c) where
  new : slice_index_or v.0 c true ≡ false → IsMet lists done (slice_set v.0 c true, v.1 ++ c ∷ [])
  new free = record {
    size = length-set v.0 c true ∙ is.size;
    few = let few = is.few in omega (arith, few, length-append v.1 (c ∷ []));
    in_order = λ place marked. by_place place marked (place == c) refl;
    is_marked = λ place there. marks place (Contains-push_cases v.1 c place there);
    once = all_pairs_push (λ p q. p ≢ q) v.1 c is.once
        (λ k d lt same. let marked = is.is_marked (get_or v.1 k d) (contains_at v.1 k (get_or v.1 k d) (slice_get-get_or v.1 k d lt)) in
        let no : ◌≡◌ {A = Option Bool} (Some false) (Some true) = sym (or_false v.0 c free) ∙ ap (slice_get v.0) (sym same) ∙ marked in cc);
    reached = λ place there. reaches place (Contains-push_cases v.1 c place there);
    closed = λ n up place lt at there.
        let few = is.few in
        Contains-append_left v.1 (c ∷ []) place (is.closed n up place lt (sym (before_push v.1 c n (omega (arith, few, lt))) ∙ at) there);
    first = λ some. Contains-append_left v.1 (c ∷ []) 0 (is.first some);
  }
    where
      by_place : (place : ℕ) → slice_get (slice_set v.0 c true) place ≡ Some true → (b : Bool) → (place == c) ≡ b → Contains (v.1 ++ c ∷ []) place
      by_place place marked true tie = subst (Contains (v.1 ++ c ∷ [])) (sym (eqb-true place c tie)) (Contains-push v.1 c)
      by_place place marked false apart =
          let differ : place ≡ c → ⊥ = λ same. let test : (place == c) ≡ true = grind (arith, nat_tests) in let no : false ≡ true = sym apart ∙ test in absurd (cc) in
          Contains-append_left v.1 (c ∷ []) place (is.in_order place (sym (set_other v.0 c place differ) ∙ marked))

      marks : (place : ℕ) → Contains v.1 place ⊎ (c ≡ place) → slice_get (slice_set v.0 c true) place ≡ Some true
      marks place (inl there) =
          let marked = is.is_marked place there in
          set_other v.0 c place (λ same. let no : ◌≡◌ {A = Option Bool} (Some false) (Some true) = sym (or_false v.0 c free) ∙ ap (slice_get v.0) (sym same) ∙ marked in absurd (cc)) ∙ marked
      marks place (inr same) = subst (λ (p : ℕ). slice_get (slice_set v.0 c true) p ≡ Some true) same (set_here v.0 c (let size = is.size in omega (arith, size, within)))

      reaches : (place : ℕ) → Contains v.1 place ⊎ (c ≡ place) → Reached lists place
      reaches place (inl there) = is.reached place there
      reaches place (inr same) = subst (Reached lists) same reached

  one_more : Meets lists done v (c ∷ []) (meet v c)
  one_more = by_test (slice_index_or v.0 c true) refl
    where
      only : (P : ℕ → Type 0) (n place : ℕ) → slice_get (c ∷ []) n ≡ Some place → P c → P place
      only P zero place at p = let same : c ≡ place = let both : ◌≡◌ {A = Option ℕ} (Some c) (Some place) = at in cc in subst P same p
      only P (suc n) place at p = absurd (let no : ◌≡◌ {A = Option ℕ} None (Some place) = at in cc)

      by_test : (b : Bool) → slice_index_or v.0 c true ≡ b → Meets lists done v (c ∷ []) (if b then v else (slice_set v.0 c true, v.1 ++ c ∷ []))
      by_test true marked = record {
        met = is;
        here = λ n place at. only (Contains v.1) n place at (is.in_order c (or_true v.0 c (let size = is.size in omega (arith, size, within)) marked));
        kept = λ place there. there;
        stays = λ n lt. refl;
      }
      by_test false free = record {
        met = new free;
        here = λ n place at. only (Contains (v.1 ++ c ∷ [])) n place at (Contains-push v.1 c);
        kept = λ place there. Contains-append_left v.1 (c ∷ []) place there;
        stays = λ n lt. before_push v.1 c n lt;
      }

-- ---- several more

longer : (v w : List ℕ) → ((n : ℕ) → n < length v → slice_get w n ≡ slice_get v n) → (n : ℕ) → n < length v → n < length w
longer v w stays n lt = slice_get_within w n (get_or v n 0) (stays n lt ∙ slice_get-get_or v n 0 lt)

many_more : (lists : List (List ℕ)) (done : ℕ) (v : Visit) (places : List ℕ) → IsMet lists done v
    → ((n place : ℕ) → slice_get places n ≡ Some place → (place < length lists) × Reached lists place) → Meets lists done v places (meet_each v places)
many_more lists done v [] is each = record {
  met = is;
  here = λ n place at. absurd (let no : ◌≡◌ {A = Option ℕ} None (Some place) = at in cc);
  kept = λ place there. there;
  stays = λ n lt. refl;
}
many_more lists done v (c ∷ places) is each =
    let head = each 0 c refl in
    let one = one_more lists done v is c head.0 head.1 in
    let rest = many_more lists done (meet v c) places one.met (λ n place at. each (suc n) place at) in
    record {
      met = rest.met;
      here = at_one one rest;
      kept = λ place there. rest.kept place (one.kept place there);
      stays = λ n lt. rest.stays n (longer v.1 (meet v c).1 one.stays n lt) ∙ one.stays n lt;
    }
  where
    at_one : Meets lists done v (c ∷ []) (meet v c) → Meets lists done (meet v c) places (meet_each (meet v c) places)
        → (n place : ℕ) → slice_get (c ∷ places) n ≡ Some place → Contains (meet_each (meet v c) places).1 place
    at_one one rest zero place at = rest.kept place (one.here 0 place at)
    at_one one rest (suc n) place at = rest.here n place at

-- ---- the visit

pub visit_begin : (lists : List (List ℕ)) → StayWithin lists → (v : Visit) → v ≡ meet (replicate (length lists) false, []) 0 → IsMet lists 0 v
visit_begin lists stay v is = subst (IsMet lists 0) (sym is) (by_first (length lists) refl)
  where
    empty : (n place : ℕ) → slice_get (replicate n false) place ≡ Some true → ⊥
    empty zero place at = absurd (let no : ◌≡◌ {A = Option Bool} None (Some true) = at in cc)
    empty (suc n) zero at = absurd (let no : ◌≡◌ {A = Option Bool} (Some false) (Some true) = at in cc)
    empty (suc n) (suc place) at = empty n place at

    none_there : (place : ℕ) → Contains {X = ℕ} [] place → ⊥
    none_there place there = let lt = there.1 in omega arith

    nothing : (n : ℕ) → n ≡ length lists → (0 < length lists → ⊥) → IsMet lists 0 (replicate n false, [])
    nothing n size empty_lists = record {
      size = length-replicate n false ∙ size;
      few = omega arith;
      in_order = λ place marked. absurd (empty n place marked);
      is_marked = λ place there. absurd (none_there place there);
      once = λ i j d lt within. absurd (omega arith);
      reached = λ place there. absurd (none_there place there);
      closed = λ n up place lt at there. absurd (omega arith);
      first = λ some. absurd (empty_lists some);
    }

    some : (n : ℕ) → suc n ≡ length lists → IsMet lists 0 (true ∷ replicate n false, 0 ∷ [])
    some n size = record {
      size = ap suc (length-replicate n false) ∙ size;
      few = omega arith;
      in_order = λ place marked. at_first place marked;
      is_marked = λ place there. at_only place there;
      once = λ i j d lt within. absurd (omega arith);
      reached = λ place there. subst (Reached lists) (only place there) (root lists (omega (arith, size)));
      closed = λ n up place lt at there. absurd (omega arith);
      first = λ some. (0, omega arith, refl);
    }
      where
        at_first : (place : ℕ) → slice_get (true ∷ replicate n false) place ≡ Some true → Contains (0 ∷ []) place
        at_first zero marked = (0, omega arith, refl)
        at_first (suc place) marked = absurd (empty n place marked)

        only : (place : ℕ) → Contains (0 ∷ []) place → 0 ≡ place
        only place there = by_index there.0 there.1 there.2
          where
            by_index : (k : ℕ) → k < 1 → get_or (0 ∷ []) k place ≡ place → 0 ≡ place
            by_index zero lt is = is
            by_index (suc k) lt is = absurd (omega arith)

        at_only : (place : ℕ) → Contains (0 ∷ []) place → slice_get (true ∷ replicate n false) place ≡ Some true
        at_only place there = subst (λ (p : ℕ). slice_get (true ∷ replicate n false) p ≡ Some true) (only place there) refl

    by_first : (n : ℕ) → n ≡ length lists → IsMet lists 0 (meet (replicate n false, []) 0)
    by_first zero size = nothing zero size (λ some. omega (arith, size, some))
    by_first (suc n) size = some n size

pub visit_more : (lists : List (List ℕ)) (done : ℕ) (v w : Visit) (place : ℕ) (places : List ℕ) → StayWithin lists → IsMet lists done v → slice_get v.1 done ≡ Some place
    → places ≡ list_at lists place → w ≡ meet_each v places → IsMet lists (done + 1) w
visit_more lists done v w place places stay is at are after =
    subst (IsMet lists (done + 1)) (sym after) (further (many_more lists done v places is each))
  where
    each : (n c : ℕ) → slice_get places n ≡ Some c → (c < length lists) × Reached lists c
    each n c there =
        let listed : Contains (list_at lists place) c = contains_at (list_at lists place) n c (ap (λ (xs : List ℕ). slice_get xs n) (sym are) ∙ there) in
        (stay place c listed, below lists place c (is.reached place (contains_at v.1 done place at)) listed)

    further : Meets lists done v places (meet_each v places) → IsMet lists (done + 1) (meet_each v places)
    further meets = record {
      size = meets.met.size;
      few = let lt = longer v.1 (meet_each v places).1 meets.stays done (slice_get_within v.1 done place at) in omega (arith, lt);
      in_order = meets.met.in_order;
      is_marked = meets.met.is_marked;
      once = meets.met.once;
      reached = meets.met.reached;
      closed = λ n up c lt is there. by_order n up c lt is there (n == done) refl;
      first = meets.met.first;
    }
      where
        by_order : (n up c : ℕ) → n < done + 1 → slice_get (meet_each v places).1 n ≡ Some up → Contains (list_at lists up) c → (b : Bool) → (n == done) ≡ b
            → Contains (meet_each v places).1 c
        by_order n up c lt is there true tie =
            let same : n ≡ done = eqb-true n done tie in
            let both : ◌≡◌ {A = Option ℕ} (Some up) (Some place) =
            sym is ∙ ap (slice_get (meet_each v places).1) same ∙ meets.stays done (slice_get_within v.1 done place at) ∙ at in
            let here : up ≡ place = cc in
            let listed = at_of places c (subst (λ (xs : List ℕ). Contains xs c) (sym are) (subst (λ (p : ℕ). Contains (list_at lists p) c) here there)) in
            meets.here listed.0 c listed.1
        by_order n up c lt is there false apart = let before : n < done = grind (arith, nat_tests) in meets.met.closed n up c before is there

-- ---- at the end

pub order_few : (lists : List (List ℕ)) (done : ℕ) (v : Visit) → StayWithin lists → IsMet lists done v → length v.1 ≤ length lists
unfolding IsDistinct
order_few lists done v stay is = length-le_from_distinct_below v.1 (length lists) (distinct v.1 is.once) within
  where
    distinct : (xs : List ℕ) → AllPairs (λ p q. p ≢ q) xs → IsDistinct nat_eq xs
    distinct [] once = tt
    distinct (x ∷ xs) once = (
      all_from_each (λ y. nat_eq x y ≡ false) xs
          (λ j y at. apart_test x y (λ same. once 0 (suc j) x (omega arith) (let lt = slice_get_within xs j y at in omega arith) (same ∙ sym (get_or_from_slice_get xs j y x at)))),
      distinct xs (λ i j d lt in_range. once (suc i) (suc j) d (omega arith) (omega arith)),
    )

    any_there : (q : ℕ) (xs : List ℕ) → list_any (nat_eq q) xs ≡ true → Contains xs q
    any_there q [] any = absurd (let no : false ≡ true = any in cc)
    any_there q (x ∷ xs) any = by_test (nat_eq q x) refl (any_there q xs) any
      where
        by_test : (b : Bool) → nat_eq q x ≡ b → (list_any (nat_eq q) xs ≡ true → Contains xs q) → (b || list_any (nat_eq q) xs) ≡ true → Contains (x ∷ xs) q
        by_test true is later any = (0, omega arith, sym (eqb-true q x is))
        by_test false is later any = let there = later any in (suc there.0, let lt = there.1 in omega arith, there.2)

    within : (q : ℕ) → list_any (nat_eq q) v.1 ≡ true → q < length lists
    within q any =
        let marked = is.is_marked q (any_there q v.1 any) in
        let lt = slice_get_within v.0 q true marked in
        let size = is.size in
        omega (arith, lt, size)

all_met : (lists : List (List ℕ)) (v : Visit) → IsVisited lists v → (place : ℕ) → Reached lists place → Contains v.1 place
all_met lists v is _ (root _ some) = is.met.first some
all_met lists v is place (below _ up _ reached there) =
    let above = at_of v.1 up (all_met lists v is up reached) in
    let lt = slice_get_within v.1 above.0 up above.1 in
    let over = is.over in
    is.met.closed above.0 up place (omega (arith, lt, over)) above.1 there

pub visited_all : (lists : List (List ℕ)) (v : Visit) → IsVisited lists v → list_all (λ b. b) v.0 ≡ true → AllReached lists
visited_all lists v is all place within = is.met.reached place (is.met.in_order place (all_true v.0 place all (let size = is.met.size in omega (arith, size, within))))

pub visited_lacks : (lists : List (List ℕ)) (v : Visit) → IsVisited lists v → list_all (λ b. b) v.0 ≡ false → LacksOne lists
visited_lacks lists v is some =
    let free = one_false v.0 some in
    record {
      place = free.0;
      within = let lt = slice_get_within v.0 free.0 false free.1 in let size = is.met.size in omega (arith, lt, size);
      apart = λ reached.
          let marked = is.met.is_marked free.0 (all_met lists v is free.0 reached) in
          let no : ◌≡◌ {A = Option Bool} (Some false) (Some true) = sym free.1 ∙ marked in
          absurd (cc);
    }
