-- What each call of a pool changes, over its parts.
use Rattle.std.proofs.Common.{◌≡◌, ◌≢◌, ℕ, suc, ◌+◌, ◌-◌, ◌<◌, ◌≤◌, List, [], ◌∷◌, ◌++◌, inl, inr, get_or, set, take, drop, length, refl, sym, ◌∙◌, ap, subst, arith}
use Rattle.std.specs.Prelude.{Some, None, true, is_some, sum_by, remove, All, AllPairs}
use Rattle.std.specs.FinMap as finite
use Rattle.std.proofs.lemmas.Bool.{cases_lt}
use Rattle.std.proofs.lemmas.List.{get_or-take, get_or-drop, get_or_append_left, get_or-append_right, length-append, length-set, length-take-le, drop-take, get_or_default, take-append-le, take-take, take_more}
use Rattle.std.proofs.lemmas.List.Edits.{length-remove}
use Rattle.std.proofs.lemmas.List.Elements.{All-append, All-drop, All-from_get_or, All-push, All-take}
use Rattle.std.proofs.lemmas.List.Quantifiers.{all_pairs_push, all_pairs_remove}
use Rattle.std.proofs.lemmas.List.Sums.{sum_by-append, sum_by-cons, sum_by-remove}
use Rattle.scode_mem.specs.declared.entry.Entry.{Entry}
use Rattle.scode_mem.specs.Blocks.{Blocks, Kept, bytes_at, live_bytes, put_at}
use Rattle.scode_mem.specs.Kept.{ArePlaces, IsKept, LieInOrder, MovesOnly, Parts, blocks_of, class_at, end_at, entry_at, kept_at, parts, size_at, start_at}
use Rattle.scode_mem.proofs.Bytes.{take_past, length-put_at, range_after, range_before, range_over, range_put}
use Rattle.scode_mem.proofs.Maps.{len-made, made_at, made_beside, made_less, made_more, made_over, made_same, made_where, total-made}
use Rattle.scode_mem.proofs.Places.{apart_at, entry_beside, entry_set, kept_alike, length-kept, pairs_from, pairs_front, same_kept, size_of_class, sums_alike}

-- ---- what is known of the live ones

module _ (p : Parts) (all : List ℕ) (room count used filled : ℕ) (is : IsKept p all room count used filled) where
  pub length-live : length (take count all) ≡ count
  length-live = let n = is.every.all in let m = is.some in length-take-le count all (omega arith)

  pub live_apart : AllPairs (λ a b. a ≢ b) (take count all)
  live_apart = let n = is.every.all in let m = is.some in pairs_front (λ a b. a ≢ b) count all (omega arith) is.every.apart

  pub live_within : All (λ place. place < 4096) (take count all)
  live_within = All-take (λ place. place < 4096) count all is.every.within

  pub in_directory : All (λ place. place < length p.directory) (take count all)
  in_directory = subst (λ (n : ℕ). All (λ place. place < n) (take count all)) (sym is.entries) live_within

  -- a live place, and where it stands
  pub live_where : (q : ℕ) → is_some (finite.get (blocks_of p (take count all)) q) ≡ true → (i : ℕ) × (i < count) × (get_or all i 0 ≡ q)
  live_where q there =
      let (i, within, at) = made_where (kept_at p) (take count all) q there in
      let n = length-live in
      let lt : i < count = omega arith in
      (i, lt, sym (get_or-take count all i 0 lt) ∙ at)

  pub live_at : (i : ℕ) → i < count → finite.get (blocks_of p (take count all)) (get_or all i 0) ≡ Some (kept_at p (get_or all i 0))
  live_at i lt =
      let n = length-live in
      let P : ℕ → Type 0 = λ q. finite.get (blocks_of p (take count all)) q ≡ Some (kept_at p q) in
      subst P (get_or-take count all i 0 lt) (made_at (kept_at p) (take count all) i (omega arith))

  pub place_below : (i : ℕ) → i < count → get_or all i 0 < 4096
  place_below i lt = let n = is.every.all in let m = is.some in is.every.within i 0 (omega arith)

  pub class_there : (i : ℕ) → i < count → class_at p (get_or all i 0) < length p.firsts
  class_there i lt =
      let n = length-live in
      let P : ℕ → Type 0 = λ q. class_at p q < length p.firsts in
      subst P (get_or-take count all i 0 lt) (is.lie.classes i 0 (omega arith))

  pub end_there : (i : ℕ) → i < count → end_at p (get_or all i 0) ≤ used
  end_there i lt =
      let n = length-live in
      let P : ℕ → Type 0 = λ q. end_at p q ≤ used in
      subst P (get_or-take count all i 0 lt) (is.lie.below i 0 (omega arith))

  order_there : (i j : ℕ) → i < j → j < count → end_at p (get_or all i 0) ≤ start_at p (get_or all j 0)
  order_there i j lt in' =
      let n = length-live in
      let P : ℕ → Type 0 = λ a. end_at p a ≤ start_at p (get_or all j 0) in
      let Q : ℕ → Type 0 = λ b. end_at p (get_or (take count all) i 0) ≤ start_at p b in
      subst P (get_or-take count all i 0 (omega arith)) (subst Q (get_or-take count all j 0 in') (is.lie.in_order i j 0 lt (omega arith)))

  pub how_many : finite.len (blocks_of p (take count all)) ≡ count
  how_many = len-made (kept_at p) (take count all) live_apart ∙ length-live

  -- the sum of the sizes is that of the blocks
  pub sum_there : live_bytes (blocks_of p (take count all)) ≡ filled
  sum_there =
      total-made (λ (k : Kept). length k.bytes) (kept_at p) (take count all) live_apart
      ∙ same_sum (take count all) (All-from_get_or (λ q. end_at p q ≤ length p.bytes) (take count all) 0 (λ i lt. (let far = is.lie.below i 0 lt in let in' = is.lie.in_bytes in omega arith)))
      ∙ is.counted
    where
      same_sum : (xs : List ℕ) → All (λ q. end_at p q ≤ length p.bytes) xs → sum_by (λ q. length (kept_at p q).bytes) xs ≡ sum_by (size_at p) xs
      same_sum [] within = refl
      same_sum (x ∷ xs) within =
          let one = sum_by-cons (λ q. length (kept_at p q).bytes) x xs in
          let other = sum_by-cons (size_at p) x xs in
          let here = length-kept p x (within 0 0 (omega arith)) in
          let rest = same_sum xs (λ i d lt. within (suc i) d (omega arith)) in
          omega arith

-- ---- blocks that moved

pub held_moved : (p q : Parts) (all : List ℕ) (room count used filled far : ℕ) → IsKept p all room count used filled → q.firsts ≡ p.firsts → length q.bytes ≡ length p.bytes → length q.directory ≡ length p.directory
    → MovesOnly p q (take count all) → LieInOrder q (take count all) far → filled ≤ far → IsKept q all room count far filled
held_moved p q all room count used filled far is firsts bytes directory moved lie fits = record {
  every = is.every;
  reserved = is.reserved;
  some = is.some;
  entries = directory ∙ is.entries;
  lie = lie;
  counted = sums_alike (size_at q) (size_at p) (take count all) (λ place. size_of_class p.firsts q p place firsts refl (moved.classes place)) ∙ is.counted;
  fits = fits;
  numbered = (let below = is.numbered in omega arith);
}

-- ---- add

module _ (p : Parts) (all : List ℕ) (room count used filled : ℕ) (is : IsKept p all room count used filled) (few : count < 4096) where
  new_apart : (i : ℕ) → i < count → get_or all i 0 ≢ get_or all count 0
  new_apart i lt = let n = is.every.all in apart_at all is.every.apart i count (omega arith) (omega arith) (omega arith)

  pub fresh : finite.get (blocks_of p (take count all)) (get_or all count 0) ≡ None
  fresh = made_beside (kept_at p) (take count all) (get_or all count 0) (All-from_get_or (λ q. get_or all count 0 ≢ q) (take count all) 0 (λ i lt. beside i lt))
    where
      beside : (i : ℕ) → i < length (take count all) → get_or all count 0 ≢ get_or (take count all) i 0
      beside i lt =
          let n = length-live p all room count used filled is in
          let in' : i < count = omega arith in
          λ e. new_apart i in' (sym (get_or-take count all i 0 in') ∙ sym e)

module _ (p : Parts) (all : List ℕ) (room count used filled class : ℕ) (is : IsKept p all room count used filled) (few : count < 4096) (of_class : class < length p.firsts)
    (fits : used + length (get_or p.firsts class []) ≤ length p.bytes) where
  abbrev pub new_parts : Parts
  new_parts = parts p.firsts (put_at p.bytes used (get_or p.firsts class [])) (set p.directory (get_or all count 0) (record { offset = used; class = class }))

  new_within : get_or all count 0 < length p.directory
  new_within = let n = is.every.all in let m = is.entries in let lt = is.every.within count 0 (omega arith) in omega arith

  live_more : take (count + 1) all ≡ take count all ++ get_or all count 0 ∷ []
  live_more = let n = is.every.all in take_more all count 0 (omega arith)

  there : entry_at new_parts (get_or all count 0) ≡ record { offset = used; class = class }
  there = entry_set p new_parts.bytes (get_or all count 0) (record { offset = used; class = class }) new_within

  beside : (i : ℕ) → i < count → entry_at new_parts (get_or all i 0) ≡ entry_at p (get_or all i 0)
  beside i lt = entry_beside p new_parts.bytes (get_or all count 0) (record { offset = used; class = class }) (get_or all i 0) (new_apart p all room count used filled is few i lt)

  class_beside : (i : ℕ) → i < count → class_at new_parts (get_or all i 0) ≡ class_at p (get_or all i 0)
  class_beside i lt = ap (λ (e : Entry). e.class) (beside i lt)

  start_beside : (i : ℕ) → i < count → start_at new_parts (get_or all i 0) ≡ start_at p (get_or all i 0)
  start_beside i lt = ap (λ (e : Entry). e.offset) (beside i lt)

  size_beside : (i : ℕ) → i < count → size_at new_parts (get_or all i 0) ≡ size_at p (get_or all i 0)
  size_beside i lt = size_of_class p.firsts new_parts p (get_or all i 0) refl refl (class_beside i lt)

  size_there : size_at new_parts (get_or all count 0) ≡ length (get_or p.firsts class [])
  size_there = ap (λ (e : Entry). length (get_or p.firsts e.class [])) there

  start_there : start_at new_parts (get_or all count 0) ≡ used
  start_there = ap (λ (e : Entry). e.offset) there

  kept_beside : (i : ℕ) → i < count → kept_at new_parts (get_or all i 0) ≡ kept_at p (get_or all i 0)
  kept_beside i lt =
      same_kept new_parts p (get_or all i 0) (class_beside i lt)
      (ap (λ n. bytes_at new_parts.bytes n (size_at new_parts (get_or all i 0))) (start_beside i lt)
      ∙ ap (bytes_at new_parts.bytes (start_at p (get_or all i 0))) (size_beside i lt)
      ∙ range_before p.bytes used (get_or p.firsts class []) fits (start_at p (get_or all i 0)) (size_at p (get_or all i 0)) (end_there p all room count used filled is i lt))

  kept_there : kept_at new_parts (get_or all count 0) ≡ record { class = class; bytes = get_or p.firsts class [] }
  kept_there =
      kept_alike _ _ _ _ (ap (λ (e : Entry). e.class) there)
      (ap (λ n. bytes_at new_parts.bytes n (size_at new_parts (get_or all count 0))) start_there
      ∙ ap (bytes_at new_parts.bytes used) size_there
      ∙ range_put p.bytes used (get_or p.firsts class []) fits)

  in_front : (P : ℕ → Type 0) → ((i : ℕ) → i < count → P (get_or all i 0)) → All P (take count all)
  in_front P each = All-from_get_or P (take count all) 0 (λ i lt. at i lt)
    where
      at : (i : ℕ) → i < length (take count all) → P (get_or (take count all) i 0)
      at i lt =
          let n = length-live p all room count used filled is in
          let in' : i < count = omega arith in
          subst P (sym (get_or-take count all i 0 in')) (each i in')

  pub added : blocks_of new_parts (take (count + 1) all) ≡ finite.insert (blocks_of p (take count all)) (get_or all count 0) (record { class = class; bytes = get_or p.firsts class [] })
  added =
      let same : blocks_of new_parts (take count all) ≡ blocks_of p (take count all) =
      made_same (kept_at new_parts) (kept_at p) (take count all) (in_front (λ q. kept_at new_parts q ≡ kept_at p q) kept_beside) in
      ap (blocks_of new_parts) live_more
      ∙ made_more (kept_at new_parts) (take count all) (get_or all count 0) (ap (λ (b : Blocks). finite.get b (get_or all count 0)) same ∙ fresh p all room count used filled is few)
      ∙ ap (λ (b : Blocks). finite.insert b (get_or all count 0) (kept_at new_parts (get_or all count 0))) same
      ∙ ap (finite.insert (blocks_of p (take count all)) (get_or all count 0)) kept_there

  pub held_added : IsKept new_parts all room (count + 1) (used + length (get_or p.firsts class [])) (filled + length (get_or p.firsts class []))
  held_added = record {
    every = is.every;
    reserved = is.reserved;
    some = omega arith;
    entries = length-set p.directory (get_or all count 0) (record { offset = used; class = class }) ∙ is.entries;
    lie = subst (λ (xs : List ℕ). LieInOrder new_parts xs (used + length (get_or p.firsts class []))) (sym live_more) (record {
      classes =
          All-push (λ q. class_at new_parts q < length p.firsts) (take count all) (get_or all count 0)
          (in_front (λ q. class_at new_parts q < length p.firsts) (λ i lt. subst (λ (n : ℕ). n < length p.firsts) (sym (class_beside i lt)) (class_there p all room count used filled is i lt)))
          (subst (λ (n : ℕ). n < length p.firsts) (sym (ap (λ (e : Entry). e.class) there)) of_class);
      in_order = all_pairs_push (λ a b. end_at new_parts a ≤ start_at new_parts b) (take count all) (get_or all count 0) (pairs_from (λ a b. end_at new_parts a ≤ start_at new_parts b) (take count all) order_before) order_last;
      below =
          All-push (λ q. end_at new_parts q ≤ used + length (get_or p.firsts class [])) (take count all) (get_or all count 0)
          (in_front (λ q. end_at new_parts q ≤ used + length (get_or p.firsts class [])) (λ i lt. (let s = start_beside i lt in let n = size_beside i lt in let far = end_there p all room count used filled is i lt in omega arith)))
          (let s = start_there in let n = size_there in omega arith);
      in_bytes = (let n = length-put_at p.bytes used (get_or p.firsts class []) fits in omega arith);
    });
    counted =
        ap (sum_by (size_at new_parts)) live_more ∙ sum_by-append (size_at new_parts) (take count all) (get_or all count 0 ∷ [])
        ∙ (let one = sum_by-cons (size_at new_parts) (get_or all count 0) [] in let n = size_there in let was = is.counted in let same = same_sum (take count all) (in_front (λ q. size_at new_parts q ≡ size_at p q) size_beside) in omega arith);
    fits = (let was = is.fits in omega arith);
    numbered = (let n = length-put_at p.bytes used (get_or p.firsts class []) fits in let below = is.numbered in omega arith);
  }
    where
      order_before : (i j : ℕ) → i < j → j < length (take count all) → end_at new_parts (get_or (take count all) i 0) ≤ start_at new_parts (get_or (take count all) j 0)
      order_before i j lt in' =
          let n = length-live p all room count used filled is in
          let first : i < count = omega arith in
          let other : j < count = omega arith in
          let P : ℕ → Type 0 = λ a. end_at new_parts a ≤ start_at new_parts (get_or (take count all) j 0) in
          let Q : ℕ → Type 0 = λ b. end_at new_parts (get_or all i 0) ≤ start_at new_parts b in
          subst P (sym (get_or-take count all i 0 first)) (subst Q (sym (get_or-take count all j 0 other))
          (let s = start_beside i first in let m = size_beside i first in let t = start_beside j other in let was = order_there p all room count used filled is i j lt other in omega arith))

      order_last : (i d : ℕ) → i < length (take count all) → end_at new_parts (get_or (take count all) i d) ≤ start_at new_parts (get_or all count 0)
      order_last i d lt =
          let n = length-live p all room count used filled is in
          let first : i < count = omega arith in
          let P : ℕ → Type 0 = λ a. end_at new_parts a ≤ start_at new_parts (get_or all count 0) in
          subst P (sym (get_or-take count all i d first ∙ default i d first))
          (let s = start_beside i first in let m = size_beside i first in let t = start_there in let far = end_there p all room count used filled is i first in omega arith)
        where
          default : (i d : ℕ) → i < count → get_or all i d ≡ get_or all i 0
          default i d lt = let n = is.every.all in get_or_default all i d 0 (omega arith)

      same_sum : (xs : List ℕ) → All (λ q. size_at new_parts q ≡ size_at p q) xs → sum_by (size_at new_parts) xs ≡ sum_by (size_at p) xs
      same_sum [] alike = refl
      same_sum (x ∷ xs) alike =
          let one = sum_by-cons (size_at new_parts) x xs in
          let other = sum_by-cons (size_at p) x xs in
          let here = alike 0 0 (omega arith) in
          let rest = same_sum xs (λ i d lt. alike (suc i) d (omega arith)) in
          omega arith

-- ---- remove

all_but : (P : ℕ → Type 0) (xs : List ℕ) (k : ℕ) → All P xs → All P (remove xs k)
all_but P xs k each = All-append P (take k xs) (drop (suc k) xs) (All-take P k xs each) (All-drop P (suc k) xs each)

module _ (p : Parts) (all : List ℕ) (room count used filled k : ℕ) (is : IsKept p all room count used filled) (here : k < count) where
  abbrev pub fewer : List ℕ
  fewer = remove all k ++ get_or all k 0 ∷ []

  long : k < length all
  long = let n = is.every.all in let m = is.some in omega arith

  length-fewer : length fewer ≡ 4096
  length-fewer =
      let n = is.every.all in
      let m = length-remove all k long in
      length-append (remove all k) (get_or all k 0 ∷ []) ∙ omega arith

  -- what stands where, with one taken out
  left_at : (i : ℕ) → i < k → get_or (remove all k) i 0 ≡ get_or all i 0
  left_at i lt =
      let n = long in
      let m = length-take-le k all (omega arith) in
      get_or_append_left (take k all) (drop (suc k) all) 0 i (omega arith) ∙ get_or-take k all i 0 lt

  right_at : (i : ℕ) → k ≤ i → get_or (remove all k) i 0 ≡ get_or all (i + 1) 0
  right_at i le =
      let n = long in
      let m = length-take-le k all (omega arith) in
      let far : suc k + (i - k) ≡ i + 1 = omega arith in
      get_or-append_right (take k all) (drop (suc k) all) k i 0 m le ∙ get_or-drop (suc k) all (i - k) 0 ∙ ap (λ j. get_or all j 0) far

  not_there : (i d : ℕ) → i < length (remove all k) → get_or (remove all k) i d ≢ get_or all k 0
  not_there i d lt = elim (cases_lt i k) [
    | inl lt' ↦ λ e. apart_at all is.every.apart i k (let n = long in omega arith) long (omega arith) (sym (left_at i lt') ∙ default ∙ e)
    | inr le ↦ λ e. apart_at all is.every.apart (i + 1) k (let n = long in let m = length-remove all k long in omega arith) long (omega arith) (sym (right_at i le) ∙ default ∙ e)
  ]
    where
      default : get_or (remove all k) i 0 ≡ get_or (remove all k) i d
      default = get_or_default (remove all k) i 0 d lt

  fewer_places : ArePlaces fewer
  fewer_places = record {
    all = length-fewer;
    apart = all_pairs_push (λ a b. a ≢ b) (remove all k) (get_or all k 0) (all_pairs_remove (λ a b. a ≢ b) all k long is.every.apart) not_there;
    within = All-push (λ q. q < 4096) (remove all k) (get_or all k 0) (all_but (λ q. q < 4096) all k is.every.within) (is.every.within k 0 long);
  }

  -- the live ones are those that were, but one
  live_fewer : take (count - 1) fewer ≡ remove (take count all) k
  live_fewer =
      let n = long in
      let m = length-remove all k n in
      let s = is.some in
      let a = is.every.all in
      let short : count - 1 ≤ length (remove all k) = omega arith in
      let parted : k + (count - 1 - k) ≡ count - 1 = omega arith in
      let whole : suc k + (count - 1 - k) ≡ count = omega arith in
      take-append-le (count - 1) (remove all k) (get_or all k 0 ∷ []) short
      ∙ ap (λ j. take j (remove all k)) (sym parted)
      ∙ take_past (take k all) (drop (suc k) all) k (count - 1 - k) (length-take-le k all (omega arith))
      ∙ ap (λ front. front ++ take (count - 1 - k) (drop (suc k) all)) (sym (take-take k count all (omega arith)))
      ∙ ap (λ back. take k (take count all) ++ back) (sym (drop-take (suc k) (count - 1 - k) all) ∙ ap (λ j. drop (suc k) (take j all)) whole)

  pub removed : blocks_of p (take (count - 1) fewer) ≡ finite.remove (blocks_of p (take count all)) (get_or all k 0)
  removed =
      let l = length-live p all room count used filled is in
      ap (blocks_of p) live_fewer
      ∙ made_less (kept_at p) (take count all) k (omega arith) (live_apart p all room count used filled is)
      ∙ ap (finite.remove (blocks_of p (take count all))) (get_or-take count all k 0 here)

  sum_less : sum_by (size_at p) (take (count - 1) fewer) + size_at p (get_or all k 0) ≡ filled
  sum_less =
      let l = length-live p all room count used filled is in
      let one = sum_by-remove (size_at p) (take count all) k 0 (omega arith) in
      let same = ap (size_at p) (get_or-take count all k 0 here) in
      let left = ap (sum_by (size_at p)) live_fewer in
      let was = is.counted in
      omega arith

  pub size_within : size_at p (get_or all k 0) ≤ filled
  size_within = let sum = sum_less in omega arith

  pub held_removed : IsKept p fewer room (count - 1) used (filled - size_at p (get_or all k 0))
  held_removed = record {
    every = fewer_places;
    reserved = is.reserved;
    some = (let s = is.some in omega arith);
    entries = is.entries;
    lie = subst (λ (xs : List ℕ). LieInOrder p xs used) (sym live_fewer) (record {
      classes = all_but (λ q. class_at p q < length p.firsts) (take count all) k is.lie.classes;
      in_order = (let l = length-live p all room count used filled is in all_pairs_remove (λ a b. end_at p a ≤ start_at p b) (take count all) k (omega arith) is.lie.in_order);
      below = all_but (λ q. end_at p q ≤ used) (take count all) k is.lie.below;
      in_bytes = is.lie.in_bytes;
    });
    counted = (let sum = sum_less in omega arith);
    fits = (let was = is.fits in omega arith);
    numbered = is.numbered;
  }

-- ---- write

module _ (p : Parts) (all : List ℕ) (room count used filled k at : ℕ) (new : List ℕ) (is : IsKept p all room count used filled) (here : k < count)
    (fits : at + length new ≤ size_at p (get_or all k 0)) where
  abbrev pub written_parts : Parts
  written_parts = parts p.firsts (put_at p.bytes (start_at p (get_or all k 0) + at) new) p.directory

  within : end_at p (get_or all k 0) ≤ length p.bytes
  within = let far = end_there p all room count used filled is k here in let n = is.lie.in_bytes in omega arith

  fits_there : start_at p (get_or all k 0) + at + length new ≤ length p.bytes
  fits_there = let far = within in omega arith

  same_length : length written_parts.bytes ≡ length p.bytes
  same_length = length-put_at p.bytes (start_at p (get_or all k 0) + at) new fits_there

  stays : (i : ℕ) → i < count → i ≢ k → kept_at p (get_or all i 0) ≡ kept_at written_parts (get_or all i 0)
  stays i lt ne = kept_alike _ _ _ _ refl (sym (elim (cases_lt i k) [
    | inl earlier ↦
        let far = order_there p all room count used filled is i k earlier here in
        range_before p.bytes (start_at p (get_or all k 0) + at) new fits_there (start_at p (get_or all i 0)) (size_at p (get_or all i 0)) (omega arith)
    | inr le ↦
        let far = order_there p all room count used filled is k i (omega arith) lt in
        range_after p.bytes (start_at p (get_or all k 0) + at) new fits_there (start_at p (get_or all i 0)) (size_at p (get_or all i 0)) (omega arith)
  ]))

  changes : kept_at written_parts (get_or all k 0) ≡ record { class = class_at p (get_or all k 0); bytes = put_at (kept_at p (get_or all k 0)).bytes at new }
  changes = kept_alike _ _ _ _ refl (range_over p.bytes (start_at p (get_or all k 0)) (size_at p (get_or all k 0)) at new fits within)

  pub written : blocks_of written_parts (take count all) ≡ finite.insert (blocks_of p (take count all)) (get_or all k 0) (record { class = class_at p (get_or all k 0); bytes = put_at (kept_at p (get_or all k 0)).bytes at new })
  written =
      let l = length-live p all room count used filled is in
      let place = get_or-take count all k 0 here in
      made_over (kept_at p) (kept_at written_parts) (take count all) k (omega arith) (All-from_get_or (λ q. q ≢ get_or (take count all) k 0 → kept_at p q ≡ kept_at written_parts q) (take count all) 0 alike)
      ∙ ap (λ q. finite.insert (blocks_of p (take count all)) q (kept_at written_parts q)) place
      ∙ ap (finite.insert (blocks_of p (take count all)) (get_or all k 0)) changes
    where
      alike : (i : ℕ) → i < length (take count all) → get_or (take count all) i 0 ≢ get_or (take count all) k 0 → kept_at p (get_or (take count all) i 0) ≡ kept_at written_parts (get_or (take count all) i 0)
      alike i lt ne =
          let l = length-live p all room count used filled is in
          let in' : i < count = omega arith in
          let P : ℕ → Type 0 = λ q. kept_at p q ≡ kept_at written_parts q in
          subst P (sym (get_or-take count all i 0 in')) (stays i in' (λ e. ne (ap (λ j. get_or (take count all) j 0) e)))

  pub held_written : IsKept written_parts all room count used filled
  held_written = record {
    every = is.every;
    reserved = is.reserved;
    some = is.some;
    entries = is.entries;
    lie = record {
      classes = is.lie.classes;
      in_order = is.lie.in_order;
      below = is.lie.below;
      in_bytes = (let n = same_length in let far = is.lie.in_bytes in omega arith);
    };
    counted = is.counted;
    fits = is.fits;
    numbered = (let n = same_length in let below = is.numbered in omega arith);
  }
