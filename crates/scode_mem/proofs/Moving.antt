-- One block moves down to where the blocks before it end.
use Rattle.std.proofs.Common.{◌≡◌, ◌≢◌, ℕ, ◌+◌, ◌<◌, ◌≤◌, List, [], ◌∷◌, inl, inr, get_or, set, take, length, refl, sym, ◌∙◌, ap, subst, arith}
use Rattle.std.specs.Prelude.{sum_by, All, AllPairs}
use Rattle.std.proofs.lemmas.Bool.{cases_eq, cases_lt}
use Rattle.std.proofs.lemmas.List.{take_more, take_all}
use Rattle.std.proofs.lemmas.List.Elements.{All-from_get_or}
use Rattle.std.proofs.lemmas.List.Sums.{sum_by-append, sum_by-cons}
use Rattle.scode_mem.specs.declared.entry.Entry.{Entry}
use Rattle.scode_mem.specs.Blocks.{bytes_at, put_at}
use Rattle.scode_mem.specs.Kept.{LieInOrder, MovesOnly, Parts, class_at, end_at, entry_at, kept_at, parts, size_at, start_at}
use Rattle.std.specs.List.{copy_within}
use Rattle.scode_mem.proofs.Bytes.{copy-puts, length-put_at, length_range, range_after, range_before, range_put}
use Rattle.scode_mem.proofs.Maps.{made_same}
use Rattle.scode_mem.proofs.Places.{apart_at, entry_beside, entry_set, pairs_from, same_kept, size_of_class}

-- the first k of these places have been moved to the front, where the last ends at `end`
pub record ClosingUp (old now : Parts) (places : List ℕ) (k end : ℕ) : Type 0 where
  pub lie : LieInOrder now places (length now.bytes)
  pub moved : MovesOnly old now places
  pub front : (i : ℕ) → i < k → end_at now (get_or places i 0) ≤ end
  pub behind : (i : ℕ) → k ≤ i → i < length places → end ≤ start_at now (get_or places i 0)
  pub sum : end ≡ sum_by (size_at old) (take k places)
  pub inside : end ≤ length now.bytes

-- before the first
pub closing_none : (p : Parts) (places : List ℕ) → LieInOrder p places (length p.bytes) → ClosingUp p p places 0 0
closing_none p places lie = record {
  lie = lie;
  moved = record { classes = λ place. refl; blocks = refl };
  front = λ i lt. absurd (omega arith);
  behind = λ i le lt. omega arith;
  sum = refl;
  inside = omega arith;
}

module _ (old p : Parts) (places : List ℕ) (k end place : ℕ) (at : get_or places k 0 ≡ place) (firsts : p.firsts ≡ old.firsts) (apart : AllPairs (λ a b. a ≢ b) places)
    (within : All (λ place. place < length p.directory) places) (here : k < length places) (so_far : ClosingUp old p places k end) where
  abbrev pub moved_parts : Parts
  moved_parts = parts p.firsts (put_at p.bytes end (bytes_at p.bytes (start_at p place) (size_at p place))) (set p.directory place (record { offset = end; class = class_at p place }))

  in_directory : place < length p.directory
  in_directory = let P : ℕ → Type 0 = λ q. q < length p.directory in subst P at (within k 0 here)

  -- where it was
  pub before : end ≤ start_at p place
  before = let P : ℕ → Type 0 = λ q. end ≤ start_at p q in subst P at (so_far.behind k (omega arith) here)

  pub inside : end_at p place ≤ length p.bytes
  inside = let P : ℕ → Type 0 = λ q. end_at p q ≤ length p.bytes in subst P at (so_far.lie.below k 0 here)

  pub of_class : class_at p place < length p.firsts
  of_class = let P : ℕ → Type 0 = λ q. class_at p q < length p.firsts in subst P at (so_far.lie.classes k 0 here)

  as_many : length (bytes_at p.bytes (start_at p place) (size_at p place)) ≡ size_at p place
  as_many = length_range p.bytes (start_at p place) (size_at p place) inside

  room : end + length (bytes_at p.bytes (start_at p place) (size_at p place)) ≤ length p.bytes
  room = let n = as_many in let far = inside in let low = before in omega arith

  same_length : length moved_parts.bytes ≡ length p.bytes
  same_length = length-put_at p.bytes end (bytes_at p.bytes (start_at p place) (size_at p place)) room

  there : entry_at moved_parts place ≡ record { offset = end; class = class_at p place }
  there = entry_set p moved_parts.bytes place (record { offset = end; class = class_at p place }) in_directory

  beside : (q : ℕ) → q ≢ place → entry_at moved_parts q ≡ entry_at p q
  beside q ne = entry_beside p moved_parts.bytes place (record { offset = end; class = class_at p place }) q ne

  classes_same : (q : ℕ) → class_at moved_parts q ≡ class_at p q
  classes_same q = elim (cases_eq q place) [
    | inl is ↦ ap (class_at moved_parts) is ∙ ap (λ (e : Entry). e.class) there ∙ ap (class_at p) (sym is)
    | inr ne ↦ ap (λ (e : Entry). e.class) (beside q ne)
  ]

  sizes_same : (q : ℕ) → size_at moved_parts q ≡ size_at p q
  sizes_same q = size_of_class p.firsts moved_parts p q refl refl (classes_same q)

  start_there : start_at moved_parts place ≡ end
  start_there = ap (λ (e : Entry). e.offset) there

  start_beside : (q : ℕ) → q ≢ place → start_at moved_parts q ≡ start_at p q
  start_beside q ne = ap (λ (e : Entry). e.offset) (beside q ne)

  -- a block that lies elsewhere
  stays : (q : ℕ) → q ≢ place → bytes_at moved_parts.bytes (start_at p q) (size_at p q) ≡ bytes_at p.bytes (start_at p q) (size_at p q) → kept_at moved_parts q ≡ kept_at p q
  stays q ne same =
      same_kept moved_parts p q (classes_same q)
      (ap (λ n. bytes_at moved_parts.bytes n (size_at moved_parts q)) (start_beside q ne) ∙ ap (bytes_at moved_parts.bytes (start_at p q)) (sizes_same q) ∙ same)

  -- the block that moves
  goes : kept_at moved_parts place ≡ kept_at p place
  goes =
      same_kept moved_parts p place (classes_same place)
      (ap (λ n. bytes_at moved_parts.bytes n (size_at moved_parts place)) start_there
      ∙ ap (bytes_at moved_parts.bytes end) (sizes_same place ∙ sym as_many)
      ∙ range_put p.bytes end (bytes_at p.bytes (start_at p place) (size_at p place)) room)

  other : (i : ℕ) → i < length places → i ≢ k → get_or places i 0 ≢ place
  other i lt ne = λ e. apart_at places apart i k lt here ne (e ∙ sym at)

  later : (i : ℕ) → k < i → i < length places → end_at p place ≤ start_at p (get_or places i 0)
  later i lt in' = let P : ℕ → Type 0 = λ q. end_at p q ≤ start_at p (get_or places i 0) in subst P at (so_far.lie.in_order k i 0 lt in')

  kept_same : (i : ℕ) → i < length places → kept_at moved_parts (get_or places i 0) ≡ kept_at p (get_or places i 0)
  kept_same i lt = elim (cases_eq i k) [
    | inl is ↦
        let here' : get_or places i 0 ≡ place = ap (λ j. get_or places j 0) is ∙ at in
        ap (kept_at moved_parts) here' ∙ goes ∙ ap (kept_at p) (sym here')
    | inr ne ↦ stays (get_or places i 0) (other i lt ne) (elim (cases_lt i k) [
      | inl earlier ↦ range_before p.bytes end (bytes_at p.bytes (start_at p place) (size_at p place)) room (start_at p (get_or places i 0)) (size_at p (get_or places i 0)) (so_far.front i earlier)
      | inr le ↦
          let far = later i (omega arith) lt in
          let n = as_many in
          let low = before in
          range_after p.bytes end (bytes_at p.bytes (start_at p place) (size_at p place)) room (start_at p (get_or places i 0)) (size_at p (get_or places i 0)) (omega arith)
    ])
  ]

  -- where blocks begin and end now
  begins : (i : ℕ) → i < length places → k < i → start_at moved_parts (get_or places i 0) ≡ start_at p (get_or places i 0)
  begins i lt after = start_beside (get_or places i 0) (other i lt (omega arith))

  ends_here : end_at moved_parts (get_or places k 0) ≡ end + size_at p place
  ends_here = ap (end_at moved_parts) at ∙ (let a = start_there in let b = sizes_same place in omega arith)

  ends_beside : (i : ℕ) → i < length places → i ≢ k → end_at moved_parts (get_or places i 0) ≡ end_at p (get_or places i 0)
  ends_beside i lt ne = let a = start_beside (get_or places i 0) (other i lt ne) in let b = sizes_same (get_or places i 0) in omega arith

  lie_now : LieInOrder moved_parts places (length moved_parts.bytes)
  lie_now = record {
    classes = λ i d lt. subst (λ (n : ℕ). n < length p.firsts) (sym (classes_same (get_or places i d))) (so_far.lie.classes i d lt);
    in_order = pairs_from (λ a b. end_at moved_parts a ≤ start_at moved_parts b) places (λ i j lt in'. in_order i j lt in');
    below = All-from_get_or (λ place. end_at moved_parts place ≤ length moved_parts.bytes) places 0 (λ i lt. below i lt);
    in_bytes = omega arith;
  }
    where
      in_order : (i j : ℕ) → i < j → j < length places → end_at moved_parts (get_or places i 0) ≤ start_at moved_parts (get_or places j 0)
      in_order i j lt in' = elim (cases_eq j k) [
        | inl is ↦
            let now : start_at moved_parts (get_or places j 0) ≡ end = ap (λ n. start_at moved_parts (get_or places n 0)) is ∙ ap (start_at moved_parts) at ∙ start_there in
            let was = ends_beside i (omega arith) (omega arith) in
            let far = so_far.front i (omega arith) in
            omega arith
        | inr ne ↦
            let now : start_at moved_parts (get_or places j 0) ≡ start_at p (get_or places j 0) = start_beside (get_or places j 0) (other j in' ne) in
            elim (cases_eq i k) [
              | inl is ↦
                  let was : end_at moved_parts (get_or places i 0) ≡ end + size_at p place = ap (λ n. end_at moved_parts (get_or places n 0)) is ∙ ends_here in
                  let far = later j (omega arith) in' in
                  let low = before in
                  omega arith
              | inr apart' ↦
                  let was = ends_beside i (omega arith) apart' in
                  let far = so_far.lie.in_order i j 0 lt in' in
                  omega arith
            ]
      ]

      below : (i : ℕ) → i < length places → end_at moved_parts (get_or places i 0) ≤ length moved_parts.bytes
      below i lt = elim (cases_eq i k) [
        | inl is ↦
            let now : end_at moved_parts (get_or places i 0) ≡ end + size_at p place = ap (λ n. end_at moved_parts (get_or places n 0)) is ∙ ends_here in
            let far = inside in
            let low = before in
            let n = same_length in
            omega arith
        | inr ne ↦
            let now = ends_beside i lt ne in
            let far = so_far.lie.below i 0 lt in
            let n = same_length in
            omega arith
      ]

  -- one more
  pub closing_more : ClosingUp old moved_parts places (k + 1) (end + size_at p place)
  closing_more = record {
    lie = lie_now;
    moved = record {
      classes = λ q. classes_same q ∙ so_far.moved.classes q;
      blocks = made_same (kept_at moved_parts) (kept_at p) places (All-from_get_or (λ q. kept_at moved_parts q ≡ kept_at p q) places 0 kept_same) ∙ so_far.moved.blocks;
    };
    front = front_more;
    behind = λ i le lt. (let now = begins i lt (omega arith) in let far = later i (omega arith) lt in let low = before in omega arith);
    sum =
        (let was = so_far.sum in
        let size : size_at p place ≡ size_at old (get_or places k 0) = ap (size_at p) (sym at) ∙ size_of_class p.firsts p old (get_or places k 0) refl (sym firsts) (so_far.moved.classes (get_or places k 0)) in
        let more : sum_by (size_at old) (take (k + 1) places) ≡ sum_by (size_at old) (take k places) + size_at old (get_or places k 0) =
        ap (sum_by (size_at old)) (take_more places k 0 here) ∙ sum_by-append (size_at old) (take k places) (get_or places k 0 ∷ [])
        ∙ (let one = sum_by-cons (size_at old) (get_or places k 0) [] in omega arith) in
        omega arith);
    inside = (let far = inside in let low = before in let n = same_length in omega arith);
  }
    where
      front_more : (i : ℕ) → i < k + 1 → end_at moved_parts (get_or places i 0) ≤ end + size_at p place
      front_more i lt = elim (cases_eq i k) [
        | inl is ↦ let now : end_at moved_parts (get_or places i 0) ≡ end + size_at p place = ap (λ n. end_at moved_parts (get_or places n 0)) is ∙ ends_here in omega arith
        | inr ne ↦ let now = ends_beside i (omega arith) ne in let far = so_far.front i (omega arith) in omega arith
      ]

  -- as the loop leaves the parts
  pub closing_step : (again size : ℕ) (bytes : List ℕ) → again ≡ place → size ≡ size_at p place → bytes ≡ copy_within p.bytes (start_at p place) (start_at p place + size) end
      → ClosingUp old (parts p.firsts bytes (set p.directory again (record { offset = end; class = class_at p place }))) places (k + 1) (end + size)
  closing_step again size bytes same as_many copied =
      let all : bytes ≡ put_at p.bytes end (bytes_at p.bytes (start_at p place) (size_at p place)) =
      copied ∙ ap (λ n. copy_within p.bytes (start_at p place) (start_at p place + n) end) as_many ∙ copy-puts p.bytes (start_at p place) (size_at p place) end inside in
      let entries : set p.directory again (record { offset = end; class = class_at p place }) ≡ moved_parts.directory = ap (λ q. set p.directory q (record { offset = end; class = class_at p place })) same in
      let now : moved_parts ≡ parts p.firsts bytes (set p.directory again (record { offset = end; class = class_at p place })) = λ i. parts p.firsts (sym all i) (sym entries i) in
      subst (λ (q : Parts). ClosingUp old q places (k + 1) (end + size)) now (subst (λ (n : ℕ). ClosingUp old moved_parts places (k + 1) (end + n)) (sym as_many) closing_more)

-- after the last
pub closed_up : (old now : Parts) (places : List ℕ) (k end : ℕ) → length places ≤ k → ClosingUp old now places k end → LieInOrder now places end
closed_up old now places k end all so_far = record {
  classes = so_far.lie.classes;
  in_order = so_far.lie.in_order;
  below = All-from_get_or (λ place. end_at now place ≤ end) places 0 (λ i lt. so_far.front i (omega arith));
  in_bytes = so_far.inside;
}

pub closed_sum : (old now : Parts) (places : List ℕ) (k end : ℕ) → length places ≤ k → ClosingUp old now places k end → end ≡ sum_by (size_at old) places
closed_sum old now places k end all so_far = so_far.sum ∙ ap (sum_by (size_at old)) (take_all k places all)
