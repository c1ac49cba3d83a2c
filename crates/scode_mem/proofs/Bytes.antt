-- Ranges of a list after others were put into it.
use Rattle.std.proofs.Common.{◌≡◌, ℕ, ◌+◌, ◌-◌, ◌≤◌, List, [], ◌∷◌, ◌++◌, length, take, drop, refl, sym, ◌∙◌, ap, arith}
use Rattle.std.proofs.lemmas.List.{append_assoc, drop-append-le, drop-drop, drop-take, drop_at, length-append, length-drop, length-take-le, take-take, take_at}
use Rattle.std.specs.List.{copy_within}
use Rattle.scode_mem.specs.Blocks.{bytes_at, put_at}

-- bytes of a range of bytes
pub range_within : (xs : List ℕ) (start size at width : ℕ) → at + width ≤ size → bytes_at (bytes_at xs start size) at width ≡ bytes_at xs (start + at) width
range_within xs start size at width within =
    let left : at + (size - at) ≡ size = omega arith in
    let enough : width ≤ size - at = omega arith in
    ap (λ n. take width (drop at (take n (drop start xs)))) (sym left)
    ∙ ap (take width) (drop-take at (size - at) (drop start xs))
    ∙ take-take width (size - at) (drop at (drop start xs)) enough
    ∙ ap (take width) (drop-drop at start xs)

-- lists that begin alike have the same ranges there
range_in_front : (xs ys : List ℕ) (n start size : ℕ) → take n xs ≡ take n ys → start + size ≤ n → bytes_at xs start size ≡ bytes_at ys start size
range_in_front xs ys n start size same within =
    sym (drop-take start size xs) ∙ ap (drop start) (sym (take-take (start + size) n xs within) ∙ ap (take (start + size)) same ∙ take-take (start + size) n ys within)
    ∙ drop-take start size ys

-- and so have lists that end alike
range_behind : (xs ys : List ℕ) (n start size : ℕ) → drop n xs ≡ drop n ys → n ≤ start → bytes_at xs start size ≡ bytes_at ys start size
range_behind xs ys n start size same within =
    let far : n + (start - n) ≡ start = omega arith in
    ap (take size)
    (ap (λ k. drop k xs) (sym far) ∙ sym (drop-drop (start - n) n xs) ∙ ap (drop (start - n)) same ∙ drop-drop (start - n) n ys ∙ ap (λ k. drop k ys) far)

module _ (xs : List ℕ) (at : ℕ) (new : List ℕ) (room : at + length new ≤ length xs) where
  put_parts : put_at xs at new ≡ take at xs ++ (new ++ drop (at + length new) xs)
  put_parts = append_assoc (take at xs) new (drop (at + length new) xs)

  front_length : length (take at xs) ≡ at
  front_length = length-take-le at xs (omega arith)

  both_length : length (take at xs ++ new) ≡ at + length new
  both_length = length-append (take at xs) new ∙ ap (λ n. n + length new) front_length

  pub length-put_at : length (put_at xs at new) ≡ length xs
  length-put_at =
      let front = both_length in
      let whole = length-append (take at xs ++ new) (drop (at + length new) xs) in
      let back = length-drop (at + length new) xs in
      omega arith

  put_in_front : take at (put_at xs at new) ≡ take at xs
  put_in_front = ap (take at) put_parts ∙ take_at (take at xs) (new ++ drop (at + length new) xs) at front_length

  put_behind : drop (at + length new) (put_at xs at new) ≡ drop (at + length new) xs
  put_behind = drop_at (take at xs ++ new) (drop (at + length new) xs) (at + length new) both_length

  -- what was put stands there
  pub range_put : bytes_at (put_at xs at new) at (length new) ≡ new
  range_put =
      ap (λ all. take (length new) (drop at all)) put_parts
      ∙ ap (take (length new)) (drop_at (take at xs) (new ++ drop (at + length new) xs) at front_length)
      ∙ take_at new (drop (at + length new) xs) (length new) refl

  -- what stands before it, or behind it, stays
  pub range_before : (start size : ℕ) → start + size ≤ at → bytes_at (put_at xs at new) start size ≡ bytes_at xs start size
  range_before start size within = range_in_front (put_at xs at new) xs at start size put_in_front within

  pub range_after : (start size : ℕ) → at + length new ≤ start → bytes_at (put_at xs at new) start size ≡ bytes_at xs start size
  range_after start size within = range_behind (put_at xs at new) xs (at + length new) start size put_behind within

-- ---- what is put within a range

pub take_past : (xs ys : List ℕ) (n m : ℕ) → length xs ≡ n → take (n + m) (xs ++ ys) ≡ xs ++ take m ys
take_past [] ys n m is = let none : n + m ≡ m = omega arith in ap (λ k. take k ys) none
take_past (x ∷ xs) ys n m is =
    let one : n + m ≡ Prim.Native.Nat.suc ((n - 1) + m) = omega arith in
    let rest : length xs ≡ n - 1 = omega arith in
    ap (λ k. take k (x ∷ xs ++ ys)) one ∙ ap (λ zs. x ∷ zs) (take_past xs ys (n - 1) m rest)

put_from : (xs : List ℕ) (start k : ℕ) (new : List ℕ) → start + k + length new ≤ length xs → drop start (put_at xs (start + k) new) ≡ put_at (drop start xs) k new
put_from xs start k new room =
    let back : List ℕ = drop (start + k + length new) xs in
    let enough : start ≤ length (take (start + k) xs) = omega (arith, length-take-le (start + k) xs (omega arith)) in
    let far : start + (k + length new) ≡ start + k + length new = omega arith in
    ap (drop start) (append_assoc (take (start + k) xs) new back)
    ∙ drop-append-le start (take (start + k) xs) (new ++ back) enough
    ∙ ap (λ front. front ++ (new ++ back)) (drop-take start k xs)
    ∙ ap (λ behind. take k (drop start xs) ++ (new ++ behind)) (ap (λ n. drop n xs) (sym far) ∙ sym (drop-drop (k + length new) start xs))
    ∙ sym (append_assoc (take k (drop start xs)) new (drop (k + length new) (drop start xs)))

put_up_to : (xs : List ℕ) (size k : ℕ) (new : List ℕ) → k + length new ≤ size → size ≤ length xs → take size (put_at xs k new) ≡ put_at (take size xs) k new
put_up_to xs size k new within room =
    let left : (k + length new) + (size - (k + length new)) ≡ size = omega arith in
    let front : length (take k xs ++ new) ≡ k + length new = length-append (take k xs) new ∙ ap (λ n. n + length new) (length-take-le k xs (omega arith)) in
    ap (λ n. take n (put_at xs k new)) (sym left)
    ∙ take_past (take k xs ++ new) (drop (k + length new) xs) (k + length new) (size - (k + length new)) front
    ∙ ap (λ behind. (take k xs ++ new) ++ behind) (sym (drop-take (k + length new) (size - (k + length new)) xs) ∙ ap (λ n. drop (k + length new) (take n xs)) left)
    ∙ ap (λ begun. (begun ++ new) ++ drop (k + length new) (take size xs)) (sym (take-take k size xs (omega arith)))

pub range_over : (xs : List ℕ) (start size k : ℕ) (new : List ℕ) → k + length new ≤ size → start + size ≤ length xs
    → bytes_at (put_at xs (start + k) new) start size ≡ put_at (bytes_at xs start size) k new
range_over xs start size k new within room =
    let rest = length-drop start xs in
    ap (take size) (put_from xs start k new (omega arith)) ∙ put_up_to (drop start xs) size k new within (omega arith)

-- ---- what is copied

pub length_range : (xs : List ℕ) (start size : ℕ) → start + size ≤ length xs → length (bytes_at xs start size) ≡ size
length_range xs start size room = let rest = length-drop start xs in length-take-le size (drop start xs) (omega arith)

-- a copy puts the bytes of a range
pub copy-puts : (xs : List ℕ) (start size dest : ℕ) → start + size ≤ length xs → copy_within xs start (start + size) dest ≡ put_at xs dest (bytes_at xs start size)
copy-puts xs start size dest room =
    let as_many : start + size - start ≡ size = omega arith in
    ap (λ n. (take dest xs ++ take n (drop start xs)) ++ drop (dest + n) xs) as_many
    ∙ ap (λ n. (take dest xs ++ bytes_at xs start size) ++ drop (dest + n) xs) (sym (length_range xs start size room))
