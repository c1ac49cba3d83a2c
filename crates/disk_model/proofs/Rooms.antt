-- Bytes in a room: what stands in it after a write.
use Rattle.std.proofs.Common.{◌≡◌, inl, inr, ◌+◌, ◌-◌, ◌<◌, ◌≤◌, ◌++◌, min, max, ℕ, List, length, take, drop, replicate, get_or, get_or-take, get_or-drop, refl, sym, ◌∙◌, ap, arith, length-append, length-drop}
use Rattle.std.proofs.lemmas.Bool.{cases_lt}
use Rattle.std.proofs.lemmas.List.{ext_get_or, length-take-le, length-replicate, get_or_append_left, get_or-append_right, get_or_past, get_or-replicate}
use Rattle.disk_model.specs.Written.{written, length-written, before_written, at_written, behind_written}

-- a part that was written over
abbrev over : List ℕ → ℕ → List ℕ → ℕ → List ℕ
over all at bytes end = take at all ++ (bytes ++ drop end all)

module _ (all : List ℕ) (at : ℕ) (bytes : List ℕ) (end : ℕ) (is_end : end ≡ at + length bytes) (inside : end ≤ length all) where
  size_front : length (take at all) ≡ at
  size_front = length-take-le at all (omega (arith, is_end, inside))

  pub length-over : length (over all at bytes end) ≡ length all
  length-over =
      let whole = length-append (take at all) (bytes ++ drop end all) in
      let back = length-append bytes (drop end all) in
      let rest = length-drop end all in
      omega (arith, whole, back, rest, size_front, is_end, inside)

  pub before_over : (i : ℕ) → i < at → get_or (over all at bytes end) i 0 ≡ get_or all i 0
  before_over i low = get_or_append_left (take at all) (bytes ++ drop end all) 0 i (omega (arith, size_front, low)) ∙ get_or-take at all i 0 low

  pub at_over : (i : ℕ) → i < length bytes → get_or (over all at bytes end) (at + i) 0 ≡ get_or bytes i 0
  at_over i small =
      get_or-append_right (take at all) (bytes ++ drop end all) at (at + i) 0 size_front (omega arith)
      ∙ ap (λ (n : ℕ). get_or (bytes ++ drop end all) n 0) (let e : at + i - at ≡ i = omega arith in e)
      ∙ get_or_append_left bytes (drop end all) 0 i small

  pub behind_over : (i : ℕ) → end ≤ i → get_or (over all at bytes end) i 0 ≡ get_or all i 0
  behind_over i high =
      get_or-append_right (take at all) (bytes ++ drop end all) at i 0 size_front (omega (arith, high, is_end))
      ∙ get_or-append_right bytes (drop end all) (length bytes) (i - at) 0 refl (omega (arith, high, is_end))
      ∙ get_or-drop end all (i - at - length bytes) 0
      ∙ ap (λ (n : ℕ). get_or all n 0) (let e : end + (i - at - length bytes) ≡ i = omega (arith, high, is_end) in e)

-- the gap is cleared, the bytes are written, and the length grows
module _ (all : List ℕ) (len at : ℕ) (bytes : List ℕ) (within : len ≤ length all) (room : at + length bytes ≤ length all) where
  abbrev cleared : List ℕ
  cleared = over all (min len at) (replicate (at - min len at) 0) at

  abbrev now : List ℕ
  now = over cleared at bytes (at + length bytes)

  gap_end : at ≡ min len at + length {A = ℕ} (replicate (at - min len at) 0)
  gap_end = let r = length-replicate {A = ℕ} (at - min len at) 0 in grind (arith, r)

  gap_fits : at ≤ length all
  gap_fits = omega (arith, room)

  size_cleared : length cleared ≡ length all
  size_cleared = length-over all (min len at) (replicate (at - min len at) 0) at gap_end gap_fits

  fits : at + length bytes ≤ length cleared
  fits = omega (arith, size_cleared, room)

  pub size_now : length now ≡ length all
  size_now = length-over cleared at bytes (at + length bytes) refl fits ∙ size_cleared

  size_old : length (take len all) ≡ len
  size_old = length-take-le len all within

  size_written : length (written (take len all) at bytes) ≡ max len (at + length bytes)
  size_written = grind (arith, length-written (take len all) at bytes, size_old)

  size_taken : length (take (max len (at + length bytes)) now) ≡ max len (at + length bytes)
  size_taken = length-take-le (max len (at + length bytes)) now (grind (arith, size_now, within, room))

  -- what stands before the write, in the first bytes or in the gap
  front_same : (i : ℕ) → i < at → get_or cleared i 0 ≡ get_or (take len all) i 0
  front_same i low = elim (cases_lt i len) [
    | inl inside ↦ before_over all (min len at) (replicate (at - min len at) 0) at gap_end gap_fits i (grind (arith, inside, low)) ∙ sym (get_or-take len all i 0 inside)
    | inr behind ↦
        let e : i ≡ min len at + (i - min len at) = grind (arith, behind, low) in
        let small : i - min len at < at - min len at = grind (arith, behind, low) in
        let r = length-replicate {A = ℕ} (at - min len at) 0 in
        ap (λ (k : ℕ). get_or cleared k 0) e
        ∙ at_over all (min len at) (replicate (at - min len at) 0) at gap_end gap_fits (i - min len at) (omega (arith, small, r))
        ∙ get_or-replicate (at - min len at) (i - min len at) 0 0 small
        ∙ sym (get_or_past (take len all) i 0 (omega (arith, size_old, behind)))
  ]

  -- what stands behind it
  back_same : (i : ℕ) → at + length bytes ≤ i → i < max len (at + length bytes) → get_or cleared i 0 ≡ get_or (take len all) i 0
  back_same i high small =
      let inside : i < len = grind (arith, high, small) in
      behind_over all (min len at) (replicate (at - min len at) 0) at gap_end gap_fits i (omega (arith, high)) ∙ sym (get_or-take len all i 0 inside)

  same_at : (i : ℕ) → i < max len (at + length bytes) → get_or now i 0 ≡ get_or (written (take len all) at bytes) i 0
  same_at i small = elim (cases_lt i at) [
    | inl low ↦ before_over cleared at bytes (at + length bytes) refl fits i low ∙ front_same i low ∙ sym (before_written (take len all) at bytes i low)
    | inr from ↦ elim (cases_lt i (at + length bytes)) [
      | inl inside ↦
          let e : i ≡ at + (i - at) = omega (arith, from) in
          let k : i - at < length bytes = omega (arith, from, inside) in
          ap (λ (n : ℕ). get_or now n 0) e ∙ at_over cleared at bytes (at + length bytes) refl fits (i - at) k
          ∙ sym (at_written (take len all) at bytes (i - at) k) ∙ ap (λ (n : ℕ). get_or (written (take len all) at bytes) n 0) (sym e)
      | inr high ↦ behind_over cleared at bytes (at + length bytes) refl fits i high ∙ back_same i high small ∙ sym (behind_written (take len all) at bytes i high)
    ]
  ]

  pub now_written : take (max len (at + length bytes)) now ≡ written (take len all) at bytes
  now_written = ext_get_or 0 (take (max len (at + length bytes)) now) (written (take len all) at bytes) (size_taken ∙ sym size_written)
      (λ i small. let low : i < max len (at + length bytes) = omega (arith, size_taken, small) in get_or-take (max len (at + length bytes)) now i 0 low ∙ same_at i low)

-- the same, by the steps
pub steps_written : (all mid last : List ℕ) (len low at n : ℕ) (bytes : List ℕ) → len ≤ length all → at + length bytes ≤ length all → low ≡ min len at → mid ≡ take low all ++ (replicate (at - low) 0 ++ drop at all)
    → last ≡ take at mid ++ (bytes ++ drop (at + length bytes) mid) → n ≡ max len (at + length bytes) → (take n last ≡ written (take len all) at bytes) × (n ≤ length last)
steps_written all mid last len low at n bytes within room is_low is_mid is_last is_n = (
  ap (λ (k : ℕ). take k last) is_n ∙ ap (take (max len (at + length bytes))) same ∙ now_written all len at bytes within room,
  let e : length last ≡ length all = ap length same ∙ size_now all len at bytes within room in grind (arith, e, is_n, within, room),
)
  where
    same : last ≡ now all len at bytes within room
    same = is_last ∙ ap (λ (m : List ℕ). take at m ++ (bytes ++ drop (at + length bytes) m)) (is_mid ∙ ap (λ (k : ℕ). take k all ++ (replicate (at - k) 0 ++ drop at all)) is_low)
