-- A file in which bytes were written.
use Rattle.std.specs.Prelude.{◌≡◌, ◌+◌, ◌-◌, ◌<◌, ◌≤◌, ◌++◌, ℕ, List, length, take, drop, replicate, refl}
use Rattle.std.proofs.Common.{inl, inr, sym, ◌∙◌, ap, arith, get_or, get_or-take, get_or-drop, length-append}
use Rattle.std.proofs.Common.{length-drop}
use Rattle.std.proofs.lemmas.Bool.{cases_lt}
use Rattle.std.proofs.lemmas.List.{get_or_append_left, get_or-append_right, get_or_past, get_or-replicate}
use Rattle.std.proofs.lemmas.List.{length-take-le, length-replicate}
use Rattle.disk_model.specs.Disk.{Image, Torn, Holds}

-- The file with these bytes at this place. A gap behind its end is filled with zeros.
abbrev pub written : Image → ℕ → List ℕ → Image
written old at bytes = take at (old ++ replicate (at - length old) 0) ++ (bytes ++ drop (at + length bytes) old)

module _ (old : Image) (at : ℕ) (b : List ℕ) where
  front : List ℕ
  front = take at (old ++ replicate (at - length old) 0)

  length-front : length (take at (old ++ replicate (at - length old) 0)) ≡ at
  length-front = length-take-le at (old ++ replicate (at - length old) 0) (let a =
      length-append old (replicate (at - length old) 0) in let r =
      length-replicate {A = ℕ} (at - length old) 0 in omega (arith, a, r))

  pub length-written : length (written old at b) ≡ at + (length b + (length old - (at + length b)))
  length-written =
      let whole = length-append (take at (old ++ replicate (at - length old) 0)) (b ++ drop (at + length b) old) in
      let back = length-append b (drop (at + length b) old) in
      let rest = length-drop (at + length b) old in
      omega (arith, whole, back, rest, length-front)

  zeros_behind : (i : ℕ) → get_or (old ++ replicate (at - length old) 0) i 0 ≡ get_or old i 0
  zeros_behind i = elim (cases_lt i (length old)) [
    | inl inside ↦ get_or_append_left old (replicate (at - length old) 0) 0 i inside
    | inr behind ↦ get_or-append_right old (replicate (at - length old) 0)
        (length old) i 0 refl behind ∙ zero_at (i - length old) ∙ sym (get_or_past old i 0 behind)
  ]
    where
      zero_at : (k : ℕ) → get_or {A = ℕ} (replicate (at - length old) 0) k 0 ≡ 0
      zero_at k = elim (cases_lt k (at - length old)) [
        | inl inside ↦ get_or-replicate (at - length old) k 0 0 inside
        | inr behind ↦ get_or_past (replicate (at - length old) 0) k 0 (let r =
            length-replicate {A = ℕ} (at - length old) 0 in omega (arith, r, behind))
      ]

  pub before_written : (i : ℕ) → i < at → get_or (written old at b) i 0 ≡ get_or old i 0
  before_written i low =
      get_or_append_left (take at (old ++ replicate (at - length old) 0))
      (b ++ drop (at + length b) old) 0 i (omega (arith, length-front, low))
      ∙ get_or-take at (old ++ replicate (at - length old) 0) i 0 low ∙ zeros_behind i

  pub at_written : (i : ℕ) → i < length b → get_or (written old at b) (at + i) 0 ≡ get_or b i 0
  at_written i small =
      get_or-append_right (take at (old ++ replicate (at - length old) 0))
      (b ++ drop (at + length b) old) at (at + i) 0 length-front (omega arith)
      ∙ ap (λ (n : ℕ). get_or (b ++ drop (at + length b) old) n 0) (let e : at + i - at ≡ i = omega arith in e)
      ∙ get_or_append_left b (drop (at + length b) old) 0 i small

  pub behind_written : (i : ℕ) → at + length b ≤ i → get_or (written old at b) i 0 ≡ get_or old i 0
  behind_written i high =
      get_or-append_right (take at (old ++ replicate (at - length old) 0))
      (b ++ drop (at + length b) old) at i 0 length-front (omega (arith, high))
      ∙ get_or-append_right b (drop (at + length b) old) (length b) (i - at) 0 refl (omega (arith, high))
      ∙ get_or-drop (at + length b) old (i - at - length b) 0
      ∙ ap (λ (n : ℕ). get_or old n 0) (let e : at + length b + (i - at - length b) ≡ i = omega (arith, high) in e)

  pub torn_written : (n : ℕ) → length b ≡ n → Torn at n old (written old at b)
  torn_written n size = record {
    same = λ i out small. elim out [
      | inl low ↦ before_written i low
      | inr high ↦
          behind_written i (omega (arith, high, size))
    ];
    no_shorter = omega (arith, length-written);
    no_longer = grind (arith, length-written, size);
  }

  pub holds_written : Holds at b (written old at b)
  holds_written = record { room = omega (arith, length-written); bytes_are = at_written }
