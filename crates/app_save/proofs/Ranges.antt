-- Ranges that were written: one in another, one behind another, and what stands in them.
use Rattle.std.proofs.Common.{◌≡◌, ◌⊎◌, inl, inr, ◌+◌, ◌-◌, ◌<◌, ◌≤◌, ◌++◌, ℕ, List, length, drop, get_or, replicate, IsTrue, refl, sym, ◌∙◌, ap, arith, length-append}
use Rattle.std.proofs.lemmas.Bool.{cases_lt}
use Rattle.std.proofs.lemmas.List.{ext_get_or, get_or_append_left, get_or-append_right, drop-replicate}
use Rattle.disk_model.specs.Disk.{Image, Meaning, Elapses, During, Torn, IsTorn, Holds}
use Rattle.disk_model.specs.Written.{written, length-written, before_written, at_written, behind_written}
use Rattle.app_save.proofs.Moments.{then_during, at_end, now_alone, torn_self}

-- a range in a wider one
pub wider : (at n from many : ℕ) (d c : Image) → from ≤ at → at + n ≤ from + many → Torn at n d c → Torn from many d c
wider at n from many d c low high torn = record {
  same = λ i out small. torn.same i (elim out [ inl before ↦ inl (omega (arith, before, low)) | inr behind ↦ inr (omega (arith, behind, high)) ]) small;
  no_shorter = torn.no_shorter;
  no_longer = let long = torn.no_longer in grind (arith, long, high);
}

-- a range that was written twice
pub twice : (at n : ℕ) (d e c : Image) → Torn at n d e → Torn at n e c → Torn at n d c
twice at n d e c one two = record {
  same = λ i out small. two.same i out (let le = one.no_shorter in omega (arith, small, le)) ∙ one.same i out small;
  no_shorter = let a = one.no_shorter in let b = two.no_shorter in omega (arith, a, b);
  no_longer = let a = one.no_longer in let b = two.no_longer in grind (arith, a, b);
}

-- the same of what a crash may leave
pub during_wider : (at n from many : ℕ) (a b : Meaning) → from ≤ at → at + n ≤ from + many → During a b (IsTorn at n a) → During a b (IsTorn from many a)
during_wider at n from many a b low high during u i start end left = let was = during u i start end left in (was.0, was.1, wider at n from many was.0 i low high was.2)

pub during_none : (at n : ℕ) (a : Meaning) → During a a (IsTorn at n a)
during_none at n a u i start end left = (i, now_alone a u i start end left, torn_self at n i)

pub then_range : (at n : ℕ) (a b c : Meaning) → IsTrue a.tells → Elapses a b → Elapses b c → During a b (IsTorn at n a) → During b c (IsTorn at n b) → During a c (IsTorn at n a)
then_range at n a b c told one two first second = then_during a b c (IsTorn at n a) told one two first
    (λ u i start end left.
    let was = second u i start end left in
    let begun = at_end a b (IsTorn at n a) one first was.0 was.1 in
    (begun.0, begun.1, twice at n begun.0 was.0 i begun.2 was.2))

-- a gate, and all that a save writes behind it
pub of_gate : (gate : ℕ) (payload : List ℕ) (a b : Meaning) → During a b (IsTorn gate 1 a) → During a b (IsTorn gate (6 + length payload) a)
of_gate gate payload a b = during_wider gate 1 gate (6 + length payload) a b (omega arith) (omega arith)

pub gate_and_behind : (gate : ℕ) (payload : List ℕ) (a b c : Meaning) → IsTrue a.tells → Elapses a b → Elapses b c → During a b (IsTorn gate 1 a) → During b c (IsTorn (gate + 1) (5 + length payload) b) → During a c (IsTorn gate (6 + length payload) a)
gate_and_behind gate payload a b c told one two first second = then_range gate (6 + length payload) a b c told one two (of_gate gate payload a b first)
    (during_wider (gate + 1) (5 + length payload) gate (6 + length payload) b c (omega arith) (omega arith) second)

-- bytes behind bytes
pub holds_both : (at mid : ℕ) (a b : List ℕ) (c : Image) → mid ≡ at + length a → Holds at a c → Holds mid b c → Holds at (a ++ b) c
holds_both at mid a b c is first second = record {
  room = let r = second.room in let l = length-append a b in omega (arith, r, l, is);
  bytes_are = λ i small. elim (cases_lt i (length a)) [
    | inl low ↦ first.bytes_are i low ∙ sym (get_or_append_left a b 0 i low)
    | inr from ↦
        ap (λ (k : ℕ). get_or c k 0) (let e : at + i ≡ mid + (i - length a) = omega (arith, from, is) in e)
        ∙ second.bytes_are (i - length a) (let l = length-append a b in omega (arith, small, l, from)) ∙ sym (get_or-append_right a b (length a) i 0 refl from)
  ];
}

-- bytes that a write leaves
pub holds_still : (at : ℕ) (bytes : List ℕ) (from n : ℕ) (d c : Image) → Holds at bytes d → Torn from n d c → (at + length bytes ≤ from) ⊎ (from + n ≤ at) → Holds at bytes c
holds_still at bytes from n d c holds torn out = record {
  room = let r = holds.room in let t = torn.no_shorter in omega (arith, r, t);
  bytes_are = λ i small.
      torn.same (at + i) (elim out [ inl low ↦ inl (omega (arith, low, small)) | inr high ↦ inr (omega (arith, high)) ]) (let r = holds.room in omega (arith, r, small))
      ∙ holds.bytes_are i small;
}

-- a range that holds these bytes was written with them
pub is_written : (at n : ℕ) (bytes : List ℕ) (d c : Image) → length bytes ≡ n → at + n ≤ length d → Torn at n d c → Holds at bytes c → c ≡ written d at bytes
is_written at n bytes d c size room torn holds = ext_get_or 0 c (written d at bytes) same_size (λ i small. elim (cases_lt i at) [
  | inl low ↦ torn.same i (inl low) (omega (arith, small, long)) ∙ sym (before_written d at bytes i low)
  | inr from ↦ elim (cases_lt i (at + n)) [
    | inl inside ↦
        let e : i ≡ at + (i - at) = omega (arith, from) in
        let k : i - at < length bytes = omega (arith, from, inside, size) in
        ap (λ (j : ℕ). get_or c j 0) e ∙ holds.bytes_are (i - at) k ∙ sym (at_written d at bytes (i - at) k) ∙ ap (λ (j : ℕ). get_or (written d at bytes) j 0) (sym e)
    | inr behind ↦ torn.same i (inr behind) (omega (arith, small, long)) ∙ sym (behind_written d at bytes i (omega (arith, behind, size)))
  ]
])
  where
    long : length c ≡ length d
    long = let a = torn.no_shorter in let b = torn.no_longer in grind (arith, a, b, room)

    same_size : length c ≡ length (written d at bytes)
    same_size = let l = length-written d at bytes in omega (arith, long, l, size, room)

-- bytes at the beginning of zeros
pub over_zeros : (m : ℕ) (bytes : List ℕ) → written (replicate m 0) 0 bytes ≡ bytes ++ replicate (m - length bytes) 0
over_zeros m bytes =
    ap (λ (n : ℕ). bytes ++ drop n (replicate m 0)) (let e : 0 + length bytes ≡ length bytes = omega arith in e)
    ∙ ap (λ (l : List ℕ). bytes ++ l) (drop-replicate (length bytes) m 0)
