-- The bytes of a store while it is made.
use Rattle.std.proofs.Common.{◌≡◌, ◌⊎◌, inl, inr, ◌+◌, ◌*◌, ◌-◌, ◌<◌, ◌≤◌, ◌++◌, ◌∷◌, [], ℕ, List, length, get_or, replicate, refl, sym, ◌∙◌, ap, subst, arith, length-append}
use Rattle.std.proofs.lemmas.Bool.{cases_eq}
use Rattle.std.proofs.lemmas.List.{ext_get_or, get_or-replicate, get_or_past, length-replicate}
use Rattle.std.proofs.lemmas.Bool.{cases_lt}
use Rattle.disk_model.specs.Disk.{Image, Torn, Holds}
use Rattle.app_save.specs.Store.{IsOpen, IsStore}
use Rattle.app_save.specs.Bytes.{header_bytes, slot_bytes}
use Rattle.app_save.specs.Making.{IsBlank, store_behind, made_store, NewOrNone}
use Rattle.app_save.proofs.Ranges.{wider, twice, holds_both, holds_still, is_written, over_zeros}

zero_at : (n i : ℕ) → get_or {A = ℕ} (replicate n 0) i 0 ≡ 0
zero_at n i = elim (cases_lt i n) [
  | inl small ↦ get_or-replicate n i 0 0 small
  | inr past ↦ get_or_past (replicate n 0) i 0 (let size = length-replicate {A = ℕ} n 0 in omega (arith, past, size))
]

pub blank_is : (n : ℕ) (c : Image) → IsBlank n c → c ≡ replicate n 0
blank_is n c blank = ext_get_or 0 c (replicate n 0) (blank.size ∙ sym (length-replicate {A = ℕ} n 0)) (λ i small. blank.zeros i ∙ sym (zero_at n i))

-- a file of which no gate is open
pub shut_is_none : (S : ℕ) (c : Image) → length c ≡ 2 * (S + 6) → (IsOpen c 0 → ⊥) → (IsOpen c (S + 6) → ⊥) → (T : ℕ) → IsStore T c → ⊥
shut_is_none S c size first second T store = elim store.some_open [
  | inl is ↦ first is
  | inr is ↦ second (subst (λ (n : ℕ). IsOpen c n) (let s = store.size in let e : T + 6 ≡ S + 6 = omega (arith, s, size) in e) is)
]

module _ (S : ℕ) (payload : List ℕ) (fits : length payload ≤ S) where
  size_blank : length {A = ℕ} (replicate (2 * (S + 6)) 0) ≡ 2 * (S + 6)
  size_blank = length-replicate {A = ℕ} (2 * (S + 6)) 0

  -- zeros but for what stands behind the first gate
  abbrev Behind : Image → Type 0
  Behind c = Torn 1 (5 + length payload) (replicate (2 * (S + 6)) 0) c

  size_behind : (c : Image) → Torn 1 (5 + length payload) (replicate (2 * (S + 6)) 0) c → length c ≡ 2 * (S + 6)
  size_behind c behind = let a = behind.no_shorter in let b = behind.no_longer in grind (arith, a, b, size_blank, fits)

  zero_behind : (c : Image) → Torn 1 (5 + length payload) (replicate (2 * (S + 6)) 0) c → (i : ℕ) → (i < 1) ⊎ (1 + (5 + length payload) ≤ i) → i < 2 * (S + 6) → get_or c i 0 ≡ 0
  zero_behind c behind i out small = behind.same i out (omega (arith, small, size_blank)) ∙ zero_at (2 * (S + 6)) i

  pub behind_is_none : (c : Image) → Torn 1 (5 + length payload) (replicate (2 * (S + 6)) 0) c → NewOrNone S payload c
  behind_is_none c behind = inr (shut_is_none S c (size_behind c behind)
      (λ is. let zero = zero_behind c behind 0 (inl (omega arith)) (omega arith) in omega (arith, is, zero))
      (λ is. let zero = zero_behind c behind (S + 6) (inr (omega (arith, fits))) (omega arith) in omega (arith, is, zero)))

  -- and then behind this gate
  abbrev bytes : ℕ → List ℕ
  bytes gate = slot_bytes gate 0 payload

  size_bytes : (gate : ℕ) → length (slot_bytes gate 0 payload) ≡ 6 + length payload
  size_bytes gate = let l = length-append (header_bytes 0 (length payload)) payload in omega (arith, l)

  pub stands_behind : (gate : ℕ) (c : Image) → Torn 0 (6 + length payload) (replicate (2 * (S + 6)) 0) c → Holds 0 (gate ∷ []) c → Holds 1 (header_bytes 0 (length payload) ++ payload) c → c ≡ store_behind gate S payload
  unfolding store_behind
  stands_behind gate c torn first rest =
      is_written 0 (6 + length payload) (slot_bytes gate 0 payload) (replicate (2 * (S + 6)) 0) c (size_bytes gate) (omega (arith, size_blank, fits)) torn
      (holds_both 0 1 (gate ∷ []) (header_bytes 0 (length payload) ++ payload) c refl first rest)
      ∙ over_zeros (2 * (S + 6)) (slot_bytes gate 0 payload)
      ∙ ap (λ (n : ℕ). slot_bytes gate 0 payload ++ replicate (2 * (S + 6) - n) 0) (size_bytes gate)

  module _ (b c : Image) (torn_b : Torn 1 5 (replicate (2 * (S + 6)) 0) b) (holds_b : Holds 1 (header_bytes 0 (length payload)) b) (torn_c : Torn 6 (length payload) b c) (holds_c : Holds 6 payload c) where
    pub behind_both : Torn 1 (5 + length payload) (replicate (2 * (S + 6)) 0) c
    behind_both = twice 1 (5 + length payload) (replicate (2 * (S + 6)) 0) b c
        (wider 1 5 1 (5 + length payload) (replicate (2 * (S + 6)) 0) b (omega arith) (omega arith) torn_b)
        (wider 6 (length payload) 1 (5 + length payload) b c (omega arith) (omega arith) torn_c)

    holds_rest : Holds 1 (header_bytes 0 (length payload) ++ payload) c
    holds_rest = holds_both 1 6 (header_bytes 0 (length payload)) payload c refl
        (holds_still 1 (header_bytes 0 (length payload)) 6 (length payload) b c holds_b torn_c (inl (omega arith))) holds_c

    torn_all : Torn 0 (6 + length payload) (replicate (2 * (S + 6)) 0) c
    torn_all = wider 1 (5 + length payload) 0 (6 + length payload) (replicate (2 * (S + 6)) 0) c (omega arith) (omega arith) behind_both

    gate_zero : Holds 0 (0 ∷ []) c
    gate_zero = record {
      room = let size = size_behind c behind_both in omega (arith, size);
      bytes_are = λ i small.
          let none : i ≡ 0 = omega (arith, small) in
          subst (λ (k : ℕ). get_or c (0 + k) 0 ≡ get_or {A = ℕ} (0 ∷ []) k 0) (sym none) (zero_behind c behind_both 0 (inl (omega arith)) (omega arith));
    }

    -- all but an open gate
    pub unopened_is : c ≡ store_behind 0 S payload
    unopened_is = stands_behind 0 c torn_all gate_zero holds_rest

    -- and with any byte for a gate
    module _ (d : Image) (torn_d : Torn 0 1 c d) where
      torn_gate : Torn 0 (6 + length payload) (replicate (2 * (S + 6)) 0) d
      torn_gate = twice 0 (6 + length payload) (replicate (2 * (S + 6)) 0) c d torn_all (wider 0 1 0 (6 + length payload) c d (omega arith) (omega arith) torn_d)

      pub opened_is : Holds 0 (0xa5 ∷ []) d → d ≡ made_store S payload
      opened_is holds = stands_behind 0xa5 d torn_gate holds
          (holds_still 1 (header_bytes 0 (length payload) ++ payload) 0 1 c d holds_rest torn_d (inr (omega arith)))

      size_gate : length d ≡ 2 * (S + 6)
      size_gate = let a = torn_d.no_shorter in let b = torn_d.no_longer in let size = size_behind c behind_both in grind (arith, a, b, size)

      pub gate_new_or_none : NewOrNone S payload d
      gate_new_or_none = elim (cases_eq (get_or d 0 0) 0xa5) [
        | inl is ↦ inl (opened_is (record {
          room = omega (arith, size_gate);
          bytes_are = λ i small.
              let none : i ≡ 0 = omega (arith, small) in
              subst (λ (k : ℕ). get_or d (0 + k) 0 ≡ get_or {A = ℕ} (0xa5 ∷ []) k 0) (sym none) is;
        }))
        | inr shut ↦ inr (shut_is_none S d size_gate shut (λ is.
            let zero = zero_behind c behind_both (S + 6) (inr (omega (arith, fits))) (omega arith) in
            let same = torn_d.same (S + 6) (inr (omega arith)) (let size = size_behind c behind_both in omega (arith, size)) in
            omega (arith, is, zero, same)))
      ]
