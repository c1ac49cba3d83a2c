-- A receiver has a bit set exactly where an index above the first gap was taken.
use Rattle.std.proofs.Common.{◌≡◌, ℕ, ◌+◌, ◌-◌, ◌^◌, ◌<◌, true, false, not, eqb, ltb, List, [], ◌∷◌, refl, sym, ◌∙◌, ap, subst, inl, inr, arith, w32}
use Rattle.std.specs.List.{list_any}
use Rattle.std.specs.Int.{bit_at, trailing_zeros}
use Rattle.std.proofs.lemmas.Bool.{cases_Bool, or_cases, or_left, or_right, ltb-true, lt-ltb, eqb-true, eq-eqb, both_ways, ne_eqb, cases_eq}
use Rattle.std.proofs.lemmas.Nat.Bits.{bit_at-zero, bit_at-trailing_zeros}
use Rattle.dasp_msg.specs.Acks.{digit}
use Rattle.dasp_msg.specs.Receiving.{GapBits, ReceivesLike}
use Rattle.dasp_msg.specs.TakenIndexes.{is_taken, first_gap, is_ahead}
use Rattle.dasp_msg.proofs.ReceiverLemmas.{digit-one}
use Rattle.dasp_msg.proofs.TakenLemmas.{gap_from-free}

-- an index of the list that lies above another
pub record Above (gap : ℕ) (taken : List ℕ) : Type 0 where
  pub index : ℕ
  pub above : gap < index
  pub there : is_taken taken index ≡ true

pub above_of : (gap : ℕ) (taken : List ℕ) → list_any (λ index. ltb gap index) taken ≡ true → Above gap taken
above_of gap [] any = absurd (cc)
above_of gap (first ∷ later) any =
    elim (or_cases (ltb gap first) (list_any (λ index. ltb gap index) later) any) [
      | inl here ↦ record { index = first; above = ltb-true gap first here; there = or_left (eqb first first) (is_taken later first) (eq-eqb first first refl) }
      | inr there ↦
          let rest : Above gap later = above_of gap later there in
          record { index = rest.index; above = rest.above; there = or_right (eqb first rest.index) (is_taken later rest.index) rest.there }
    ]

pub any_above : (gap index : ℕ) (taken : List ℕ) → gap < index → is_taken taken index ≡ true → list_any (λ index. ltb gap index) taken ≡ true
any_above gap index [] above there = absurd (cc)
any_above gap index (first ∷ later) above there =
    elim (or_cases (eqb first index) (is_taken later index) there) [
      | inl here ↦ or_left (ltb gap first) (list_any (λ index. ltb gap index) later) (lt-ltb gap first (let e : first ≡ index = eqb-true first index here in omega arith))
      | inr behind ↦ or_right (ltb gap first) (list_any (λ index. ltb gap index) later) (any_above gap index later above behind)
    ]

ahead-bit : (kept : GapBits) (taken : List ℕ) → ReceivesLike kept taken → 0 < kept.bits → kept.bits < 2 ^ 31 → is_ahead taken ≡ true
ahead-bit kept taken like some low =
    let zeros = bit_at-trailing_zeros w32 kept.bits some (omega arith) in
    let place : ℕ = trailing_zeros w32 kept.bits in
    let there : is_taken taken (first_gap taken + place) ≡ true = digit-one _ (sym (like.bits place) ∙ zeros.1) in
    elim (cases_eq place 0) [
      | inl none ↦
          let at : first_gap taken + place ≡ first_gap taken = omega arith in
          absurd (both_ways (is_taken taken (first_gap taken)) (gap_from-free 0 taken like.list.ascends) (subst (λ (n : ℕ). is_taken taken n ≡ true) at there))
      | inr over ↦ any_above (first_gap taken) (first_gap taken + place) taken (let n : 0 < place = omega arith in omega arith) there
    ]

bit-ahead : (kept : GapBits) (taken : List ℕ) → ReceivesLike kept taken → kept.bits ≡ 0 → is_ahead taken ≡ true → ⊥
bit-ahead kept taken like none ahead =
    let it : Above (first_gap taken) taken = above_of (first_gap taken) taken ahead in
    let place : ℕ = it.index - first_gap taken in
    let at : first_gap taken + place ≡ it.index = (let above : first_gap taken < it.index = it.above in omega arith) in
    let one : bit_at kept.bits place ≡ 1 = like.bits place ∙ ap digit (ap (is_taken taken) at ∙ it.there) in
    let zero_here : bit_at kept.bits place ≡ 0 = ap (λ (n : ℕ). bit_at n place) none ∙ bit_at-zero place in
    absurd (omega arith)

pub is_ahead-bits : (kept : GapBits) (taken : List ℕ) → ReceivesLike kept taken → kept.bits < 2 ^ 31 → not (eqb kept.bits 0) ≡ is_ahead taken
is_ahead-bits kept taken like low =
    elim (cases_eq kept.bits 0) [
      | inl none ↦
          let test : not (eqb kept.bits 0) ≡ false = ap not (eq-eqb kept.bits 0 none) in
          elim (cases_Bool (is_ahead taken)) [
            | inl ahead ↦ absurd (bit-ahead kept taken like none ahead)
            | inr level ↦ test ∙ sym level
          ]
      | inr some ↦
          let test : not (eqb kept.bits 0) ≡ true = ap not (ne_eqb kept.bits 0 some) in
          test ∙ sym (ahead-bit kept taken like (omega arith) low)
    ]
