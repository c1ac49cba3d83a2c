-- The bytes beside an ack are those of the list of taken indexes.
use Rattle.std.proofs.Common.{◌≡◌, ℕ, ◌+◌, ◌*◌, ◌/◌, ◌%◌, ◌<◌, List, [], ◌∷◌, refl, ◌∙◌, ap, arith, lit<}
use Rattle.std.specs.Prelude.{slice_index}
use Rattle.std.specs.Int.{bit_at}
use Rattle.std.proofs.lemmas.Nat.Bits.{bit_at-suc, bit_at_lowest}
use Rattle.dasp_msg.specs.Acks.{SaysMore}
use Rattle.dasp_session.specs.Letters.{taken_above, byte_above}

-- a byte is the sum of its bits
byte-bits : (b : ℕ) → b < 256
    → b ≡ bit_at b 0 + 2 * bit_at b 1 + 4 * bit_at b 2 + 8 * bit_at b 3 + 16 * bit_at b 4 + 32 * bit_at b 5 + 64 * bit_at b 6 + 128 * bit_at b 7
byte-bits b small =
    let b1 : ℕ = b / 2 in
    let b2 : ℕ = b1 / 2 in
    let b3 : ℕ = b2 / 2 in
    let b4 : ℕ = b3 / 2 in
    let b5 : ℕ = b4 / 2 in
    let b6 : ℕ = b5 / 2 in
    let b7 : ℕ = b6 / 2 in
    let e0 : bit_at b 0 ≡ b % 2 = bit_at_lowest b in
    let e1 : bit_at b 1 ≡ b1 % 2 = bit_at-suc b 0 ∙ bit_at_lowest b1 in
    let e2 : bit_at b 2 ≡ b2 % 2 = bit_at-suc b 1 ∙ bit_at-suc b1 0 ∙ bit_at_lowest b2 in
    let e3 : bit_at b 3 ≡ b3 % 2 = bit_at-suc b 2 ∙ bit_at-suc b1 1 ∙ bit_at-suc b2 0 ∙ bit_at_lowest b3 in
    let e4 : bit_at b 4 ≡ b4 % 2 = bit_at-suc b 3 ∙ bit_at-suc b1 2 ∙ bit_at-suc b2 1 ∙ bit_at-suc b3 0 ∙ bit_at_lowest b4 in
    let e5 : bit_at b 5 ≡ b5 % 2 = bit_at-suc b 4 ∙ bit_at-suc b1 3 ∙ bit_at-suc b2 2 ∙ bit_at-suc b3 1 ∙ bit_at-suc b4 0 ∙ bit_at_lowest b5 in
    let e6 : bit_at b 6 ≡ b6 % 2 = bit_at-suc b 5 ∙ bit_at-suc b1 4 ∙ bit_at-suc b2 3 ∙ bit_at-suc b3 2 ∙ bit_at-suc b4 1 ∙ bit_at-suc b5 0 ∙ bit_at_lowest b6 in
    let e7 : bit_at b 7 ≡ b7 % 2 = bit_at-suc b 6 ∙ bit_at-suc b1 5 ∙ bit_at-suc b2 4 ∙ bit_at-suc b3 3 ∙ bit_at-suc b4 2 ∙ bit_at-suc b5 1 ∙ bit_at-suc b6 0 ∙ bit_at_lowest b7 in
    sums b b1 b2 b3 b4 b5 b6 b7 _ _ _ _ _ _ _ _ refl refl refl refl refl refl refl e0 e1 e2 e3 e4 e5 e6 e7 small
  where
    sums : (b b1 b2 b3 b4 b5 b6 b7 d0 d1 d2 d3 d4 d5 d6 d7 : ℕ)
        → b1 ≡ b / 2 → b2 ≡ b1 / 2 → b3 ≡ b2 / 2 → b4 ≡ b3 / 2 → b5 ≡ b4 / 2 → b6 ≡ b5 / 2 → b7 ≡ b6 / 2
        → d0 ≡ b % 2 → d1 ≡ b1 % 2 → d2 ≡ b2 % 2 → d3 ≡ b3 % 2 → d4 ≡ b4 % 2 → d5 ≡ b5 % 2 → d6 ≡ b6 % 2 → d7 ≡ b7 % 2 → b < 256
        → b ≡ d0 + 2 * d1 + 4 * d2 + 8 * d3 + 16 * d4 + 32 * d5 + 64 * d6 + 128 * d7
    sums b b1 b2 b3 b4 b5 b6 b7 d0 d1 d2 d3 d4 d5 d6 d7 h1 h2 h3 h4 h5 h6 h7 g0 g1 g2 g3 g4 g5 g6 g7 small = omega arith

-- eight bits that are those of the indexes from a place on
byte-above : (taken : List ℕ) (b place : ℕ) → b < 256
    → bit_at b 0 ≡ taken_above taken place → bit_at b 1 ≡ taken_above taken (place + 1) → bit_at b 2 ≡ taken_above taken (place + 2)
    → bit_at b 3 ≡ taken_above taken (place + 3) → bit_at b 4 ≡ taken_above taken (place + 4) → bit_at b 5 ≡ taken_above taken (place + 5)
    → bit_at b 6 ≡ taken_above taken (place + 6) → bit_at b 7 ≡ taken_above taken (place + 7) → b ≡ byte_above taken place
byte-above taken b place small e0 e1 e2 e3 e4 e5 e6 e7 = byte-bits b small ∙ omega arith

pub bytes-above : (taken bytes : List ℕ) → SaysMore taken bytes → ((i : ℕ) → slice_index bytes i < 256)
    → bytes ≡ byte_above taken 0 ∷ byte_above taken 8 ∷ byte_above taken 16 ∷ byte_above taken 24 ∷ []
bytes-above taken [] says low = (let four : 0 ≡ 4 = says.four in absurd (cc))
bytes-above taken (a ∷ []) says low = absurd (omega (arith, says.four))
bytes-above taken (a ∷ b ∷ []) says low = absurd (omega (arith, says.four))
bytes-above taken (a ∷ b ∷ c ∷ []) says low = absurd (omega (arith, says.four))
bytes-above taken (a ∷ b ∷ c ∷ d ∷ []) says low =
    let bit = says.bits in
    let of_a : a ≡ byte_above taken 0 = byte-above taken a 0 (low 0) (bit 0 (lit< tt)) (bit 1 (lit< tt)) (bit 2 (lit< tt)) (bit 3 (lit< tt)) (bit 4 (lit< tt)) (bit 5 (lit< tt)) (bit 6 (lit< tt)) (bit 7 (lit< tt)) in
    let of_b : b ≡ byte_above taken 8 = byte-above taken b 8 (low 1) (bit 8 (lit< tt)) (bit 9 (lit< tt)) (bit 10 (lit< tt)) (bit 11 (lit< tt)) (bit 12 (lit< tt)) (bit 13 (lit< tt)) (bit 14 (lit< tt)) (bit 15 (lit< tt)) in
    let of_c : c ≡ byte_above taken 16 = byte-above taken c 16 (low 2) (bit 16 (lit< tt)) (bit 17 (lit< tt)) (bit 18 (lit< tt)) (bit 19 (lit< tt)) (bit 20 (lit< tt)) (bit 21 (lit< tt)) (bit 22 (lit< tt)) (bit 23 (lit< tt)) in
    let of_d : d ≡ byte_above taken 24 = byte-above taken d 24 (low 3) (bit 24 (lit< tt)) (bit 25 (lit< tt)) (bit 26 (lit< tt)) (bit 27 (lit< tt)) (bit 28 (lit< tt)) (bit 29 (lit< tt)) (bit 30 (lit< tt)) (bit 31 (lit< tt)) in
    ap (λ (x : ℕ). x ∷ b ∷ c ∷ d ∷ []) of_a ∙ ap (λ (x : ℕ). byte_above taken 0 ∷ x ∷ c ∷ d ∷ []) of_b
    ∙ ap (λ (x : ℕ). byte_above taken 0 ∷ byte_above taken 8 ∷ x ∷ d ∷ []) of_c
    ∙ ap (λ (x : ℕ). byte_above taken 0 ∷ byte_above taken 8 ∷ byte_above taken 16 ∷ x ∷ []) of_d
bytes-above taken (a ∷ b ∷ c ∷ d ∷ e ∷ more) says low = absurd (omega (arith, says.four))
