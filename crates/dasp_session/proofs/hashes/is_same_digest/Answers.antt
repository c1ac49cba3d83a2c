use Rattle.std.proofs.Common.{◌≡◌, ℕ, List, get_or, ◌∙◌, ap, arith, below_more, eqb-true, eq-eqb}
use Rattle.std.specs.Int.Bits.{bit_or, bit_xor, or_zero_l, xor_self}
use Rattle.std.proofs.lemmas.List.{ext_get_or}
use Rattle.dasp_session.proofs.BitLemmas.{or-zero, xor-zero}
use Rattle.dasp_session.proofs.hashes.is_same_digest.Goals as goal

pub loop-place-preserved : goal.loop-place-preserved
loop-place-preserved c =
    let wanted : List ℕ = c.args.wanted.now in
    let shown : List ℕ = c.args.shown.now in
    let place : ℕ = c.loop-place.place in
    let differing : ℕ = c.loop-place.differing in (
      λ none.
          let parts = or-zero differing (bit_xor (get_or wanted place 0) (get_or shown place 0)) none in
          below_more (λ (k : ℕ). get_or wanted k 0 ≡ get_or shown k 0) place (c.loop-place.invariant.0 parts.0)
          (xor-zero (get_or wanted place 0) (get_or shown place 0) parts.1),
      λ all.
          let so_far : differing ≡ 0 = c.loop-place.invariant.1 (λ k below. all k (omega arith)) in
          let here : get_or wanted place 0 ≡ get_or shown place 0 = all place (omega arith) in
          ap (λ (n : ℕ). bit_or n (bit_xor (get_or wanted place 0) (get_or shown place 0))) so_far
          ∙ or_zero_l (bit_xor (get_or wanted place 0) (get_or shown place 0))
          ∙ ap (λ (n : ℕ). bit_xor n (get_or shown place 0)) here ∙ xor_self (get_or shown place 0),
    )

pub returns : goal.returns
returns c = (
  λ none.
      ext_get_or 0 c.args.wanted.now c.args.shown.now (omega arith)
      (λ i within. c.loop-place.invariant.0 (eqb-true c.loop-place.differing 0 none) i (omega arith)),
  λ same.
      eq-eqb c.loop-place.differing 0
      (c.loop-place.invariant.1 (λ k below. ap (λ (xs : List ℕ). get_or xs k 0) same)),
)
