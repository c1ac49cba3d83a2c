use Rattle.std.proofs.Common.{◌≡◌, ◌≢◌, List, ℕ, ◌+◌, ◌*◌, ◌%◌, ◌^◌, ◌/◌, ◌<◌, true, false, sym, ◌∙◌, subst, arith, w32}
use Rattle.std.specs.Prelude.{bit_or}
use Rattle.std.specs.Int.{bit_at}
use Rattle.std.proofs.Math.Nat.{div-le_self}
use Rattle.std.proofs.lemmas.Bool.{cond-true}
use Rattle.std.proofs.lemmas.Nat.Bits.{shr_and_one, bit_at-trailing_ones}
use Rattle.dasp_msg.specs.Receiving.{GapBits, ReceivesLike}
use Rattle.dasp_msg.specs.TakenIndexes.{is_new, is_taken, first_gap, with_index}
use Rattle.dasp_msg.proofs.ReceiverLemmas.{ReceivesLike-new, is_new-ahead, bit-ahead, run_ends}
use Rattle.dasp_msg.proofs.receiver.Receiver.take_ahead.Goals as goal

pub overflow_shr-self : goal.overflow_shr-self
overflow_shr-self c =
    let bits : ℕ = bit_or c.self.inside.bits (1 * 2 ^ c.args.ahead % 2 ^ 32) in
    let small : bits < 2 ^ 31 = run_ends c.self.inside.bits c.args.ahead c.self.invariant c.requires in
    rw c.trailing_ones-run.ensures (bit_at-trailing_ones w32 bits (omega arith)).0

pub invariant_of-self : goal.invariant_of-self
invariant_of-self c =
    let bits : ℕ = bit_or c.self.inside.bits (1 * 2 ^ c.args.ahead % 2 ^ 32) in
    let small : bits < 2 ^ 31 = run_ends c.self.inside.bits c.args.ahead c.self.invariant c.requires in
    omega (arith, small, div-le_self bits (2 ^ c.trailing_ones-run.result))

pub returns-clause-after : goal.returns-clause-after
returns-clause-after c = λ taken like.
    let kept : GapBits = record { gap = c.self.inside.gap; bits = c.self.inside.bits; far = c.self.inside.far } in
    let like' : ReceivesLike kept taken = subst (λ (k : GapBits). ReceivesLike k taken) (sym c.self.view_is) like in
    let bits : ℕ = bit_or kept.bits (1 * 2 ^ c.args.ahead % 2 ^ 32) in
    let small : bits < 2 ^ 31 = run_ends kept.bits c.args.ahead c.self.invariant c.requires in
    let family : ℕ → Type 0 = λ run. (run < 32) × (bit_at bits run ≡ 0) × ((place : ℕ) → place < run → bit_at bits place ≡ 1) in
    let run : family c.trailing_ones-run.result = subst family (sym c.trailing_ones-run.ensures) (bit_at-trailing_ones w32 bits (omega arith)) in
    let other : bit_at kept.bits c.args.ahead ≢ 1 = λ is. c.if-self-ahead-eq1.false (shr_and_one kept.bits c.args.ahead ∙ is) in
    let fresh : is_taken taken (first_gap taken + c.args.ahead) ≡ false = bit-ahead kept taken c.args.ahead like' other in
    let new : is_new taken (first_gap taken + c.args.ahead) ≡ true = is_new-ahead taken c.args.ahead c.requires fresh in
    subst (λ (list : List ℕ). ReceivesLike (record { gap = (kept.gap + c.trailing_ones-run.result) % 65536; bits = bits / 2 ^ c.trailing_ones-run.result; far = c.has_come_far-self-inside.result }) list)
    (sym (cond-true (is_new taken (first_gap taken + c.args.ahead)) (with_index (first_gap taken + c.args.ahead) taken) taken new))
    (ReceivesLike-new kept taken c.args.ahead c.trailing_ones-run.result c.has_come_far-self-inside.result like' c.requires fresh run.0 run.1 run.2 c.has_come_far-self-inside.ensures)
