-- A specification has one record.
use Rattle.std.proofs.Common.{◌≡◌, ℕ, List, [], ◌∷◌, refl, sym, subst, ◌∙◌, ap}
use Rattle.dasp_msg.specs.Sending.{header_of, sent_fields}
use Rattle.dasp_msg.proofs.SendingLemmas.{datagram-one}
use Rattle.sed_outside.specs.declared.addr.Addr.{Addr}
use Rattle.replay_log.specs.declared.gen_spec.GenSpec.{GenSpec}
use Rattle.replay_log.specs.Entry.{Entry, datagram, tick}
use Rattle.replay_log.specs.Generated.{IsGenerated, steps}
use Rattle.replay_log.specs.Record.{IsRecord}
use Rattle.replay_log.specs.Step.{AreLeft, Leaves, Step, sends, ticks}
use Rattle.replay_log.proofs.RecordLemmas.{one_record_text}

-- a step leaves one entry
one_left : (step : Step) (a b : Entry) → Leaves step a → Leaves step b → a ≡ b
one_left (sends who message) (datagram p s) (datagram q t) of_a of_b =
    let bytes : s ≡ t =
    datagram-one (header_of message) (sent_fields message.kind message) message.payload s t of_a.1 of_b.1 in
    ap (λ (x : Addr). datagram x s) (of_a.0 ∙ sym of_b.0) ∙ ap (λ (u : List ℕ). datagram q u) bytes
one_left (sends who message) (datagram p s) (tick n) of_a of_b = absurd of_b
one_left (sends who message) (tick m) b of_a of_b = absurd of_a
one_left (ticks moment) (datagram p s) b of_a of_b = absurd of_a
one_left (ticks moment) (tick m) (datagram q t) of_a of_b = absurd of_b
one_left (ticks moment) (tick m) (tick n) of_a of_b = ap tick (of_a ∙ sym of_b)

-- so steps leave one list of entries
all_left : (all : List Step) (es fs : List Entry) → AreLeft all es → AreLeft all fs → es ≡ fs
all_left [] [] [] first second = refl
all_left [] [] (f ∷ fs) first second = absurd second
all_left [] (e ∷ es) fs first second = absurd first
all_left (step ∷ others) [] fs first second = absurd first
all_left (step ∷ others) (e ∷ es) [] first second = absurd second
all_left (step ∷ others) (e ∷ es) (f ∷ fs) first second =
    ap (λ (x : Entry). x ∷ es) (one_left step e f first.0 second.0)
    ∙ ap (λ (xs : List Entry). f ∷ xs) (all_left others es fs first.1 second.1)

pub one_generated : (spec : GenSpec) (a b : List ℕ) → IsGenerated spec a → IsGenerated spec b → a ≡ b
one_generated spec a b of_a of_b =
    let same = all_left (steps spec) of_a.entries of_b.entries of_a.left of_b.left in
    one_record_text a b of_b.entries (subst (IsRecord a) same of_a.whole) of_b.whole
