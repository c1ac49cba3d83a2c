-- The entries of a generated record are put.
use Rattle.std.proofs.Common.{◌≡◌, ℕ, ◌<◌, ◌≤◌, ℤ, true, IsTrue, FitsSigned, List, [], ◌∷◌, ◌++◌, length, take, refl, sym, subst, ◌∙◌, ap, arith, append_assoc}
use Rattle.std.specs.Int.{w64, bytes_high_first, byte_len, cast_unsigned}
use Rattle.sed_wire.proofs.NumberLemmas.{written_spells, written_spells_signed}
use Rattle.sed_wire.proofs.WritingLemmas.{puts-fit, puts-taken}
use Rattle.dasp_msg.specs.Sending.{IsSentAs}
use Rattle.dasp_msg.specs.Shown.{Message}
use Rattle.dasp_msg.specs.Writing.{Puts}
use Rattle.replay_log.specs.Entry.{datagram, tick}
use Rattle.replay_log.specs.declared.session.Session.{Session}
use Rattle.replay_log.specs.declared.session.Session.TheVariants.{A, B}
use Rattle.replay_log.specs.Making.{PutsEntry, PutsSteps}
use Rattle.replay_log.specs.Session.{address_of}
use Rattle.replay_log.specs.Step.{sends}
use Rattle.replay_log.proofs.MakingLemmas.{puts-message, puts-then}

-- ---- entries

address-four : (who : Session) → length (address_of who).ip ≡ 4
address-four A = refl
address-four B = refl

address-port : (who : Session) → (address_of who).port < 65536
address-port A = omega arith
address-port B = omega arith

pub datagram-put : (who : Session) (bytes old a b c d e : List ℕ) → length bytes ≤ 512 → a ≡ old ++ 100 ∷ []
    → b ≡ a ++ (address_of who).ip → c ≡ b ++ bytes_high_first 2 (address_of who).port
    → d ≡ c ++ bytes_high_first 2 (length bytes) → e ≡ d ++ bytes → PutsEntry (datagram (address_of who) bytes) old e
datagram-put who bytes old a b c d e few of_a of_b of_c of_d of_e =
    let ip : List ℕ = (address_of who).ip in
    let port : List ℕ = bytes_high_first 2 (address_of who).port in
    let count : List ℕ = bytes_high_first 2 (length bytes) in
    record {
      text = 100 ∷ (ip ++ (port ++ (count ++ bytes)));
      spelled = record {
        port = port;
        count = count;
        port_spelled = written_spells 2 (address_of who).port (address-port who);
        count_spelled = written_spells 2 (length bytes) (omega (arith, few));
        four = address-four who;
        few = few;
        whole = refl;
      };
      behind = of_e ∙ ap (λ (t : List ℕ). t ++ bytes) of_d ∙ ap (λ (t : List ℕ). (t ++ count) ++ bytes) of_c
          ∙ ap (λ (t : List ℕ). ((t ++ port) ++ count) ++ bytes) of_b
          ∙ ap (λ (t : List ℕ). (((t ++ ip) ++ port) ++ count) ++ bytes) of_a ∙ regroup old ip port count bytes;
    }
  where
    regroup : (old ip port count bytes : List ℕ) → ((((old ++ 100 ∷ []) ++ ip) ++ port) ++ count) ++ bytes
        ≡ old ++ (100 ∷ (ip ++ (port ++ (count ++ bytes))))
    regroup old ip port count bytes = simp append_assoc

pub tick-put : (moment : ℤ) (old a b : List ℕ) → FitsSigned w64 moment → a ≡ old ++ 116 ∷ []
    → b ≡ a ++ bytes_high_first (byte_len w64) (cast_unsigned w64 moment) → PutsEntry (tick moment) old b
tick-put moment old a b fits of_a of_b =
    let number : List ℕ = bytes_high_first (byte_len w64) (cast_unsigned w64 moment) in
    record {
      text = 116 ∷ number;
      spelled = record { number = number; spelled = written_spells_signed w64 moment fits; whole = refl };
      behind = of_b ∙ ap (λ (t : List ℕ). t ++ number) of_a ∙ append_assoc old (116 ∷ []) number;
    }

-- what was written to a slice is its front
pub front-short : (message : Message) (count : ℕ) (old new : List ℕ) → Puts IsSentAs message count old new
    → count ≤ length new
front-short message count old new put = puts-fit put.text count old new put.put

front-sent : (message : Message) (count : ℕ) (old new : List ℕ) → Puts IsSentAs message count old new
    → IsSentAs message (take count new)
front-sent message count old new put = subst (IsSentAs message) (sym (puts-taken put.text count old new put.put)) put.spelled

-- a message's text is put as its entry
pub puts-front : (who : Session) (message : Message) (count : ℕ) (before after sent a b : List ℕ)
    → Puts IsSentAs message count before after → PutsEntry (datagram (address_of who) sent) a b
    → sent ≡ take count after → PutsSteps (sends who message ∷ []) a b
puts-front who message count before after sent a b put entry is =
    puts-message who message sent a b
    (subst (IsSentAs message) (sym is) (front-sent message count before after put)) entry

-- two messages, one behind the other
pub puts-two : (who : Session) (m n p q : Message) (a b c : List ℕ) → m ≡ p → n ≡ q → PutsSteps (sends who m ∷ []) a b
    → PutsSteps (sends who n ∷ []) b c → PutsSteps (sends who p ∷ sends who q ∷ []) a c
puts-two who m n p q a b c of_m of_n first second =
    let one : PutsSteps (sends who p ∷ []) a b = subst (λ (x : Message). PutsSteps (sends who x ∷ []) a b) of_m first in
    let two : PutsSteps (sends who q ∷ []) b c =
    subst (λ (x : Message). PutsSteps (sends who x ∷ []) b c) of_n second in
    puts-then (sends who p ∷ []) (sends who q ∷ []) a b c one two
