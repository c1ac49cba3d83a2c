-- Letters that were put into an outbox one behind the other.
use Rattle.std.proofs.Common.{◌≡◌, ℕ, ◌+◌, ◌<◌, ◌≤◌, List, [], ◌∷◌, ◌++◌, length, take, set, sym, ◌∙◌, ap, subst, arith, append_assoc}
use Rattle.std.proofs.lemmas.List.{append-nil, length-take, take_more_set}
use Rattle.dasp_msg.specs.Sending.{IsSentAs}
use Rattle.dasp_session.specs.Letters.{Letter}
use Rattle.dasp_session.specs.Outbox.{Datagram, AreTexts, Sends}

AreTexts-append : (a b : List Letter) (x y : List Datagram) → AreTexts a x → AreTexts b y → AreTexts (a ++ b) (x ++ y)
AreTexts-append [] b [] y of_a of_b = of_b
AreTexts-append [] b (text ∷ x) y of_a of_b = absurd of_a
AreTexts-append (letter ∷ a) b [] y of_a of_b = absurd of_a
AreTexts-append (letter ∷ a) b (text ∷ x) y of_a of_b = (of_a.0, of_a.1, AreTexts-append a b x y of_a.2 of_b)

pub Sends-none : (out : List Datagram) → Sends [] out out
Sends-none out = record { texts = []; written = tt; behind = sym (append-nil out) }

pub Sends-append : (a b : List Letter) (old between new : List Datagram) → Sends a old between → Sends b between new → Sends (a ++ b) old new
Sends-append a b old between new first second = record {
  texts = first.texts ++ second.texts;
  written = AreTexts-append a b first.texts second.texts first.written second.written;
  behind =
      second.behind ∙ ap (λ (out : List Datagram). out ++ second.texts) first.behind
      ∙ append_assoc old first.texts second.texts;
}

-- a datagram that is written where the kept ones end
pub one-more : (kept : List Datagram) (len : ℕ) (text : Datagram) → length kept ≡ 512 → length (take len kept) < 512
    → take (len + 1) (set kept len text) ≡ take len kept ++ text ∷ []
one-more kept len text all room = take_more_set kept len text (omega (arith, length-take len kept))

pub room-left : (kept : List Datagram) (len : ℕ) → length kept ≡ 512 → len ≤ 512 → length (take len kept) < 512 → len < 512
room-left kept len all few room = omega (arith, length-take len kept)

pub Sends-one : (letter : Letter) (text : Datagram) (old new : List Datagram) → text.to ≡ letter.to → IsSentAs letter.message text.bytes → new ≡ old ++ text ∷ [] → Sends (letter ∷ []) old new
Sends-one letter text old new to bytes behind = record { texts = text ∷ []; written = (to, bytes, tt); behind = behind }
