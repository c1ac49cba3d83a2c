-- Messages that are sent one after another, and what a call of the sessions adds to them.
use Rattle.std.proofs.Common.{◌≡◌, ◌∙◌, ◌≤◌, ℕ, suc, List, [], ◌∷◌, ◌++◌, length, refl, sym, ap, subst, append_assoc}
use Rattle.dasp_session.specs.Letters.{Letter}
use Rattle.dasp_session.specs.Outbox.{AreTexts, Datagram, Sends}

pub texts_more : (first later : List Letter) (texts more : List Datagram) → AreTexts first texts → AreTexts later more
    → AreTexts (first ++ later) (texts ++ more)
texts_more [] later [] more are all = all
texts_more [] later (text ∷ texts) more are all = absurd are
texts_more (letter ∷ first) later [] more are all = absurd are
texts_more (letter ∷ first) later (text ∷ texts) more are all =
    (are.0, are.1, texts_more first later texts more are.2 all)

-- as many texts as letters
pub texts_length : (letters : List Letter) (texts : List Datagram) → AreTexts letters texts
    → length texts ≡ length letters
texts_length [] [] are = refl
texts_length [] (text ∷ texts) are = absurd are
texts_length (letter ∷ letters) [] are = absurd are
texts_length (letter ∷ letters) (text ∷ texts) are = ap suc (texts_length letters texts are.2)

-- no more than so many were sent into an empty outbox
pub at_most : (most : ℕ) (letters : List Letter) (sent : List Datagram) → Sends letters [] sent → length letters ≤ most
    → length sent ≤ most
at_most most letters sent sends few =
    subst (λ (k : ℕ). k ≤ most) (sym (ap length sends.behind ∙ texts_length letters sends.texts sends.written)) few

-- one list of letters after another
pub sends_more : (first later : List Letter) (start middle end : List Datagram) → Sends first start middle
    → Sends later middle end → Sends (first ++ later) start end
sends_more first later start middle end one other = record {
  texts = one.texts ++ other.texts;
  written = texts_more first later one.texts other.texts one.written other.written;
  behind = other.behind ∙ ap (λ (x : List Datagram). x ++ other.texts) one.behind
      ∙ append_assoc start one.texts other.texts;
}

append_none : (xs : List Letter) → xs ++ [] ≡ xs
append_none [] = refl
append_none (x ∷ xs) = ap (λ (rest : List Letter). x ∷ rest) (append_none xs)

-- nothing more
pub sends_none : (first : List Letter) (start end : List Datagram) → Sends first start end
    → Sends (first ++ []) start end
sends_none first start end sends = subst (λ (letters : List Letter). Sends letters start end) (sym (append_none first))
    sends

-- nothing at all
pub nothing_sent : (start : List Datagram) → Sends [] start start
nothing_sent start = record { texts = []; written = tt {0}; behind = sym (no_more start) }
  where
    no_more : (xs : List Datagram) → xs ++ [] ≡ xs
    no_more [] = refl
    no_more (x ∷ xs) = ap (λ (rest : List Datagram). x ∷ rest) (no_more xs)
