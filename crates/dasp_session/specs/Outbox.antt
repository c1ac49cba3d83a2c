-- The datagrams that are to be sent.
use Rattle.std.specs.Prelude.{◌≡◌, ℕ, List, [], ◌∷◌, ◌++◌, ⊤}
use Rattle.sed_outside.specs.declared.addr.Addr.{Addr}
use Rattle.dasp_msg.specs.Sending.{IsSentAs}
use Rattle.dasp_session.specs.Letters.{Letter}

pub record Datagram : Type 0 where
  pub to : Addr
  pub bytes : List ℕ

-- each is the text of its letter's message, to the letter's address
abbrev pub AreTexts : List Letter → List Datagram → Type 0
AreTexts [] [] = ⊤
AreTexts [] (text ∷ texts) = ⊥
AreTexts (letter ∷ letters) [] = ⊥
AreTexts (letter ∷ letters) (text ∷ texts) =
    (text.to ≡ letter.to) × IsSentAs letter.message text.bytes × AreTexts letters texts

-- the texts of these letters stand behind what stood there
pub record Sends (letters : List Letter) (old new : List Datagram) : Type 0 where
  pub texts : List Datagram
  pub written : AreTexts letters texts
  pub behind : new ≡ old ++ texts
