-- Answers without where their bytes lie in memory, and the text of each.
use Rattle.std.specs.Prelude.{ℕ, List, [], ◌∷◌, ◌++◌}
use Rattle.sed_value.specs.Refusal.{text_of_refusal}
use Rattle.sed_value.specs.declared.refusal.Refusal.{Refusal}
use Rattle.sox_msg.specs.Command.{str, u2}
use Rattle.sox_msg.specs.declared.reply.ReplyBody.{ReplyBody}
use Rattle.sox_msg.specs.declared.reply.ReplyBody.TheVariants.{Done, Added, Part, Slot, Version, Refused}

pub data Answered : Type 0 where
  done : ℕ → Answered
  added : ℕ → Answered
  part : ℕ → ℕ → List ℕ → Answered
  slot : ℕ → ℕ → List ℕ → Answered
  version : List ℕ → Answered
  refused : Refusal → Answered
  -- for a cause that is no command's refusal: its number, and the text that a reply carries
  refused_for : ℕ → List ℕ → Answered

abbrev pub answered_of : ReplyBody → Answered
answered_of (Done letter) = done letter
answered_of (Added id) = added id.0
answered_of (Part id letter bytes) = part id.0 letter bytes.now
answered_of (Slot id number bytes) = slot id.0 number bytes.now
answered_of (Version schema) = version schema.now
answered_of (Refused refusal) = refused refusal

-- the capital of the request's letter, and of a refusal `!`
abbrev pub capital_in : Answered → ℕ
capital_in (done letter) = letter
capital_in (added id) = 65
capital_in (part id letter bytes) = 67
capital_in (slot id number bytes) = 82
capital_in (version schema) = 86
capital_in (refused refusal) = 33
capital_in (refused_for which cause) = 33

abbrev pub body_in : Answered → List ℕ
body_in (done letter) = []
body_in (added id) = u2 id
body_in (part id letter bytes) = u2 id ++ letter ∷ bytes
body_in (slot id number bytes) = u2 id ++ number ∷ bytes
body_in (version schema) = schema
body_in (refused refusal) = str (text_of_refusal refusal)
body_in (refused_for which cause) = str cause

-- the text of the answer to the request of this number
abbrev pub answered_text : ℕ → Answered → List ℕ
answered_text number answered = capital_in answered ∷ number ∷ body_in answered
