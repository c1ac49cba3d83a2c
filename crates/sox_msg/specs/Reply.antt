-- The text of a reply and of an event.
use Rattle.std.specs.Prelude.{ℕ, ◌≤◌, Bool, ◌==◌, IsTrue, List, ◌∷◌, ◌++◌, length, codes, ⊤}
use Rattle.std.specs.List.{list_any}
use Rattle.sed_value.specs.declared.limits.TheConstants.{LONGEST_PART, LONGEST_SCHEMA}
pub use Rattle.sed_wire.specs.Writing.{Puts}
use Rattle.sox_msg.specs.declared.event.Event.{Event}
use Rattle.sox_msg.specs.declared.reply.Reply.{Reply}
use Rattle.sox_msg.specs.declared.reply.ReplyBody.{ReplyBody}
use Rattle.sox_msg.specs.declared.reply.ReplyBody.TheVariants.{Done, Added, Part, Slot, Version, Refused}
use Rattle.sox_msg.specs.Answered.{answered_of, answered_text, body_in, capital_in}
use Rattle.sox_msg.specs.Command.{is_part, u2}

abbrev pub capital_of : ReplyBody → ℕ
capital_of body = capital_in (answered_of body)

-- what stands behind the capital and the number
abbrev pub answer_of : ReplyBody → List ℕ
answer_of body = body_in (answered_of body)

abbrev pub reply_text : Reply → List ℕ
reply_text reply = answered_text reply.number (answered_of reply.body)

-- the capitals of the commands whose reply says nothing more
abbrev pub is_plain : ℕ → Bool
is_plain letter = list_any (λ known. known == letter) (codes "DILNOSUWX")

abbrev pub MayReply : ReplyBody → Type 0
MayReply (Done letter) = IsTrue (is_plain letter)
MayReply (Added id) = ⊤
MayReply (Part id part bytes) = IsTrue (is_part part)
MayReply (Slot id slot bytes) = ⊤
MayReply (Version schema) = ⊤
MayReply (Refused refusal) = ⊤

-- of a part of a component: `e`, 255 in the place of a request's number, the id, the part's letter, and the part
abbrev pub event_bytes : ℕ → ℕ → List ℕ → List ℕ
event_bytes id part bytes = 101 ∷ 255 ∷ (u2 id ++ part ∷ bytes)

abbrev pub event_text : Event → List ℕ
event_text event = event_bytes event.id.0 event.part event.bytes.now

-- a letter of a part that can be subscribed
abbrev pub is_told : ℕ → Bool
is_told letter = list_any (λ known. known == letter) (codes "tcrl")

-- an answer whose part, value or kits keep the platform's limits
abbrev pub FitsLimits : ReplyBody → Type 0
FitsLimits (Done letter) = ⊤
FitsLimits (Added id) = ⊤
FitsLimits (Part id part bytes) = length bytes.now ≤ LONGEST_PART
FitsLimits (Slot id slot bytes) = length bytes.now ≤ LONGEST_PART
FitsLimits (Version schema) = length schema.now ≤ LONGEST_SCHEMA
FitsLimits (Refused refusal) = ⊤
