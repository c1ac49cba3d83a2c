-- What keeps the platform's limits fits a message.
use Rattle.std.proofs.Common.{◌≤◌, [], ◌∷◌, length, arith, length-append}
use Rattle.sed_value.specs.declared.limits.TheConstants.{LONGEST_MESSAGE, LONGEST_PART}
use Rattle.sed_value.specs.declared.refusal.Refusal.{Refusal}
use Rattle.sed_value.specs.declared.refusal.Refusal.TheVariants.{Malformed, UnknownCommand, NoComponent, NoType, AbstractType, BadName, NameTaken, TooManyChildren, TooDeep, ComponentLimit, DataFull, NoSlot, WrongKindOfSlot, BadValue, BufferTooLong, LinkTypesDiffer, TargetLinked, LinksAtComponent, LinkLimit, NoLink, NotTheChildren, AppItself, Faulted, SaveDevice, StoreFull, OutOfMemory}
use Rattle.sed_value.specs.Refusal.{text_of_refusal}
use Rattle.sox_msg.specs.declared.event.Event.{Event}
use Rattle.sox_msg.specs.declared.reply.Reply.{Reply}
use Rattle.sox_msg.specs.declared.reply.ReplyBody.{ReplyBody}
use Rattle.sox_msg.specs.declared.reply.ReplyBody.TheVariants.{Done, Added, Part, Slot, Version, Refused}
use Rattle.sox_msg.specs.Reply.{FitsLimits, answer_of, event_text, reply_text}

pub refusal-size : (refusal : Refusal) → length (text_of_refusal refusal) ≤ 18
refusal-size Malformed = omega arith
refusal-size UnknownCommand = omega arith
refusal-size NoComponent = omega arith
refusal-size NoType = omega arith
refusal-size AbstractType = omega arith
refusal-size BadName = omega arith
refusal-size NameTaken = omega arith
refusal-size TooManyChildren = omega arith
refusal-size TooDeep = omega arith
refusal-size ComponentLimit = omega arith
refusal-size DataFull = omega arith
refusal-size NoSlot = omega arith
refusal-size WrongKindOfSlot = omega arith
refusal-size BadValue = omega arith
refusal-size BufferTooLong = omega arith
refusal-size LinkTypesDiffer = omega arith
refusal-size TargetLinked = omega arith
refusal-size LinksAtComponent = omega arith
refusal-size LinkLimit = omega arith
refusal-size NoLink = omega arith
refusal-size NotTheChildren = omega arith
refusal-size AppItself = omega arith
refusal-size Faulted = omega arith
refusal-size SaveDevice = omega arith
refusal-size StoreFull = omega arith
refusal-size OutOfMemory = omega arith

answer-size : (body : ReplyBody) → FitsLimits body → length (answer_of body) ≤ 496
answer-size (Done letter) fits = omega arith
answer-size (Added id) fits = omega arith
answer-size (Part id part bytes) fits = omega (arith, fits)
answer-size (Slot id slot bytes) fits = omega (arith, fits)
answer-size (Version schema) fits = omega (arith, fits)
answer-size (Refused refusal) fits =
    omega (arith, length-append (text_of_refusal refusal) (0 ∷ []), refusal-size refusal)

pub reply-size : (reply : Reply) → FitsLimits reply.body → length (reply_text reply) ≤ LONGEST_MESSAGE
reply-size reply fits = omega (arith, answer-size reply.body fits)

pub event-size : (event : Event) → length event.bytes.now ≤ LONGEST_PART
    → length (event_text event) ≤ LONGEST_MESSAGE
event-size event fits = omega (arith, fits)
