-- What a text answers is found in it.
use Rattle.std.proofs.Common.{◌≡◌, ℕ, ◌+◌, ◌*◌, ◌/◌, ◌%◌, Bool, true, false, ◌==◌, ◌&&◌, if◌then◌else◌, List, [], ◌∷◌, drop, get_or, refl, sym, ◌∙◌, ap, arith}
use Rattle.sed_value.specs.Refusal.{refusals, text_of_refusal}
use Rattle.sed_value.specs.declared.id.Id.{Id}
use Rattle.sed_value.specs.declared.refusal.Refusal.{Refusal}
use Rattle.sed_value.specs.declared.refusal.Refusal.TheVariants.{Malformed, UnknownCommand, NoComponent, NoType, AbstractType, BadName, NameTaken, TooManyChildren, TooDeep, ComponentLimit, DataFull, NoSlot, WrongKindOfSlot, BadValue, BufferTooLong, LinkTypesDiffer, TargetLinked, LinksAtComponent, LinkLimit, NoLink, NotTheChildren, AppItself, Faulted, SaveDevice, StoreFull, OutOfMemory}
use Rattle.sox_msg.specs.declared.event.Event.{Event}
use Rattle.sox_msg.specs.declared.reply.Reply.{Reply}
use Rattle.sox_msg.specs.declared.reply.ReplyBody.{ReplyBody}
use Rattle.sox_msg.specs.declared.reply.ReplyBody.TheVariants.{Done, Added, Part, Slot, Version, Refused}
use Rattle.sox_msg.specs.Answered.{Answered, done, added, part, slot, version, refused, answered_of}
use Rattle.sox_msg.specs.Command.{IsRequest, Asking, number_in, str}
use Rattle.sox_msg.specs.Reply.{MayReply, answer_of, capital_of, event_text, is_plain, reply_text}

pub one_payload : (payload other : List ℕ) (asking : Asking) → IsRequest payload asking → IsRequest other asking
    → payload ≡ other
one_payload payload other asking is is_other = is.text ∙ sym is_other.text

-- ---- a reader that gives back what a text answers

id_in : List ℕ → ℕ
id_in text = get_or text 0 0 * 256 + get_or text 1 0

id-again : (id : ℕ) → id / 256 * 256 + id % 256 ≡ id
id-again id = omega arith

same_text : List ℕ → List ℕ → Bool
same_text [] [] = true
same_text [] (b ∷ bs) = false
same_text (a ∷ xs) [] = false
same_text (a ∷ xs) (b ∷ bs) = (a == b) && same_text xs bs

first_named : List Refusal → List ℕ → Refusal
first_named [] text = Malformed
first_named (refusal ∷ others) text =
    if same_text (str (text_of_refusal refusal)) text then refusal else first_named others text

refusal-again : (refusal : Refusal) → first_named refusals (str (text_of_refusal refusal)) ≡ refusal
unfolding first_named same_text
refusal-again Malformed = refl
refusal-again UnknownCommand = refl
refusal-again NoComponent = refl
refusal-again NoType = refl
refusal-again AbstractType = refl
refusal-again BadName = refl
refusal-again NameTaken = refl
refusal-again TooManyChildren = refl
refusal-again TooDeep = refl
refusal-again ComponentLimit = refl
refusal-again DataFull = refl
refusal-again NoSlot = refl
refusal-again WrongKindOfSlot = refl
refusal-again BadValue = refl
refusal-again BufferTooLong = refl
refusal-again LinkTypesDiffer = refl
refusal-again TargetLinked = refl
refusal-again LinksAtComponent = refl
refusal-again LinkLimit = refl
refusal-again NoLink = refl
refusal-again NotTheChildren = refl
refusal-again AppItself = refl
refusal-again Faulted = refl
refusal-again SaveDevice = refl
refusal-again StoreFull = refl
refusal-again OutOfMemory = refl

answered_at : ℕ → List ℕ → Answered
answered_at capital body =
    if is_plain capital then done capital
    else if capital == 65 then added (id_in body)
    else if capital == 67 then part (id_in body) (get_or body 2 0) (drop 3 body)
    else if capital == 82 then slot (id_in body) (get_or body 2 0) (drop 3 body)
    else if capital == 86 then version body
    else refused (first_named refusals body)

answered-again : (body : ReplyBody) → MayReply body → answered_at (capital_of body) (answer_of body) ≡ answered_of body
unfolding answered_at id_in
answered-again (Done letter) may = rw may refl
answered-again (Added id) may = ap added (id-again id.0)
answered-again (Part id letter bytes) may = ap (λ (n : ℕ). part n letter bytes.now) (id-again id.0)
answered-again (Slot id number bytes) may = ap (λ (n : ℕ). slot n number bytes.now) (id-again id.0)
answered-again (Version schema) may = refl
answered-again (Refused refusal) may = ap refused (refusal-again refusal)

pub one_reply : (reply other : Reply) → MayReply reply.body → MayReply other.body → reply_text reply ≡ reply_text other
    → (reply.number ≡ other.number) × (answered_of reply.body ≡ answered_of other.body)
one_reply reply other may may_other same = (
  ap number_in same,
  sym (answered-again reply.body may)
      ∙ ap (λ (text : List ℕ). answered_at (get_or text 0 0) (drop 2 text)) same
      ∙ answered-again other.body may_other,
)

pub one_event : (event other : Event) → event_text event ≡ event_text other
    → (event.id ≡ other.id) × (event.part ≡ other.part) × (event.bytes.now ≡ other.bytes.now)
unfolding id_in
one_event event other same =
    let numbered : ℕ → Id = λ n. record { 0 = n } in (
      ap numbered
          (sym (id-again event.id.0) ∙ ap (λ (text : List ℕ). id_in (drop 2 text)) same ∙ id-again other.id.0),
      ap (λ (text : List ℕ). get_or text 4 0) same,
      ap (λ (text : List ℕ). drop 5 text) same,
    )
