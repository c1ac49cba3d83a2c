-- What a sender keeps after a call stands for what the call makes of the whole list.
use Rattle.std.proofs.Common.{◌≡◌, ℕ, zero, ◌+◌, ◌-◌, ◌%◌, ◌<◌, ◌≤◌, Bool, true, false, cond, leb, ltb, List, [], ◌∷◌, ◌++◌, length, set, get_or, not, refl, sym, ◌∙◌, ap, subst, arith, add-zero, ℤ}
use Rattle.std.specs.Prelude.{Option, Some, None, is_some, slice_get, count_by, int_le, pos, ◌+ℤ◌}
use Rattle.std.proofs.lemmas.Bool.{and_parts, and_left, and_right, ltb-true, le-leb, lt-leb}
use Rattle.std.proofs.lemmas.Int.{ints}
use Rattle.std.specs.Option.{option_map}
use Rattle.std.proofs.lemmas.Option.{slice_get_within, get_or_from_slice_get}
use Rattle.std.proofs.lemmas.List.Sums.{sum_by-set}
use Rattle.dasp_msg.specs.declared.outgoing.Message.{Message}
use Rattle.dasp_msg.specs.declared.due.Due.{Due}
use Rattle.dasp_msg.specs.declared.due.Due.TheVariants.{Resend, Spent}
use Rattle.std.specs.List.{list_any}
use Rattle.dasp_msg.specs.Numbers.{wire_number, distance}
use Rattle.dasp_msg.specs.Posted.{first_open, open_part, new_message, after_push, acknowledged_where, acknowledged_to, after_ack, is_for, is_due, is_waiting, is_spent, first_due, due_from, due_of, message_of, bytes_at, sent_again, resent, after_resend}
use Rattle.dasp_msg.specs.Outgoing.{Window, SendsLike, has_message}
use Rattle.dasp_msg.proofs.KeptLemmas.{DueAt, due_from-at, first_due-alike, message_of-alike, resent-alike, message_of-place, resent-place, first_open-resent, is_some-resent, acknowledged_where-alike, is_for-shift}
use Rattle.dasp_msg.proofs.NumberLemmas.{distance-wire_number}
use Rattle.dasp_msg.proofs.PostedLemmas.{length-open_part, first_open-open_part, open_part-none, first_open-push, open_part-push, first_open-front, open_part-front, spent-open_part, first_due-open_part, first_open-acknowledged, open_part-acknowledged}

-- the window's first number is that of the first open message, as a number and as an index
alike : (window : Window) (posted : List Message) → SendsLike window posted → wire_number window.first ≡ wire_number (first_open posted)
alike window posted like = let e : window.first ≡ wire_number (first_open posted) = like.first in omega arith

pub push_number : (window : Window) (posted : List Message) → SendsLike window posted → (window.first + length window.messages) % 65536 ≡ wire_number (length posted)
push_number window posted like =
    let first : window.first ≡ wire_number (first_open posted) = like.first in
    let count : length window.messages ≡ length (open_part posted) = ap length like.messages in
    omega (arith, length-open_part posted)

pub SendsLike-push : (window : Window) (posted : List Message) (bytes : List ℕ) (now : ℤ) → SendsLike window posted
    → SendsLike (record { first = window.first; messages = window.messages ++ new_message bytes now ∷ [] }) (after_push posted bytes now)
SendsLike-push window posted bytes now like = record {
  first = like.first ∙ ap wire_number (sym (first_open-push posted bytes now));
  messages = ap (λ (kept : List Message). kept ++ new_message bytes now ∷ []) like.messages ∙ sym (open_part-push posted bytes now);
}

slice_get-end : (messages : List Message) (message : Message) → slice_get (messages ++ message ∷ []) (length messages) ≡ Some message
slice_get-end [] message = refl
slice_get-end (first ∷ later) message = slice_get-end later message

pub has_message-push : (first : ℕ) (messages : List Message) (message : Message) → length messages < 65536
    → is_some (message_of ((first + length messages) % 65536) first (messages ++ message ∷ [])) ≡ true
has_message-push first messages message few =
    let fits : (first + length messages) % 65536 < 65536 = omega arith in
    ap is_some (message_of-place ((first + length messages) % 65536) (messages ++ message ∷ []) first fits
    ∙ ap (slice_get (messages ++ message ∷ [])) (distance-wire_number first (length messages) few)
    ∙ slice_get-end messages message)

-- what is due of the window is what is due of the list
pub due_from-list : (window : Window) (posted : List Message) (now : ℤ) → SendsLike window posted → due_from window.first window.messages now ≡ due_of posted now
due_from-list window posted now like =
    let same : wire_number window.first ≡ wire_number (0 + first_open posted) = alike window posted like ∙ ap wire_number (let e : first_open posted ≡ 0 + first_open posted = omega arith in e) in
    let any : list_any (is_spent now) window.messages ≡ list_any (is_spent now) posted = ap (list_any (is_spent now)) like.messages ∙ sym (spent-open_part now posted) in
    let first : first_due now window.first window.messages ≡ first_due now 0 posted =
    ap (first_due now window.first) like.messages
    ∙ first_due-alike now (open_part posted) window.first (0 + first_open posted) same
    ∙ sym (first_due-open_part now posted 0) in
    ap (λ (b : Bool). cond b Spent (first_due now window.first window.messages)) any ∙ ap (λ (due : Due). cond (list_any (is_spent now) posted) Spent due) first

pub has_message-due : (window : Window) (now : ℤ) (number : ℕ) → length window.messages ≤ 31 → due_from window.first window.messages now ≡ Resend number → has_message window number ≡ true
has_message-due window now number few is =
    let at : DueAt now window.first window.messages number = due_from-at now window.messages window.first number is in
    let within : at.place < length window.messages = at.within in
    let fits : number < 65536 = rw at.numbered (omega arith) in
    ap is_some (message_of-place number window.messages window.first fits
    ∙ ap (λ (n : ℕ). slice_get window.messages (distance window.first n)) at.numbered
    ∙ ap (slice_get window.messages) (distance-wire_number window.first at.place (omega arith))
    ∙ at.stands)

-- the place that the code computes
pub place-distance : (first number : ℕ) → first < 65536 → distance first number ≡ (number + (65536 - first)) % 65536
place-distance first number fits = omega arith

-- the message that is due stands at the place that the code computes, and can be sent again
pub record DueHere (window : Window) (now : ℤ) (number place : ℕ) : Type 0 where
  pub fits : number < 65536
  pub at : place ≡ distance window.first number
  pub within : place < length window.messages
  pub message : Message
  pub stands : slice_get window.messages place ≡ Some message
  pub due : is_due now message ≡ true

pub due_here : (window : Window) (now : ℤ) (number place : ℕ) → length window.messages ≤ 31 → window.first < 65536 → place ≡ (number + (65536 - window.first)) % 65536
    → due_from window.first window.messages now ≡ Resend number → DueHere window now number place
due_here window now number place few low computed is =
    let due : DueAt now window.first window.messages number = due_from-at now window.messages window.first number is in
    let within : due.place < length window.messages = due.within in
    let at : place ≡ distance window.first number = computed ∙ sym (place-distance window.first number low) in
    let same : place ≡ due.place = at ∙ ap (distance window.first) due.numbered ∙ distance-wire_number window.first due.place (omega arith) in
    record {
      fits = rw due.numbered (omega arith);
      at = at;
      within = omega arith;
      message = due.message;
      stands = ap (slice_get window.messages) same ∙ due.stands;
      due = due.due;
    }

pub sendings-due : (now : ℤ) (message : Message) → is_due now message ≡ true → message.sendings < 3
sendings-due now message due = ltb-true message.sendings 3 (and_parts (is_waiting now message) (ltb message.sendings 3) due).1

resent-here : (window : Window) (now : ℤ) (number place : ℕ) (here : DueHere window now number place)
    → resent number now window.first window.messages ≡ set window.messages place (sent_again now here.message)
resent-here window now number place here =
    resent-place number now window.messages window.first here.message here.fits (ap (slice_get window.messages) (sym here.at) ∙ here.stands)
    ∙ ap (λ (n : ℕ). set window.messages n (sent_again now here.message)) (sym here.at)

pub SendsLike-resend : (window : Window) (posted : List Message) (now : ℤ) (number place : ℕ) (here : DueHere window now number place) → SendsLike window posted
    → SendsLike (record { first = window.first; messages = set window.messages place (sent_again now here.message) }) (after_resend posted number now)
SendsLike-resend window posted now number place here like =
    let first : ℕ = first_open posted in
    let kept : List Message = open_part posted in
    let again : List Message = resent number now first kept in
    let none : first_open again ≡ zero = first_open-resent number now kept first ∙ first_open-open_part posted in
    let same : set window.messages place (sent_again now here.message) ≡ again =
    sym (resent-here window now number place here)
    ∙ resent-alike number now window.messages window.first first (alike window posted like)
    ∙ ap (resent number now first) like.messages in
    let stays : first_open (after_resend posted number now) ≡ first = first_open-front posted again ∙ ap (λ (n : ℕ). first + n) none ∙ add-zero first in
    record {
      first = like.first ∙ ap wire_number (sym stays);
      messages = same ∙ sym (open_part-front posted again ∙ open_part-none again none);
    }

pub has_message-resend : (window : Window) (now : ℤ) (number place other : ℕ) (here : DueHere window now number place)
    → is_some (message_of other window.first (set window.messages place (sent_again now here.message))) ≡ has_message window other
has_message-resend window now number place other here =
    ap (λ (kept : List Message). is_some (message_of other window.first kept)) (sym (resent-here window now number place here))
    ∙ is_some-resent number other now window.messages window.first

-- one message fewer is due
is_due-again : (now : ℤ) (message : Message) → is_due now (sent_again now message) ≡ false
is_due-again now message =
    let late : int_le (now +ℤ pos 1000000000) now ≡ false = grind (arith, ints) in
    and_left (is_waiting now (sent_again now message)) (ltb (message.sendings + 1) 3) (and_right (not message.acknowledged) (int_le (now +ℤ pos 1000000000) now) late)

count_by-set : (test : Message → Bool) (messages : List Message) (place : ℕ) (old new : Message) → place < length messages → slice_get messages place ≡ Some old → test old ≡ true → test new ≡ false
    → count_by test (set messages place new) + 1 ≡ count_by test messages
count_by-set test messages place old new within stands was is =
    let worth : Message → ℕ = λ message. cond (test message) 1 0 in
    let one : worth (get_or messages place old) ≡ 1 = ap worth (get_or_from_slice_get messages place old old stands) ∙ ap (λ (b : Bool). cond b 1 0) was in
    let none : worth new ≡ 0 = ap (λ (b : Bool). cond b 1 0) is in
    let both : count_by test (set messages place new) + worth (get_or messages place old) ≡ count_by test messages + worth new = sum_by-set worth messages place new old within in
    omega (arith, both, one, none)

pub fewer-resend : (window : Window) (now : ℤ) (number place : ℕ) (here : DueHere window now number place)
    → count_by (is_due now) (set window.messages place (sent_again now here.message)) < count_by (is_due now) window.messages
fewer-resend window now number place here =
    omega (arith, count_by-set (is_due now) window.messages place here.message (sent_again now here.message) here.within here.stands here.due (is_due-again now here.message))

-- an ack that reaches no further than the window, and one that does
pub SendsLike-ack : (window : Window) (posted : List Message) (ack beyond : ℕ) (more : Option (List ℕ)) → SendsLike window posted
    → beyond ≡ distance (first_open posted) (wire_number (ack + 1)) → beyond ≤ length window.messages
    → SendsLike (record {
      first = (window.first + first_open (acknowledged_where (is_for beyond more) 0 window.messages)) % 65536;
      messages = open_part (acknowledged_where (is_for beyond more) 0 window.messages);
    }) (after_ack posted ack more)
SendsLike-ack window posted ack beyond more like is within =
    let first : ℕ = first_open posted in
    let kept : List Message = open_part posted in
    let fits : leb (distance first (wire_number (ack + 1))) (length kept) ≡ true = le-leb _ _ (let n : length window.messages ≡ length kept = ap length like.messages in omega arith) in
    let counts : after_ack posted ack more ≡ acknowledged_where (is_for (first + beyond) more) 0 posted =
    ap (λ (b : Bool). acknowledged_to posted more (cond b (Some (first + distance first (wire_number (ack + 1)))) None)) fits
    ∙ ap (λ (n : ℕ). acknowledged_where (is_for (first + n) more) 0 posted) (sym is) in
    let same : acknowledged_where (is_for (first + beyond) more) (0 + first) kept ≡ acknowledged_where (is_for beyond more) 0 window.messages =
    ap (λ (k : ℕ). acknowledged_where (is_for (first + beyond) more) k kept) (let e : 0 + first ≡ first = omega arith in e)
    ∙ acknowledged_where-alike (is_for (first + beyond) more) (is_for beyond more) kept first 0 (is_for-shift first beyond more)
    ∙ ap (acknowledged_where (is_for beyond more) 0) (sym like.messages) in
    let gone : first_open (after_ack posted ack more) ≡ first + first_open (acknowledged_where (is_for beyond more) 0 window.messages) =
    ap first_open counts ∙ first_open-acknowledged (is_for (first + beyond) more) posted 0 ∙ ap (λ (rest : List Message). first + first_open rest) same in
    record {
      first = let e : window.first ≡ wire_number first = like.first in rw gone (omega arith);
      messages = sym (ap open_part counts ∙ open_part-acknowledged (is_for (first + beyond) more) posted 0 ∙ ap open_part same);
    }

pub SendsLike-ignored : (window : Window) (posted : List Message) (ack beyond : ℕ) (more : Option (List ℕ)) → SendsLike window posted
    → beyond ≡ distance (first_open posted) (wire_number (ack + 1)) → length window.messages < beyond → SendsLike window (after_ack posted ack more)
SendsLike-ignored window posted ack beyond more like is past =
    let first : ℕ = first_open posted in
    let fits : leb (distance first (wire_number (ack + 1))) (length (open_part posted)) ≡ false = lt-leb _ _ (let n : length window.messages ≡ length (open_part posted) = ap length like.messages in omega arith) in
    let stays : after_ack posted ack more ≡ posted = ap (λ (b : Bool). acknowledged_to posted more (cond b (Some (first + distance first (wire_number (ack + 1)))) None)) fits in
    subst (λ (list : List Message). SendsLike window list) (sym stays) like

-- the message of a number that the window has stands at the place that the code computes
pub record StandsHere (window : Window) (number place : ℕ) : Type 0 where
  pub fits : number < 65536
  pub at : place ≡ distance window.first number
  pub within : place < length window.messages
  pub message : Message
  pub stands : slice_get window.messages place ≡ Some message

at_some : (messages : List Message) (place : ℕ) (found : Option Message) → slice_get messages place ≡ found → is_some found ≡ true → (message : Message) × (slice_get messages place ≡ Some message)
at_some messages place None is some = absurd (cc)
at_some messages place (Some message) is some = (message, is)

pub stands_here : (window : Window) (number place : ℕ) → number < 65536 → window.first < 65536 → place ≡ (number + (65536 - window.first)) % 65536 → has_message window number ≡ true
    → StandsHere window number place
stands_here window number place fits low computed has =
    let at : place ≡ distance window.first number = computed ∙ sym (place-distance window.first number low) in
    let some : is_some (slice_get window.messages place) ≡ true =
    ap is_some (ap (slice_get window.messages) at ∙ sym (message_of-place number window.messages window.first fits)) ∙ has in
    let found = at_some window.messages place (slice_get window.messages place) refl some in
    record { fits = fits; at = at; within = slice_get_within window.messages place found.0 found.1; message = found.0; stands = found.1 }

pub bytes_at-here : (window : Window) (posted : List Message) (number place : ℕ) (here : StandsHere window number place) → SendsLike window posted → bytes_at posted number ≡ Some here.message.bytes
bytes_at-here window posted number place here like =
    ap (option_map (λ (m : Message). m.bytes))
    (message_of-alike number (open_part posted) (first_open posted) window.first (sym (alike window posted like))
    ∙ ap (message_of number window.first) (sym like.messages)
    ∙ message_of-place number window.messages window.first here.fits ∙ ap (slice_get window.messages) (sym here.at) ∙ here.stands)
