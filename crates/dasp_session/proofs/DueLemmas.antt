-- Sending the first message that is due again, and then the others, is sending each that is due again.
use Rattle.std.proofs.Common.{◌≡◌, ℕ, zero, suc, ◌+◌, ◌<◌, Bool, true, false, cond, not, eqb, List, [], ◌∷◌, ◌++◌, length, take, drop, refl, sym, ◌∙◌, ap, subst, inl, inr, arith, ℤ, add-zero, zero-add}
use Rattle.std.specs.Prelude.{Some, map, ◌&&◌, int_le, pos, ◌+ℤ◌, count_by}
use Rattle.std.specs.List.{list_any}
use Rattle.std.specs.Option.{option_map}
use Rattle.std.proofs.lemmas.Bool.{cases_Bool, and_left, and_right, or_parts, or_from, or_left, or_right, cond-true, cond-false, eq-eqb, ne_eqb}
use Rattle.std.proofs.lemmas.Int.{ints}
use Rattle.std.proofs.lemmas.List.Sums.{sum_by-cons}
use Rattle.dasp_msg.specs.declared.outgoing.Message.{Message as Posted}
use Rattle.dasp_msg.specs.declared.due.Due.TheVariants.{Nothing, Resend, Spent}
use Rattle.dasp_msg.specs.Numbers.{wire_number}
use Rattle.dasp_msg.specs.Posted.{first_open, open_part, is_waiting, is_due, is_spent, first_due, due_from, due_of, message_of, bytes_at, sent_again, resent, after_resend}
use Rattle.dasp_msg.specs.Shown.{Message}
use Rattle.dasp_session.specs.Letters.{datagram}
use Rattle.dasp_session.specs.Session.{Session}
use Rattle.dasp_session.specs.Ticking as ticking
use Rattle.dasp_session.specs.Ticking.{resends, again_if_due}
use Rattle.dasp_session.specs.Doing.{resends_of}
use Rattle.std.proofs.Math.Bool.{and-true as and_true}

resend_eq : {a b : ℕ} → Resend a ≡ Resend b → a ≡ b
resend_eq e = cc

-- a message that was just sent is not waited for
not-waiting : (now : ℤ) (message : Posted) → is_waiting now (sent_again now message) ≡ false
not-waiting now message =
    let late : int_le (now +ℤ pos 1000000000) now ≡ false = grind (arith, ints) in
    and_right (not message.acknowledged) (int_le (now +ℤ pos 1000000000) now) late

not-due : (now : ℤ) (message : Posted) → is_due now (sent_again now message) ≡ false
not-due now message = and_left (is_waiting now (sent_again now message)) _ (not-waiting now message)

not-spent : (now : ℤ) (message : Posted) → is_spent now (sent_again now message) ≡ false
not-spent now message = and_left (is_waiting now (sent_again now message)) _ (not-waiting now message)

due-gone : (now : ℤ) (message : Posted) → message.acknowledged ≡ true → is_due now message ≡ false
due-gone now message gone = rw gone refl

spent-gone : (now : ℤ) (message : Posted) → message.acknowledged ≡ true → is_spent now message ≡ false
spent-gone now message gone = rw gone refl

-- the first message due stands somewhere among them
pub record DueAt (index number : ℕ) (messages : List Posted) : Type 0 where
  pub place : ℕ
  pub within : place < length messages
  pub numbered : number ≡ wire_number (index + place)

due_at : (now : ℤ) (messages : List Posted) (index number : ℕ) → first_due now index messages ≡ Resend number → DueAt index number messages
due_at now [] index number is = absurd (cc)
due_at now (message ∷ later) index number is =
    elim (cases_Bool (is_due now message)) [
      | inl due ↦
          let e : Resend (wire_number index) ≡ Resend number = sym (cond-true (is_due now message) (Resend (wire_number index)) (first_due now (suc index) later) due) ∙ is in
          record {
            place = 0;
            within = omega arith;
            numbered = sym (resend_eq e) ∙ ap wire_number (sym (add-zero index));
          }
      | inr other ↦
          let e : first_due now (suc index) later ≡ Resend number = sym (cond-false (is_due now message) (Resend (wire_number index)) (first_due now (suc index) later) other) ∙ is in
          let rest : DueAt (suc index) number later = due_at now later (suc index) number e in
          let n : suc index + rest.place ≡ index + suc rest.place = omega arith in
          record {
            place = suc rest.place;
            within = (let w : rest.place < length later = rest.within in omega arith);
            numbered = rest.numbered ∙ ap wire_number n;
          }
    ]

-- what is due before the first one was sent again, and after that
pub record FirstSent (remote_id : ℕ) (taken : List ℕ) (now : ℤ) (number : ℕ) (bytes : List ℕ) (index : ℕ) (before after : List Posted) : Type 0 where
  pub sent : resends remote_id taken now index before ≡ datagram remote_id taken number bytes ∷ resends remote_id taken now index after
  pub again : map (again_if_due now) before ≡ map (again_if_due now) after
  pub due : list_any (is_due now) before ≡ true
  pub spent : list_any (is_spent now) before ≡ false → list_any (is_spent now) after ≡ false

again-due : (now : ℤ) (message : Posted) → is_due now message ≡ true → again_if_due now message ≡ again_if_due now (sent_again now message)
again-due now message due =
    cond-true (is_due now message) (sent_again now message) message due
    ∙ sym (cond-false (is_due now (sent_again now message)) (sent_again now (sent_again now message)) (sent_again now message) (not-due now message))

sent-here : (remote_id : ℕ) (taken : List ℕ) (now : ℤ) (index : ℕ) (message : Posted) (later : List Posted) → is_due now message ≡ true
    → FirstSent remote_id taken now (wire_number index) message.bytes index (message ∷ later) (sent_again now message ∷ later)
sent-here remote_id taken now index message later due =
    let rest : List Message = resends remote_id taken now (suc index) later in
    record {
      sent =
          cond-true (is_due now message) (datagram remote_id taken (wire_number index) message.bytes ∷ rest) rest due
          ∙ ap (λ (xs : List Message). datagram remote_id taken (wire_number index) message.bytes ∷ xs)
          (sym (cond-false (is_due now (sent_again now message)) (datagram remote_id taken (wire_number index) message.bytes ∷ rest) rest (not-due now message)));
      again = ap (λ (first : Posted). first ∷ map (again_if_due now) later) (again-due now message due);
      due = or_left (is_due now message) (list_any (is_due now) later) due;
      spent = λ none. or_from _ _ (not-spent now message) (or_parts (is_spent now message) (list_any (is_spent now) later) none).1;
    }

-- behind a message that stays as it is and is not due
sent-behind : (remote_id : ℕ) (taken : List ℕ) (now : ℤ) (number : ℕ) (bytes : List ℕ) (index : ℕ) (message : Posted) (before after : List Posted) → is_due now message ≡ false
    → FirstSent remote_id taken now number bytes (suc index) before after → FirstSent remote_id taken now number bytes index (message ∷ before) (message ∷ after)
sent-behind remote_id taken now number bytes index message before after other first =
    let it : Message = datagram remote_id taken (wire_number index) message.bytes in
    let cut : (rest : List Posted) → resends remote_id taken now index (message ∷ rest) ≡ resends remote_id taken now (suc index) rest =
    λ rest. cond-false (is_due now message) (it ∷ resends remote_id taken now (suc index) rest) (resends remote_id taken now (suc index) rest) other in
    record {
      sent = cut before ∙ first.sent ∙ ap (λ (xs : List Message). datagram remote_id taken number bytes ∷ xs) (sym (cut after));
      again = ap (λ (xs : List Posted). again_if_due now message ∷ xs) first.again;
      due = or_right (is_due now message) (list_any (is_due now) before) first.due;
      spent = λ none.
          let parts = or_parts (is_spent now message) (list_any (is_spent now) before) none in
          or_from (is_spent now message) (list_any (is_spent now) after) parts.0 (first.spent parts.1);
    }

-- among messages of which the first one due is the first one of its number
pub record Again (remote_id : ℕ) (taken : List ℕ) (now : ℤ) (number index from : ℕ) (kept before after : List Posted) : Type 0 where
  pub message : Posted
  pub there : message_of number from kept ≡ Some message
  pub first : FirstSent remote_id taken now number message.bytes index before after

again_among : (remote_id : ℕ) (taken : List ℕ) (now : ℤ) (number : ℕ) (messages : List Posted) (index : ℕ) → length messages < 65536 → first_due now index messages ≡ Resend number
    → Again remote_id taken now number index index messages messages (resent number now index messages)
again_among remote_id taken now number [] index few is = absurd (cc)
again_among remote_id taken now number (message ∷ later) index few is =
    elim (cases_Bool (is_due now message)) [
      | inl due ↦
          let e : Resend (wire_number index) ≡ Resend number = sym (cond-true (is_due now message) (Resend (wire_number index)) (first_due now (suc index) later) due) ∙ is in
          let n : wire_number index ≡ number = resend_eq e in
          let test : eqb (wire_number index) number ≡ true = eq-eqb _ _ n in
          record {
            message = message;
            there = cond-true (eqb (wire_number index) number) (Some message) (message_of number (suc index) later) test;
            first =
                subst (λ (after : List Posted). FirstSent remote_id taken now number message.bytes index (message ∷ later) after)
                (sym (cond-true (eqb (wire_number index) number) (sent_again now message ∷ later) (message ∷ resent number now (suc index) later) test))
                (subst (λ (k : ℕ). FirstSent remote_id taken now k message.bytes index (message ∷ later) (sent_again now message ∷ later)) n
                (sent-here remote_id taken now index message later due));
          }
      | inr other ↦
          let e : first_due now (suc index) later ≡ Resend number = sym (cond-false (is_due now message) (Resend (wire_number index)) (first_due now (suc index) later) other) ∙ is in
          let at : DueAt (suc index) number later = due_at now later (suc index) number e in
          let within : at.place < length later = at.within in
          let numbered : number ≡ wire_number (suc index + at.place) = at.numbered in
          let test : eqb (wire_number index) number ≡ false = ne_eqb _ _ (λ same. absurd (omega arith)) in
          let rest : Again remote_id taken now number (suc index) (suc index) later later (resent number now (suc index) later) =
          again_among remote_id taken now number later (suc index) (omega arith) e in
          record {
            message = rest.message;
            there = cond-false (eqb (wire_number index) number) (Some message) (message_of number (suc index) later) test ∙ rest.there;
            first =
                subst (λ (after : List Posted). FirstSent remote_id taken now number rest.message.bytes index (message ∷ later) after)
                (sym (cond-false (eqb (wire_number index) number) (sent_again now message ∷ later) (message ∷ resent number now (suc index) later) test))
                (sent-behind remote_id taken now number rest.message.bytes index message later (resent number now (suc index) later) other rest.first);
          }
    ]

-- and with the acknowledged ones in front
again_whole : (remote_id : ℕ) (taken : List ℕ) (now : ℤ) (number : ℕ) (posted : List Posted) (index : ℕ) → length (open_part posted) < 65536 → first_due now index posted ≡ Resend number
    → Again remote_id taken now number index (index + first_open posted) (open_part posted) posted
    (take (first_open posted) posted ++ resent number now (index + first_open posted) (open_part posted))
again_whole remote_id taken now number [] index few is = absurd (cc)
again_whole remote_id taken now number (message ∷ later) index few is =
    let P : ℕ → Type 0 = λ n. Again remote_id taken now number index (index + n) (drop n (message ∷ later)) (message ∷ later)
    (take n (message ∷ later) ++ resent number now (index + n) (drop n (message ∷ later))) in
    elim (cases_Bool message.acknowledged) [
      | inl gone ↦
          let opens : first_open (message ∷ later) ≡ suc (first_open later) = ap (λ (b : Bool). cond b (suc (first_open later)) zero) gone in
          let e : first_due now (suc index) later ≡ Resend number =
          sym (cond-false (is_due now message) (Resend (wire_number index)) (first_due now (suc index) later) (due-gone now message gone)) ∙ is in
          let fewer : length (open_part later) < 65536 = subst (λ (n : ℕ). length (drop n (message ∷ later)) < 65536) opens few in
          let rest = again_whole remote_id taken now number later (suc index) fewer e in
          let n : suc index + first_open later ≡ index + suc (first_open later) = omega arith in
          let front : List Posted = take (first_open later) later in
          let moved : Again remote_id taken now number (suc index) (index + suc (first_open later)) (open_part later) later
          (front ++ resent number now (index + suc (first_open later)) (open_part later)) =
          subst (λ (k : ℕ). Again remote_id taken now number (suc index) k (open_part later) later (front ++ resent number now k (open_part later))) n rest in
          subst P (sym opens) (record {
            message = moved.message;
            there = moved.there;
            first = sent-behind remote_id taken now number moved.message.bytes index message later _ (due-gone now message gone) moved.first;
          })
      | inr kept ↦
          let opens : first_open (message ∷ later) ≡ zero = ap (λ (b : Bool). cond b (suc (first_open later)) zero) kept in
          let fewer : length (message ∷ later) < 65536 = subst (λ (n : ℕ). length (drop n (message ∷ later)) < 65536) opens few in
          subst P (sym opens) (
          subst (λ (k : ℕ). Again remote_id taken now number index k (message ∷ later) (message ∷ later) (resent number now k (message ∷ later))) (sym (add-zero index))
          (again_among remote_id taken now number (message ∷ later) index fewer is)
          )
    ]

-- what is due at all, where no message is spent
first-of-due : (posted : List Posted) (now : ℤ) → list_any (is_spent now) posted ≡ false → due_of posted now ≡ first_due now 0 posted
first-of-due posted now none = cond-false (list_any (is_spent now) posted) Spent (first_due now 0 posted) none

-- a session of which the first message due was sent again
abbrev pub after_one : Session → ℕ → ℤ → Session
after_one session number now = record session { posted = after_resend session.posted number now; owed = false }

pub record Once (session : Session) (now : ℤ) (number : ℕ) : Type 0 where
  pub bytes : List ℕ
  pub there : bytes_at session.posted number ≡ Some bytes
  pub messages : resends_of now session ≡ datagram session.remote_id session.taken number bytes ∷ resends_of now (after_one session number now)
  pub becomes : ticking.resent now session ≡ ticking.resent now (after_one session number now)
  pub spent : list_any (is_spent now) (after_resend session.posted number now) ≡ false

pub once : (session : Session) (now : ℤ) (number : ℕ) → length (open_part session.posted) < 65536 → due_of session.posted now ≡ Resend number
    → list_any (is_spent now) session.posted ≡ false → Once session now number
once session now number few is none =
    let posted : List Posted = session.posted in
    let whole : Again session.remote_id session.taken now number 0 (0 + first_open posted) (open_part posted) posted
    (take (first_open posted) posted ++ resent number now (0 + first_open posted) (open_part posted)) =
    again_whole session.remote_id session.taken now number posted 0 few (sym (first-of-due posted now none) ∙ is) in
    let it : Again session.remote_id session.taken now number 0 (first_open posted) (open_part posted) posted (after_resend posted number now) =
    subst (λ (k : ℕ). Again session.remote_id session.taken now number 0 k (open_part posted) posted (take (first_open posted) posted ++ resent number now k (open_part posted)))
    (zero-add (first_open posted)) whole in
    let owed : (session.owed && not (list_any (is_due now) posted)) ≡ false = and_right session.owed (not (list_any (is_due now) posted)) (ap not it.first.due) in
    record {
      bytes = it.message.bytes;
      there = ap (option_map (λ (m : Posted). m.bytes)) it.there;
      messages = it.first.sent;
      becomes =
          ap (λ (posted : List Posted). record session { posted = posted; owed = session.owed && not (list_any (is_due now) session.posted) }) it.first.again
          ∙ ap (λ (owed : Bool). record session { posted = map (again_if_due now) (after_resend posted number now); owed = owed }) owed;
      spent = it.first.spent none;
    }

-- NONE IS DUE

pub record NoneDue (remote_id : ℕ) (taken : List ℕ) (now : ℤ) (index : ℕ) (posted : List Posted) : Type 0 where
  pub sent : resends remote_id taken now index posted ≡ []
  pub again : map (again_if_due now) posted ≡ posted
  pub due : list_any (is_due now) posted ≡ false

none_due : (remote_id : ℕ) (taken : List ℕ) (now : ℤ) (posted : List Posted) (index : ℕ) → first_due now index posted ≡ Nothing → NoneDue remote_id taken now index posted
none_due remote_id taken now [] index is = record { sent = refl; again = refl; due = refl }
none_due remote_id taken now (message ∷ later) index is =
    elim (cases_Bool (is_due now message)) [
      | inl due ↦
          let e : Resend (wire_number index) ≡ Nothing = sym (cond-true (is_due now message) (Resend (wire_number index)) (first_due now (suc index) later) due) ∙ is in
          absurd (cc)
      | inr other ↦
          let e : first_due now (suc index) later ≡ Nothing = sym (cond-false (is_due now message) (Resend (wire_number index)) (first_due now (suc index) later) other) ∙ is in
          let rest : NoneDue remote_id taken now (suc index) later = none_due remote_id taken now later (suc index) e in
          record {
            sent =
                cond-false (is_due now message) (datagram remote_id taken (wire_number index) message.bytes ∷ resends remote_id taken now (suc index) later) (resends remote_id taken now (suc index) later) other
                ∙ rest.sent;
            again =
                ap (λ (first : Posted). first ∷ map (again_if_due now) later) (cond-false (is_due now message) (sent_again now message) message other)
                ∙ ap (λ (xs : List Posted). message ∷ xs) rest.again;
            due = or_from (is_due now message) (list_any (is_due now) later) other rest.due;
          }
    ]

nothing_or : (now : ℤ) (posted : List Posted) (index : ℕ) → ((number : ℕ) → first_due now index posted ≡ Resend number → ⊥) → first_due now index posted ≡ Nothing
nothing_or now [] index never = refl
nothing_or now (message ∷ later) index never =
    elim (cases_Bool (is_due now message)) [
      | inl due ↦ absurd (never (wire_number index) (cond-true (is_due now message) (Resend (wire_number index)) (first_due now (suc index) later) due))
      | inr other ↦
          let e : first_due now index (message ∷ later) ≡ first_due now (suc index) later = cond-false (is_due now message) (Resend (wire_number index)) (first_due now (suc index) later) other in
          e ∙ nothing_or now later (suc index) (λ number is. never number (e ∙ is))
    ]

-- a session of which no message is due stays as it is
pub record Rests (session : Session) (now : ℤ) : Type 0 where
  pub messages : resends_of now session ≡ []
  pub becomes : ticking.resent now session ≡ session

pub rests : (session : Session) (now : ℤ) → list_any (is_spent now) session.posted ≡ false → ((number : ℕ) → due_of session.posted now ≡ Resend number → ⊥) → Rests session now
rests session now none never =
    let posted : List Posted = session.posted in
    let is : first_due now 0 posted ≡ Nothing = nothing_or now posted 0 (λ number e. never number (first-of-due posted now none ∙ e)) in
    let it : NoneDue session.remote_id session.taken now 0 posted = none_due session.remote_id session.taken now posted 0 is in
    let owed : (session.owed && not (list_any (is_due now) posted)) ≡ session.owed =
    ap (λ (b : Bool). session.owed && not b) it.due ∙ and_true session.owed in
    record {
      messages = it.sent;
      becomes =
          ap (λ (posted : List Posted). record session { posted = posted; owed = session.owed && not (list_any (is_due now) session.posted) }) it.again
          ∙ ap (λ (owed : Bool). record session { owed = owed }) owed;
    }

-- WHAT IS SPENT

first-never : (now : ℤ) (posted : List Posted) (index : ℕ) → first_due now index posted ≡ Spent → ⊥
first-never now [] index is = absurd (cc)
first-never now (message ∷ later) index is =
    elim (cases_Bool (is_due now message)) [
      | inl due ↦
          let e : Resend (wire_number index) ≡ Spent = sym (cond-true (is_due now message) (Resend (wire_number index)) (first_due now (suc index) later) due) ∙ is in
          absurd (cc)
      | inr other ↦
          first-never now later (suc index)
          (sym (cond-false (is_due now message) (Resend (wire_number index)) (first_due now (suc index) later) other) ∙ is)
    ]

pub spent-true : (now : ℤ) (posted : List Posted) → due_of posted now ≡ Spent → list_any (is_spent now) posted ≡ true
spent-true now posted is =
    elim (cases_Bool (list_any (is_spent now) posted)) [
      | inl some ↦ some
      | inr none ↦ absurd (first-never now posted 0 (sym (first-of-due posted now none) ∙ is))
    ]

pub spent-false : (now : ℤ) (posted : List Posted) → (due_of posted now ≡ Spent → ⊥) → list_any (is_spent now) posted ≡ false
spent-false now posted never =
    elim (cases_Bool (list_any (is_spent now) posted)) [
      | inl some ↦ absurd (never (cond-true (list_any (is_spent now) posted) Spent (first_due now 0 posted) some))
      | inr none ↦ none
    ]

-- where a message is due, at least one is
first-some : (now : ℤ) (messages : List Posted) (index number : ℕ) → first_due now index messages ≡ Resend number → 0 < count_by (is_due now) messages
first-some now [] index number is = absurd (cc)
first-some now (message ∷ later) index number is =
    let worth : Posted → ℕ = λ m. cond (is_due now m) 1 0 in
    let sum : count_by (is_due now) (message ∷ later) ≡ worth message + count_by (is_due now) later = sum_by-cons worth message later in
    elim (cases_Bool (is_due now message)) [
      | inl due ↦
          let one : worth message ≡ 1 = ap (λ (b : Bool). cond b 1 0) due in
          omega (arith, sum, one)
      | inr other ↦
          let e : first_due now (suc index) later ≡ Resend number = sym (cond-false (is_due now message) (Resend (wire_number index)) (first_due now (suc index) later) other) ∙ is in
          omega (arith, sum, first-some now later (suc index) number e)
    ]

pub due-some : (now : ℤ) (messages : List Posted) (index number : ℕ) → due_from index messages now ≡ Resend number → 0 < count_by (is_due now) messages
due-some now messages index number is =
    elim (cases_Bool (list_any (is_spent now) messages)) [
      | inl spent ↦
          let e : Spent ≡ Resend number = sym (cond-true (list_any (is_spent now) messages) Spent (first_due now index messages) spent) ∙ is in
          absurd (cc)
      | inr none ↦ first-some now messages index number (sym (cond-false (list_any (is_spent now) messages) Spent (first_due now index messages) none) ∙ is)
    ]
