-- The messages from the first open one on, by their numbers and places.
use Rattle.std.proofs.Common.{◌≡◌, ℕ, zero, suc, ◌+◌, ◌-◌, ◌<◌, Bool, true, false, cond, eqb, List, [], ◌∷◌, length, set, refl, sym, ◌∙◌, ap, inl, inr, arith, add-zero, ℤ, eqb-true}
use Rattle.std.specs.Prelude.{Option, Some, is_some, slice_get, nat_le, nat_lt}
use Rattle.std.specs.List.{list_any}
use Rattle.std.proofs.lemmas.Bool.{cases_Bool, eqb-false, cond_both}
use Rattle.std.proofs.lemmas.Bool.Decides.{nat_tests}
use Rattle.dasp_msg.specs.declared.outgoing.Message.{Message}
use Rattle.dasp_msg.specs.declared.due.Due.TheVariants.{Resend, Spent}
use Rattle.dasp_msg.specs.Numbers.{wire_number, distance}
use Rattle.dasp_msg.specs.Posted.{first_open, acknowledged_where, is_spent, is_due, first_due, due_from, message_of, sent_again, resent, is_for}
use Rattle.dasp_msg.proofs.NumberLemmas.{distance-same, distance-suc, wire_number-suc}

-- what is said of numbers is the same from indexes of the same number
pub first_due-alike : (now : ℤ) (messages : List Message) (a b : ℕ) → wire_number a ≡ wire_number b → first_due now a messages ≡ first_due now b messages
first_due-alike now [] a b same = refl
first_due-alike now (message ∷ later) a b same =
    rw (same, first_due-alike now later (suc a) (suc b) (wire_number-suc a b same)) refl

pub message_of-alike : (number : ℕ) (messages : List Message) (a b : ℕ) → wire_number a ≡ wire_number b → message_of number a messages ≡ message_of number b messages
message_of-alike number [] a b same = refl
message_of-alike number (message ∷ later) a b same =
    rw (same, message_of-alike number later (suc a) (suc b) (wire_number-suc a b same)) refl

pub resent-alike : (number : ℕ) (now : ℤ) (messages : List Message) (a b : ℕ) → wire_number a ≡ wire_number b → resent number now a messages ≡ resent number now b messages
resent-alike number now [] a b same = refl
resent-alike number now (message ∷ later) a b same =
    rw (same, resent-alike number now later (suc a) (suc b) (wire_number-suc a b same)) refl

-- the message of a number stands at its distance
pub message_of-place : (number : ℕ) (messages : List Message) (index : ℕ) → number < 65536 → message_of number index messages ≡ slice_get messages (distance index number)
message_of-place number [] index fits = refl
message_of-place number (message ∷ later) index fits =
    elim (cases_Bool (eqb (wire_number index) number)) [
      | inl here ↦ rw (here, distance-same index number (eqb-true (wire_number index) number here)) refl
      | inr there ↦ rw (there, distance-suc index number fits (eqb-false (wire_number index) number there)) (message_of-place number later (suc index) fits)
    ]

pub resent-place : (number : ℕ) (now : ℤ) (messages : List Message) (index : ℕ) (message : Message) → number < 65536 → slice_get messages (distance index number) ≡ Some message
    → resent number now index messages ≡ set messages (distance index number) (sent_again now message)
resent-place number now [] index message fits = λ is. refl
resent-place number now (first ∷ later) index message fits =
    elim (cases_Bool (eqb (wire_number index) number)) [
      | inl here ↦ rw (here, distance-same index number (eqb-true (wire_number index) number here)) (λ is. let same : first ≡ message = cc in ap (λ (m : Message). sent_again now m ∷ later) same)
      | inr there ↦ rw (there, distance-suc index number fits (eqb-false (wire_number index) number there)) (λ is. ap (λ (rest : List Message). first ∷ rest) (resent-place number now later (suc index) message fits is))
    ]

-- a message that is sent again stays where it is
pub first_open-resent : (number : ℕ) (now : ℤ) (messages : List Message) (index : ℕ) → first_open (resent number now index messages) ≡ first_open messages
first_open-resent number now [] index = refl
first_open-resent number now (message ∷ later) index =
    elim (eqb (wire_number index) number) as (λ v. first_open (cond v (sent_again now message ∷ later) (message ∷ resent number now (suc index) later)) ≡ first_open (message ∷ later)) [
      | true ↦ refl
      | false ↦ ap (λ (n : ℕ). cond message.acknowledged (suc n) zero) (first_open-resent number now later (suc index))
    ]

pub is_some-resent : (number other : ℕ) (now : ℤ) (messages : List Message) (index : ℕ) → is_some (message_of other index (resent number now index messages)) ≡ is_some (message_of other index messages)
is_some-resent number other now [] index = refl
is_some-resent number other now (message ∷ later) index =
    elim (eqb (wire_number index) number) as (λ v. is_some (message_of other index (cond v (sent_again now message ∷ later) (message ∷ resent number now (suc index) later))) ≡ is_some (message_of other index (message ∷ later))) [
      | true ↦ elim (eqb (wire_number index) other) as (λ v. is_some (cond v (Some (sent_again now message)) (message_of other (suc index) later)) ≡ is_some (cond v (Some message) (message_of other (suc index) later))) [ true ↦ refl | false ↦ refl ]
      | false ↦ elim (eqb (wire_number index) other) as (λ v. is_some (cond v (Some message) (message_of other (suc index) (resent number now (suc index) later))) ≡ is_some (cond v (Some message) (message_of other (suc index) later))) [ true ↦ refl | false ↦ is_some-resent number other now later (suc index) ]
    ]

-- a message that is due, with its place
pub record DueAt (now : ℤ) (index : ℕ) (messages : List Message) (number : ℕ) : Type 0 where
  pub place : ℕ
  pub message : Message
  pub within : place < length messages
  pub stands : slice_get messages place ≡ Some message
  pub due : is_due now message ≡ true
  pub numbered : number ≡ wire_number (index + place)

first_due-at : (now : ℤ) (messages : List Message) (index number : ℕ) → first_due now index messages ≡ Resend number → DueAt now index messages number
first_due-at now [] index number = λ is. absurd (cc)
first_due-at now (message ∷ later) index number =
    cond_both (is_due now message) (Resend (wire_number index)) (first_due now (suc index) later) (λ due. due ≡ Resend number → DueAt now index (message ∷ later) number)
    (λ due is. record {
      place = zero;
      message = message;
      within = omega arith;
      stands = refl;
      due = due;
      numbered = let same : wire_number index ≡ number = cc in omega arith;
    })
    (λ other is.
    let at : DueAt now (suc index) later number = first_due-at now later (suc index) number is in
    record {
      place = suc at.place;
      message = at.message;
      within = omega (arith, at.within);
      stands = at.stands;
      due = at.due;
      numbered = let e : suc index + at.place ≡ index + suc at.place = omega arith in at.numbered ∙ ap wire_number e;
    })

pub due_from-at : (now : ℤ) (messages : List Message) (index number : ℕ) → due_from index messages now ≡ Resend number → DueAt now index messages number
due_from-at now messages index number =
    cond_both (list_any (is_spent now) messages) Spent (first_due now index messages) (λ due. due ≡ Resend number → DueAt now index messages number)
    (λ spent is. absurd (cc)) (λ other is. first_due-at now messages index number is)

-- a test that says the same of each place
pub acknowledged_where-alike : (test other : ℕ → Bool) (messages : List Message) (a b : ℕ) → ((place : ℕ) → test (a + place) ≡ other (b + place)) → acknowledged_where test a messages ≡ acknowledged_where other b messages
acknowledged_where-alike test other [] a b same = refl
acknowledged_where-alike test other (message ∷ later) a b same =
    let here : test a ≡ other b = ap test (sym (add-zero a)) ∙ same 0 ∙ ap other (add-zero b) in
    let there : (place : ℕ) → test (suc a + place) ≡ other (suc b + place) =
    λ place. let e : suc a + place ≡ a + suc place = omega arith in let f : b + suc place ≡ suc b + place = omega arith in ap test e ∙ same (suc place) ∙ ap other f in
    rw (here, acknowledged_where-alike test other later (suc a) (suc b) there) refl

pub is_for-shift : (first beyond : ℕ) (more : Option (List ℕ)) (place : ℕ) → is_for (first + beyond) more (first + place) ≡ is_for beyond more (0 + place)
is_for-shift first beyond more place =
    let a : nat_lt (first + place) (first + beyond) ≡ nat_lt (0 + place) beyond = grind (arith, nat_tests) in
    let b : nat_le (first + beyond) (first + place) ≡ nat_le beyond (0 + place) = grind (arith, nat_tests) in
    let d : first + place - (first + beyond) ≡ 0 + place - beyond = omega arith in
    rw (a, b, d) refl

pub length-acknowledged : (test : ℕ → Bool) (messages : List Message) (index : ℕ) → length (acknowledged_where test index messages) ≡ length messages
length-acknowledged test [] index = refl
length-acknowledged test (message ∷ later) index = ap suc (length-acknowledged test later (suc index))
