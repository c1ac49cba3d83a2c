-- Lists of posted messages: what a call does to the whole list, it does to the messages from the first open one on.
use Rattle.std.proofs.Common.{◌≡◌, ℕ, zero, suc, ◌+◌, Bool, true, false, ◌||◌, cond, List, [], ◌∷◌, ◌++◌, length, take, drop, refl, sym, ◌∙◌, ap, subst, inl, inr, arith, add-zero, ℤ}
use Rattle.std.specs.List.{list_any}
use Rattle.std.proofs.lemmas.Bool.{cases_Bool}
use Rattle.dasp_msg.specs.declared.outgoing.Message.{Message}
use Rattle.dasp_msg.specs.declared.due.Due.TheVariants.{Resend}
use Rattle.dasp_msg.specs.Numbers.{wire_number}
use Rattle.dasp_msg.specs.Posted.{first_open, open_part, new_message, acknowledged_if, acknowledged_where, is_spent, is_due, first_due}

pub first_open-gone : (message : Message) (later : List Message) → message.acknowledged ≡ true → first_open (message ∷ later) ≡ suc (first_open later)
first_open-gone message later gone = ap (λ (v : Bool). cond v (suc (first_open later)) zero) gone

pub open_part-gone : (message : Message) (later : List Message) → message.acknowledged ≡ true → open_part (message ∷ later) ≡ open_part later
open_part-gone message later gone = ap (λ (v : Bool). drop (cond v (suc (first_open later)) zero) (message ∷ later)) gone

pub open_part-none : (rest : List Message) → first_open rest ≡ zero → open_part rest ≡ rest
open_part-none rest none = ap (λ (n : ℕ). drop n rest) none

-- what is shown of a list whose first message is open, and with an acknowledged message before it, holds
pub by_front : (P : List Message → ℕ → List Message → Type 0)
    → ((rest : List Message) → first_open rest ≡ zero → P rest zero rest)
    → ((message : Message) (later : List Message) → message.acknowledged ≡ true → P later (first_open later) (open_part later) → P (message ∷ later) (suc (first_open later)) (open_part later))
    → (posted : List Message) → P posted (first_open posted) (open_part posted)
by_front P base step [] = base [] refl
by_front P base step (message ∷ later) =
    elim (cases_Bool message.acknowledged) [
      | inl gone ↦
          subst (λ (v : Bool). P (message ∷ later) (cond v (suc (first_open later)) zero) (drop (cond v (suc (first_open later)) zero) (message ∷ later))) (sym gone)
          (step message later gone (by_front P base step later))
      | inr kept ↦
          subst (λ (v : Bool). P (message ∷ later) (cond v (suc (first_open later)) zero) (drop (cond v (suc (first_open later)) zero) (message ∷ later))) (sym kept)
          (base (message ∷ later) (ap (λ (v : Bool). cond v (suc (first_open later)) zero) kept))
    ]

pub length-open_part : (posted : List Message) → length posted ≡ first_open posted + length (open_part posted)
length-open_part posted =
    by_front (λ all n rest. length all ≡ n + length rest) (λ rest none. omega arith) (λ message later gone is. omega (arith, is)) posted

pub first_open-open_part : (posted : List Message) → first_open (open_part posted) ≡ zero
first_open-open_part posted =
    by_front (λ all n rest. first_open rest ≡ zero) (λ rest none. none) (λ message later gone is. is) posted

-- a message behind the others
first_open-before : (rest : List Message) (bytes : List ℕ) (now : ℤ) → first_open rest ≡ zero → first_open (rest ++ new_message bytes now ∷ []) ≡ zero
first_open-before [] bytes now none = refl
first_open-before (message ∷ later) bytes now none =
    elim message.acknowledged as (λ v. cond v (suc (first_open later)) zero ≡ zero → cond v (suc (first_open (later ++ new_message bytes now ∷ []))) zero ≡ zero) [
      | true ↦ λ e. absurd (cc)
      | false ↦ λ e. refl
    ] none

pub first_open-push : (posted : List Message) (bytes : List ℕ) (now : ℤ) → first_open (posted ++ new_message bytes now ∷ []) ≡ first_open posted
first_open-push posted bytes now =
    by_front (λ all n rest. first_open (all ++ new_message bytes now ∷ []) ≡ n)
    (λ rest none. first_open-before rest bytes now none)
    (λ message later gone is. first_open-gone message (later ++ new_message bytes now ∷ []) gone ∙ ap suc is) posted

pub open_part-push : (posted : List Message) (bytes : List ℕ) (now : ℤ) → open_part (posted ++ new_message bytes now ∷ []) ≡ open_part posted ++ new_message bytes now ∷ []
open_part-push posted bytes now =
    by_front (λ all n rest. open_part (all ++ new_message bytes now ∷ []) ≡ rest ++ new_message bytes now ∷ [])
    (λ rest none. open_part-none (rest ++ new_message bytes now ∷ []) (first_open-before rest bytes now none))
    (λ message later gone is. open_part-gone message (later ++ new_message bytes now ∷ []) gone ∙ is) posted

-- a front that stays, before other messages
pub first_open-front : (posted other : List Message) → first_open (take (first_open posted) posted ++ other) ≡ first_open posted + first_open other
first_open-front posted other =
    by_front (λ all n rest. first_open (take n all ++ other) ≡ n + first_open other)
    (λ rest none. omega arith)
    (λ message later gone is. first_open-gone message (take (first_open later) later ++ other) gone ∙ omega (arith, is)) posted

pub open_part-front : (posted other : List Message) → open_part (take (first_open posted) posted ++ other) ≡ open_part other
open_part-front posted other =
    by_front (λ all n rest. open_part (take n all ++ other) ≡ open_part other)
    (λ rest none. refl)
    (λ message later gone is. open_part-gone message (take (first_open later) later ++ other) gone ∙ is) posted

-- nothing at the front is due
is_spent-gone : (now : ℤ) (message : Message) → message.acknowledged ≡ true → is_spent now message ≡ false
is_spent-gone now message gone = rw gone refl

is_due-gone : (now : ℤ) (message : Message) → message.acknowledged ≡ true → is_due now message ≡ false
is_due-gone now message gone = rw gone refl

pub spent-open_part : (now : ℤ) (posted : List Message) → list_any (is_spent now) posted ≡ list_any (is_spent now) (open_part posted)
spent-open_part now posted =
    by_front (λ all n rest. list_any (is_spent now) all ≡ list_any (is_spent now) rest)
    (λ rest none. refl)
    (λ message later gone is. ap (λ (b : Bool). b || list_any (is_spent now) later) (is_spent-gone now message gone) ∙ is) posted

pub first_due-open_part : (now : ℤ) (posted : List Message) (index : ℕ) → first_due now index posted ≡ first_due now (index + first_open posted) (open_part posted)
first_due-open_part now posted =
    by_front (λ all n rest. (index : ℕ) → first_due now index all ≡ first_due now (index + n) rest)
    (λ rest none index. ap (λ (k : ℕ). first_due now k rest) (sym (add-zero index)))
    (λ message later gone is index.
    ap (λ (b : Bool). cond b (Resend (wire_number index)) (first_due now (suc index) later)) (is_due-gone now message gone)
    ∙ is (suc index) ∙ ap (λ (k : ℕ). first_due now k (open_part later)) (let e : suc index + first_open later ≡ index + suc (first_open later) = omega arith in e))
    posted

-- acknowledging what is acknowledged changes nothing
acknowledged_if-gone : (heard : Bool) (message : Message) → message.acknowledged ≡ true → (acknowledged_if heard message).acknowledged ≡ true
acknowledged_if-gone true message gone = refl
acknowledged_if-gone false message gone = gone

pub first_open-acknowledged : (test : ℕ → Bool) (posted : List Message) (index : ℕ) → first_open (acknowledged_where test index posted) ≡ first_open posted + first_open (acknowledged_where test (index + first_open posted) (open_part posted))
first_open-acknowledged test posted =
    by_front (λ all n rest. (index : ℕ) → first_open (acknowledged_where test index all) ≡ n + first_open (acknowledged_where test (index + n) rest))
    (λ rest none index. rw add-zero (omega arith))
    (λ message later gone is index.
    first_open-gone (acknowledged_if (test index) message) (acknowledged_where test (suc index) later) (acknowledged_if-gone (test index) message gone)
    ∙ ap suc (is (suc index))
    ∙ (let e : suc index + first_open later ≡ index + suc (first_open later) = omega arith in rw e (omega arith)))
    posted

pub open_part-acknowledged : (test : ℕ → Bool) (posted : List Message) (index : ℕ) → open_part (acknowledged_where test index posted) ≡ open_part (acknowledged_where test (index + first_open posted) (open_part posted))
open_part-acknowledged test posted =
    by_front (λ all n rest. (index : ℕ) → open_part (acknowledged_where test index all) ≡ open_part (acknowledged_where test (index + n) rest))
    (λ rest none index. rw add-zero refl)
    (λ message later gone is index.
    open_part-gone (acknowledged_if (test index) message) (acknowledged_where test (suc index) later) (acknowledged_if-gone (test index) message gone)
    ∙ is (suc index)
    ∙ (let e : suc index + first_open later ≡ index + suc (first_open later) = omega arith in ap (λ (k : ℕ). open_part (acknowledged_where test k (open_part later))) e))
    posted
