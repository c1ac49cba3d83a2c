-- What bytes say, in one way at most.
use Rattle.std.proofs.Common.{◌≡◌, ℕ, inl, inr, Bool, true, List, [], ◌∷◌, map, refl, sym, ◌∙◌, ap, subst}
use Rattle.std.specs.Prelude.{◌⊎◌, not, Option, Some, None}
use Rattle.sed_outside.specs.declared.addr.Addr.{Addr}
use Rattle.sed_value.specs.declared.refusal.Refusal.{Refusal}
use Rattle.sed_value.specs.declared.refusal.Refusal.TheVariants.{Malformed, UnknownCommand}
use Rattle.dasp_msg.specs.Message.{IsMessage}
use Rattle.dasp_msg.specs.Shown.{Message}
use Rattle.replay_log.specs.Entry.{Entry, datagram, tick}
use Rattle.sox_msg.specs.Command.{Asked, Asking, HasUnknownLetter, IsMalformed, IsRequest, body_of, is_letter, letter_of, add, read_part, delete, invoke, link, unlink, rename, reorder, read_slot, subscribe, unsubscribe, version, write, clear}
use Rattle.sox_msg.specs.Refused.{IsRefusedFor}
use Rattle.node_events.specs.Handling.{AreHandledAs, Handled, wrong_in}
use Rattle.node_events.specs.Heard.{Heard, IsHeard, IsWish, Wish, asks, is_refused}
use Rattle.node_events.specs.Mishap.{Mishap}
use Rattle.node_events.specs.Running.{Event, IsEvent, comes, passes}
use Rattle.node_events.proofs.Truths.{no_true}

-- ---- refusals of payloads

-- a refusal of a command is given to no payload before its command is looked at
abbrev Kind : Refusal → Type 0
Kind refusal =
    (refusal ≡ Malformed) ⊎ ((refusal ≡ UnknownCommand) ⊎ ((payload : List ℕ) → IsRefusedFor refusal payload → ⊥))

kind_of : (refusal : Refusal) → Kind refusal
kind_of Malformed = inl refl
kind_of UnknownCommand = inr (inl refl)
kind_of _ = inr (inr (λ payload why. why))

known : (asked : Asked) → is_letter (letter_of asked) ≡ true
known (add parent kit kind name config) = refl
known (read_part id part) = refl
known (delete id) = refl
known (invoke id slot argument) = refl
known (link source from_slot target to_slot) = refl
known (unlink source from_slot target to_slot) = refl
known (rename id name) = refl
known (reorder id children) = refl
known (read_slot id slot) = refl
known (subscribe id mask) = refl
known (unsubscribe id mask) = refl
known version = refl
known (write id slot value) = refl
known (clear id) = refl

-- ---- a wish

module _ (payload : List ℕ) where
  unknown_apart : (asking : Asking) → IsRequest payload asking → HasUnknownLetter payload → ⊥
  unknown_apart asking request unknown =
      let of_text : HasUnknownLetter (letter_of asking.command ∷ asking.number ∷ body_of asking.command) = subst HasUnknownLetter request.text unknown in
      no_true (sym (ap not (known asking.command)) ∙ of_text)

  request_apart : (asking : Asking) (refusal : Refusal) → IsRequest payload asking → IsRefusedFor refusal payload → ⊥
  request_apart asking refusal request why = by_kind (kind_of refusal)
    where
      by_kind : Kind refusal → ⊥
      by_kind (inl is) = (subst (λ (r : Refusal). IsRefusedFor r payload) is why).none asking request
      by_kind (inr (inl is)) = unknown_apart asking request (subst (λ (r : Refusal). IsRefusedFor r payload) is why)
      by_kind (inr (inr is)) = is payload why

  one_refusal : (x y : Refusal) → IsRefusedFor x payload → IsRefusedFor y payload → x ≡ y
  one_refusal x y for_x for_y = by_kinds (kind_of x) (kind_of y)
    where
      bad : (r : Refusal) → r ≡ Malformed → IsRefusedFor r payload → IsMalformed payload
      bad r is why = subst (λ (r : Refusal). IsRefusedFor r payload) is why

      unknown : (r : Refusal) → r ≡ UnknownCommand → IsRefusedFor r payload → HasUnknownLetter payload
      unknown r is why = subst (λ (r : Refusal). IsRefusedFor r payload) is why

      by_kinds : Kind x → Kind y → x ≡ y
      by_kinds (inl one) (inl other) = one ∙ sym other
      by_kinds (inl one) (inr (inl other)) = absurd ((bad x one for_x).known (unknown y other for_y))
      by_kinds (inl one) (inr (inr other)) = absurd (other payload for_y)
      by_kinds (inr (inl one)) (inl other) = absurd ((bad y other for_y).known (unknown x one for_x))
      by_kinds (inr (inl one)) (inr (inl other)) = one ∙ sym other
      by_kinds (inr (inl one)) (inr (inr other)) = absurd (other payload for_y)
      by_kinds (inr (inr one)) other = absurd (one payload for_x)

-- ---- one way

abbrev pub OneMessage : Type 0
OneMessage = (bytes : List ℕ) (message other : Message) → IsMessage bytes message → IsMessage bytes other → message ≡ other

abbrev pub OneRequest : Type 0
OneRequest = (payload : List ℕ) (asking other : Asking) → IsRequest payload asking → IsRequest payload other → asking ≡ other

module _ (one_message : OneMessage) (one_request : OneRequest) where
  one_wish : (payload : List ℕ) (x y : Wish) → IsWish payload x → IsWish payload y → x ≡ y
  one_wish payload (asks x) (asks y) one other = ap (λ (asking : Asking). asks asking.command) (one_request payload _ _ one other)
  one_wish payload (asks x) (is_refused r) one other = absurd (request_apart payload _ r one other)
  one_wish payload (is_refused r) (asks y) one other = absurd (request_apart payload _ r other one)
  one_wish payload (is_refused r) (is_refused q) one other = ap is_refused (one_refusal payload r q one other)

  pub one_heard : (bytes : List ℕ) (x y : Option Heard) → IsHeard bytes x → IsHeard bytes y → x ≡ y
  one_heard bytes None None one other = refl
  one_heard bytes None (Some y) one other = absurd (one y.message other.0)
  one_heard bytes (Some x) None one other = absurd (other x.message one.0)
  one_heard bytes (Some x) (Some y) one other =
      let message : x.message ≡ y.message = one_message bytes x.message y.message one.0 other.0 in
      let wish : x.wish ≡ y.wish =
      one_wish y.message.payload x.wish y.wish (subst (λ (message : Message). IsWish message.payload x.wish) message one.1) other.1 in
      ap (λ (message : Message). Some (record { message = message; wish = x.wish })) message
      ∙ ap (λ (wish : Wish). Some (record { message = y.message; wish = wish })) wish

  one_event_of : (entry : Entry) (x y : Event) → IsEvent entry x → IsEvent entry y → wrong_in x ≡ wrong_in y → x ≡ y
  one_event_of (datagram sender bytes) (comes from heard mishap) (comes from' heard' mishap') one other same =
      ap (λ (a : Addr). comes a heard mishap) (one.0 ∙ sym other.0)
      ∙ ap (λ (h : Option Heard). comes from' h mishap) (one_heard bytes heard heard' one.1 other.1)
      ∙ ap (λ (w : Mishap). comes from' heard' w) same
  one_event_of (datagram sender bytes) (comes from heard mishap) (passes moment) one other same = absurd other
  one_event_of (datagram sender bytes) (passes moment) y one other same = absurd one
  one_event_of (tick ticks) (comes from heard mishap) y one other same = absurd one
  one_event_of (tick ticks) (passes moment) (comes from heard mishap) one other same = absurd other
  one_event_of (tick ticks) (passes moment) (passes moment') one other same = ap passes (one ∙ sym other)

  first_same : (x y : Mishap) (xs ys : List Mishap) → x ∷ xs ≡ y ∷ ys → x ≡ y
  first_same x y xs ys is = cc

  later_same : (x y : Mishap) (xs ys : List Mishap) → x ∷ xs ≡ y ∷ ys → xs ≡ ys
  later_same x y xs ys is = cc

  pub one_run : (fixed : Bool) (entries : List Handled) (xs ys : List Event) → AreHandledAs fixed entries xs → AreHandledAs fixed entries ys
      → map wrong_in xs ≡ map wrong_in ys → xs ≡ ys
  one_run fixed [] [] [] one other same = refl
  one_run fixed [] [] (y ∷ ys) one other same = absurd other
  one_run fixed [] (x ∷ xs) ys one other same = absurd one
  one_run fixed (entry ∷ entries) [] ys one other same = absurd one
  one_run fixed (entry ∷ entries) (x ∷ xs) [] one other same = absurd other
  one_run fixed (entry ∷ entries) (x ∷ xs) (y ∷ ys) one other same =
      ap (λ (e : Event). e ∷ xs) (one_event_of entry.entry x y one.0.0 other.0.0 (first_same (wrong_in x) (wrong_in y) (map wrong_in xs) (map wrong_in ys) same))
      ∙ ap (λ (es : List Event). y ∷ es) (one_run fixed entries xs ys one.1 other.1 (later_same (wrong_in x) (wrong_in y) (map wrong_in xs) (map wrong_in ys) same))
