-- A payload asks something or is refused, and bytes are heard in some way, whatever they are.
use Rattle.std.proofs.Common.{◌≡◌, ℕ, inl, inr, Bool, true, false, not, Option, Some, None, List, [], ◌∷◌, length, refl, sym, subst, ◌∙◌, ap}
use Rattle.std.proofs.lemmas.Bool.{cases_eq}
use Rattle.std.specs.Prelude.{◌%◌}
use Rattle.sed_value.specs.declared.refusal.Refusal.TheVariants.{Malformed, UnknownCommand}
use Rattle.sed_wire.specs.Text.{is_text}
use Rattle.sox_msg.specs.Command.{Asked, Asking, CanBeAsked, IsRequest, body_of, is_letter, is_part, letter_of, add, read_part, delete, invoke, link, unlink, rename, reorder, read_slot, subscribe, unsubscribe, version, write, clear}
use Rattle.sox_msg.specs.Forms.{command_at}
use Rattle.sox_msg.proofs.ReadingLemmas.{malformed-body, malformed-short, request-found}
use Rattle.node_events.specs.Heard.{Heard, IsHeard, IsWish, Wish, asks, is_refused}
use Rattle.node_events.proofs.Decided.{Decided, all_three, both, is_below, is_same, is_true}
use Rattle.node_events.proofs.SomeMessage.{message_or_none}
use Rattle.node_events.proofs.Truths.{no_true}

can_be : (command : Asked) → Decided (CanBeAsked command)
can_be (add parent kit kind name config) = both (is_below parent 65536) (is_true (is_text name))
can_be (read_part id part) = both (is_below id 65536) (is_true (is_part part))
can_be (delete id) = is_below id 65536
can_be (invoke id slot argument) = is_below id 65536
can_be (link source from_slot target to_slot) = both (is_below source 65536) (is_below target 65536)
can_be (unlink source from_slot target to_slot) = both (is_below source 65536) (is_below target 65536)
can_be (rename id name) = both (is_below id 65536) (is_true (is_text name))
can_be (reorder id children) = both (is_below id 65536) (cases_eq (length children % 2) 0)
can_be (read_slot id slot) = is_below id 65536
can_be (subscribe id mask) = both (is_below id 65536) (is_below mask 16)
can_be (unsubscribe id mask) = both (is_below id 65536) (is_below mask 16)
can_be version = inl tt
can_be (write id slot value) = is_below id 65536
can_be (clear id) = is_below id 65536

-- a command that has this letter and this body
abbrev Is : ℕ → List ℕ → Asked → Type 0
Is letter body command = CanBeAsked command × (letter ≡ letter_of command) × (body ≡ body_of command)

-- the command of a request with these bytes
is_of : (letter number : ℕ) (body : List ℕ) (asking : Asking) → IsRequest (letter ∷ number ∷ body) asking
    → Is letter body asking.command
is_of letter number body asking request = let same = request.text in (request.can, cc, cc)

some_same : (a b : Asked) → Some a ≡ Some b → a ≡ b
some_same a b is = cc

wish_of : (payload : List ℕ) → (wish : Wish) × IsWish payload wish
wish_of [] = (is_refused Malformed, malformed-short [] (λ letter number body is. cc))
wish_of (letter ∷ []) = (is_refused Malformed, malformed-short (letter ∷ []) (λ first number body is. cc))
wish_of (letter ∷ number ∷ body) = by_letter (is_letter letter) refl
  where
    by_check : is_letter letter ≡ true → (command : Asked) → command_at letter body ≡ Some command
        → Decided (Is letter body command) → (wish : Wish) × IsWish (letter ∷ number ∷ body) wish
    by_check known command found (inl is) = (
      asks command,
      record {
        can = is.0;
        text = ap (λ (n : ℕ). n ∷ number ∷ body) is.1 ∙ ap (λ (t : List ℕ). letter_of command ∷ number ∷ t) is.2;
      },
    )
    by_check known command found (inr fails) = (
      is_refused Malformed,
      record {
        known = λ unknown. no_true (sym (ap not known) ∙ unknown);
        none = λ asking request.
            let same : command ≡ asking.command =
            some_same command asking.command (sym found ∙ request-found letter number body asking request) in
            fails (subst (Is letter body) (sym same) (is_of letter number body asking request));
      },
    )

    by_command : is_letter letter ≡ true → (o : Option Asked) → command_at letter body ≡ o
        → (wish : Wish) × IsWish (letter ∷ number ∷ body) wish
    by_command known None found = (is_refused Malformed, malformed-body letter number body known found)
    by_command known (Some command) found =
        by_check known command found
        (all_three (can_be command) (cases_eq letter (letter_of command)) (is_same body (body_of command)))

    by_letter : (b : Bool) → is_letter letter ≡ b → (wish : Wish) × IsWish (letter ∷ number ∷ body) wish
    by_letter true known = by_command known (command_at letter body) refl
    by_letter false unknown = (is_refused UnknownCommand, ap not unknown)

pub some_heard : (bytes : List ℕ) → (heard : Option Heard) × IsHeard bytes heard
some_heard bytes = elim (message_or_none bytes) [
  | inl found ↦
      let asked = wish_of found.0.payload in
      (Some (record { message = found.0; wish = asked.0 }), (found.1, asked.1))
  | inr none ↦ (None, none)
]
