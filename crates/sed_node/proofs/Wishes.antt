-- What a payload asks, by what is read of it.
use Rattle.std.proofs.Common.{◌≡◌, ℕ, List, refl, sym, ap, subst}
use Rattle.std.specs.Prelude.{◌↔◌, IsErrOf, IsOkAnd, MatchResult, Result, Ok, Err}
use Rattle.sed_value.specs.declared.refusal.Refusal.{Refusal}
use Rattle.sed_value.specs.declared.refusal.Refusal.TheVariants.{Malformed, UnknownCommand}
use Rattle.sox_msg.specs.Command.{Asked, Asking, HasUnknownLetter, IsMalformed, IsRequest, number_in}
use Rattle.sox_msg.specs.View.{asked_of, asking_of}
use Rattle.sox_msg.specs.declared.command.Request.{Request}
use Rattle.node_events.specs.Heard.{IsWish, Wish, asks, is_refused}

-- what was read is what the payload asks
abbrev pub IsReadAs : List ℕ → Result Request Refusal → Wish → Type 0
IsReadAs payload r wish =
    MatchResult r (λ request. (wish ≡ asks (asked_of request.command)) × (number_in payload ≡ request.number))
    (λ refusal. wish ≡ is_refused refusal)

module _ (payload : List ℕ) where
  asked_is : (r : Result Request Refusal) (command : Asked)
      → IsOkAnd r (λ request. asking_of request ≡ record { number = number_in payload; command = command })
      → IsReadAs payload r (asks command)
  asked_is (Ok request) command is =
      (ap (λ (a : Asking). asks a.command) (sym is), ap (λ (a : Asking). a.number) (sym is))
  asked_is (Err refusal) command is = absurd is

  refused_is : (r : Result Request Refusal) (refusal : Refusal) → IsErrOf r refusal
      → IsReadAs payload r (is_refused refusal)
  refused_is r refusal is = subst (λ (x : Result Request Refusal). IsReadAs payload x (is_refused refusal)) (sym is)
      refl

  module _ (r : Result Request Refusal) (only : (asking : Asking) → IsRequest payload asking
      → IsOkAnd r (λ request. asking_of request ≡ asking))
      (malformed : IsErrOf r Malformed ↔ IsMalformed payload)
      (unknown : IsErrOf r UnknownCommand ↔ HasUnknownLetter payload) where
    pub wish_read : (wish : Wish) → IsWish payload wish → IsReadAs payload r wish
    wish_read (asks command) is = asked_is r command (only _ is)
    wish_read (is_refused Malformed) is = refused_is r Malformed (malformed.1 is)
    wish_read (is_refused UnknownCommand) is = refused_is r UnknownCommand (unknown.1 is)
    wish_read (is_refused refusal) is = absurd is
