-- What comes of the reading of a payload.
use Rattle.std.proofs.Common.{◌≡◌, ℕ, ◌≤◌, ◌⊎◌, inl, inr, true, not, Some, None, Result, Ok, Err, MatchResult, IfErr, IsErrOf, IsOkAnd, List, [], ◌∷◌, refl, sym, subst, ◌∙◌, ap, arith}
use Rattle.sed_value.specs.declared.refusal.Refusal.{Refusal}
use Rattle.sed_value.specs.declared.refusal.Refusal.TheVariants.{Malformed, UnknownCommand, NoComponent, NoType, AbstractType, BadName, NameTaken, TooManyChildren, TooDeep, ComponentLimit, DataFull, NoSlot, WrongKindOfSlot, BadValue, BufferTooLong, LinkTypesDiffer, TargetLinked, LinksAtComponent, LinkLimit, NoLink, NotTheChildren, AppItself, Faulted, SaveDevice, StoreFull, OutOfMemory}
use Rattle.sed_value.specs.Refusal.{number_of_refusal}
use Rattle.sox_msg.specs.Command.{Asked, Asking, HasUnknownLetter, IsMalformed, IsRequest, body_of, is_letter, letter_of, number_in}
use Rattle.sox_msg.specs.Command.{add, read_part, delete, invoke, link, unlink, rename, reorder, read_slot, subscribe, unsubscribe, version, write, clear}
use Rattle.sox_msg.specs.Forms.{command_at}
use Rattle.sox_msg.specs.Refused.{IsRefusedFor}
use Rattle.sox_msg.proofs.AskedLemmas.{AreBytes, command-complete, command-sound}
use Rattle.sox_msg.proofs.TextLemmas.{some_eq}

-- the two bytes in front of a request's body
front-letter : (letter number : ℕ) (body : List ℕ) (request : Asking) → IsRequest (letter ∷ number ∷ body) request
    → (letter ≡ letter_of request.command) × (number ≡ request.number) × (body ≡ body_of request.command)
front-letter letter number body request is = let e = is.text in (cc, cc, cc)

pub request-found : (letter number : ℕ) (body : List ℕ) (request : Asking) → IsRequest (letter ∷ number ∷ body) request
    → command_at letter body ≡ Some request.command
request-found letter number body request is =
    let parts = front-letter letter number body request is in
    ap (λ (n : ℕ). command_at n body) parts.0 ∙ ap (λ (b : List ℕ). command_at (letter_of request.command) b) parts.2
    ∙ command-complete request.command is.can

pub request_is : (letter number : ℕ) (body : List ℕ) (c : Asked) → AreBytes body → command_at letter body ≡ Some c
    → IsRequest (letter ∷ number ∷ body) (record { number = number; command = c })
request_is letter number body c bytes found =
    let asked = command-sound letter body c bytes found in
    record {
      can = asked.can;
      text = ap (λ (n : ℕ). n ∷ number ∷ body) (sym asked.letter)
          ∙ ap (λ (b : List ℕ). letter_of c ∷ number ∷ b) asked.body;
    }

asking : ℕ → Asked → Asking
asking number command = record { number = number; command = command }

pub one_request : (payload : List ℕ) (a b : Asking) → IsRequest payload a → IsRequest payload b → a ≡ b
unfolding asking
one_request payload a b is also =
    let P : List ℕ → Type 0 = λ p. IsRequest p b in
    let other = subst P is.text also in
    let found = request-found _ _ _ b other in
    let command : a.command ≡ b.command = some_eq _ _ (sym (command-complete a.command is.can) ∙ found) in
    let number = (front-letter _ _ _ b other).1 in
    ap (λ (n : ℕ). asking n a.command) number ∙ ap (λ (c : Asked). asking b.number c) command

pub request-number : (payload : List ℕ) (a : Asking) → IsRequest payload a → a.number ≡ number_in payload
request-number payload a is = sym (ap number_in is.text)

is_letter-of : (c : Asked) → is_letter (letter_of c) ≡ true
is_letter-of (add p k t name config) = refl
is_letter-of (read_part id part) = refl
is_letter-of (delete id) = refl
is_letter-of (invoke id s arg) = refl
is_letter-of (link f s g t) = refl
is_letter-of (unlink f s g t) = refl
is_letter-of (rename id name) = refl
is_letter-of (reorder id children) = refl
is_letter-of (read_slot id s) = refl
is_letter-of (subscribe id m) = refl
is_letter-of (unsubscribe id m) = refl
is_letter-of version = refl
is_letter-of (write id s value) = refl
is_letter-of (clear id) = refl

-- a request has a letter of a command
request-known : (payload : List ℕ) (request : Asking) → IsRequest payload request → HasUnknownLetter payload → ⊥
request-known [] request is unknown = unknown
request-known (letter ∷ []) request is unknown = unknown
request-known (letter ∷ number ∷ body) request is unknown =
    let parts = front-letter letter number body request is in
    let known : is_letter letter ≡ true = ap is_letter parts.0 ∙ is_letter-of request.command in
    let test : not (is_letter letter) ≡ true = unknown in
    let clash : not true ≡ true = ap not (sym known) ∙ test in
    absurd cc

pub malformed-body : (letter number : ℕ) (body : List ℕ) → is_letter letter ≡ true → command_at letter body ≡ None
    → IsMalformed (letter ∷ number ∷ body)
malformed-body letter number body known none = record {
  known = λ unknown.
      let test : not (is_letter letter) ≡ true = unknown in
      let clash : not true ≡ true = ap not (sym known) ∙ test in absurd cc;
  none = λ request is. let found = sym none ∙ request-found letter number body request is in absurd cc;
}

pub malformed-short : (payload : List ℕ) → ((letter number : ℕ) (body : List ℕ) → payload ≡ letter ∷ number ∷ body → ⊥)
    → IsMalformed payload
malformed-short [] short = record { known = λ u. u; none = λ request is. short _ _ _ is.text }
malformed-short (letter ∷ []) short = record { known = λ u. u; none = λ request is. short _ _ _ is.text }
malformed-short (letter ∷ number ∷ body) short = absurd (short letter number body refl)

-- what comes of the reading of a payload
abbrev pub Outcome : {X : Type 0} → (X → Asking) → List ℕ → Result X Refusal → Type 0
Outcome seen payload result =
    MatchResult result (λ x. IsRequest payload (seen x)) (λ refusal. IsRefusedFor refusal payload)

-- there are two reasons
two_reasons : (refusal : Refusal) (payload : List ℕ) → IsRefusedFor refusal payload
    → ((refusal ≡ Malformed) × IsMalformed payload) ⊎ ((refusal ≡ UnknownCommand) × HasUnknownLetter payload)
two_reasons Malformed payload for = inl (refl, for)
two_reasons UnknownCommand payload for = inr (refl, for)
two_reasons NoComponent payload for = absurd for
two_reasons NoType payload for = absurd for
two_reasons AbstractType payload for = absurd for
two_reasons BadName payload for = absurd for
two_reasons NameTaken payload for = absurd for
two_reasons TooManyChildren payload for = absurd for
two_reasons TooDeep payload for = absurd for
two_reasons ComponentLimit payload for = absurd for
two_reasons DataFull payload for = absurd for
two_reasons NoSlot payload for = absurd for
two_reasons WrongKindOfSlot payload for = absurd for
two_reasons BadValue payload for = absurd for
two_reasons BufferTooLong payload for = absurd for
two_reasons LinkTypesDiffer payload for = absurd for
two_reasons TargetLinked payload for = absurd for
two_reasons LinksAtComponent payload for = absurd for
two_reasons LinkLimit payload for = absurd for
two_reasons NoLink payload for = absurd for
two_reasons NotTheChildren payload for = absurd for
two_reasons AppItself payload for = absurd for
two_reasons Faulted payload for = absurd for
two_reasons SaveDevice payload for = absurd for
two_reasons StoreFull payload for = absurd for
two_reasons OutOfMemory payload for = absurd for

pub outcome-only : {X : Type 0} (seen : X → Asking) (payload : List ℕ) (result : Result X Refusal)
    → Outcome seen payload result → (request : Asking) → IsRequest payload request
    → IsOkAnd result (λ x. seen x ≡ request)
outcome-only seen payload (Ok x) is request also = one_request payload (seen x) request is also
outcome-only seen payload (Err refusal) for request also = absurd (elim (two_reasons refusal payload for) [
  | inl malformed ↦ malformed.1.none request also
  | inr unknown ↦ request-known payload request also unknown.1
])

abbrev err : {X : Type 0} → Refusal → Result X Refusal
err refusal = Err refusal

same_err : {X : Type 0} (a b : Refusal) → err {X = X} a ≡ err b → a ≡ b
same_err a b e = cc

pub outcome-refused : {X : Type 0} (seen : X → Asking) (payload : List ℕ) (refusal : Refusal) (result : Result X Refusal)
    → Outcome seen payload result → IsErrOf result refusal → IsRefusedFor refusal payload
outcome-refused seen payload refusal (Ok x) is e = absurd cc
outcome-refused {X} seen payload refusal (Err other) for e =
    subst (λ (r : Refusal). IsRefusedFor r payload) (same_err {X = X} other refusal e) for

pub outcome-malformed : {X : Type 0} (seen : X → Asking) (payload : List ℕ) (result : Result X Refusal)
    → Outcome seen payload result → IsMalformed payload → IsErrOf result Malformed
outcome-malformed seen payload (Ok x) is for = absurd (for.none (seen x) is)
outcome-malformed seen payload (Err refusal) why for = elim (two_reasons refusal payload why) [
  | inl malformed ↦ ap Err malformed.0
  | inr unknown ↦ absurd (for.known unknown.1)
]

pub outcome-unknown : {X : Type 0} (seen : X → Asking) (payload : List ℕ) (result : Result X Refusal)
    → Outcome seen payload result → HasUnknownLetter payload → IsErrOf result UnknownCommand
outcome-unknown seen payload (Ok x) is unknown = absurd (request-known payload (seen x) is unknown)
outcome-unknown seen payload (Err refusal) why for = elim (two_reasons refusal payload why) [
  | inl malformed ↦ absurd (malformed.1.known for)
  | inr unknown ↦ ap Err unknown.0
]

pub outcome-no_other : {X : Type 0} (seen : X → Asking) (payload : List ℕ) (result : Result X Refusal)
    → Outcome seen payload result → IfErr result (λ refusal. number_of_refusal refusal ≤ 2)
outcome-no_other seen payload (Ok x) is = tt
outcome-no_other seen payload (Err refusal) why = elim (two_reasons refusal payload why) [
  | inl malformed ↦ omega (arith, ap number_of_refusal malformed.0)
  | inr unknown ↦ omega (arith, ap number_of_refusal unknown.0)
]
