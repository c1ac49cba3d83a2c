-- Texts that are read from left to right.
use Rattle.std.proofs.Common.{◌≡◌, ℕ, ◌⊎◌, inl, inr, Bool, true, false, ◌==◌, if◌then◌else◌, IsTrue, Option, Some, None, Result, Err, IsOkAnd, List, [], ◌∷◌, ◌++◌, refl, subst, ◌∙◌, ap, arith}
use Rattle.std.proofs.lemmas.Bool.{eqb-true}
use Rattle.std.proofs.lemmas.Bool.Decides.{nat_tests}
use Rattle.std.specs.Option.{option_and_then}
use Rattle.sed_wire.specs.Reading.{Reads}
use Rattle.sed_wire.specs.Text.{is_character, is_text, SpellsText}
use Rattle.sox_msg.specs.Command.{str}
use Rattle.sox_msg.specs.Forms.{text_at}
pub use Rattle.std.proofs.lemmas.Option.{same_Some as some_eq}

-- which way a test went
pub split : {A : Type 0} (t : Bool) (x y z : A) → (if t then x else y) ≡ z → ((t ≡ true) × (x ≡ z)) ⊎ ((t ≡ false)
    × (y ≡ z))
split true x y z e = inl (refl, e)
split false x y z e = inr (refl, e)

-- the value of a step that found one
pub step_found : {A B : Type 0} (o : Option A) (f : A → Option B) (y : B) → option_and_then f o ≡ Some y
    → (x : A) × (o ≡ Some x) × (f x ≡ Some y)
step_found None f y e = absurd cc
step_found (Some x) f y e = (x, refl, e)

pub record IsTextAt (bytes text behind : List ℕ) : Type 0 where
  pub characters : IsTrue (is_text text)
  pub front : bytes ≡ str text ++ behind

text_longer : (byte : ℕ) (bytes text behind : List ℕ) → is_character byte ≡ true → IsTextAt bytes text behind
    → IsTextAt (byte ∷ bytes) (byte ∷ text) behind
text_longer byte bytes text behind is found = record {
  characters = let others = found.characters in grind (arith, nat_tests);
  front = ap (λ (t : List ℕ). byte ∷ t) found.front;
}

pub text_at-sound : (bytes text behind : List ℕ) → text_at bytes ≡ Some (text, behind) → IsTextAt bytes text behind
text_at-sound [] text behind e = absurd cc
text_at-sound (byte ∷ bytes) text behind e = elim (split (byte == 0) (Some ([], bytes)) _ (Some (text, behind)) e) [
  | inl is ↦
      let same : ([], bytes) ≡ (text, behind) = some_eq _ _ is.1 in
      let zero : byte ≡ 0 = eqb-true byte 0 is.0 in
      subst (λ (p : List ℕ × List ℕ). IsTextAt (byte ∷ bytes) p.0 p.1) same
      (record { characters = refl; front = ap (λ (n : ℕ). n ∷ bytes) zero })
  | inr other ↦ elim (split (is_character byte) _ None (Some (text, behind)) other.1) [
    | inl is ↦
        let read = step_found (text_at bytes) _ (text, behind) is.1 in
        let same : (byte ∷ read.0.0, read.0.1) ≡ (text, behind) = some_eq _ _ read.2 in
        subst (λ (p : List ℕ × List ℕ). IsTextAt (byte ∷ bytes) p.0 p.1) same
        (text_longer byte bytes read.0.0 read.0.1 is.0 (text_at-sound bytes read.0.0 read.0.1 read.1))
    | inr none ↦ absurd (let e : None ≡ Some (text, behind) = none.1 in cc)
  ]
]

pub text_at-complete : (text behind : List ℕ) → IsTrue (is_text text) → text_at (str text ++ behind) ≡ Some (text, behind)
text_at-complete [] behind characters = refl
text_at-complete (byte ∷ bytes) behind characters =
    let others : IsTrue (is_text bytes) = grind (arith, nat_tests) in
    let is : is_character byte ≡ true = grind (arith, nat_tests) in
    let above : (byte == 0) ≡ false = grind (arith, nat_tests) in
    rw (above, is, text_at-complete bytes behind others) refl

-- what a reader read
pub text_at-read : (bytes text behind : List ℕ) → Reads SpellsText text bytes behind → text_at bytes ≡ Some (text, behind)
text_at-read bytes text behind found =
    ap text_at (found.front ∙ ap (λ (t : List ℕ). t ++ behind) found.spelled.ended)
    ∙ text_at-complete text behind found.spelled.characters

-- what a reader refused
pub text_at-none : {T E : Type 0} (now : T → List ℕ) (bytes new : List ℕ) (fault : E) (result : Result T E)
    → result ≡ Err fault → ((text spelling follows : List ℕ) → SpellsText text spelling → bytes ≡ spelling ++ follows
    → IsOkAnd result (λ read. now read ≡ text) × (new ≡ follows)) → text_at bytes ≡ None
text_at-none {T} {E} now bytes new fault result is again =
    none_of (text_at bytes) (λ read e. absurd
    (let at = text_at-sound bytes read.0 read.1 e in
    let ok = (again read.0 (str read.0) read.1 (record { characters = at.characters; ended = refl }) at.front).0 in
    let bad : IsOkAnd (Err fault) (λ (t : T). now t ≡ read.0) =
    subst (λ (r : Result T E). IsOkAnd r (λ t. now t ≡ read.0)) is ok in
    bad))
  where
    none_of : {A : Type 0} (o : Option A) → ((x : A) → o ≡ Some x → ⊥) → o ≡ None
    none_of None never = refl
    none_of (Some x) never = absurd (never x refl)
