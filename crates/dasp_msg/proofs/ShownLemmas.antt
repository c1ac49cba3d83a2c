-- What fields say, one after the other.
use Rattle.std.proofs.Common.{◌≡◌, ℕ, ◌%◌, ◌⊎◌, inl, inr, Bool, true, false, ◌==◌, if◌then◌else◌, Option, Some, None, List, [], ◌∷◌, ◌++◌, refl, sym, ◌∙◌, ap, arith}
use Rattle.std.proofs.lemmas.Bool.{eqb-true}
use Rattle.std.specs.Option.{option_and_then, option_or}
use Rattle.dasp_msg.specs.declared.header.Header.{Header}
use Rattle.dasp_msg.specs.Field.{Content, nil, number, text, run, Part, form_of, SpellsFields}
use Rattle.dasp_msg.specs.Noting.{noted}
use Rattle.dasp_msg.specs.Shown.{as_number, as_text, as_run, first_of, number_of_first, text_of_first, run_of_first, shown_by, without_fields}

either : (t : Bool) → (t ≡ true) ⊎ (t ≡ false)
either true = inl refl
either false = inr refl

if-or : (t : Bool) (v : Content) (o p q : Option Content) → o ≡ option_or p q
    → (if t then Some v else o) ≡ option_or (if t then Some v else p) q
if-or true v o p q e = refl
if-or false v o p q e = e

first-push : (byte : ℕ) (fs : List Part) (f : Part)
    → first_of byte (fs ++ f ∷ []) ≡ option_or (first_of byte fs) (first_of byte (f ∷ []))
first-push byte [] f = refl
first-push byte (g ∷ gs) f =
    if-or (g.byte == byte) g.content (first_of byte (gs ++ f ∷ [])) (first_of byte gs) (first_of byte (f ∷ []))
    (first-push byte gs f)

-- a field's value has the form that its byte says
first-form : (byte : ℕ) (fs : List Part) (spelling : List ℕ) (v : Content) → SpellsFields fs spelling
    → first_of byte fs ≡ Some v → byte % 4 ≡ form_of v
first-form byte [] spelling v spelled e = absurd cc
first-form byte (g ∷ gs) spelling v spelled e = elim (either (g.byte == byte)) [
  | inl is ↦
      let found : (if g.byte == byte then Some g.content else first_of byte gs) ≡ Some v = e in
      let first = rw is at found in
      let same : g.content ≡ v = cc in
      sym (ap (λ (n : ℕ). n % 4) (eqb-true g.byte byte is)) ∙ spelled.2.form ∙ ap form_of same
  | inr other ↦
      let found : (if g.byte == byte then Some g.content else first_of byte gs) ≡ Some v = e in
      first-form byte gs spelled.1 v spelled.3 (rw other at found)
]

number-or : (o p : Option Content) → ((v : Content) → o ≡ Some v → 1 ≡ form_of v)
    → option_and_then as_number (option_or o p) ≡ option_or (option_and_then as_number o) (option_and_then as_number p)
number-or None p form = refl
number-or (Some nil) p form = absurd (omega (arith, form nil refl))
number-or (Some (number n)) p form = refl
number-or (Some (text t)) p form = absurd (omega (arith, form (text t) refl))
number-or (Some (run r)) p form = absurd (omega (arith, form (run r) refl))

text-or : (o p : Option Content) → ((v : Content) → o ≡ Some v → 2 ≡ form_of v)
    → option_and_then as_text (option_or o p) ≡ option_or (option_and_then as_text o) (option_and_then as_text p)
text-or None p form = refl
text-or (Some nil) p form = absurd (omega (arith, form nil refl))
text-or (Some (number n)) p form = absurd (omega (arith, form (number n) refl))
text-or (Some (text t)) p form = refl
text-or (Some (run r)) p form = absurd (omega (arith, form (run r) refl))

run-or : (o p : Option Content) → ((v : Content) → o ≡ Some v → 3 ≡ form_of v)
    → option_and_then as_run (option_or o p) ≡ option_or (option_and_then as_run o) (option_and_then as_run p)
run-or None p form = refl
run-or (Some nil) p form = absurd (omega (arith, form nil refl))
run-or (Some (number n)) p form = absurd (omega (arith, form (number n) refl))
run-or (Some (text t)) p form = absurd (omega (arith, form (text t) refl))
run-or (Some (run r)) p form = refl

number-push : (byte : ℕ) → 1 ≡ byte % 4 → (fs : List Part) (f : Part) (spelling : List ℕ) → SpellsFields fs spelling
    → number_of_first byte (fs ++ f ∷ []) ≡ option_or (number_of_first byte fs) (number_of_first byte (f ∷ []))
unfolding number_of_first
number-push byte form fs f spelling spelled =
    ap (option_and_then as_number) (first-push byte fs f)
    ∙ number-or (first_of byte fs) (first_of byte (f ∷ []))
    (λ v e. form ∙ first-form byte fs spelling v spelled e)

text-push : (byte : ℕ) → 2 ≡ byte % 4 → (fs : List Part) (f : Part) (spelling : List ℕ) → SpellsFields fs spelling
    → text_of_first byte (fs ++ f ∷ []) ≡ option_or (text_of_first byte fs) (text_of_first byte (f ∷ []))
unfolding text_of_first
text-push byte form fs f spelling spelled =
    ap (option_and_then as_text) (first-push byte fs f)
    ∙ text-or (first_of byte fs) (first_of byte (f ∷ []))
    (λ v e. form ∙ first-form byte fs spelling v spelled e)

run-push : (byte : ℕ) → 3 ≡ byte % 4 → (fs : List Part) (f : Part) (spelling : List ℕ) → SpellsFields fs spelling
    → run_of_first byte (fs ++ f ∷ []) ≡ option_or (run_of_first byte fs) (run_of_first byte (f ∷ []))
unfolding run_of_first
run-push byte form fs f spelling spelled =
    ap (option_and_then as_run) (first-push byte fs f)
    ∙ run-or (first_of byte fs) (first_of byte (f ∷ []))
    (λ v e. form ∙ first-form byte fs spelling v spelled e)

pub shown-push : (h : Header) (fs : List Part) (f : Part) (spelling : List ℕ) → SpellsFields fs spelling
    → noted (shown_by h fs []) f ≡ shown_by h (fs ++ f ∷ []) []
shown-push h fs f spelling spelled =
    rw (
      number-push 5 refl fs f spelling spelled,
      number-push 9 refl fs f spelling spelled,
      text-push 14 refl fs f spelling spelled,
      run-push 19 refl fs f spelling spelled,
      text-push 22 refl fs f spelling spelled,
      run-push 27 refl fs f spelling spelled,
      number-push 29 refl fs f spelling spelled,
      number-push 33 refl fs f spelling spelled,
      number-push 37 refl fs f spelling spelled,
      run-push 43 refl fs f spelling spelled,
      number-push 45 refl fs f spelling spelled,
      number-push 49 refl fs f spelling spelled,
      number-push 53 refl fs f spelling spelled,
      text-push 58 refl fs f spelling spelled,
    ) refl

-- a header alone
pub shown_bare : (header : Header) → shown_by header [] [] ≡ without_fields header.to header.sequence header.kind
unfolding number_of_first text_of_first run_of_first
shown_bare header = refl
