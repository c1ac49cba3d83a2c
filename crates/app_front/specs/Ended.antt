-- Things that stand one behind the other, up to a mark: each begins with a number, and the mark is the number that none
-- begins with.
use Rattle.std.specs.Prelude.{◌≡◌, ℕ, zero, suc, ◌==◌, Bool, true, false, cond, List, [], ◌∷◌, refl}
use Rattle.std.proofs.Common.{ap, sym, ◌∙◌, eqb-true}
use Rattle.sed_wire.specs.FormReading.{Stuck}
use Rattle.sed_wire.specs.Form.{Form, given, not_found, seen_as, stuck_again, stuck_eq, then}
use Rattle.sed_wire.specs.Leaves.{number}
use Rattle.sed_wire.specs.Row.{listed}
use Rattle.comp_tree.specs.Parts.{no_id}

-- nothing, whatever the bytes
abbrev pub never : {A : Type 0} → Form A
never {A} = record {
  spells = λ a bytes. ⊥;
  faults = λ bytes rest. bytes ≡ rest;
  reads = λ bytes. Stuck bytes;
  one = λ a s t h i. absurd h;
  sound = λ bytes a rest e. absurd (not_found bytes rest a e);
  whole = λ a front rest h. absurd h;
  stuck = λ bytes rest e. stuck_eq {A = A} bytes rest e;
  fault = λ bytes rest e. stuck_again {A = A} bytes rest e;
  left = λ bytes rest e. ([], e);
}

-- the number that the first one begins with, or the mark
abbrev pub first_number : {A : Type 0} → (A → ℕ) → List A → ℕ
first_number first [] = no_id
first_number first (x ∷ xs) = first x

abbrev pub or_end : {A : Type 0} → (ℕ → Form A) → Form (List A) → ℕ → Form (List A)
or_end behind more number = cond (number == no_id) (given []) (listed (then (behind number) (λ _. more)))

-- what begins with a number begins with it
abbrev pub Begin : {A : Type 0} → (A → ℕ) → (ℕ → Form A) → Type 0
Begin {A} first behind = (number : ℕ) (x : A) (bytes : List ℕ) → (behind number).spells x bytes → first x ≡ number

pub one_first : {A : Type 0} (first : A → ℕ) (behind : ℕ → Form A)
    (begin : Begin first behind) (more : Form (List A)) (k : ℕ × List A) (bytes : List ℕ)
    → (then (number 2) (or_end behind more)).spells k bytes → (first_number first k.1, k.1) ≡ k
one_first {A} first behind begin more k bytes h = ap (λ (n : ℕ). (n, k.1)) (by (k.0 == no_id) refl k.1 h.3)
  where
    by : (b : Bool) → (k.0 == no_id) ≡ b → (xs : List A)
        → (cond b (given []) (listed (then (behind k.0) (λ _. more)))).spells xs h.1 → first_number first xs ≡ k.0
    by true is xs e = ap (first_number first) e.0 ∙ sym (eqb-true k.0 no_id is)
    by false is [] e = absurd e
    by false is (x ∷ xs) e = begin k.0 x e.0 e.2

-- fewer than so many
abbrev pub ended : {A : Type 0} → (first : A → ℕ) → (behind : ℕ → Form A) → Begin first behind → ℕ → Form (List A)
ended first behind begin zero = never
ended first behind begin (suc n) =
    seen_as (λ k. k.1) (λ xs. (first_number first xs, xs)) (λ xs. refl)
    (then (number 2) (or_end behind (ended first behind begin n)))
    (one_first first behind begin (ended first behind begin n))
