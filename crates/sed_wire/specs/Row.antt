-- Things that stand one behind the other, as many as are said in front of them.
use Rattle.std.specs.Prelude.{◌≡◌, ◌⊎◌, ℕ, zero, suc, List, [], ◌∷◌, ◌++◌, length, refl}
use Rattle.std.proofs.Common.{inl, inr, ap}
use Rattle.sed_wire.specs.FormReading.{Found, Stuck, ReadsAs, read_on}
use Rattle.sed_wire.specs.FormSpelling.{Begins, ListSpells}
use Rattle.sed_wire.specs.Form.{Form, begins_again, given, then, sized, found_eq, not_stuck, on_found, on_stuck}
use Rattle.sed_wire.specs.Form.{on_whole, on_none}

-- a first one and the others, as a list
abbrev pub list_reads : {A : Type 0} → ReadsAs (A × List A) → ReadsAs (List A)
list_reads p bytes = read_on (p bytes) (λ both rest. Found (both.0 ∷ both.1) rest)

pub list_one : {A : Type 0} (p : Form (A × List A)) (xs : List A) (s t : List ℕ)
    → ListSpells p.spells xs s → ListSpells p.spells xs t → s ≡ t
list_one p [] s t h i = absurd h
list_one p (a ∷ xs) s t h i = p.one (a, xs) s t h i

pub list_sound : {A : Type 0} (p : Form (A × List A)) (bytes : List ℕ) (xs : List A) (rest : List ℕ)
    → list_reads p.reads bytes ≡ Found xs rest → Begins (ListSpells p.spells xs) bytes rest
list_sound {A} p bytes xs rest e =
    let s = on_found (p.reads bytes) (λ both behind. Found (both.0 ∷ both.1) behind) xs rest e in
    let g = found_eq (s.0.0 ∷ s.0.1) s.1 xs rest s.3 in
    begins_again (ListSpells p.spells) bytes (s.0.0 ∷ s.0.1) xs s.1 rest g.0 g.1 (p.sound bytes s.0 s.1 s.2)

pub list_whole : {A : Type 0} (p : Form (A × List A)) (xs : List A) (front rest : List ℕ)
    → ListSpells p.spells xs front → list_reads p.reads (front ++ rest) ≡ Found xs rest
list_whole p [] front rest h = absurd h
list_whole p (a ∷ xs) front rest h =
    on_whole (p.reads (front ++ rest)) (λ both behind. Found (both.0 ∷ both.1) behind)
    (a, xs) rest _ (p.whole (a, xs) front rest h) refl

pub list_stuck : {A : Type 0} (p : Form (A × List A)) (bytes rest : List ℕ)
    → list_reads p.reads bytes ≡ Stuck rest → p.faults bytes rest
list_stuck {A} p bytes rest e =
    by_case (on_stuck (p.reads bytes) (λ both behind. Found (both.0 ∷ both.1) behind) rest e)
  where
    by_case : (p.reads bytes ≡ Stuck rest)
        ⊎ ((both : A × List A) × (middle : List ℕ) × (p.reads bytes ≡ Found both middle)
        × (Found (both.0 ∷ both.1) middle ≡ Stuck rest)) → p.faults bytes rest
    by_case (inl h) = p.stuck bytes rest h
    by_case (inr h) = absurd (not_stuck h.1 rest (h.0.0 ∷ h.0.1) h.3)

abbrev pub listed : {A : Type 0} → Form (A × List A) → Form (List A)
listed p = record {
  spells = ListSpells p.spells;
  faults = p.faults;
  reads = list_reads p.reads;
  one = list_one p;
  sound = list_sound p;
  whole = list_whole p;
  stuck = list_stuck p;
  fault = λ bytes rest h. on_none (p.reads bytes) (λ both behind. Found (both.0 ∷ both.1) behind)
      rest (p.fault bytes rest h);
  left = p.left;
}

-- so many; what may stand next is known from those in front of it
abbrev pub row : {A S : Type 0} → (S → Form A) → (S → A → S) → ℕ → S → Form (List A)
row item next zero s = given []
row item next (suc n) s = listed (then (item s) (λ a. row item next n (next s a)))

pub length-row : {A S : Type 0} (item : S → Form A) (next : S → A → S) (n : ℕ) (s : S) (xs : List A) (bytes : List ℕ)
    → (row item next n s).spells xs bytes → length xs ≡ n
length-row item next zero s xs bytes h = ap length h.0
length-row item next (suc n) s [] bytes h = absurd h
length-row item next (suc n) s (a ∷ xs) bytes h = ap suc (length-row item next n (next s a) xs h.1 h.3)

-- so many of one form
abbrev pub times : {A : Type 0} → ℕ → Form A → Form (List A)
times n item = row (λ (s : Unit {0}). item) (λ s a. s) n tt

-- how many there are, and then they themselves
abbrev pub counted : {A : Type 0} → Form ℕ → Form A → Form (List A)
counted count item = sized length count (λ n. times n item) (λ n xs bytes h.
    length-row (λ (s : Unit {0}). item) (λ s a. s) n tt xs bytes h)
