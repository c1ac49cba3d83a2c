-- What the bytes of an image are read as.
use Rattle.std.proofs.Common.{◌≡◌, ◌≢◌, ◌⊎◌, inl, inr, ℕ, ◌+◌, ◌-◌, ◌≤◌, List, [], ◌∷◌, length, Result, Ok, Err, refl, sym, subst, ◌∙◌, ap, arith}
use Rattle.std.proofs.lemmas.List.{length-append, append-nil}
use Rattle.scode_image.specs.declared.image.Image.{Image}
use Rattle.scode_image.specs.declared.reading.ImageRefusal.{ImageRefusal}
use Rattle.scode_image.specs.declared.reading.ImageRefusal.TheVariants.{NotAnImage, Memory}
use Rattle.sed_wire.specs.FormReading.{Reading, Found, Stuck}
use Rattle.sed_wire.specs.FormSpelling.{IsLeft}
use Rattle.sed_wire.specs.Form.{found_eq, stuck_eq, not_found, not_stuck}
use Rattle.scode_image.specs.Grammar.{image, IsImage, IsFault, FaultsAt}
use Rattle.sed_wire.specs.Gives.{Gives}
use Rattle.sed_value.specs.declared.halt.Halt.{Halt}
use Rattle.sed_value.specs.declared.halt.Halt.TheVariants.{Fault}
use Rattle.scode_image.specs.Outcome.{Outcome, Reads, Refuses}

-- the bytes are read as the image, with nothing left
is_read : (bytes : List ℕ) (i : Image) → IsImage bytes i → image.reads bytes ≡ Found i []
is_read bytes i h = ap image.reads (sym (append-nil bytes)) ∙ image.whole i bytes [] h

pub is_image : (bytes : List ℕ) (i : Image) → image.reads bytes ≡ Found i [] → IsImage bytes i
is_image bytes i e =
    let h = image.sound bytes i [] e in
    let same : h.0 ≡ bytes = sym (append-nil h.0) ∙ sym h.2 in
    rw (← same) h.1

pub one_text : (i : Image) (a b : List ℕ) → IsImage a i → IsImage b i → a ≡ b
one_text i a b h k = image.one i a b h k

pub one_image : (bytes : List ℕ) (a b : Image) → IsImage bytes a → IsImage bytes b → a ≡ b
one_image bytes a b h k = (found_eq a [] b [] (sym (is_read bytes a h) ∙ is_read bytes b k)).0

-- what is left where the bytes fault
fault_read : (bytes rest : List ℕ) → IsFault bytes rest → (image.reads bytes ≡ Stuck rest) ⊎ ((i : Image) × (image.reads bytes ≡ Found i rest) × (rest ≢ []))
fault_read bytes rest (inl h) = inl (image.fault bytes rest h)
fault_read bytes rest (inr (i, begun, more)) = inr (i, ap image.reads begun.2 ∙ image.whole i begun.0 rest begun.1, more)

both : (bytes : List ℕ) (i : Image) (rest : List ℕ) → image.reads bytes ≡ Found i [] → (image.reads bytes ≡ Stuck rest) ⊎ ((j : Image) × (image.reads bytes ≡ Found j rest) × (rest ≢ [])) → ⊥
both bytes i rest e (inl h) = not_found rest [] i (sym h ∙ e)
both bytes i rest e (inr (j, h, more)) = more ((found_eq j rest i [] (sym h ∙ e)).1)

pub never_both : (bytes : List ℕ) (i : Image) (at : ℕ) → IsImage bytes i → FaultsAt bytes at → ⊥
never_both bytes i at h f = both bytes i f.rest (is_read bytes i h) (fault_read bytes f.rest f.fault)

same_rest : (bytes r s : List ℕ) → (image.reads bytes ≡ Stuck r) ⊎ ((i : Image) × (image.reads bytes ≡ Found i r) × (r ≢ []))
    → (image.reads bytes ≡ Stuck s) ⊎ ((i : Image) × (image.reads bytes ≡ Found i s) × (s ≢ [])) → r ≡ s
same_rest bytes r s (inl h) (inl k) = stuck_eq {A = Image} r s (sym h ∙ k)
same_rest bytes r s (inl h) (inr (j, k, more)) = absurd (not_found r s j (sym h ∙ k))
same_rest bytes r s (inr (i, h, more)) (inl k) = absurd (not_stuck r s i (sym h ∙ k))
same_rest bytes r s (inr (i, h, more)) (inr (j, k, others)) = (found_eq i r j s (sym h ∙ k)).1

pub one_fault : (bytes : List ℕ) (a b : ℕ) → FaultsAt bytes a → FaultsAt bytes b → a ≡ b
one_fault bytes a b f g =
    let same : f.rest ≡ g.rest = same_rest bytes f.rest g.rest (fault_read bytes f.rest f.fault) (fault_read bytes g.rest g.fault) in
    omega (arith, f.place, g.place, ap length same)

-- the place of what is left
place_of : (bytes rest : List ℕ) → IsLeft bytes rest → length bytes - length rest + length rest ≡ length bytes
place_of bytes rest (front, parted) = omega (arith, ap length parted, length-append front rest)

pub faults_stuck : (bytes rest : List ℕ) → image.reads bytes ≡ Stuck rest → FaultsAt bytes (length bytes - length rest)
faults_stuck bytes rest e =
    let h = image.stuck bytes rest e in
    record { rest = rest; fault = inl h; place = place_of bytes rest (image.left bytes rest h) }

pub faults_behind : (bytes rest : List ℕ) (i : Image) → image.reads bytes ≡ Found i rest → (rest ≢ []) → FaultsAt bytes (length bytes - length rest)
faults_behind bytes rest i e more =
    let h = image.sound bytes i rest e in
    record { rest = rest; fault = inr (i, h, more); place = place_of bytes rest (h.0, h.2) }

by_rest : (bytes : List ℕ) (i : Image) (rest : List ℕ) → image.reads bytes ≡ Found i rest → ((j : Image) × IsImage bytes j) ⊎ ((at : ℕ) × FaultsAt bytes at)
by_rest bytes i [] e = inl (i, is_image bytes i e)
by_rest bytes i (b ∷ rest) e = inr (length bytes - length (b ∷ rest), faults_behind bytes (b ∷ rest) i e (λ none. cc))

pub some_answer : (bytes : List ℕ) → ((i : Image) × IsImage bytes i) ⊎ ((at : ℕ) × FaultsAt bytes at)
some_answer bytes = by_reading (image.reads bytes) refl
  where
    by_reading : (o : Reading Image) → image.reads bytes ≡ o → ((i : Image) × IsImage bytes i) ⊎ ((at : ℕ) × FaultsAt bytes at)
    by_reading (Found i rest) e = by_rest bytes i rest e
    by_reading (Stuck rest) e = inr (length bytes - length rest, faults_stuck bytes rest e)

pub outcome-image : (bytes : List ℕ) (result : Result Image ImageRefusal) → Outcome bytes result → (i : Image) → IsImage bytes i → Reads result i
outcome-image bytes (Ok read) h i is = one_image bytes read i h is
outcome-image bytes (Err (NotAnImage at)) h i is = never_both bytes i at is h
outcome-image bytes (Err Memory) h i is = tt

pub outcome-fault : (bytes : List ℕ) (result : Result Image ImageRefusal) → Outcome bytes result → (at : ℕ) → FaultsAt bytes at → Refuses result at
outcome-fault bytes (Ok read) h at f = never_both bytes read at h f
outcome-fault bytes (Err (NotAnImage named)) h at f = one_fault bytes named at h f
outcome-fault bytes (Err Memory) h at f = tt

-- ---- what the code finds, of a reader that began at all the bytes

from_start : (bytes start : List ℕ) (o : Reading Image) → start ≡ bytes → image.reads start ≡ o → image.reads bytes ≡ o
from_start bytes start o e h = ap image.reads (sym e) ∙ h

pub whole_image : (bytes start rest : List ℕ) (i : Image) → start ≡ bytes → image.reads start ≡ Found i rest → rest ≡ [] → IsImage bytes i
whole_image bytes start rest i e h none = is_image bytes i (from_start bytes start (Found i rest) e h ∙ ap (λ (r : List ℕ). Found i r) none)

within : (bytes rest : List ℕ) (n : ℕ) → IsLeft bytes rest → n ≡ length rest → n ≤ length bytes
within bytes rest n (front, parted) same = omega (arith, same, ap length parted, length-append front rest)

pub found_within : (bytes start rest : List ℕ) (i : Image) (n : ℕ) → start ≡ bytes → image.reads start ≡ Found i rest → n ≡ length rest → n ≤ length bytes
found_within bytes start rest i n e h same =
    let begun = image.sound bytes i rest (from_start bytes start (Found i rest) e h) in
    within bytes rest n (begun.0, begun.2) same

pub stuck_within : (bytes start rest : List ℕ) (n : ℕ) → start ≡ bytes → image.reads start ≡ Stuck rest → n ≡ length rest → n ≤ length bytes
stuck_within bytes start rest n e h same =
    within bytes rest n (image.left bytes rest (image.stuck bytes rest (from_start bytes start (Stuck rest) e h))) same

pub fault_behind : (bytes start rest : List ℕ) (i : Image) (n : ℕ) → start ≡ bytes → image.reads start ≡ Found i rest → n ≡ length rest → rest ≢ [] → FaultsAt bytes (length bytes - n)
fault_behind bytes start rest i n e h same more = rw same (faults_behind bytes rest i (from_start bytes start (Found i rest) e h) more)

pub fault_here : (bytes start rest : List ℕ) (n : ℕ) → start ≡ bytes → image.reads start ≡ Stuck rest → n ≡ length rest → FaultsAt bytes (length bytes - n)
fault_here bytes start rest n e h same = rw same (faults_stuck bytes rest (from_start bytes start (Stuck rest) e h))

pub gives_stuck : (halt : Halt) (rest : List ℕ) (reading : Reading Image) → halt ≡ Fault → Gives (Err halt) rest reading → reading ≡ Stuck rest
gives_stuck halt rest reading is given = subst (λ (h : Halt). Gives (Err h) rest reading) is given
