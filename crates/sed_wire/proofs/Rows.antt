-- Rows that are read item by item, as a loop does: what was read so far, and what is still read.
use Rattle.std.proofs.Common.{◌≡◌, ℕ, suc, ◌+◌, ◌-◌, ◌<◌, ◌≤◌, List, [], ◌∷◌, ◌++◌, Err, refl, sym, ◌∙◌, ap, append_assoc, arith}
use Rattle.std.proofs.lemmas.List.{append-nil}
use Rattle.sed_wire.specs.FormReading.{Reading, Found, Stuck, read_on}
use Rattle.sed_wire.specs.Form.{Form, pair_reads}
use Rattle.sed_wire.specs.Row.{row}
use Rattle.sed_wire.specs.Gives.{Gives}
use Rattle.sed_value.specs.declared.halt.Halt.{Halt}
use Rattle.sed_value.specs.declared.halt.Halt.TheVariants.{Fault, Memory}

-- items that were read stand in front of those that are still read
abbrev pub with_front : {A : Type 0} → List A → Reading (List A) → Reading (List A)
with_front front reading = read_on reading (λ xs rest. Found (front ++ xs) rest)

pub no_front : {A : Type 0} (reading : Reading (List A)) → with_front [] reading ≡ reading
no_front (Found xs rest) = refl
no_front (Stuck rest) = refl

moved : {A : Type 0} (front : List A) (x : A) (reading : Reading (List A))
    → with_front front (read_on (pair_reads x reading) (λ both rest. Found (both.0 ∷ both.1) rest)) ≡ with_front (front ++ x ∷ []) reading
moved {A} front x (Found ys r) = ap (λ (xs : List A). Found xs r) (simp append_assoc)
moved front x (Stuck r) = refl

-- what is still to be read, behind the front
abbrev pub Left : {A S : Type 0} → (S → Form A) → (S → A → S) → List A → ℕ → S → List ℕ → Reading (List A) → Type 0
Left item next front left s bytes all = with_front front ((row item next left s).reads bytes) ≡ all

counted_down : (count i : ℕ) → i < count → count - i ≡ suc (count - (i + 1))
counted_down count i below = omega arith

nothing_left : (count i : ℕ) → count ≤ i → count - i ≡ 0
nothing_left count i above = omega arith

pub one_more : {A S : Type 0} (item : S → Form A) (next : S → A → S) (front : List A) (count i : ℕ) (s : S) (bytes : List ℕ) (x : A) (behind : List ℕ) (all : Reading (List A))
    → i < count → (item s).reads bytes ≡ Found x behind → Left item next front (count - i) s bytes all
    → Left item next (front ++ x ∷ []) (count - (i + 1)) (next s x) behind all
one_more item next front count i s bytes x behind all below read so_far =
    let here : with_front front ((row item next (count - i) s).reads bytes) ≡ with_front (front ++ x ∷ []) ((row item next (count - (i + 1)) (next s x)).reads behind) =
    rw (counted_down count i below, read) (moved front x ((row item next (count - (i + 1)) (next s x)).reads behind)) in
    sym here ∙ so_far

pub refused : {A S : Type 0} (item : S → Form A) (next : S → A → S) (halt : Halt) (behind : List ℕ) (front : List A) (count i : ℕ) (s : S) (bytes : List ℕ) (all : Reading (List A))
    → i < count → Gives (Err halt) behind ((item s).reads bytes) → Left item next front (count - i) s bytes all → Gives (Err halt) behind all
refused item next Fault behind front count i s bytes all below read so_far =
    let here : with_front front ((row item next (count - i) s).reads bytes) ≡ Stuck behind = rw (counted_down count i below, read) refl in
    sym so_far ∙ here
refused item next Memory behind front count i s bytes all below read so_far = tt

pub last : {A S : Type 0} (item : S → Form A) (next : S → A → S) (front : List A) (count i : ℕ) (s : S) (bytes : List ℕ) (all : Reading (List A))
    → count ≤ i → Left item next front (count - i) s bytes all → all ≡ Found front bytes
last {A} item next front count i s bytes all above so_far =
    let here : with_front front ((row item next (count - i) s).reads bytes) ≡ Found front bytes = rw (nothing_left count i above) (ap (λ (xs : List A). Found xs bytes) (append-nil front)) in
    sym so_far ∙ here
