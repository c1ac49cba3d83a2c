-- Steps, one behind the other, grouped another way.
use Rattle.std.proofs.Common.{◌≡◌, List, ◌++◌, Result, Ok, Err, refl, sym, ap, ◌∙◌, append_assoc}
use Rattle.sed_outside.specs.Steps.{AndThen, stops, goes_on}

same_refusal : {X E : Type 0} (r s : E) → ◌≡◌ {A = Result X E} (Err r) (Err s) → r ≡ s
same_refusal r s same = cc

not_refused : {X E : Type 0} (x : X) (r : E) → ◌≡◌ {A = Result X E} (Ok x) (Err r) → ⊥
not_refused x r same = cc

pub err_same : {X E : Type 0} (r s : E) → r ≡ s → ◌≡◌ {A = Result X E} (Err r) (Err s)
err_same r s same = ap (λ e. Err e) same

-- the first step alone, and then the others together
pub first_apart : {A E X Y Z : Type 0} (first : List A → Result X E → Type 0) (next : X → List A → Result Y E → Type 0) (last : Y → List A → Result Z E → Type 0) (asks : List A) (end : Result Z E)
    → AndThen (AndThen first next) last asks end → AndThen first (λ (x : X). AndThen (next x) last) asks end
first_apart {A} {E} {X} {Y} {Z} first next last asks end (stops r (stops q h e) same) =
    stops q h (same ∙ err_same {X = Z} r q (same_refusal {X = Y} r q e))
first_apart first next last asks end (stops r (goes_on f b x parts h n) same) = goes_on f b x parts h (stops r n same)
first_apart first next last asks end (goes_on front back y parts (stops q h e) k) = absurd (not_refused y q e)
first_apart {A} {E} {X} {Y} {Z} first next last asks end (goes_on front back y parts (goes_on f b x more h n) k) =
    goes_on f (b ++ back) x (parts ∙ ap (λ (l : List A). l ++ back) more ∙ append_assoc f b back) h (goes_on b back y refl n k)

-- and back
pub first_joined : {A E X Y Z : Type 0} (first : List A → Result X E → Type 0) (next : X → List A → Result Y E → Type 0) (last : Y → List A → Result Z E → Type 0) (asks : List A) (end : Result Z E)
    → AndThen first (λ (x : X). AndThen (next x) last) asks end → AndThen (AndThen first next) last asks end
first_joined first next last asks end (stops r h e) = stops r (stops r h refl) e
first_joined first next last asks end (goes_on f b x parts h (stops r n e)) = stops r (goes_on f b x parts h n) e
first_joined {A} {E} {X} {Y} {Z} first next last asks end (goes_on f b x parts h (goes_on g k y more n l)) =
    goes_on (f ++ g) k y (parts ∙ ap (λ (rest : List A). f ++ rest) more ∙ sym (append_assoc f g k)) (goes_on f g x refl h n) l

-- another step in the place of the later one
pub then_other : {A E X Y : Type 0} (first : List A → Result X E → Type 0) (next other : X → List A → Result Y E → Type 0) → ((x : X) (asks : List A) (end : Result Y E) → next x asks end → other x asks end)
    → (asks : List A) (end : Result Y E) → AndThen first next asks end → AndThen first other asks end
then_other first next other map asks end (stops r h e) = stops r h e
then_other first next other map asks end (goes_on f b x parts h n) = goes_on f b x parts h (map x b end n)
