-- Which reads of a step failed, by how it ends.
use Rattle.std.proofs.Common.{◌≡◌, ℕ, List, [], ◌∷◌, ◌++◌, Result, Ok, Err, sym, ap, ◌∙◌}
use Rattle.std.proofs.lemmas.Grind.{flat_map-append}
use Rattle.sed_outside.specs.Steps.{Read, Decides, AndThen, stops, goes_on, Each}
use Rattle.sed_outside.specs.Reads.{TextOf, failed_name, failed_names}

-- the names of the reads that failed, where a refusal tells these and a value none
abbrev pub end_names : {E X : Type 0} → (E → List (List ℕ)) → Result X E → List (List ℕ)
end_names names (Ok value) = []
end_names names (Err refusal) = names refusal

-- The reads that failed are those that the end tells.
abbrev pub Fails : {E X : Type 0} → (E → List (List ℕ)) → (List Read → Result X E → Type 0) → Type 0
Fails {E} {X} names step = (reads : List Read) (end : Result X E) → step reads end → failed_names reads ≡ end_names names end

pub fails_decides : {E X : Type 0} (names : E → List (List ℕ)) (Holds : Result X E → Type 0) → ((end : Result X E) → Holds end → end_names names end ≡ []) → Fails names (Decides Holds)
fails_decides names Holds none reads end held = ap failed_names held.none ∙ sym (none end held.holds)

pub fails_value : {E X : Type 0} (names : E → List (List ℕ)) (x : X) → Fails names (Decides {E = E} (λ end. end ≡ Ok x))
fails_value {E} {X} names x = fails_decides names (λ (end : Result X E). end ≡ Ok x) (λ end is. ap (end_names names) is)

pub fails_then : {E X Y : Type 0} (names : E → List (List ℕ)) (first : List Read → Result X E → Type 0) (next : X → List Read → Result Y E → Type 0)
    → Fails names first → ((x : X) → Fails names (next x)) → Fails names (AndThen first next)
fails_then {E} {X} {Y} names first next one more reads end (stops refusal held is) = one reads (Err refusal) held ∙ sym (ap (end_names names) is)
fails_then {E} {X} {Y} names first next one more reads end (goes_on front back x parts held rest) =
    ap failed_names parts
    ∙ flat_map-append failed_name front back
    ∙ ap (λ (failed : List (List ℕ)). failed ++ failed_names back) (one front (Ok x) held)
    ∙ more x back end rest

pub fails_each : {E X Y : Type 0} (names : E → List (List ℕ)) (one : X → List Read → Result Y E → Type 0) → ((x : X) → Fails names (one x)) → (xs : List X) → Fails names (Each one xs)
fails_each {E} {X} {Y} names one each [] = fails_value {E = E} names []
fails_each {E} {X} {Y} names one each (x ∷ xs) =
    fails_then names (one x) (λ y. AndThen (Each one xs) (λ ys. Decides (λ end. end ≡ Ok (y ∷ ys)))) (each x)
    (λ y. fails_then names (Each one xs) (λ ys. Decides (λ end. end ≡ Ok (y ∷ ys))) (fails_each names one each xs) (λ ys. fails_value {E = E} names (y ∷ ys)))

pub fails_text : {E : Type 0} (names : E → List (List ℕ)) (name : List ℕ) (failed : E) → names failed ≡ name ∷ [] → Fails names (TextOf name failed)
fails_text names name failed told reads (Ok text) held = ap failed_names held
fails_text names name failed told reads (Err refusal) held = ap failed_names held.0 ∙ sym told ∙ ap names (sym held.1)
