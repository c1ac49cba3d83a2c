-- Loops over rows of what is declared, which keep the least fault so far.
use Rattle.std.proofs.Common.{◌≡◌, ◌<◌, ℕ, zero, suc, ◌+◌, List, [], ◌∷◌, ◌++◌, take, length, get_or, Option, sym, ap, ◌∙◌, arith, append_assoc}
use Rattle.std.specs.List.{flat_map}
use Rattle.std.proofs.Math.Numerals.{add-one}
use Rattle.std.proofs.Math.Seq.{take-suc}
use Rattle.std.proofs.lemmas.Grind.{flat_map-append}
use Rattle.std.proofs.lemmas.List.{append-nil}
use Rattle.sed_faults.specs.declared.fault.Fault.{Fault}
use Rattle.sed_faults.specs.Faults.{least, lesser, said_from}
use Rattle.sed_faults.proofs.Least.{least_together}

-- what is said of a row with one more item
said_more : {X : Type 0} (said : ℕ → X → List Fault) (a n : ℕ) (xs : List X) (x : X) → n < length xs → get_or xs n x ≡ x →
    said_from said a (take (suc n) xs) ≡ said_from said a (take n xs) ++ said (a + n) x
said_more said a n [] x h e = absurd (omega (arith, h))
said_more said a zero (y ∷ ys) x h e =
    let at : a ≡ a + 0 = omega arith in
    append-nil (said a y) ∙ ap (said a) e ∙ ap (λ k. said k x) at
said_more said a (suc n) (y ∷ ys) x h e =
    let within : n < length ys = omega (arith, h) in
    let at : a + 1 + n ≡ a + suc n = omega arith in
    ap
    (λ r. said a y ++ r)
    (said_more said (a + 1) n ys x within e ∙ ap (λ k. said_from said (a + 1) (take n ys) ++ said k x) at)
    ∙ sym (append_assoc (said a y) (said_from said (a + 1) (take n ys)) (said (a + suc n) x))

-- the least of a row with one more item
pub said_step : {X : Type 0} (said : ℕ → X → List Fault) (n : ℕ) (xs : List X) (x : X) (far one new : Option Fault) →
    n < length xs → get_or xs n x ≡ x → one ≡ least (said n x) → new ≡ lesser far one →
    far ≡ least (said_from said 0 (take n xs)) → new ≡ least (said_from said 0 (take (n + 1) xs))
said_step said n xs x far one new h e o j f =
    let at : 0 + n ≡ n = omega arith in
    j
    ∙ ap (λ k. lesser k one) f
    ∙ ap (lesser (least (said_from said 0 (take n xs)))) o
    ∙ sym (least_together (said_from said 0 (take n xs)) (said n x))
    ∙ sym (ap least (
    ap (λ m. said_from said 0 (take m xs)) (add-one n)
    ∙ said_more said 0 n xs x h e
    ∙ ap (λ k. said_from said 0 (take n xs) ++ said k x) at))

-- the same, where the number of an item says nothing
pub listed_step : {X : Type 0} (said : X → List Fault) (n : ℕ) (xs : List X) (x : X) (far one new : Option Fault) →
    n < length xs → get_or xs n x ≡ x → one ≡ least (said x) → new ≡ lesser far one →
    far ≡ least (flat_map said (take n xs)) → new ≡ least (flat_map said (take (n + 1) xs))
listed_step said n xs x far one new h e o j f =
    let front : take (n + 1) xs ≡ take n xs ++ x ∷ [] =
    ap (λ m. take m xs) (add-one n) ∙ take-suc xs n x h ∙ ap (λ y. take n xs ++ y ∷ []) e in
    j
    ∙ ap (λ k. lesser k one) f
    ∙ ap (lesser (least (flat_map said (take n xs)))) o
    ∙ sym (least_together (flat_map said (take n xs)) (said x))
    ∙ sym (ap least (
    ap (flat_map said) front
    ∙ flat_map-append said (take n xs) (x ∷ [])
    ∙ ap (λ ys. flat_map said (take n xs) ++ ys) (append-nil (said x))))
