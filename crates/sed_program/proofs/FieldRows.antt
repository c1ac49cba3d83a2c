-- The fields of rows of members and of classes.
use Rattle.std.proofs.Common.{◌≡◌, ◌<◌, ℕ, zero, suc, ◌+◌, Bool, List, [], ◌∷◌, ◌++◌, filter, take, length, get_or, Option, refl, sym, ap, ◌∙◌, append_assoc, arith, length-take}
use Rattle.std.specs.List.{enumerate_from, filter_map, flat_map}
use Rattle.std.proofs.lemmas.Grind.{flat_map-append}
use Rattle.std.proofs.lemmas.List.{append-nil}
use Rattle.std.proofs.lemmas.List.Elements.{filter-append, filter_map-append}
use Rattle.sed_program.proofs.Lists.{front_more}

pub fields_step : {X Y : Type 0} (f : X → Option Y) (p : X →
    Bool) (n : ℕ) (items ms : List X) (m : X) (start far new : List Y) →
    items ≡ ms → n < length items → m ≡ get_or items n m → new ≡ far ++ filter_map f (filter p (m ∷ [])) →
    far ≡ start ++ filter_map f (filter p (take n ms)) → new ≡ start ++ filter_map f (filter p (take (n + 1) ms))
fields_step f p n items ms m start far new q h e g i =
    g
    ∙ ap (λ ys. ys ++ filter_map f (filter p (m ∷ []))) i
    ∙ append_assoc start (filter_map f (filter p (take n ms))) (filter_map f (filter p (m ∷ [])))
    ∙ ap
    (λ ys. start ++ ys)
    (sym (filter_map-append f (filter p (take n ms)) (filter p (m ∷ [])))
    ∙ sym (ap (filter_map f) (filter-append p (take n ms) (m ∷ [])))
    ∙ ap (λ xs. filter_map f (filter p (take n xs ++ m ∷ []))) (sym q)
    ∙ sym (ap (λ xs. filter_map f (filter p xs)) (front_more n items m h e))
    ∙ ap (λ xs. filter_map f (filter p (take (n + 1) xs))) q)

numbered_behind : {X : Type 0} (a : ℕ) (xs : List X) (x : X) →
    enumerate_from a (xs ++ x ∷ []) ≡ enumerate_from a xs ++ (a + length xs, x) ∷ []
numbered_behind a [] x = let e : a ≡ a + 0 = omega arith in ap (λ k. (k, x) ∷ []) e
numbered_behind a (y ∷ ys) x =
    let e : a + 1 + length ys ≡ a + suc (length ys) = omega arith in
    ap (λ r. (a, y) ∷ r) (numbered_behind (a + 1) ys x ∙ ap (λ k. enumerate_from (a + 1) ys ++ (k, x) ∷ []) e)

-- what is made of a row of classes and their numbers, with one class more
pub classes_step : {X Y : Type 0} (said : ℕ × X → List Y) (n : ℕ) (xs : List X) (x : X) (far new : List Y) →
    n < length xs → x ≡ get_or xs n x → new ≡ far ++ said (n, x) →
    far ≡ flat_map said (enumerate_from 0 (take n xs)) → new ≡ flat_map said (enumerate_from 0 (take (n + 1) xs))
classes_step said n xs x far new h e g i =
    let len : 0 + length (take n xs) ≡ n = omega (arith, h, length-take n xs) in
    g
    ∙ ap (λ ys. ys ++ said (n, x)) i
    ∙ ap (λ ys. flat_map said (enumerate_from 0 (take n xs)) ++ ys) (sym (append-nil (said (n, x))))
    ∙ ap (λ k. flat_map said (enumerate_from 0 (take n xs)) ++ (said (k, x) ++ [])) (sym len)
    ∙ sym (flat_map-append said (enumerate_from 0 (take n xs)) ((0 + length (take n xs), x) ∷ []))
    ∙ sym (ap (flat_map said) (numbered_behind 0 (take n xs) x))
    ∙ sym (ap (λ ys. flat_map said (enumerate_from 0 ys)) (front_more n xs x h e))

-- what stands within a row is there whatever is said to be behind it
pub within : {X : Type 0} (xs : List X) (n : ℕ) (d e : X) → n < length xs → get_or xs n d ≡ get_or xs n e
within [] n d e h = absurd (omega (arith, h))
within (x ∷ xs) zero d e h = refl
within (x ∷ xs) (suc n) d e h = within xs n d e (omega (arith, h))
