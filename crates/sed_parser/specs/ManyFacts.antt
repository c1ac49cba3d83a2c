-- What follows for a rule that stands several times in a row.
use Rattle.std.specs.Prelude.{◌≡◌, ◌⊎◌, ◌≤◌, ℕ, zero, suc, ◌+◌, Bool, true, false, cond, List, [], ◌∷◌, ◌++◌, length}
use Rattle.std.specs.Prelude.{refl}
use Rattle.std.proofs.Common.{arith, ap, subst, sym, inl, inr, ◌∙◌}
use Rattle.std.proofs.lemmas.List.{length-append}
use Rattle.sed_lexer.specs.Token.{Token}
use Rattle.sed_parser.specs.Phrase.{Phrase, IsLeft, Many, ManyAt}
use Rattle.sed_parser.specs.Reading.{Reading, Found, Stuck, read_on, many_at}
use Rattle.sed_parser.specs.ReadingFacts.{read_on_found, read_on_stuck, found_eq, found_again, stuck_eq, not_found}
use Rattle.sed_parser.specs.ReadingFacts.{not_stuck, none_taken, both_taken}
use Rattle.sed_parser.specs.Rule.{Rule}

none_sound : {A : Type 0} (go : List Token → Bool) (item : A → Phrase) (most : ℕ) (tokens : List Token) (xs : List A)
    (rest : List Token) → go tokens ≡ false
    → ◌≡◌ {A = Reading (List A)} (Found [] tokens) (Found xs rest) → ManyAt go item most xs tokens rest
none_sound {A} go item most tokens xs rest stop e =
    let g = found_eq {A = List A} [] tokens xs rest e in
    subst (λ (x : List A). ManyAt go item most x tokens rest) g.0 ((stop, g.1), omega arith)

pub many_sound : {A : Type 0} (go : List Token → Bool) (item : Rule A) (most : ℕ) (tokens : List Token) (xs : List A)
    (rest : List Token)
    → many_at go item.reads most tokens ≡ Found xs rest → ManyAt go item.holds most xs tokens rest
many_sound {A} go item zero tokens xs rest e = by_go (go tokens) refl e
  where
    by_go : (b : Bool) → go tokens ≡ b
        → ◌≡◌ {A = Reading (List A)} (cond b (Stuck tokens) (Found [] tokens)) (Found xs rest)
        → ManyAt go item.holds 0 xs tokens rest
    by_go true goes e = absurd (not_found tokens rest xs e)
    by_go false stop e = none_sound go item.holds 0 tokens xs rest stop e
many_sound {A} go item (suc most) tokens xs rest e = by_go (many_sound go item most) (go tokens) refl e
  where
    by_go : ((ts : List Token) (ys : List A) (r : List Token) → many_at go item.reads most ts ≡ Found ys r
        → ManyAt go item.holds most ys ts r)
        → (b : Bool) → go tokens ≡ b
        → cond b (read_on (item.reads tokens)
        (λ a middle. read_on (many_at go item.reads most middle) (λ ys r. Found (a ∷ ys) r))) (Found [] tokens)
        ≡ Found xs rest
        → ManyAt go item.holds (suc most) xs tokens rest
    by_go shorter true goes e =
        let s = read_on_found (item.reads tokens)
        (λ a middle. read_on (many_at go item.reads most middle) (λ ys r. Found (a ∷ ys) r)) xs rest e in
        let m = read_on_found (many_at go item.reads most s.1) (λ ys r. Found (s.0 ∷ ys) r) xs rest s.3 in
        let h = shorter s.1 m.0 m.1 m.2 in
        let few : length m.0 ≤ most = h.1 in
        let g = found_eq (s.0 ∷ m.0) m.1 xs rest m.3 in
        let many : ManyAt go item.holds (suc most) (s.0 ∷ m.0) tokens m.1 =
        ((goes, (s.1, item.sound tokens s.0 s.1 s.2, h.0)), omega (arith, few)) in
        let here : ManyAt go item.holds (suc most) xs tokens m.1 =
        subst (λ (x : List A). ManyAt go item.holds (suc most) x tokens m.1) g.0 many in
        subst (λ (r : List Token). ManyAt go item.holds (suc most) xs tokens r) g.1 here
    by_go shorter false stop e = none_sound go item.holds (suc most) tokens xs rest stop e

pub many_whole : {A : Type 0} (go : List Token → Bool) (item : Rule A) (most : ℕ) (tokens : List Token) (xs : List A)
    (rest : List Token)
    → ManyAt go item.holds most xs tokens rest → many_at go item.reads most tokens ≡ Found xs rest
many_whole {A} go item zero tokens [] rest h = rw h.0.0 (found_again {A = List A} [] tokens [] rest (refl, h.0.1))
many_whole {A} go item (suc most) tokens [] rest h = rw h.0.0 (found_again {A = List A} [] tokens [] rest (refl, h.0.1))
many_whole go item zero tokens (a ∷ xs) rest h = let few : suc (length xs) ≤ 0 = h.1 in absurd (omega (arith, few))
many_whole {A} go item (suc most) tokens (a ∷ xs) rest ((goes, (middle, first, others)), few) =
    let fewer : length xs ≤ most = omega (arith, few) in
    let more : many_at go item.reads most middle ≡ Found xs rest =
    many_whole go item most middle xs rest (others, fewer) in
    rw (goes, item.whole tokens a middle first, more) refl

pub many_left : {A : Type 0} (go : List Token → Bool) (item : Rule A) (xs : List A) (tokens rest : List Token)
    → Many go item.holds xs tokens rest → IsLeft tokens rest
many_left go item [] tokens rest h = none_taken tokens rest h.1
many_left go item (a ∷ xs) tokens rest (goes, (middle, first, others)) =
    both_taken tokens middle rest (item.left tokens a middle first) (many_left go item xs middle rest others)

not_both : true ≡ false → ⊥
not_both e = cc

-- An item of no token stands in no row: behind it there would be the same one, and so on.
no_end : {A : Type 0} (go : List Token → Bool) (item : Rule A) (a : A) (xs : List A) (tokens rest : List Token)
    → go tokens ≡ true → item.holds a tokens tokens
    → Many go item.holds xs tokens rest → ⊥
no_end go item a [] tokens rest goes nothing_taken h = not_both (sym goes ∙ h.0)
no_end {A} go item a (b ∷ xs) tokens rest goes nothing_taken (again, (middle, first, others)) =
    let same : tokens ≡ middle =
    (found_eq a tokens b middle
    (sym (item.whole tokens a tokens nothing_taken) ∙ item.whole tokens b middle first)).1 in
    no_end go item a xs tokens rest goes nothing_taken
    (subst (λ (ts : List Token). Many go item.holds xs ts rest) (sym same) others)

-- so a row has no more items than tokens
pub few : {A : Type 0} (go : List Token → Bool) (item : Rule A) (xs : List A) (tokens rest : List Token)
    → Many go item.holds xs tokens rest → length xs ≤ length tokens
few go item [] tokens rest h = omega arith
few {A} go item (a ∷ xs) tokens rest (goes, (middle, first, others)) =
    by_front (item.left tokens a middle first) (few go item xs middle rest others)
  where
    by_front : IsLeft tokens middle → length xs ≤ length middle → suc (length xs) ≤ length tokens
    by_front ([], same) fewer =
        let stays : item.holds a middle middle = subst (λ (ts : List Token). item.holds a ts middle) same first in
        absurd (no_end go item a xs middle rest (ap go (sym same) ∙ goes) stays others)
    by_front (t ∷ ts, same) fewer =
        let all : length tokens ≡ suc (length (ts ++ middle)) = ap (λ (x : List Token). length x) same in
        let both : length (ts ++ middle) ≡ length ts + length middle = length-append ts middle in
        omega (arith, all, both, fewer)

-- where a row gets stuck: at its end, or in an item
pub many_stuck : {A : Type 0} (go : List Token → Bool) (item : Rule A) (most : ℕ) (tokens rest : List Token)
    → many_at go item.reads most tokens ≡ Stuck rest → IsLeft tokens rest
many_stuck {A} go item zero tokens rest e = by_go (go tokens) e
  where
    by_go : (b : Bool) → ◌≡◌ {A = Reading (List A)} (cond b (Stuck tokens) (Found [] tokens)) (Stuck rest)
        → IsLeft tokens rest
    by_go true e = none_taken tokens rest (stuck_eq {A = List A} tokens rest e)
    by_go false e = absurd (not_stuck {A = List A} tokens rest [] e)
many_stuck {A} go item (suc most) tokens rest e = by_go (many_stuck go item most) (go tokens) e
  where
    others : ((ts : List Token) (r : List Token) → many_at go item.reads most ts ≡ Stuck r → IsLeft ts r)
        → (a : A) (middle : List Token) → IsLeft tokens middle
        → (many_at go item.reads most middle ≡ Stuck rest)
        ⊎ ((xs : List A) × (behind : List Token) × (many_at go item.reads most middle ≡ Found xs behind)
        × (Found (a ∷ xs) behind ≡ Stuck rest))
        → IsLeft tokens rest
    others shorter a middle taken (inl e) = both_taken tokens middle rest taken (shorter middle rest e)
    others shorter a middle taken (inr (xs, behind, found, e)) = absurd (not_stuck behind rest (a ∷ xs) e)

    by_item : ((ts : List Token) (r : List Token) → many_at go item.reads most ts ≡ Stuck r → IsLeft ts r)
        → (item.reads tokens ≡ Stuck rest)
        ⊎ ((a : A) × (middle : List Token) × (item.reads tokens ≡ Found a middle)
        × (read_on (many_at go item.reads most middle) (λ xs r. Found (a ∷ xs) r) ≡ Stuck rest))
        → IsLeft tokens rest
    by_item shorter (inl e) = item.stuck tokens rest e
    by_item shorter (inr (a, middle, found, e)) =
        others shorter a middle (item.left tokens a middle (item.sound tokens a middle found))
        (read_on_stuck (many_at go item.reads most middle) (λ xs r. Found (a ∷ xs) r) rest e)

    by_go : ((ts : List Token) (r : List Token) → many_at go item.reads most ts ≡ Stuck r → IsLeft ts r)
        → (b : Bool) → cond b
        (read_on (item.reads tokens)
        (λ a middle. read_on (many_at go item.reads most middle) (λ xs r. Found (a ∷ xs) r))) (Found [] tokens)
        ≡ Stuck rest
        → IsLeft tokens rest
    by_go shorter true e =
        by_item shorter (read_on_stuck (item.reads tokens)
        (λ a middle. read_on (many_at go item.reads most middle) (λ xs r. Found (a ∷ xs) r)) rest e)
    by_go shorter false e = absurd (not_stuck {A = List A} tokens rest [] e)
