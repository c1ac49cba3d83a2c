-- What is left of a row behind those that were gone over.
use Rattle.std.proofs.Common.{◌≡◌, ℕ, suc, ◌+◌, ◌<◌, ◌≤◌, true, false, List, ◌∷◌, length, drop, refl, ap, sym, ◌∙◌, arith, get_or}
use Rattle.std.proofs.Math.Seq.{drop-cons}
use Rattle.std.proofs.lemmas.Bool.{lt-leb, le-leb}
use Rattle.std.proofs.lemmas.List.{drop_all}
use Rattle.scode_image.specs.declared.image.ImageEntry.{ImageEntry}
use Rattle.scode_code.specs.TableRules.{places_ascend}

pub next_left : {A : Type 0} (i : ℕ) (xs : List A) (x : A) → i < length xs → x ≡ get_or xs i x → drop i xs ≡ x ∷ drop (i + 1) xs
next_left {A} i xs x within is =
    let one : suc i ≡ i + 1 = omega arith in
    drop-cons xs i x within ∙ ap (λ (y : A). y ∷ drop (suc i) xs) (sym is) ∙ ap (λ (n : ℕ). x ∷ drop n xs) one

-- ---- entries that ascend

pub ascend_ends : (i least : ℕ) (es : List ImageEntry) → length es ≤ i → places_ascend least (drop i es) ≡ true
ascend_ends i least es over = rw (drop_all i es over) refl

pub ascend_fails : (i least : ℕ) (es : List ImageEntry) (e : ImageEntry) → i < length es → e ≡ get_or es i e
    → e.place < least → places_ascend least (drop i es) ≡ false
ascend_fails i least es e within is low = rw (next_left i es e within is, lt-leb least e.place low) refl

pub ascend_goes_on : (i least : ℕ) (es : List ImageEntry) (e : ImageEntry) → i < length es → e ≡ get_or es i e
    → least ≤ e.place → places_ascend least (drop i es) ≡ places_ascend (e.place + 1) (drop (i + 1) es)
ascend_goes_on i least es e within is high =
    let one : suc e.place ≡ e.place + 1 = omega arith in
    rw (next_left i es e within is, le-leb least e.place high, one) refl
