-- Names that differ, said of the ids that have them.
use Rattle.std.proofs.Common.{ℕ, ◌≡◌, ◌≢◌, Bool, true, false, inl, inr, refl, sym, ◌∙◌, ap, subst}
use Rattle.std.specs.Prelude.{List, [], ◌∷◌, map}
use Rattle.std.specs.List.{AllByRecursion, IsDistinct}
use Rattle.std.specs.Str.{bytes_eq}
use Rattle.std.proofs.lemmas.Slice.Eq.{bytes_eq-Decides}
use Rattle.comp_tree.proofs.ShapeLemmas.{In, Once}

pub same_bytes : (xs : List ℕ) → bytes_eq xs xs ≡ true
same_bytes xs = (bytes_eq-Decides xs xs).1 refl

-- neither way round
pub turned_bytes : (xs ys : List ℕ) → bytes_eq xs ys ≡ false → bytes_eq ys xs ≡ false
turned_bytes xs ys apart = by_test (bytes_eq ys xs) refl
  where
    by_test : (b : Bool) → bytes_eq ys xs ≡ b → bytes_eq ys xs ≡ false
    by_test false is = is
    by_test true is =
        let same : ys ≡ xs = (bytes_eq-Decides ys xs).0 is in
        absurd (let both : true ≡ false = sym (same_bytes xs) ∙ ap (bytes_eq xs) (sym same) ∙ apart in cc)

module _ (names : ℕ → List ℕ) where
  each_from : (x : ℕ) (xs : List ℕ) → AllByRecursion (λ n. bytes_eq (names x) n ≡ false) (map names xs) → (y : ℕ) → In y xs → bytes_eq (names x) (names y) ≡ false
  each_from x [] all y never = absurd never
  each_from x (z ∷ xs) all y (inl e) = ap (λ (k : ℕ). bytes_eq (names x) (names k)) e ∙ all.0
  each_from x (z ∷ xs) all y (inr h) = each_from x xs all.1 y h

  each_to : (x : ℕ) (xs : List ℕ) → ((y : ℕ) → In y xs → bytes_eq (names x) (names y) ≡ false) → AllByRecursion (λ n. bytes_eq (names x) n ≡ false) (map names xs)
  each_to x [] all = tt
  each_to x (z ∷ xs) all = (all z (inl refl), each_to x xs (λ y h. all y (inr h)))

  pub names_apart : (xs : List ℕ) → IsDistinct bytes_eq (map names xs) → (x y : ℕ) → In x xs → In y xs → x ≢ y → bytes_eq (names x) (names y) ≡ false
  unfolding IsDistinct
  names_apart [] distinct x y never k ne = absurd never
  names_apart (z ∷ xs) distinct x y (inl e) (inl d) ne = absurd (ne (e ∙ sym d))
  names_apart (z ∷ xs) distinct x y (inl e) (inr k) ne = ap (λ (q : ℕ). bytes_eq (names q) (names y)) e ∙ each_from z xs distinct.0 y k
  names_apart (z ∷ xs) distinct x y (inr h) (inl d) ne = turned_bytes (names y) (names x) (ap (λ (q : ℕ). bytes_eq (names q) (names x)) d ∙ each_from z xs distinct.0 x h)
  names_apart (z ∷ xs) distinct x y (inr h) (inr k) ne = names_apart xs distinct.1 x y h k ne

  pub names_once : (xs : List ℕ) → IsDistinct bytes_eq (map names xs) → Once xs
  unfolding IsDistinct
  names_once [] distinct = tt
  names_once (x ∷ xs) distinct =
      (λ h. let no : true ≡ false = sym (same_bytes (names x)) ∙ each_from x xs distinct.0 x h in cc, names_once xs distinct.1)

  pub names_differ : (xs : List ℕ) → Once xs → ((x y : ℕ) → In x xs → In y xs → x ≢ y → bytes_eq (names x) (names y) ≡ false) → IsDistinct bytes_eq (map names xs)
  unfolding IsDistinct
  names_differ [] once apart = tt
  names_differ (x ∷ xs) once apart =
      (each_to x xs (λ y h. apart x y (inl refl) (inr h) (λ e. once.0 (subst (λ (k : ℕ). In k xs) (sym e) h))), names_differ xs once.1 (λ y z h k. apart y z (inr h) (inr k)))
