-- Rows that tell which classes are above one.
use Rattle.std.proofs.Common.{◌≡◌, ℕ, ◌+◌, Bool, true, false, List, [], ◌∷◌, ◌++◌, length, slice_get, get_or, Option, Some, None, refl, ap, sym, ◌∙◌, subst, arith, length-append, inl, inr}
use Rattle.std.proofs.lemmas.Bool.{cases_lt, cases_eq}
use Rattle.std.specs.Option.{option_map_or}
use Rattle.std.proofs.lemmas.List.{get_or_append_left, get_or_past, get_or_push}
use Rattle.std.proofs.lemmas.Option.{get_or_from_slice_get, slice_get-get_or, slice_get_within}
use Rattle.scode_image.specs.declared.image.Image.{Image}
use Rattle.scode_code.specs.Kinds.{is_at_or_above}
use Rattle.scode_rules.specs.Words.{AreAbove, IsAbove, is_told}

pub none_above : (image : Image) (class : ℕ) → IsAbove image class []
none_above image class above told = cc

pub row_more : (image : Image) (class above : ℕ) (row : List Bool) (b : Bool) → length row ≡ above
    → b ≡ is_at_or_above image above class → IsAbove image class row → IsAbove image class (row ++ b ∷ [])
row_more image class above row b long is told p h =
    elim (cases_lt p (length row)) [
      | inl within ↦ told p (sym (get_or_append_left row (b ∷ []) false p within) ∙ h)
      | inr past ↦ elim (cases_eq p (length row)) [
        | inl same ↦ ap (λ (n : ℕ). is_at_or_above image n class) (same ∙ long) ∙ sym is
            ∙ sym (get_or_push row b false p (sym same)) ∙ h
        | inr other ↦ absurd (no_truth (sym (get_or_past (row ++ b ∷ []) p false
            (omega (arith, past, other, length-append row (b ∷ [])))) ∙ h))
      ]
    ]
  where
    no_truth : false ≡ true → ⊥
    no_truth h = cc

pub rows_more : (image : Image) (class : ℕ) (rows : List (List Bool)) (row : List Bool) → length rows ≡ class
    → IsAbove image class row → AreAbove image rows → AreAbove image (rows ++ row ∷ [])
rows_more image class rows row long above all c r at =
    elim (cases_lt c (length rows)) [
      | inl within ↦ all c r (slice_get-get_or rows c r within
          ∙ ap (λ (x : List Bool). Some x) (sym (get_or_append_left rows (row ∷ []) r c within)
          ∙ get_or_from_slice_get (rows ++ row ∷ []) c r r at))
      | inr past ↦
          (let end : length rows ≡ c =
          omega (arith, past, slice_get_within (rows ++ row ∷ []) c r at, length-append rows (row ∷ [])) in
          let same : row ≡ r = sym (get_or_push rows row r c end) ∙ get_or_from_slice_get (rows ++ row ∷ []) c r r at in
          subst (λ (x : List Bool). IsAbove image c x) same
          (subst (λ (n : ℕ). IsAbove image n row) (sym long ∙ end) above))
    ]

-- what is told of a pair is so
pub told_above : (image : Image) (rows : List (List Bool)) (class above : ℕ) → AreAbove image rows
    → is_told rows class above ≡ true → is_at_or_above image above class ≡ true
told_above image rows class above all told = by_row (slice_get rows class) refl told
  where
    by_row : (o : Option (List Bool)) → slice_get rows class ≡ o
        → option_map_or (λ row. get_or row above false) o false ≡ true → is_at_or_above image above class ≡ true
    by_row None is told = cc
    by_row (Some row) is told = all class row is above told
