-- What is among the words of a table.
use Rattle.std.proofs.Common.{◌≡◌, ℕ, Bool, true, List, [], ◌∷◌, subst, inl, inr}
use Rattle.std.specs.List.{list_all}
use Rattle.std.specs.Str.{bytes_eq}
use Rattle.std.proofs.lemmas.Slice.Eq.{bytes_eq-Decides}
use Rattle.sed_lexer.specs.Words.{is_among}
use Rattle.sed_lexer.proofs.FrontLemmas.{and_left, and_right, or_cases}

-- what is in the table passes a test that each word of it passes
pub among_passes : (q : List ℕ → Bool) (words : List (List ℕ)) (bytes : List ℕ) → list_all q words ≡ true → is_among words bytes ≡ true → q bytes ≡ true
among_passes q [] bytes all is = cc
among_passes q (word ∷ words) bytes all is =
    elim (or_cases (bytes_eq word bytes) (is_among words bytes) is) [
      | inl here ↦ subst (λ (x : List ℕ). q x ≡ true) ((bytes_eq-Decides word bytes).0 here) (and_left (q word) (list_all q words) all)
      | inr there ↦ among_passes q words bytes (and_right (q word) (list_all q words) all) there
    ]
