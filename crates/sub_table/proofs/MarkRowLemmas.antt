-- Rows with all marks set.
use Rattle.std.proofs.Common.{ℕ, ◌≡◌, Bool, true, inl, inr, List, [], length, refl, ◌∙◌, ap, arith, get_or, replicate}
use Rattle.std.proofs.Math.ListN.{get_or-eq_default}
use Rattle.std.proofs.lemmas.Bool.{cases_lt}
use Rattle.std.proofs.lemmas.List.{get_or-replicate, length-replicate}
use Rattle.sub_table.specs.Marked.{AreRows, has_mark}

same_or : {A : Type 0} (x : A) (n k : ℕ) → get_or (replicate n x) k x ≡ x
same_or x n k = elim (cases_lt k n) [
  | inl lt ↦ get_or-replicate n k x x lt
  | inr le ↦ let all = length-replicate n x in get_or-eq_default (replicate n x) x (omega (arith, le, all))
]

pub all_marked : (n id place : ℕ) → has_mark (replicate n (replicate 16 true)) id place ≡ true
all_marked n id place = elim (cases_lt id n) [
  | inl lt ↦ ap (λ (row : List Bool). get_or row place true) (get_or-replicate n id (replicate 16 true) [] lt) ∙ same_or true 16 place
  | inr le ↦ let all = length-replicate n (replicate 16 true) in
      ap (λ (row : List Bool). get_or row place true) (get_or-eq_default (replicate n (replicate 16 true)) [] (omega (arith, le, all)))
]

pub all_rows : AreRows (replicate 4096 (replicate 16 true))
all_rows = record {
  ids = length-replicate 4096 (replicate 16 true);
  at_each = λ k d lt.
      let all = length-replicate 4096 (replicate 16 true) in
      ap (length {A = Bool}) (get_or-replicate 4096 k (replicate 16 true) d (omega (arith, lt, all))) ∙ refl;
}
