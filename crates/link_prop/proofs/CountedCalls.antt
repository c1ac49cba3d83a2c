-- Calls on one component after another, and how many of them trapped.
use Rattle.std.proofs.Common.{ℕ, zero, suc, ◌≡◌, ◌+◌, ◌*◌, ◌<◌, ◌≤◌, List, [], ◌∷◌, length, take, refl, sym, ◌∙◌, ap, arith, get_or}
use Rattle.std.specs.List.{fold}
use Rattle.std.proofs.lemmas.List.Sums.{fold_more}
use Rattle.comp_tree.specs.Application.{Components}
use Rattle.comp_tree.specs.Calls.{Counted}

-- what the calls at the first ids leave, and how many of them trapped: at each at most 8,193, for its links and for itself
pub record CountedSoFar (step : Counted → ℕ → Counted) (start now : Components) (ids : List ℕ) (n traps : ℕ) : Type 0 where
  pub far : fold step (record { left = start; traps = 0 }) (take n ids) ≡ (let s : Counted = record { left = now; traps = traps } in s)
  pub few : traps ≤ n * 8193

module _ (step : Counted → ℕ → Counted) (start now : Components) (ids : List ℕ) (n traps : ℕ) (was : CountedSoFar step start now ids n traps) where
  -- the sum of one more fits
  pub traps_fit : (r : ℕ) → n < length ids → length ids ≤ 4096 → r ≤ 8193 → traps + r < 4294967296
  traps_fit r lt few le = let so_far = was.few in omega arith

  pub counted_more : (d r : ℕ) (after : Components) → n < length ids → r ≤ 8193
      → step (record { left = now; traps = traps }) (get_or ids n d) ≡ (let s : Counted = record { left = after; traps = traps + r } in s)
      → CountedSoFar step start after ids (n + 1) (traps + r)
  counted_more d r after lt le next = record {
    far = fold_more step (record { left = start; traps = 0 }) ids n d lt ∙ ap (λ (s : Counted). step s (get_or ids n d)) was.far ∙ next;
    few = let so_far = was.few in omega arith;
  }

  pub counted_all : length ids ≤ n → fold step (record { left = start; traps = 0 }) ids ≡ (let s : Counted = record { left = now; traps = traps } in s)
  counted_all le = ap (fold step (record { left = start; traps = 0 })) (sym (take_all ids n le)) ∙ was.far
    where
      take_all : (xs : List ℕ) (k : ℕ) → length xs ≤ k → take k xs ≡ xs
      take_all [] zero le = refl
      take_all [] (suc k) le = refl
      take_all (y ∷ ys) zero le = absurd (omega arith)
      take_all (y ∷ ys) (suc k) le = ap (λ (zs : List ℕ). y ∷ zs) (take_all ys k (omega arith))
