-- Walks along steps: one step more at the end, and what they stay within.
use Rattle.std.proofs.Common.{ℕ}
use Rattle.kit_manifest.specs.Walk.{Walk, one_step, more_steps}

-- one step more
pub Walk-step : (Step : ℕ → ℕ → Type 0) (i j k : ℕ) → Walk Step i j → Step j k → Walk Step i k
Walk-step Step _ _ k (one_step i j s) last = more_steps i j k s (one_step j k last)
Walk-step Step _ _ k (more_steps i m j s w) last = more_steps i m k s (Walk-step Step m j k w last)

-- what holds behind each step of a place, and is handed on by steps, holds at the end of a walk
pub Walk-within : (Step : ℕ → ℕ → Type 0) (P : ℕ → Type 0) → ((i : ℕ) → P i → (j : ℕ) → Step i j → P j)
    → (i j : ℕ) → ((k : ℕ) → Step i k → P k) → Walk Step i j → P j
Walk-within Step P on _ _ first (one_step i j s) = first j s
Walk-within Step P on _ _ first (more_steps i m j s w) = Walk-within Step P on m j (on m (first m s)) w

-- a walk along other steps
pub Walk-map : (A B : ℕ → ℕ → Type 0) → ((i j : ℕ) → A i j → B i j) → (i j : ℕ) → Walk A i j → Walk B i j
Walk-map A B f _ _ (one_step i j s) = one_step i j (f i j s)
Walk-map A B f _ _ (more_steps i m j s w) = more_steps i m j (f i m s) (Walk-map A B f m j w)
