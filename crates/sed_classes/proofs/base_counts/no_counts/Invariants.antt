use Rattle.std.proofs.Common.{◌≡◌, ℕ, None}
use Rattle.sed_classes.specs.Ends.{item_at}
use Rattle.sed_classes.proofs.base_counts.no_counts.Given as goal

-- none so far is numbered
abbrev pub invariant-places : goal.invariant-places
invariant-places l = (place : ℕ) → item_at l.all.items place ≡ None
