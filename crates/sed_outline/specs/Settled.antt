-- Classes of which it is known, from those whose objects stand in theirs, that no object stands in itself.
use Rattle.std.specs.Prelude.{◌≡◌, ℕ, Bool, true, false, List}
use Rattle.sed_classes.specs.declared.kit_units.KitUnits.{KitUnits}
use Rattle.sed_classes.specs.Objects.{holds_within}
use Rattle.sed_outline.specs.Rounds.{item}

-- none of those that are known holds one that is not, or itself
pub record Settles (units : List KitUnits) (known : List Bool) : Type 0 where
  pub inside :
      (class inner depth : ℕ) → item false known class ≡ true → item false known inner ≡ false →
      holds_within units depth inner class ≡ false
  pub apart : (class depth : ℕ) → item false known class ≡ true → holds_within units depth class class ≡ false
