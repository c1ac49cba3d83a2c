-- How deep objects stand in objects.
use Rattle.std.specs.Prelude.{ℕ, zero, suc, max, length, List, [], ◌∷◌, unwrap_or}
use Rattle.sed_classes.specs.declared.kit_units.KitUnits.{KitUnits}
use Rattle.sed_classes.specs.Declarations.{all_classes}
use Rattle.sed_outline.specs.Rounds.{inline_in}
use Rattle.sed_program.specs.Types.{place_of}

-- the most that comes of a row
abbrev pub most : (ℕ → ℕ) → List ℕ → ℕ
most f [] = 0
most f (x ∷ xs) = max (f x) (most f xs)

-- how many objects stand in one another in one of a class, at most so many
unfoldable pub deepest : List KitUnits → ℕ → ℕ → ℕ
deepest units zero class = 0
deepest units (suc k) class = most (λ h. suc (deepest units k h)) (inline_in units class)

-- the same of the class of a number: no more objects stand in one another than there are classes
abbrev pub depth_of : List KitUnits → ℕ → ℕ
depth_of units k = deepest units (length (all_classes units)) (unwrap_or (place_of units k) 0)
