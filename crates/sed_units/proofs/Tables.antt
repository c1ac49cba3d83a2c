-- What is found among the rows of a table.
use Rattle.std.proofs.Common.{◌≡◌, Bor, ℕ, Bool, true, false, List, [], ◌∷◌, map, Option, Some, None, if◌then◌else◌, refl}
use Rattle.std.specs.List.{find}
use Rattle.std.specs.Option.{option_map}
use Rattle.std.specs.Str.{bytes_eq}
use Rattle.sed_units.specs.Words.{look_up}

-- the first row of a word, as its table says it
pub looked : {T : Type 0} (rows : List (Bor (List ℕ) × T)) (bytes : List ℕ)
    → option_map (λ row. row.1) (find (λ row. bytes_eq bytes row.0.now) rows)
    ≡ look_up (map (λ row. (row.0.now, row.1)) rows) bytes
looked [] bytes = refl
looked {T} (row ∷ rows) bytes = by_test (bytes_eq bytes row.0.now) (looked rows bytes)
  where
    by_test : (b : Bool) → option_map (λ row. row.1) (find (λ row. bytes_eq bytes row.0.now) rows)
        ≡ look_up (map (λ row. (row.0.now, row.1)) rows) bytes
        → option_map (λ row. row.1) (if b then Some row else find (λ row. bytes_eq bytes row.0.now) rows)
        ≡ (if b then Some row.1 else look_up (map (λ row. (row.0.now, row.1)) rows) bytes)
    by_test true others = refl
    by_test false others = others
