-- A finite map with a function applied to each value.
use Rattle.std.specs.Prelude.{ℕ, map, List}
use Rattle.std.specs.FinMap.{FinMap, entries, from_sorted}
use Rattle.std.specs.Ordering.{nat_cmp}

abbrev pub on_values : {T U : Type 0} → (T → U) → List (ℕ × T) → List (ℕ × U)
on_values {T} f es = map (λ (e : ℕ × T). (e.0, f e.1)) es

abbrev pub map_values : {T U : Type 0} → (T → U) → FinMap nat_cmp T → FinMap nat_cmp U
map_values f m = from_sorted (on_values f (entries m))
