-- Lists that are seen through a function.
use Rattle.std.proofs.Common.{◌≡◌, ℕ, List, map, slice_get, Option, option_map, sym, ap, ◌∙◌}
use Rattle.std.proofs.lemmas.Option.{slice_get-map}

-- an item of what a list is seen as
pub get_seen : {X Y : Type 0} (f : X → Y) (xs : List X) (i : ℕ) (o : Option X) → o ≡ slice_get xs i → option_map f o ≡ slice_get (map f xs) i
get_seen f xs i o e = ap (option_map f) e ∙ sym (slice_get-map f xs i)
