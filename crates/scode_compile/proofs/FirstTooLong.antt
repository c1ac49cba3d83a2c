-- Of the methods whose code is too long one is the first.
use Rattle.std.proofs.Common.{◌≡◌, ℕ, ◌<◌, length, take, subst, ◌∙◌, arith, length-take}
use Rattle.std.specs.Prelude.{All, slice_get}
use Rattle.std.proofs.lemmas.List.{get_or-take}
use Rattle.std.proofs.lemmas.Option.{get_or_from_slice_get, slice_get_within}
use Rattle.sed_typed.specs.declared.program.Method.{Method}
use Rattle.sed_typed.specs.declared.program.Program.{Program}
use Rattle.sed_engine.proofs.Below.{at_place, of_some}
use Rattle.scode_emit.specs.Method.{size_of}
use Rattle.scode_gen.specs.Generated.{IsFirstTooLong, IsShort, image_layout}

module _ (program : Program) where
  abbrev IsLong : Method → Type 0
  IsLong m = 65535 < size_of program (image_layout program) m

  -- none is too long where all are short
  pub none_too_long : (n : ℕ) → All (IsShort program) program.methods → IsFirstTooLong program n → ⊥
  none_too_long n short first =
      let x = of_some {P = IsLong} (slice_get program.methods n) first.too_long in
      let le : IsShort program x.0 = at_place (IsShort program) program.methods n x.0 short x.1 in
      let lt : IsLong x.0 = x.2 in
      omega (arith, le, lt)

  not_before : (n k : ℕ) → IsFirstTooLong program n → IsFirstTooLong program k → k < n → ⊥
  not_before n k first other lt =
      let x = of_some {P = IsLong} (slice_get program.methods k) other.too_long in
      let within : k < length program.methods = slice_get_within program.methods k x.0 x.1 in
      let before : k < length (take n program.methods) = omega (arith, length-take n program.methods, lt, within) in
      let le : IsShort program x.0 =
      subst (IsShort program) (get_or-take n program.methods k x.0 lt ∙ get_or_from_slice_get program.methods k x.0 x.0 x.1) (first.before k x.0 before) in
      let more : IsLong x.0 = x.2 in
      omega (arith, le, more)

  pub one_first : (n k : ℕ) → IsFirstTooLong program n → IsFirstTooLong program k → n ≡ k
  one_first n k first other =
      let low : ¬ (k < n) = not_before n k first other in
      let high : ¬ (n < k) = not_before k n other first in
      omega (arith, low, high)
