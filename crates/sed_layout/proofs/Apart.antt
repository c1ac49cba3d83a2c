-- Of fields that stand one behind another none overlaps another.
use Rattle.std.proofs.Common.{◌≡◌, ℕ, zero, suc, ◌+◌, ◌<◌, ◌≤◌, List, [], ◌∷◌, take, Some, ap, ◌∙◌, arith}
use Rattle.std.specs.Prelude.{All, slice_get}
use Rattle.std.specs.List.{sum_by}
use Rattle.std.proofs.lemmas.List.Elements.{All-weaker}
use Rattle.std.proofs.lemmas.List.Sums.{sum_by_more, sum_by-cons, sum_by-take-le}
use Rattle.std.proofs.lemmas.Option.{get_or_from_slice_get, slice_get_within}
use Rattle.sed_typed.specs.declared.program.Field.{Field}
use Rattle.sed_typed.specs.declared.program.Program.{Program}
use Rattle.sed_typed.specs.Classes.{fields}
use Rattle.sed_typed.specs.Sizes.{data_size}
use Rattle.sed_typed.specs.Typed.{Typed}
use Rattle.sed_typed.specs.TypedSchema.{IsField}
use Rattle.sed_layout.specs.Offsets.{field_width, offset_of, width_before}
use Rattle.sed_layout.proofs.Data.{data_is_sum, takes_bytes}
use Rattle.sed_layout.proofs.Inherited.{of_fields}

-- a field ends where the next begins
next : (program : Program) (all : List Field) (number : ℕ) (f : Field) → slice_get all number ≡ Some f →
    width_before program all (number + 1) ≡ width_before program all number + field_width program f
next program all number f is =
    sum_by_more (field_width program) all number f (slice_get_within all number f is)
    ∙ ap (λ (g : Field). width_before program all number + field_width program g) (get_or_from_slice_get all number f f is)

-- what stands before a number grows with it
grows : (w : Field → ℕ) (all : List Field) (m n : ℕ) → m ≤ n → sum_by w (take m all) ≤ sum_by w (take n all)
grows w all zero n h = omega arith
grows w [] (suc m) zero h = absurd (omega (arith, h))
grows w (f ∷ fs) (suc m) zero h = absurd (omega (arith, h))
grows w [] (suc m) (suc n) h = omega arith
grows w (f ∷ fs) (suc m) (suc n) h =
    let rest = grows w fs m n (omega (arith, h)) in
    omega (arith, sum_by-cons w f (take m fs), sum_by-cons w f (take n fs), rest)

pub ends_before : (program : Program) (all : List Field) (first second : ℕ) (f : Field) → slice_get all first ≡ Some f → first < second →
    width_before program all first + field_width program f ≤ width_before program all second
ends_before program all first second f is less =
    let end = next program all first f is in
    let later = grows (field_width program) all (first + 1) second (omega (arith, less)) in
    omega (arith, end, later)

pub ends_within : (program : Program) (all : List Field) (number : ℕ) (f : Field) → slice_get all number ≡ Some f →
    width_before program all number + field_width program f ≤ sum_by (field_width program) all
ends_within program all number f is =
    let end = next program all number f is in
    let most = sum_by-take-le (field_width program) all (number + 1) in
    omega (arith, end, most)

pub field_within : (program : Program) → Typed program → (class number : ℕ) (f : Field) → slice_get (fields program class) number ≡ Some f →
    offset_of program class number + field_width program f ≤ data_size program class
field_within program typed class number f is =
    let all = data_is_sum program typed class in
    let end = ends_within program (fields program class) number f is in
    omega (arith, all, end)

pub fields_some : (program : Program) → Typed program → (class : ℕ) → All (λ f. 0 < field_width program f) (fields program class)
fields_some program typed class =
    All-weaker (IsField program) (λ f. 0 < field_width program f) (takes_bytes program typed) (fields program class)
    (of_fields (IsField program) program typed.fields class)

pub statics_some : (program : Program) → Typed program → All (λ f. 0 < field_width program f) program.statics
statics_some program typed =
    All-weaker (IsField program) (λ f. 0 < field_width program f) (takes_bytes program typed) program.statics typed.statics
