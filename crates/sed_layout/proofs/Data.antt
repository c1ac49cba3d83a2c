-- The data of a class is as large as its fields together, and no field is empty.
use Rattle.std.proofs.Common.{◌≡◌, ℕ, zero, suc, ◌+◌, ◌*◌, ◌<◌, ◌≤◌, List, [], ◌∷◌, length, get_or, nat_lt, refl, sym, ap, ◌∙◌, arith, inl, inr}
use Rattle.std.specs.Prelude.{All, ◌⊎◌}
use Rattle.std.specs.List.{sum_by}
use Rattle.std.proofs.Math.Nat.{mul-le-mul_left}
use Rattle.std.proofs.lemmas.Bool.{cases_lt}
use Rattle.std.proofs.lemmas.Bool.Decides.{nat_tests}
use Rattle.std.proofs.lemmas.List.Elements.{All-head, All-tail}
use Rattle.std.proofs.lemmas.List.Sums.{sum_by-cons}
use Rattle.sed_value.specs.SlotType.{width_of}
use Rattle.sed_value.specs.declared.slot_type.Primitive.{Primitive}
use Rattle.sed_value.specs.declared.slot_type.Primitive.TheVariants as prim
use Rattle.sed_typed.specs.declared.program.Field.{Field}
use Rattle.sed_typed.specs.declared.program.FieldForm.{FieldForm}
use Rattle.sed_typed.specs.declared.program.FieldForm.TheVariants.{Prim, Str, Buf, Array, Object}
use Rattle.sed_typed.specs.declared.program.Program.{Program}
use Rattle.sed_typed.specs.Classes.{fields}
use Rattle.sed_typed.specs.Sizes.{data_size, data_within, form_size}
use Rattle.sed_typed.specs.Typed.{Typed}
use Rattle.sed_typed.specs.TypedSchema.{IsField, IsForm, LiesDeeper}
use Rattle.sed_layout.specs.Offsets.{field_width}
use Rattle.sed_layout.proofs.Counts.{one}
use Rattle.sed_layout.proofs.Inherited.{fields_beyond, of_fields}

pub sums_agree : {X : Type 0} (f g : X → ℕ) (xs : List X) → All (λ x. f x ≡ g x) xs → sum_by f xs ≡ sum_by g xs
sums_agree f g [] h = refl
sums_agree f g (x ∷ xs) h =
    let here : f x ≡ g x = All-head (λ y. f y ≡ g y) x xs h in
    let rest = sums_agree f g xs (All-tail (λ y. f y ≡ g y) x xs h) in
    omega (arith, sum_by-cons f x xs, sum_by-cons g x xs, here, rest)

-- ---- how many classes lie less deep than a depth

module _ (depth : ℕ → ℕ) where
  rank : ℕ → ℕ → ℕ
  rank zero d = 0
  rank (suc n) d = rank n d + one (nat_lt (depth n) d)

  more_below : (x d e : ℕ) → d ≤ e → one (nat_lt x d) ≤ one (nat_lt x e)
  more_below x d e h = grind (arith, nat_tests)

  at_most_one : (x d : ℕ) → one (nat_lt x d) ≤ 1
  at_most_one x d = grind (arith, nat_tests)

  rank_grows : (n d e : ℕ) → d ≤ e → rank n d ≤ rank n e
  unfolding rank
  rank_grows zero d e h = omega arith
  rank_grows (suc n) d e h = let rest = rank_grows n d e h in let last = more_below (depth n) d e h in omega arith

  rank_most : (n d : ℕ) → rank n d ≤ n
  unfolding rank
  rank_most zero d = omega arith
  rank_most (suc n) d = let rest = rank_most n d in let last = at_most_one (depth n) d in omega arith

  -- a class of the depth counts where more depth is
  rank_falls : (n class e : ℕ) → class < n → depth class < e → rank n (depth class) < rank n e
  unfolding rank
  rank_falls zero class e h less = absurd (omega (arith, h))
  rank_falls (suc n) class e h less = by_last (λ lt. rank_falls n class e lt less) (cases_lt class n)
    where
      by_last : (class < n → rank n (depth class) < rank n e) → (class < n) ⊎ (n ≤ class) → rank (suc n) (depth class) < rank (suc n) e
      by_last again (inl lt) = let rest = again lt in let last = more_below (depth n) (depth class) e (omega arith) in omega arith
      by_last again (inr le) =
          let same : depth n ≡ depth class = ap depth (let e : n ≡ class = omega arith in e) in
          let a : one (nat_lt (depth n) (depth class)) ≡ 0 = grind (arith, nat_tests) in
          let b : one (nat_lt (depth n) e) ≡ 1 = grind (arith, nat_tests) in
          let rest = rank_grows n (depth class) e (omega arith) in
          omega arith

  rank_within : (n class : ℕ) → class < n → rank n (depth class) < n
  unfolding rank
  rank_within zero class h = absurd (omega (arith, h))
  rank_within (suc n) class h = by_last (λ lt. rank_within n class lt) (cases_lt class n)
    where
      by_last : (class < n → rank n (depth class) < n) → (class < n) ⊎ (n ≤ class) → rank (suc n) (depth class) < suc n
      by_last again (inl lt) = let rest = again lt in let last = at_most_one (depth n) (depth class) in omega arith
      by_last again (inr le) =
          let same : depth n ≡ depth class = ap depth (let e : n ≡ class = omega arith in e) in
          let a : one (nat_lt (depth n) (depth class)) ≡ 0 = grind (arith, nat_tests) in
          let rest = rank_most n (depth class) in
          omega arith

mul-pos : (a b : ℕ) → 1 ≤ a → 0 < b → 0 < a * b
mul-pos a b h k = grind (arith, mul-le-mul_left a k)

module _ (program : Program) (typed : Typed program) where
  abbrev all_classes : ℕ
  all_classes = length program.schema.classes

  abbrev Again : ℕ → ℕ → Type 0
  Again most class = rank typed.depth all_classes (typed.depth class) < most → data_within program most class ≡ data_within program (suc most) class

  -- where objects lie no deeper inside one another, one level more changes nothing
  same_form : (most class : ℕ) → rank typed.depth all_classes (typed.depth class) < suc most → ((t : ℕ) → Again most t) →
      (f : Field) (form : FieldForm) → LiesDeeper typed.depth class form → IsForm program f form →
      form_size (data_within program most) form ≡ form_size (data_within program (suc most)) form
  same_form most class h again f (Prim p) deeper is = refl
  same_form most class h again f (Str n) deeper is = refl
  same_form most class h again f (Buf n) deeper is = refl
  same_form most class h again f (Array p n) deeper is = refl
  same_form most class h again f (Object t) deeper is =
      let falls : rank typed.depth all_classes (typed.depth t.0) < rank typed.depth all_classes (typed.depth class) = rank_falls typed.depth all_classes t.0 (typed.depth class) is.0 deeper in
      again t.0 (omega (arith, falls, h))

  same_within : (most class : ℕ) → Again most class
  same_within zero class h = absurd (omega (arith, h))
  same_within (suc most) class h =
      let known = of_fields (IsField program) program typed.fields class in
      sums_agree (λ f. form_size (data_within program most) f.form) (λ f. form_size (data_within program (suc most)) f.form) (fields program class)
      (λ i d lt. let f = get_or (fields program class) i d in same_form most class h (λ t. same_within most t) f f.form (typed.deeper class i d lt) (known i d lt).form)

  -- the data of a class is as large as its fields together
  pub data_is_sum : (class : ℕ) → data_size program class ≡ sum_by (field_width program) (fields program class)
  data_is_sum class = by_class (cases_lt class all_classes)
    where
      nothing : (most : ℕ) → fields program class ≡ [] → data_within program most class ≡ 0
      nothing zero e = refl
      nothing (suc most) e = ap (sum_by (λ f. form_size (data_within program most) f.form)) e

      by_class : (class < all_classes) ⊎ (all_classes ≤ class) → data_size program class ≡ sum_by (field_width program) (fields program class)
      by_class (inl lt) = same_within all_classes class (rank_within typed.depth all_classes class lt)
      by_class (inr le) =
          let none = fields_beyond program typed class le in
          nothing all_classes none ∙ sym (ap (sum_by (field_width program)) none)

  -- ---- no field is empty

  takes_some : (p : Primitive) → 0 < width_of p
  takes_some prim.Bool = omega arith
  takes_some prim.Byte = omega arith
  takes_some prim.Short = omega arith
  takes_some prim.Int = omega arith
  takes_some prim.Long = omega arith

  -- an object of this form has data
  abbrev HasData : FieldForm → Type 0
  HasData (Prim p) = Unit {0}
  HasData (Str n) = Unit {0}
  HasData (Buf n) = Unit {0}
  HasData (Array p n) = Unit {0}
  HasData (Object t) = 0 < data_size program t.0

  some_width : (f : Field) (form : FieldForm) → IsForm program f form → HasData form → 0 < form_size (data_size program) form
  some_width f (Prim p) is has = takes_some p
  some_width f (Str n) is has = omega (arith, is.0)
  some_width f (Buf n) is has = omega arith
  some_width f (Array p n) is has = mul-pos n (width_of p) is.0 (takes_some p)
  some_width f (Object t) is has = has

  first_of : (class : ℕ) (all : List Field) → fields program class ≡ all → 0 < length all → All (λ f. 0 < field_width program f) all → 0 < data_size program class
  first_of class [] e h some = absurd (omega (arith, h))
  first_of class (f ∷ fs) e h some =
      let here : 0 < field_width program f = All-head (λ g. 0 < field_width program g) f fs some in
      let whole : data_size program class ≡ sum_by (field_width program) (f ∷ fs) = data_is_sum class ∙ ap (sum_by (field_width program)) e in
      omega (arith, whole, sum_by-cons (field_width program) f fs, here)

  deeper_data : (class : ℕ) → ((t : ℕ) → typed.depth t < typed.depth class → 0 < length (fields program t) → 0 < data_size program t) →
      (f : Field) (form : FieldForm) → LiesDeeper typed.depth class form → IsForm program f form → HasData form
  deeper_data class again f (Prim p) deeper is = tt
  deeper_data class again f (Str n) deeper is = tt
  deeper_data class again f (Buf n) deeper is = tt
  deeper_data class again f (Array p n) deeper is = tt
  deeper_data class again f (Object t) deeper is = again t.0 deeper is.3

  -- a class with fields has data
  some_data : (most class : ℕ) → typed.depth class < most → 0 < length (fields program class) → 0 < data_size program class
  some_data zero class h some = absurd (omega (arith, h))
  some_data (suc most) class h some =
      let known = of_fields (IsField program) program typed.fields class in
      first_of class (fields program class) refl some
      (λ i d lt.
      let f = get_or (fields program class) i d in
      let is = (known i d lt).form in
      some_width f f.form is (deeper_data class (λ t less there. some_data most t (omega (arith, less, h)) there) f f.form (typed.deeper class i d lt) is))

  object_data : (f : Field) (form : FieldForm) → IsForm program f form → HasData form
  object_data f (Prim p) is = tt
  object_data f (Str n) is = tt
  object_data f (Buf n) is = tt
  object_data f (Array p n) is = tt
  object_data f (Object t) is = some_data (suc (typed.depth t.0)) t.0 (omega arith) is.3

  pub takes_bytes : (f : Field) → IsField program f → 0 < field_width program f
  takes_bytes f is = some_width f f.form is.form (object_data f f.form is.form)
