-- Offsets as lists: of a class behind its base, of fields that go on, and where the fields of one class end.
use Rattle.std.proofs.Common.{◌≡◌, ℕ, zero, suc, ◌+◌, ◌-◌, ◌<◌, ◌≤◌, ◌==◌, Bool, true, false, cond, List, [], ◌∷◌, ◌++◌, length, get_or, map, take, drop, Option, Some, None, refl, sym, ap, ◌∙◌, arith, inl, inr, append_assoc}
use Rattle.std.specs.Prelude.{All, IfSome, ◌⊎◌, not, slice_get}
use Rattle.std.specs.List.{flat_map, position_or_len, range_with_len, sum_by}
use Rattle.std.specs.Option.{option_map_or}
use Rattle.std.proofs.lemmas.Bool.{cases_lt}
use Rattle.std.proofs.lemmas.List.{take-append-le, get_or_append_left, get_or-append_right, length-append, take_at, drop_at}
use Rattle.std.proofs.lemmas.List.Elements.{All-append, All-head, All-nil, All-tail, filter_passes}
use Rattle.std.proofs.lemmas.List.FromFn.{fill_by_all, get_or-map-range_with_len, length-map-range_with_len, map-range_with_len_more}
use Rattle.std.proofs.lemmas.List.Sums.{sum_by-append}
use Rattle.sed_typed.specs.declared.program.Field.{Field}
use Rattle.sed_typed.specs.declared.program.Program.{Program}
use Rattle.sed_typed.specs.declared.schema.ClassInfo.{ClassInfo}
use Rattle.sed_typed.specs.Classes.{base_of, declared_fields, fields}
use Rattle.sed_typed.specs.Sizes.{data_size}
use Rattle.sed_typed.specs.Typed.{Typed}
use Rattle.sed_typed.specs.TypedSchema.{IsClass}
use Rattle.sed_layout.specs.Offsets.{field_width, offsets_behind, offsets_of, width_before}
use Rattle.sed_layout.proofs.Data.{data_is_sum}
use Rattle.sed_layout.proofs.Inherited.{fields_alone, fields_beyond, fields_of_base}

pub no_data : (program : Program) → Typed program → (class : ℕ) → length program.schema.classes ≤ class → data_size program class ≡ 0
no_data program typed class h =
    data_is_sum program typed class ∙ ap (sum_by (field_width program)) (fields_beyond program typed class h)

-- ---- one list behind another

take_further : {X : Type 0} (xs ys : List X) (j : ℕ) → take (length xs + j) (xs ++ ys) ≡ xs ++ take j ys
take_further [] ys j = ap (λ (n : ℕ). take n ys) (let e : 0 + j ≡ j = omega arith in e)
take_further (x ∷ xs) ys j =
    ap (λ (n : ℕ). take n (x ∷ (xs ++ ys))) (let e : suc (length xs) + j ≡ suc (length xs + j) = omega arith in e)
    ∙ ap (λ (zs : List _). x ∷ zs) (take_further xs ys j)

module _ (program : Program) (xs ys : List Field) where
  abbrev front : List ℕ
  front = map (width_before program xs) (range_with_len 0 (length xs))

  abbrev back : List ℕ
  back = offsets_behind program (sum_by (field_width program) xs) ys

  front_long : length front ≡ length xs
  front_long = length-map-range_with_len (width_before program xs) 0 (length xs)

  back_long : length back ≡ length ys
  back_long = length-map-range_with_len (λ number. sum_by (field_width program) xs + width_before program ys number) 0 (length ys)

  each : (k : ℕ) → k < length (xs ++ ys) → get_or (front ++ back) k 0 ≡ width_before program (xs ++ ys) k
  each k h = by_place (cases_lt k (length xs))
    where
      by_place : (k < length xs) ⊎ (length xs ≤ k) → get_or (front ++ back) k 0 ≡ width_before program (xs ++ ys) k
      by_place (inl lt) =
          get_or_append_left front back 0 k (omega (arith, front_long, lt))
          ∙ get_or-map-range_with_len (width_before program xs) 0 (length xs) k k 0 lt (omega arith)
          ∙ sym (ap (sum_by (field_width program)) (take-append-le k xs ys (omega (arith, lt))))
      by_place (inr le) =
          let j : ℕ = k - length xs in
          let at : length xs + j ≡ k = omega (arith, le) in
          let few : j < length ys = omega (arith, le, h, length-append xs ys) in
          get_or-append_right front back (length xs) k 0 front_long le
          ∙ get_or-map-range_with_len (λ number. sum_by (field_width program) xs + width_before program ys number) 0 (length ys) j j 0 few (omega arith)
          ∙ sym (sum_by-append (field_width program) xs (take j ys))
          ∙ sym (ap (sum_by (field_width program)) (take_further xs ys j))
          ∙ ap (λ (n : ℕ). sum_by (field_width program) (take n (xs ++ ys))) at

  pub joined : map (width_before program (xs ++ ys)) (range_with_len 0 (length (xs ++ ys))) ≡ front ++ back
  joined =
      sym (fill_by_all (width_before program (xs ++ ys)) (front ++ back) (length (xs ++ ys)) 0
      (omega (arith, length-append front back, front_long, back_long, length-append xs ys)) each)

-- ---- of a class, behind its base

module _ (program : Program) (typed : Typed program) (class : ℕ) (within : class < length program.schema.classes) where
  abbrev pub own : List Field
  own = declared_fields program.fields class

  abbrev pub offsets_above : Option ℕ → List ℕ
  offsets_above base = option_map_or (offsets_of program) base []

  abbrev pub size_above : Option ℕ → ℕ
  size_above base = option_map_or (data_size program) base 0

  of_fields_above : (all above : List Field) → all ≡ above ++ own →
      map (width_before program all) (range_with_len 0 (length all)) ≡ map (width_before program above) (range_with_len 0 (length above)) ++ offsets_behind program (sum_by (field_width program) above) own
  of_fields_above all above e = ap (λ (fs : List Field). map (width_before program fs) (range_with_len 0 (length fs))) e ∙ joined program above own

  by_base : (o : Option ℕ) → base_of program.schema.classes class ≡ o → offsets_of program class ≡ offsets_above o ++ offsets_behind program (size_above o) own
  by_base None e = of_fields_above (fields program class) [] (fields_alone program class within e)
  by_base (Some base) e =
      of_fields_above (fields program class) (fields program base) (fields_of_base program typed class base e)
      ∙ ap (λ (n : ℕ). offsets_of program base ++ offsets_behind program n own) (sym (data_is_sum program typed base))

  -- the offsets of a class are those of its base, and behind them those of its own fields
  pub by_bases : offsets_of program class ≡ offsets_above (base_of program.schema.classes class) ++ offsets_behind program (size_above (base_of program.schema.classes class)) own
  by_bases = by_base (base_of program.schema.classes class) refl

  size_by_base : (o : Option ℕ) → base_of program.schema.classes class ≡ o → data_size program class ≡ size_above o + sum_by (field_width program) own
  size_by_base None e =
      data_is_sum program typed class ∙ ap (sum_by (field_width program)) (fields_alone program class within e) ∙ (let n : ℕ = sum_by (field_width program) own in let same : n ≡ 0 + n = omega arith in same)
  size_by_base (Some base) e =
      data_is_sum program typed class
      ∙ ap (sum_by (field_width program)) (fields_of_base program typed class base e)
      ∙ sum_by-append (field_width program) (fields program base) own
      ∙ ap (λ (n : ℕ). n + sum_by (field_width program) own) (sym (data_is_sum program typed base))

  small : (o : Option ClassInfo) → slice_get program.schema.classes class ≡ o → IfSome o (IsClass program class) → data_size program class < 65536
  small None e h = absurd (there program.schema.classes class within e)
    where
      there : (classes : List ClassInfo) (n : ℕ) → n < length classes → slice_get classes n ≡ None → ⊥
      there [] n h e = omega (arith, h)
      there (c ∷ cs) zero h e = cc
      there (c ∷ cs) (suc n) h e = there cs n (omega (arith, h)) e
  small (Some info) e h = omega (arith, h.size, h.size_most)

  -- the data of a class is below 65,536 bytes
  pub own_fit : size_above (base_of program.schema.classes class) + sum_by (field_width program) own < 65536
  own_fit =
      let whole = size_by_base (base_of program.schema.classes class) refl in
      let most = small (slice_get program.schema.classes class) refl (typed.classes class) in
      omega (arith, whole, most)

-- ---- one offset more

pub one_more : (old xs ys : List ℕ) (f : ℕ → ℕ) (i : ℕ) → xs ≡ old ++ map f (range_with_len 0 i) → ys ≡ xs ++ f i ∷ [] → ys ≡ old ++ map f (range_with_len 0 (i + 1))
one_more old xs ys f i e p =
    p
    ∙ ap (λ (zs : List ℕ). zs ++ f i ∷ []) e
    ∙ append_assoc old (map f (range_with_len 0 i)) (f i ∷ [])
    ∙ ap (λ (zs : List ℕ). old ++ zs) (sym (map-range_with_len_more f 0 i i (omega arith)))

-- ---- the fields of one class, where they stand together

-- where those that pass stand in front of those that don't
ends_at : {X : Type 0} (p : X → Bool) (xs ys : List X) → All (λ x. p x ≡ false) xs → All (λ y. p y ≡ true) ys → position_or_len p (xs ++ ys) ≡ length xs
ends_at p [] [] h k = refl
ends_at p [] (y ∷ ys) h k =
    let passes : p y ≡ true = All-head (λ z. p z ≡ true) y ys k in
    ap (λ (b : Bool). cond (not b) (1 + position_or_len p ys) 0) passes
ends_at p (x ∷ xs) ys h k =
    let fails : p x ≡ false = All-head (λ z. p z ≡ false) x xs h in
    let rest = ends_at p xs ys (All-tail (λ z. p z ≡ false) x xs h) k in
    ap (λ (b : Bool). cond (not b) (1 + position_or_len p (xs ++ ys)) 0) fails ∙ omega (arith, rest)

later : (all : List Field) (class from count : ℕ) → class < from → All (λ f. not (f.class.0 == class) ≡ true) (flat_map (declared_fields all) (range_with_len from count))
later all class from zero h = All-nil (λ f. not (f.class.0 == class) ≡ true)
later all class from (suc count) h =
    All-append (λ f. not (f.class.0 == class) ≡ true) (declared_fields all from) (flat_map (declared_fields all) (range_with_len (from + 1) count))
    (λ i d lt. let is : ((get_or (declared_fields all from) i d).class.0 == from) ≡ true = filter_passes (λ (f : Field). f.class.0 == from) all i d lt in grind arith)
    (later all class (from + 1) count (omega (arith, h)))

-- of fields that stand by their classes, from a class on
module _ (all rest : List Field) (class count : ℕ) (is : rest ≡ flat_map (declared_fields all) (range_with_len class (suc count))) where
  abbrev others : List Field
  others = flat_map (declared_fields all) (range_with_len (class + 1) count)

  ends : position_or_len (λ f. not (f.class.0 == class)) rest ≡ length (declared_fields all class)
  ends =
      ap (position_or_len (λ f. not (f.class.0 == class))) is
      ∙ ends_at (λ (f : Field). not (f.class.0 == class)) (declared_fields all class) others
      (λ i d lt. let own : ((get_or (declared_fields all class) i d).class.0 == class) ≡ true = filter_passes (λ (f : Field). f.class.0 == class) all i d lt in ap not own)
      (later all class (class + 1) count (omega arith))

  -- those of the class are in front, and then come the others
  pub own_are_first : take (position_or_len (λ f. not (f.class.0 == class)) rest) rest ≡ declared_fields all class
  own_are_first = ap (λ (n : ℕ). take n rest) ends ∙ ap (take (length (declared_fields all class))) is ∙ take_at (declared_fields all class) others (length (declared_fields all class)) refl

  pub others_follow : drop (length (declared_fields all class)) rest ≡ others
  others_follow = ap (drop (length (declared_fields all class))) is ∙ drop_at (declared_fields all class) others (length (declared_fields all class)) refl

  pub own_are_few : length (declared_fields all class) ≤ length rest
  own_are_few = let long = length-append (declared_fields all class) others in let same = ap length is in omega (arith, long, same)
