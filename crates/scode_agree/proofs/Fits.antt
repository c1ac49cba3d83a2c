-- The first bytes of objects and of the statics fit the forms of their fields.
use Rattle.std.proofs.Common.{◌≡◌, ℕ, zero, suc, ◌+◌, ◌*◌, ◌-◌, ◌<◌, ◌≤◌, ◌==◌, Bool, true, nat_le, List, [], ◌++◌}
use Rattle.std.proofs.Common.{length, replicate, take, drop, Some, refl, ap, sym, ◌∙◌, arith, append_assoc}
use Rattle.std.specs.Prelude.{All, IsTrue, slice_get}
use Rattle.std.specs.Int.{bytes_high_first}
use Rattle.std.specs.List.{list_all, sum_by}
use Rattle.std.proofs.lemmas.Bool.{eq-eqb, le-leb, leb-true}
use Rattle.std.proofs.lemmas.List.{append-nil, drop-append-le, drop-drop, drop-replicate, length-replicate}
use Rattle.std.proofs.lemmas.List.{take-append-le, take-replicate}
use Rattle.sed_value.specs.declared.slot_type.Primitive.TheVariants as prim
use Rattle.sed_value.specs.declared.value.Value.{Value}
use Rattle.sed_value.specs.declared.value.Value.TheVariants as kept
use Rattle.sed_wire.specs.Number.{number_of}
use Rattle.sed_typed.specs.declared.program.Field.{Field}
use Rattle.sed_typed.specs.declared.program.FieldForm.{FieldForm}
use Rattle.sed_typed.specs.declared.program.FieldForm.TheVariants as form
use Rattle.sed_typed.specs.declared.program.Program.{Program}
use Rattle.sed_typed.specs.Classes.{fields}
use Rattle.sed_typed.specs.Sizes.{data_size, data_within, form_size}
use Rattle.sed_typed.specs.TypedSchema.{IsField, IsForm, is_initial}
use Rattle.sed_layout.specs.Offsets.{field_width, offset_of, static_offset_of}
use Rattle.sed_layout.proofs.Inherited.{of_fields}
use Rattle.scode_image.specs.declared.image.ImageField.{ImageField}
use Rattle.scode_code.specs.Contents.{bytes_at}
use Rattle.scode_code.specs.TableRules.{array_fits, bytes_fit, field_fits, object_fits, primitive_fits}
use Rattle.scode_gen.specs.FirstBytes.{buf_bytes, field_bytes, fields_bytes, first_bytes, object_bytes, static_bytes}
use Rattle.scode_gen.specs.Generated.{image_of}
use Rattle.scode_gen.specs.ImageFields.{class_fields, fields_placed, image_field}
use Rattle.scode_made.proofs.FirstBytes.{contents_fit, high_first}
use Rattle.scode_made.proofs.FieldBytes.{front_of, number_back}
use Rattle.scode_made.proofs.FirstContents.{each_same, first_bytes_stand, levels_grow}
use Rattle.scode_made.proofs.MadeData.{made_fields}
use Rattle.scode_made.proofs.Places.{all_at}
use Rattle.scode_agree.proofs.Given.{IsGiven}
use Rattle.scode_agree.proofs.Tests.{numbered_pass, range_passes}

-- ---- lists

-- a part of zeros
zeros_at : (w n i : ℕ) (behind : List ℕ) → i + w ≤ n → take w (drop i (replicate n 0 ++ behind)) ≡ replicate w 0
zeros_at w n i behind within =
    let long : length (replicate {A = ℕ} n 0) ≡ n = length-replicate {A = ℕ} n 0 in
    let rest : length (replicate {A = ℕ} (n - i) 0) ≡ n - i = length-replicate {A = ℕ} (n - i) 0 in
    ap (take w) (drop-append-le i (replicate n 0) behind (omega (arith, within, long)))
    ∙ ap (λ (xs : List ℕ). take w (xs ++ behind)) (drop-replicate i n 0)
    ∙ take-append-le w (replicate (n - i) 0) behind (omega (arith, within, rest))
    ∙ take-replicate w (n - i) 0 (omega (arith, within))

-- one byte of zeros is 0
zero_byte : (n i : ℕ) (behind bytes : List ℕ) (offset : ℕ) → i < n → drop offset bytes ≡ replicate n 0 ++ behind
    → number_of (bytes_at bytes (offset + i) 1) ≡ 0
zero_byte n i behind bytes offset h at =
    ap (λ (xs : List ℕ). number_of (take 1 xs)) (sym (drop-drop i offset bytes) ∙ ap (drop i) at)
    ∙ ap number_of (zeros_at 1 n i behind (omega (arith, h)))

-- ---- fields

module _ (object : ℕ → List ℕ → Bool) (first : ℕ → List ℕ) (behind bytes : List ℕ) (offset : ℕ) where
  -- of an object it is known that its bytes fit its class
  abbrev pub IsFit : FieldForm → Type 0
  IsFit (form.Str n) = 1 ≤ n
  IsFit (form.Buf n) = n < 65536
  IsFit (form.Object class) = object class.0 (first class.0 ++ behind) ≡ true
  IsFit f = Unit {0}

  truth_fits : (truth : ℕ) → truth ≤ 2 → drop offset bytes ≡ bytes_high_first 1 truth ++ behind
      → nat_le (number_of (bytes_at bytes offset 1)) 2 ≡ true
  truth_fits truth few at =
      let read : number_of (bytes_at bytes offset 1) ≡ truth =
      ap (λ (xs : List ℕ). number_of (take 1 xs)) at
      ∙ ap number_of (front_of 1 (bytes_high_first 1 truth) behind (high_first 1 truth))
      ∙ number_back 1 truth (omega (arith, few)) in
      le-leb (number_of (bytes_at bytes offset 1)) 2 (omega (arith, read, few))

  str_fits_back : (n : ℕ) → 1 ≤ n → drop offset bytes ≡ replicate n 0 ++ behind
      → (number_of (bytes_at bytes (offset + (n - 1)) 1) == 0) ≡ true
  str_fits_back n some at =
      eq-eqb (number_of (bytes_at bytes (offset + (n - 1)) 1)) 0
      (zero_byte n (n - 1) behind bytes offset (omega (arith, some)) at)

  buf_fits_back : (n : ℕ) (held : List ℕ) → length held ≤ n → n < 65536 → drop offset bytes ≡ buf_bytes n held ++ behind
      → nat_le (number_of (bytes_at bytes offset 2)) n ≡ true
  buf_fits_back n held few small at =
      let count : List ℕ = bytes_high_first 2 (length held) in
      let zeros : List ℕ = replicate (n - length held) 0 in
      let whole : drop offset bytes ≡ count ++ (held ++ (zeros ++ behind)) =
      at ∙ append_assoc (count ++ held) zeros behind ∙ append_assoc count held (zeros ++ behind) in
      let read : number_of (bytes_at bytes offset 2) ≡ length held =
      ap (λ (xs : List ℕ). number_of (take 2 xs)) whole
      ∙ ap number_of (front_of 2 count (held ++ (zeros ++ behind)) (high_first 2 (length held)))
      ∙ number_back 2 (length held) (omega (arith, few, small)) in
      le-leb (number_of (bytes_at bytes offset 2)) n (omega (arith, read, few))

  bools_fit : (n : ℕ) → drop offset bytes ≡ replicate (n * 1) 0 ++ behind → array_fits 1 n bytes offset ≡ true
  bools_fit n at =
      range_passes (λ (i : ℕ). primitive_fits 1 bytes (offset + i * 1)) 0 n
      (λ i lt.
      let read : number_of (bytes_at bytes (offset + i * 1) 1) ≡ 0 =
      zero_byte (n * 1) (i * 1) behind bytes offset (omega (arith, lt)) at in
      le-leb (number_of (bytes_at bytes (offset + i * 1) 1)) 2 (omega (arith, read)))

  pub fits_back : (f : FieldForm) (v : Value) → IsTrue (is_initial f v) → IsFit f
      → drop offset bytes ≡ field_bytes first f v ++ behind →
      field_fits object bytes (image_field offset f) ≡ true
  fits_back (form.Prim prim.Bool) (kept.Bool truth) h fit at = truth_fits truth (leb-true truth 2 h) at
  fits_back (form.Prim prim.Bool) v h fit at = let never : ⊥ = cc in absurd never
  fits_back (form.Prim prim.Byte) v h fit at = refl
  fits_back (form.Prim prim.Short) v h fit at = refl
  fits_back (form.Prim prim.Int) v h fit at = refl
  fits_back (form.Prim prim.Long) v h fit at = refl
  fits_back (form.Str n) v h fit at = str_fits_back n fit at
  fits_back (form.Buf n) (kept.Buf held) h fit at = buf_fits_back n held (contents_fit n (kept.Buf held) h) fit at
  fits_back (form.Buf n) v h fit at = let never : ⊥ = cc in absurd never
  fits_back (form.Object class) v h fit at = ap (object class.0) at ∙ fit
  fits_back (form.Array prim.Bool n) v h fit at = bools_fit n at
  fits_back (form.Array prim.Byte n) v h fit at =
      range_passes (λ (i : ℕ). primitive_fits 2 bytes (offset + i * 1)) 0 n (λ i lt. refl)
  fits_back (form.Array prim.Short n) v h fit at =
      range_passes (λ (i : ℕ). primitive_fits 3 bytes (offset + i * 2)) 0 n (λ i lt. refl)
  fits_back (form.Array prim.Int n) v h fit at =
      range_passes (λ (i : ℕ). primitive_fits 4 bytes (offset + i * 4)) 0 n (λ i lt. refl)
  fits_back (form.Array prim.Long n) v h fit at =
      range_passes (λ (i : ℕ). primitive_fits 5 bytes (offset + i * 8)) 0 n (λ i lt. refl)

-- ---- objects

module _ (program : Program) (is : IsGiven program) where
  abbrev levels : ℕ
  levels = length program.schema.classes

  -- so many levels hold all objects inside one of a class
  abbrev IsFull : ℕ → ℕ → Type 0
  IsFull depth class = data_within program depth class ≡ data_size program class

  -- where so many levels hold all of a class, its bytes fit its fields, as far as the rule looks into objects
  abbrev AreFit : ℕ → ℕ → Type 0
  AreFit k depth =
      (class : ℕ) (behind : List ℕ) → IsFull depth class
      → object_fits k (image_of program) class (object_bytes program depth class ++ behind) ≡ true

  -- fields of which each begins where those before it end
  fields_fit : (k depth : ℕ) → AreFit k depth → (behind : List ℕ) (all : List Field) (offset : ℕ → ℕ)
      → All (IsField program) all →
      ((i : ℕ) (f : Field) → slice_get all i ≡ Some f
      → form_size (data_within program depth) f.form ≡ field_width program f) →
      ((i : ℕ) → offset i ≡ sum_by (field_width program) (take i all)) →
      list_all (field_fits (object_fits k (image_of program)) (fields_bytes (object_bytes program depth) all ++ behind))
      (fields_placed offset all) ≡ true
  fields_fit k depth again behind all offset known same at_offset =
      numbered_pass (λ (i : ℕ) (f : Field). image_field (offset i) f.form)
      (field_fits (object_fits k (image_of program)) bytes) all one
    where
      first : ℕ → List ℕ
      first = object_bytes program depth

      bytes : List ℕ
      bytes = fields_bytes first all ++ behind

      is_fit : (f : Field) (rest : List ℕ) (o : ℕ) (g : FieldForm) → IsForm program f g
          → form_size (data_within program depth) g ≡ form_size (data_size program) g →
          IsFit (object_fits k (image_of program)) first rest bytes o g
      is_fit f rest o (form.Prim p) h full = tt
      is_fit f rest o (form.Str n) h full = h.0
      is_fit f rest o (form.Buf n) h full = omega (arith, h.1)
      is_fit f rest o (form.Array p n) h full = tt
      is_fit f rest o (form.Object class) h full = again class.0 rest full

      one : (i : ℕ) (f : Field) → slice_get all i ≡ Some f
          → field_fits (object_fits k (image_of program)) bytes (image_field (offset i) f.form) ≡ true
      one i f at =
          let here : IsField program f = all_at (IsField program) all i f at known in
          let stands = first_bytes_stand program is.typed depth behind all offset known same at_offset i f at in
          fits_back (object_fits k (image_of program)) first stands.0 bytes (offset i) f.form f.initial here.initial
          (is_fit f stands.0 (offset i) f.form here.form (same i f at)) stands.1

  -- where no level holds any bytes, there are no fields
  none_fit : (k class : ℕ) (behind : List ℕ) → IsFull 0 class
      → object_fits (suc k) (image_of program) class behind ≡ true
  none_fit k class behind full =
      ap (list_all (field_fits (object_fits k (image_of program)) behind)) (made_fields program is.typed class)
      ∙ numbered_pass (λ (i : ℕ) (f : Field). image_field (offset_of program class i) f.form)
      (field_fits (object_fits k (image_of program)) behind) (fields program class)
      (λ i f at.
      let inside = is.laid.within class i f at in
      let wide : 0 < field_width program f =
      all_at (λ (x : Field). 0 < field_width program x) (fields program class) i f at (is.laid.wide class) in
      let none : 0 ≡ data_size program class = full in
      absurd (omega (arith, inside, wide, none)))

  -- The levels of the rule and those that are written go down together. Where the rule's end first, nothing is asked;
  -- where the others do, no bytes are there.
  objects_fit : (k depth : ℕ) → depth ≤ levels → AreFit k depth
  objects_fit zero depth h class behind full = refl
  objects_fit (suc k) zero h class behind full = none_fit k class behind full
  objects_fit (suc k) (suc depth) h class behind full =
      let bytes : List ℕ = object_bytes program (suc depth) class ++ behind in
      let less : depth ≤ levels = omega (arith, h) in
      let grows : (t : ℕ) → data_within program depth t ≤ data_size program t =
      λ t. levels_grow program (levels - depth) depth levels t (omega (arith, less)) in
      ap (list_all (field_fits (object_fits k (image_of program)) bytes)) (made_fields program is.typed class)
      ∙ fields_fit k depth (objects_fit k depth less) behind (fields program class) (offset_of program class)
      (of_fields (IsField program) program is.typed.fields class)
      (each_same (data_within program depth) (data_size program) grows (fields program class) (full ∙ is.sums class))
      (λ i. refl)

  -- ---- the first bytes

  pub class_fits : (class : ℕ) → bytes_fit (image_of program) (class_fields program class)
      (first_bytes program class) ≡ true
  class_fits class =
      ap (λ (xs : List ImageField). bytes_fit (image_of program) xs (first_bytes program class))
      (sym (made_fields program is.typed class))
      ∙ ap (λ (bytes : List ℕ). object_fits (suc (length (image_of program).classes)) (image_of program) class bytes)
      (sym (append-nil (first_bytes program class)))
      ∙ objects_fit (suc (length (image_of program).classes)) levels (omega arith) class [] refl

  pub statics_fit : bytes_fit (image_of program) (fields_placed (static_offset_of program) program.statics)
      (static_bytes program) ≡ true
  statics_fit =
      ap (λ (bytes : List ℕ). bytes_fit (image_of program)
      (fields_placed (static_offset_of program) program.statics) bytes) (sym (append-nil (static_bytes program)))
      ∙ fields_fit (length (image_of program).classes) levels
      (objects_fit (length (image_of program).classes) levels (omega arith)) [] program.statics
      (static_offset_of program)
      is.typed.statics (λ i f at. refl) (λ i. refl)
