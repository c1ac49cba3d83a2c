-- The first bytes of a field are read as what the field begins with, whatever stands behind them.
use Rattle.std.proofs.Common.{◌≡◌, ℕ, zero, suc, ◌+◌, ◌*◌, ◌-◌, ◌^◌, ◌<◌, ◌≤◌, List, [], ◌∷◌, ◌++◌, length, map, replicate, take, drop, refl, ap, sym, ◌∙◌, arith, append_assoc}
use Rattle.std.specs.Prelude.{IsTrue}
use Rattle.std.specs.Int.{bytes_high_first, cast_signed, w32, w64}
use Rattle.std.specs.List.{range_with_len}
use Rattle.std.proofs.Math.Nat.{mul-le-mul_right}
use Rattle.std.proofs.Math.Seq.{drop-append_seam, take-append_seam}
use Rattle.std.proofs.lemmas.Bool.{leb-true, ltb-true}
use Rattle.std.proofs.lemmas.Int.{to_z-of_z}
use Rattle.std.proofs.lemmas.List.{drop-append-le, drop-drop, drop-replicate, length-replicate, take-append-le, take-replicate}
use Rattle.sed_value.specs.declared.slot_type.Primitive.{Primitive}
use Rattle.sed_value.specs.declared.slot_type.Primitive.TheVariants as prim
use Rattle.sed_value.specs.declared.value.Value.{Value}
use Rattle.sed_value.specs.declared.value.Value.TheVariants as kept
use Rattle.sed_value.specs.SlotType.{width_of}
use Rattle.sed_wire.specs.Number.{number_of}
use Rattle.sed_wire.proofs.NumberLemmas.{written_spells, written_spells_signed}
use Rattle.sed_typed.specs.declared.program.FieldForm.{FieldForm}
use Rattle.sed_typed.specs.declared.program.FieldForm.TheVariants as form
use Rattle.sed_typed.specs.Contents.{Contents, Path}
use Rattle.sed_typed.specs.Initial.{begun, zero_value}
use Rattle.sed_typed.specs.TypedSchema.{is_initial}
use Rattle.sed_engine.proofs.Ranges.{fits_of}
use Rattle.scode_code.specs.Contents.{buf_at, bytes_at, field_held, primitive_at, primitive_from}
use Rattle.scode_gen.specs.FirstBytes.{buf_bytes, field_bytes, number_in}
use Rattle.scode_made.proofs.FirstBytes.{contents_fit, high_first}

-- ---- lists

-- the front of so many
pub front_of : (n : ℕ) (xs ys : List ℕ) → length xs ≡ n → take n (xs ++ ys) ≡ xs
front_of n xs ys long = ap (λ (k : ℕ). take k (xs ++ ys)) (sym long) ∙ take-append_seam xs ys

-- what is behind it
behind_of : (n : ℕ) (xs ys : List ℕ) → length xs ≡ n → drop n (xs ++ ys) ≡ ys
behind_of n xs ys long = ap (λ (k : ℕ). drop k (xs ++ ys)) (sym long) ∙ drop-append_seam xs ys

-- ---- primitives

pub number_back : (n number : ℕ) → number < 256 ^ n → number_of (bytes_high_first n number) ≡ number
number_back n number h = (written_spells n number h).is_number

primitive_back : (p : Primitive) (v : Value) → IsTrue (is_initial (form.Prim p) v) → primitive_from p (bytes_high_first (width_of p) (number_in v)) ≡ v
primitive_back prim.Bool (kept.Bool truth) h =
    let few : truth ≤ 2 = leb-true truth 2 h in ap kept.Bool (number_back 1 truth (omega (arith, few)))
primitive_back prim.Byte (kept.Byte number) h =
    let few : number < 256 = ltb-true number 256 h in ap kept.Byte (number_back 1 number (omega (arith, few)))
primitive_back prim.Short (kept.Short number) h =
    let few : number < 65536 = ltb-true number 65536 h in ap kept.Short (number_back 2 number (omega (arith, few)))
primitive_back prim.Int (kept.Int number) h =
    let fits = fits_of w32 number h in
    ap (λ (n : ℕ). kept.Int (cast_signed w32 n)) (written_spells_signed w32 number fits).complement.is_number ∙ ap kept.Int (to_z-of_z w32 number fits)
primitive_back prim.Long (kept.Long number) h =
    let fits = fits_of w64 number h in
    ap (λ (n : ℕ). kept.Long (cast_signed w64 n)) (written_spells_signed w64 number fits).complement.is_number ∙ ap kept.Long (to_z-of_z w64 number fits)
primitive_back p v h = let never : ⊥ = cc in absurd never

zero_back : (p : Primitive) → primitive_from p (replicate (width_of p) 0) ≡ zero_value p
zero_back prim.Bool = refl
zero_back prim.Byte = refl
zero_back prim.Short = refl
zero_back prim.Int = refl
zero_back prim.Long = refl

-- ---- arrays

-- an element of zeros
element_back : (p : Primitive) (n i : ℕ) (behind : List ℕ) → i < n →
    primitive_from p (take (width_of p) (drop (i * width_of p) (replicate (n * width_of p) 0 ++ behind))) ≡ zero_value p
element_back p n i behind h =
    let w : ℕ = width_of p in
    let within : i * w + w ≤ n * w = (let more : suc i * w ≤ n * w = mul-le-mul_right w (let less : suc i ≤ n = omega (arith, h) in less) in let one : suc i * w ≡ w + i * w = grind arith in omega (arith, more, one)) in
    let long : length (replicate {A = ℕ} (n * w) 0) ≡ n * w = length-replicate {A = ℕ} (n * w) 0 in
    ap (λ (xs : List ℕ). primitive_from p (take w xs)) (drop-append-le (i * w) (replicate (n * w) 0) behind (omega (arith, within, long)))
    ∙ ap (λ (xs : List ℕ). primitive_from p (take w (xs ++ behind))) (drop-replicate (i * w) (n * w) 0)
    ∙ ap (primitive_from p) (take-append-le w (replicate (n * w - i * w) 0) behind (let as_many : length (replicate {A = ℕ} (n * w - i * w) 0) ≡ n * w - i * w = length-replicate {A = ℕ} (n * w - i * w) 0 in omega (arith, within, as_many)))
    ∙ ap (primitive_from p) (take-replicate w (n * w - i * w) 0 (omega (arith, within)))
    ∙ zero_back p

alike_on : {X : Type 0} (f g : ℕ → X) (a n : ℕ) → ((i : ℕ) → i < a + n → f i ≡ g i) → map f (range_with_len a n) ≡ map g (range_with_len a n)
alike_on f g a zero h = refl
alike_on {X} f g a (suc n) h =
    ap (λ (x : X). x ∷ map f (range_with_len (a + 1) n)) (h a (omega arith))
    ∙ ap (λ (xs : List X). g a ∷ xs) (alike_on f g (a + 1) n (λ i lt. h i (omega (arith, lt))))

-- ---- buffers

buf_back : (n : ℕ) (held behind bytes : List ℕ) (offset : ℕ) → length held < 65536 → drop offset bytes ≡ buf_bytes n held ++ behind → buf_at bytes offset ≡ kept.Buf held
buf_back n held behind bytes offset few at =
    ap (λ (k : ℕ). kept.Buf (bytes_at bytes (offset + 2) k)) long ∙ ap kept.Buf (ap (take (length held)) further ∙ take-append_seam held rest)
  where
    count : List ℕ
    count = bytes_high_first 2 (length held)

    rest : List ℕ
    rest = replicate (n - length held) 0 ++ behind

    all : drop offset bytes ≡ count ++ (held ++ rest)
    all = at ∙ append_assoc (count ++ held) (replicate (n - length held) 0) behind ∙ append_assoc count held rest

    long : number_of (bytes_at bytes offset 2) ≡ length held
    long =
        ap (λ (xs : List ℕ). number_of (take 2 xs)) all
        ∙ ap number_of (front_of 2 count (held ++ rest) (high_first 2 (length held)))
        ∙ number_back 2 (length held) (omega (arith, few))

    further : drop (offset + 2) bytes ≡ held ++ rest
    further = sym (drop-drop 2 offset bytes) ∙ ap (drop 2) all ∙ behind_of 2 count (held ++ rest) (high_first 2 (length held))

-- ---- fields

module _ (held : ℕ → Path → List ℕ → Contents) (first : ℕ → List ℕ) (begin : ℕ → Path → Contents) (path : Path) (behind bytes : List ℕ) (offset : ℕ) where
  -- of an object it is known what the bytes of its class are read as, and of a Buf that its length fits two bytes
  abbrev pub IsRead : FieldForm → Type 0
  IsRead (form.Buf n) = n < 65536
  IsRead (form.Object class) = held class.0 path (first class.0 ++ behind) ≡ begin class.0 path
  IsRead f = Unit {0}

  pub field_back : (f : FieldForm) (v : Value) → IsTrue (is_initial f v) → IsRead f → drop offset bytes ≡ field_bytes first f v ++ behind →
      field_held held path f bytes offset ≡ begun begin path f v
  field_back (form.Prim p) v h object at =
      let w : ℕ = width_of p in
      ap (λ (x : Value). (path, x) ∷ [])
      (ap (λ (xs : List ℕ). primitive_from p (take w xs)) at
      ∙ ap (primitive_from p) (front_of w (bytes_high_first w (number_in v)) behind (high_first w (number_in v)))
      ∙ primitive_back p v h)
  field_back (form.Str n) v h object at =
      ap (λ (xs : List ℕ). (path, kept.Buf xs) ∷ []) (ap (take n) at ∙ front_of n (replicate n 0) behind (length-replicate {A = ℕ} n 0))
  field_back (form.Buf n) (kept.Buf bytes_held) h small at =
      let few : length bytes_held ≤ n = contents_fit n (kept.Buf bytes_held) h in
      let less : n < 65536 = small in
      ap (λ (x : Value). (path, x) ∷ []) (buf_back n bytes_held behind bytes offset (omega (arith, few, less)) at)
  field_back (form.Buf n) v h small at = let never : ⊥ = cc in absurd never
  field_back (form.Array p n) v h object at =
      let w : ℕ = width_of p in
      alike_on (λ i. (path ++ i ∷ [], primitive_at p bytes (offset + i * w))) (λ i. (path ++ i ∷ [], zero_value p)) 0 n
      (λ i lt. ap (λ (x : Value). (path ++ i ∷ [], x))
      (ap (λ (xs : List ℕ). primitive_from p (take w xs)) (sym (drop-drop (i * w) offset bytes) ∙ ap (drop (i * w)) at)
      ∙ element_back p n i behind (omega (arith, lt))))
  field_back (form.Object class) v h object at = ap (held class.0 path) at ∙ object
