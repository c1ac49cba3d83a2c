-- What is stored where a primitive, a Str or a Buf stands.
use Rattle.std.proofs.Common.{◌≡◌, ◌<◌, ◌≤◌, ◌+◌, ◌-◌, ◌*◌, ◌^◌, ℕ, zero, suc, true, false, Bool, List, [], ◌∷◌, ◌++◌, length, take, drop, replicate, Option, Some, None, Result, Ok, Err, refl, sym, ap, subst, ◌∙◌, append_assoc, arith}
use Rattle.std.specs.Prelude.{IfSome, IsSomeAnd, slice_index, slice_set}
use Rattle.std.specs.Int.{bytes_high_first}
use Rattle.std.specs.Option.{option_and_then}
use Rattle.std.proofs.lemmas.List.{length-append, length-replicate, length-take, length-take-le, set_split, take_at, drop_at}
use Rattle.std.proofs.Math.Nat.{min-le_left}
use Rattle.byteorder.specs.Numbers.{length-bytes_high_first}
use Rattle.sed_value.specs.declared.slot_type.Primitive.{Primitive}
use Rattle.sed_value.specs.declared.value.Value.{Value}
use Rattle.sed_value.specs.declared.value.Value.TheVariants as kept
use Rattle.sed_value.specs.SlotType.{width_of}
use Rattle.sed_typed.specs.declared.program.FieldForm.{FieldForm}
use Rattle.sed_typed.specs.declared.program.FieldForm.TheVariants as form
use Rattle.sed_typed.specs.Contents.{Path, value_at}
use Rattle.sed_wire.specs.Number.{number_of}
use Rattle.sed_engine.specs.Stops.{Stop, and_then, there}
use Rattle.sed_engine.specs.Texts.{filled}
use Rattle.sed_engine.specs.Values.{Base, Val, read_as}
use Rattle.scode_image.specs.declared.image.Image.{Image}
use Rattle.scode_code.specs.Contents.{buf_at, primitive_at, primitive_from}
use Rattle.scode_mem.specs.declared.block.Block.{Block}
use Rattle.scode_mem.specs.Blocks.{HasBytes, Held, bytes_at, bytes_of, put_at, with_bytes, with_number}
use Rattle.scode_mem.proofs.Bytes.{length_range, range_over, range_put, range_within}
use Rattle.scode_whole.proofs.Truths.{no_truth, same_value}
use Rattle.scode_state.specs.Cells.{read_at}
use Rattle.scode_state.specs.Stands.{HasBuf, IsStored, StandsAt, contents_in}
use Rattle.scode_state.proofs.Spelled.{spelled}
use Rattle.scode_state.proofs.Stored.{fits, if_both, if_some, lies, reads, stored, told}

abbrev is_buf : FieldForm → Bool
is_buf (form.Buf n) = true
is_buf (form.Prim p) = false
is_buf (form.Str n) = false
is_buf (form.Array p n) = false
is_buf (form.Object t) = false

-- how many bytes a Buf has room for
abbrev room_of : FieldForm → ℕ
room_of (form.Buf n) = n
room_of (form.Prim p) = 0
room_of (form.Str n) = 0
room_of (form.Array p n) = 0
room_of (form.Object t) = 0

abbrev bytes_in : Value → Option (List ℕ)
bytes_in (kept.Buf bytes) = Some bytes
bytes_in v = None

take_all : (xs : List ℕ) → take (length xs) xs ≡ xs
take_all [] = refl
take_all (x ∷ xs) = ap (λ (ys : List ℕ). x ∷ ys) (take_all xs)

nth_byte : (bytes : List ℕ) (i : ℕ) → i < length bytes → number_of (bytes_at bytes i 1) ≡ slice_index bytes i
nth_byte [] i within = absurd (omega (arith, within))
nth_byte (y ∷ ys) zero within = let same : y * 1 + 0 ≡ y = omega arith in same
nth_byte (y ∷ ys) (suc i) within = nth_byte ys i (omega (arith, within))

one_put : (xs : List ℕ) (i x : ℕ) → i < length xs → put_at xs i (x ∷ []) ≡ slice_set xs i x
one_put xs i x within =
    append_assoc (take i xs) (x ∷ []) (drop (i + 1) xs)
    ∙ ap (λ (k : ℕ). take i xs ++ x ∷ drop k xs) (let e : i + 1 ≡ suc i = omega arith in e)
    ∙ sym (set_split xs i x within)

module _ (image : Image) (class : ℕ) (base : Base) (path : Path) (h : Held) (b : Block) (o : ℕ) where
  -- ---- a primitive

  module _ (p : Primitive) (at : StandsAt image class base path h b o (form.Prim p)) where
    pub prim_read : (v : Value) → IfSome (bytes_of h b) (λ bytes. v ≡ primitive_at p bytes o)
        → value_at (contents_in image class base h b) path ≡ Some v
    prim_read v is =
        let f = fits image class base path h b o (form.Prim p) at in
        reads image class base path h b o (form.Prim p) at
        ∙ ap Some (sym (told (λ bytes. v ≡ primitive_at p bytes o) (bytes_of h b) f.bytes f.are is))

    pub cell_read : (r : Result Val Stop) → IfSome (bytes_of h b) (λ bytes. r ≡ read_as (primitive_at p bytes o))
        → read_at (contents_in image class base h b) path ≡ r
    cell_read r is =
        let f = fits image class base path h b o (form.Prim p) at in
        ap (λ (x : Option Value). and_then (there x) read_as) (reads image class base path h b o (form.Prim p) at)
        ∙ sym (told (λ bytes. r ≡ read_as (primitive_at p bytes o)) (bytes_of h b) f.bytes f.are is)

    pub prim_stored : (number : ℕ) (v : Value) → primitive_from p (bytes_high_first (width_of p) number) ≡ v
        → IsStored image class base path h (with_number h b o (width_of p) number) b v
    prim_stored number v is =
        let f = fits image class base path h b o (form.Prim p) at in
        let room : o + width_of p ≤ length f.bytes = lies image class base path h b o (form.Prim p) at in
        let new : List ℕ = bytes_high_first (width_of p) number in
        let wide : length new ≡ width_of p = length-bytes_high_first (width_of p) number in
        let put : bytes_at (put_at f.bytes o new) o (width_of p) ≡ new =
        ap (λ (n : ℕ). bytes_at (put_at f.bytes o new) o n) (sym wide)
        ∙ range_put f.bytes o new (omega (arith, room, wide)) in
        stored image class base path h b o (form.Prim p) at new o v (omega arith) (omega (arith, wide))
        (ap (λ (bytes : List ℕ). Some (primitive_from p bytes)) put ∙ ap Some is) (λ n e. no_truth (ap is_buf e))

  -- ---- a Str

  module _ (n : ℕ) (at : StandsAt image class base path h b o (form.Str n)) where
    pub str_read : (bytes : List ℕ) → IfSome (bytes_of h b) (λ all. bytes ≡ bytes_at all o n)
        → value_at (contents_in image class base h b) path ≡ Some (kept.Buf bytes)
    str_read bytes is =
        let f = fits image class base path h b o (form.Str n) at in
        reads image class base path h b o (form.Str n) at
        ∙ ap (λ (x : List ℕ). Some (kept.Buf x))
        (sym (told (λ all. bytes ≡ bytes_at all o n) (bytes_of h b) f.bytes f.are is))

    pub str_stored : (new : List ℕ) → length new ≡ n
        → IsStored image class base path h (with_bytes h b o new) b (kept.Buf new)
    str_stored new wide =
        let f = fits image class base path h b o (form.Str n) at in
        let room : o + n ≤ length f.bytes = lies image class base path h b o (form.Str n) at in
        let put : bytes_at (put_at f.bytes o new) o n ≡ new =
        ap (λ (m : ℕ). bytes_at (put_at f.bytes o new) o m) (sym wide)
        ∙ range_put f.bytes o new (omega (arith, room, wide)) in
        stored image class base path h b o (form.Str n) at new o (kept.Buf new) (omega arith) (omega (arith, wide))
        (ap (λ (bytes : List ℕ). Some (kept.Buf bytes)) put) (λ n e. no_truth (ap is_buf e))

    pub byte_stored : (i x : ℕ) (bytes : List ℕ) → i < n → bytes_of h b ≡ Some bytes
        → IsStored image class base path h (with_bytes h b (o + i) (x ∷ [])) b
        (kept.Buf (slice_set (bytes_at bytes o n) i x))
    byte_stored i x bytes within are =
        let f = fits image class base path h b o (form.Str n) at in
        let room : o + n ≤ length f.bytes = lies image class base path h b o (form.Str n) at in
        let same : f.bytes ≡ bytes = same_value f.bytes bytes (sym f.are ∙ are) in
        let one : put_at (bytes_at f.bytes o n) i (x ∷ []) ≡ slice_set (bytes_at f.bytes o n) i x =
        one_put (bytes_at f.bytes o n) i x (omega (arith, within, length_range f.bytes o n room)) in
        stored image class base path h b o (form.Str n) at (x ∷ []) (o + i)
        (kept.Buf (slice_set (bytes_at bytes o n) i x)) (omega arith) (omega (arith, within))
        (ap (λ (all : List ℕ). Some (kept.Buf all))
        (range_over f.bytes o n i (x ∷ []) (omega (arith, within)) room ∙ one
        ∙ ap (λ (all : List ℕ). slice_set (bytes_at all o n) i x) same))
        (λ n e. no_truth (ap is_buf e))

  -- ---- a Buf

  module _ (n : ℕ) (at : StandsAt image class base path h b o (form.Buf n)) where
    pub buf_read : (bytes : List ℕ) → IfSome (bytes_of h b) (λ all. kept.Buf bytes ≡ buf_at all o)
        → value_at (contents_in image class base h b) path ≡ Some (kept.Buf bytes)
    buf_read bytes is =
        let f = fits image class base path h b o (form.Buf n) at in
        reads image class base path h b o (form.Buf n) at
        ∙ ap Some (sym (told (λ all. kept.Buf bytes ≡ buf_at all o) (bytes_of h b) f.bytes f.are is))

    -- what stands there is as many bytes as its length says
    pub buf_is : (bytes : List ℕ) → value_at (contents_in image class base h b) path ≡ Some (kept.Buf bytes)
        → IfSome (bytes_of h b) (λ all. bytes ≡ bytes_at all (o + 2) (number_of (bytes_at all o 2)))
    buf_is bytes is =
        let f = fits image class base path h b o (form.Buf n) at in
        let same : bytes ≡ bytes_at f.bytes (o + 2) (number_of (bytes_at f.bytes o 2)) =
        same_value bytes (bytes_at f.bytes (o + 2) (number_of (bytes_at f.bytes o 2)))
        (ap (λ (x : Option Value). option_and_then bytes_in x)
        (sym is ∙ reads image class base path h b o (form.Buf n) at)) in
        subst (λ (x : Option (List ℕ)). IfSome x (λ all. bytes ≡ bytes_at all (o + 2) (number_of (bytes_at all o 2))))
        (sym f.are) same

    module _ (bytes : List ℕ) (is : value_at (contents_in image class base h b) path ≡ Some (kept.Buf bytes)) where
      abbrev size : ℕ
      size = number_of (bytes_at (fits image class base path h b o (form.Buf n) at).bytes o 2)

      same : bytes ≡ bytes_at (fits image class base path h b o (form.Buf n) at).bytes (o + 2) size
      same =
          told (λ all. bytes ≡ bytes_at all (o + 2) (number_of (bytes_at all o 2))) (bytes_of h b)
          (fits image class base path h b o (form.Buf n) at).bytes (fits image class base path h b o (form.Buf n) at).are
          (buf_is bytes is)

      size_is : size ≡ length bytes
      size_is =
          let f = fits image class base path h b o (form.Buf n) at in
          let few : number_of (bytes_at f.bytes o 2) ≤ n = f.fit path o n at.part in
          let room : o + (n + 2) ≤ length f.bytes = lies image class base path h b o (form.Buf n) at in
          sym (ap length same
          ∙ length_range f.bytes (o + 2) (number_of (bytes_at f.bytes o 2)) (omega (arith, few, room)))

      pub buf_long : (x : ℕ) → IfSome (bytes_of h b) (λ all. x ≡ number_of (bytes_at all o 2)) → x ≡ length bytes
      buf_long x e =
          let f = fits image class base path h b o (form.Buf n) at in
          told (λ all. x ≡ number_of (bytes_at all o 2)) (bytes_of h b) f.bytes f.are e ∙ size_is

      pub buf_item : (i x : ℕ) → i < length bytes
          → IfSome (bytes_of h b) (λ all. x ≡ number_of (bytes_at all (o + 2 + i) 1)) → x ≡ slice_index bytes i
      buf_item i x within e =
          let f = fits image class base path h b o (form.Buf n) at in
          let long = size_is in
          told (λ all. x ≡ number_of (bytes_at all (o + 2 + i) 1)) (bytes_of h b) f.bytes f.are e
          ∙ ap number_of (sym (range_within f.bytes (o + 2) size i 1 (omega (arith, within, long))))
          ∙ ap (λ (all : List ℕ). number_of (bytes_at all i 1)) (sym same)
          ∙ nth_byte bytes i within

    pub buf_stored : (given : List ℕ) → length given ≤ n → length given < 256 ^ 2
        → IsStored image class base path h (with_bytes h b o (bytes_high_first 2 (length given) ++ given)) b
        (kept.Buf given)
    buf_stored given few below =
        let f = fits image class base path h b o (form.Buf n) at in
        let room : o + (n + 2) ≤ length f.bytes = lies image class base path h b o (form.Buf n) at in
        let size : List ℕ = bytes_high_first 2 (length given) in
        let new : List ℕ = size ++ given in
        let two : length size ≡ 2 = length-bytes_high_first 2 (length given) in
        let wide : length new ≡ 2 + length given = length-append size given ∙ ap (λ (k : ℕ). k + length given) two in
        let put : bytes_at (put_at f.bytes o new) o (length new) ≡ new =
        range_put f.bytes o new (omega (arith, room, wide, few)) in
        let front : bytes_at (put_at f.bytes o new) o 2 ≡ size =
        ap (λ (k : ℕ). bytes_at (put_at f.bytes o new) k 2) (let none : o ≡ o + 0 = omega arith in none)
        ∙ sym (range_within (put_at f.bytes o new) o (length new) 0 2 (omega (arith, wide)))
        ∙ ap (take 2) put ∙ take_at size given 2 two in
        let back : bytes_at (put_at f.bytes o new) (o + 2) (length given) ≡ given =
        sym (range_within (put_at f.bytes o new) o (length new) 2 (length given) (omega (arith, wide)))
        ∙ ap (λ (all : List ℕ). take (length given) (drop 2 all)) put
        ∙ ap (take (length given)) (drop_at size given 2 two) ∙ take_all given in
        let many : number_of (bytes_at (put_at f.bytes o new) o 2) ≡ length given =
        ap number_of front ∙ spelled 2 (length given) below in
        stored image class base path h b o (form.Buf n) at new o (kept.Buf given) (omega arith)
        (omega (arith, wide, few))
        (ap (λ (k : ℕ). Some (kept.Buf (bytes_at (put_at f.bytes o new) (o + 2) k))) many
        ∙ ap (λ (all : List ℕ). Some (kept.Buf all)) back)
        (λ m e. let same : n ≡ m = ap room_of e in omega (arith, many, few, same))

-- a Str that is filled has its size
pub filled_long : (size : ℕ) (text : List ℕ) → 1 ≤ size → length (filled size text) ≡ size
filled_long size text some =
    let short : length (take (size - 1) text) ≤ size - 1 =
    subst (λ (n : ℕ). n ≤ size - 1) (sym (length-take (size - 1) text)) (min-le_left (size - 1) (length text)) in
    length-append (take (size - 1) text) (replicate (size - length (take (size - 1) text)) 0)
    ∙ ap (λ (n : ℕ). length (take (size - 1) text) + n)
    (length-replicate (size - length (take (size - 1) text)) 0)
    ∙ omega (arith, some, short)

-- ---- slices that runs are read into

pub slice_is : (o : Option (List ℕ)) (result into : List ℕ) (at n size : ℕ) → result ≡ into
    → IfSome o (λ bytes. into ≡ bytes_at bytes at n) → n ≡ size → IfSome o (λ bytes. result ≡ bytes_at bytes at size)
slice_is o result into at n size same are long =
    if_some o (λ bytes. into ≡ bytes_at bytes at n) (λ bytes. result ≡ bytes_at bytes at size)
    (λ bytes e. same ∙ e ∙ ap (bytes_at bytes at) long) are

pub buf_slice : (o : Option (List ℕ)) (result into : List ℕ) (at n count : ℕ) → result ≡ into
    → IfSome o (λ bytes. into ≡ bytes_at bytes (at + 2) n) → n ≡ count
    → IfSome o (λ bytes. count ≡ number_of (bytes_at bytes at 2))
    → IfSome o (λ bytes. kept.Buf result ≡ buf_at bytes at)
buf_slice o result into at n count same are long is =
    if_both o (λ bytes. into ≡ bytes_at bytes (at + 2) n) (λ bytes. count ≡ number_of (bytes_at bytes at 2))
    (λ bytes. kept.Buf result ≡ buf_at bytes at)
    (λ bytes e k. ap kept.Buf (same ∙ e ∙ ap (bytes_at bytes (at + 2)) (long ∙ k))) are is

-- the first so many of a row of zeros
pub zeros_long : (most n : ℕ) → n ≤ most → length {A = ℕ} (take n (replicate most 0)) ≡ n
zeros_long most n few =
    length-take-le n (replicate most 0) (subst (λ (k : ℕ). n ≤ k) (sym (length-replicate most 0)) few)

-- how many bytes a Buf has
pub buf_few : (h : Held) (b : Block) (at most count : ℕ) → HasBuf h b at most
    → IfSome (bytes_of h b) (λ bytes. count ≡ number_of (bytes_at bytes at 2))
    → (count ≤ most) × HasBytes h b (at + 2) count
buf_few h b at most count has is =
    let same : count ≡ number_of (bytes_at has.bytes at 2) =
    told (λ bytes. count ≡ number_of (bytes_at bytes at 2)) (bytes_of h b) has.bytes has.are is in
    let few = has.few in
    let there = has.there in (
      omega (arith, same, few),
      subst (λ (o : Option (List ℕ)). IsSomeAnd o (λ bytes. at + 2 + count ≤ length bytes)) (sym has.are)
          (omega (arith, same, there)),
    )
