-- Bytes of a block that are written, or read, one after the other.
use Rattle.std.proofs.Common.{◌≡◌, ◌<◌, ◌≤◌, ◌+◌, ◌*◌, ◌%◌, ◌^◌, inl, inr, ℕ, zero, suc, List, [], ◌∷◌, ◌++◌, length, take, drop, Option, Some, None, refl, sym, ap, subst, ◌∙◌, append_assoc, append-nil, arith}
use Rattle.std.specs.Prelude.{IfSome, IsSomeAnd, get_or, slice_set}
use Rattle.std.specs.FinMap as finite
use Rattle.std.specs.FinMap.{FinMap}
use Rattle.std.specs.Int.{bytes_high_first}
use Rattle.std.specs.Option.{option_map, option_map_or}
use Rattle.std.specs.Ordering.{nat_cmp}
use Rattle.std.proofs.lemmas.Bool.{cases_eq}
use Rattle.std.proofs.lemmas.List.{drop-drop, drop_at, length-append, length-take-le, take-append-drop, take_at, take_more_set}
use Rattle.std.proofs.Math.Seq.{take-add, take-suc}
use Rattle.byteorder.specs.Numbers.{length-bytes_high_first}
use Rattle.sed_wire.specs.Number.{number_of}
use Rattle.scode_mem.specs.declared.block.Block.{Block}
use Rattle.scode_mem.specs.declared.block.Block.TheVariants as block
use Rattle.scode_mem.specs.Blocks.{Blocks, HasBytes, Held, Kept, bytes_at, bytes_of, put_at, with_bytes}
use Rattle.scode_mem.proofs.BlockLaws.{written_block}
use Rattle.scode_mem.proofs.Bytes.{length-put_at, length_range}
use Rattle.sed_value.proofs.Maps.{get_beside, get_put, put_same}
use Rattle.scode_mem.proofs.Maps.{same}
use Rattle.scode_state.proofs.Spelled.{spelled}

-- ---- lists

put_none : (xs : List ℕ) (at : ℕ) → put_at xs at [] ≡ xs
put_none xs at =
    ap (λ (front : List ℕ). front ++ drop (at + 0) xs) (append-nil (take at xs))
    ∙ ap (λ (n : ℕ). take at xs ++ drop n xs) (let none : at + 0 ≡ at = omega arith in none)
    ∙ take-append-drop at xs

module _ (xs : List ℕ) (at : ℕ) (a b : List ℕ) (room : at + (length a + length b) ≤ length xs) where
  front_length : length (take at xs ++ a) ≡ at + length a
  front_length =
      length-append (take at xs) a ∙ ap (λ n. n + length a) (length-take-le at xs (omega (arith, room)))

  put_more : put_at (put_at xs at a) (at + length a) b ≡ put_at xs at (a ++ b)
  put_more =
      ap (λ (front : List ℕ). (front ++ b) ++ drop (at + length a + length b) (put_at xs at a))
      (take_at (take at xs ++ a) (drop (at + length a) xs) (at + length a) front_length)
      ∙ ap (λ (behind : List ℕ). ((take at xs ++ a) ++ b) ++ behind)
      (sym (drop-drop (length b) (at + length a) (put_at xs at a))
      ∙ ap (drop (length b)) (drop_at (take at xs ++ a) (drop (at + length a) xs) (at + length a) front_length)
      ∙ drop-drop (length b) (at + length a) xs)
      ∙ ap (λ (front : List ℕ). front ++ drop (at + length a + length b) xs) (append_assoc (take at xs) a b)
      ∙ ap (λ (n : ℕ). (take at xs ++ (a ++ b)) ++ drop n xs)
      (let many = length-append a b in let sum : at + length a + length b ≡ at + length (a ++ b) = omega (arith, many) in sum)

-- ---- blocks

insert_over : (m : Blocks) (k : ℕ) (x y : Kept) → finite.insert (finite.insert m k x) k y ≡ finite.insert m k y
insert_over m k x y = same (finite.insert (finite.insert m k x) k y) (finite.insert m k y) (λ q. elim (cases_eq q k) [
  | inl is ↦
      ap (finite.get (finite.insert (finite.insert m k x) k y)) is ∙ get_put (finite.insert m k x) k y
      ∙ sym (get_put m k y) ∙ ap (finite.get (finite.insert m k y)) (sym is)
  | inr ne ↦ get_beside (finite.insert m k x) k y q ne ∙ get_beside m k x q ne ∙ sym (get_beside m k y q ne)
])

pub with_none : (h : Held) (b : Block) (at : ℕ) → with_bytes h b at [] ≡ h
with_none h block.Statics at = ap (λ (bytes : List ℕ). record h { statics = bytes }) (put_none h.statics at)
with_none h (block.Live p) at = go (finite.get h.live p.0) refl
  where
    go : (o : Option Kept) → finite.get h.live p.0 ≡ o
        → option_map_or (λ k. record h { live = finite.insert h.live p.0 (record k { bytes = put_at k.bytes at [] }) }) o h
        ≡ h
    go None is = refl
    go (Some k) is =
        ap (λ (bytes : List ℕ). record h { live = finite.insert h.live p.0 (record k { bytes = bytes }) })
        (put_none k.bytes at)
        ∙ ap (λ (m : Blocks). record h { live = m }) (put_same h.live p.0 k is)

abbrev put_live : ℕ → List ℕ → ℕ → Held → Kept → Held
put_live p new to all k = record all { live = finite.insert all.live p (record k { bytes = put_at k.bytes to new }) }

pub with_more : (h : Held) (b : Block) (at : ℕ) (x y : List ℕ) → HasBytes h b at (length x + length y)
    → with_bytes (with_bytes h b at x) b (at + length x) y ≡ with_bytes h b at (x ++ y)
with_more h block.Statics at x y has =
    ap (λ (bytes : List ℕ). record h { statics = bytes }) (put_more h.statics at x y has)
with_more h (block.Live p) at x y has = go (finite.get h.live p.0) has
  where
    go : (o : Option Kept) → IsSomeAnd (option_map (λ k. k.bytes) o) (λ bytes. at + (length x + length y) ≤ length bytes)
        → with_bytes (option_map_or (put_live p.0 x at h) o h) (block.Live p) (at + length x) y
        ≡ option_map_or (put_live p.0 (x ++ y) at h) o h
    go None room = absurd room
    go (Some k) room =
        let k1 : Kept = record k { bytes = put_at k.bytes at x } in
        let h1 : Held = put_live p.0 x at h k in
        ap (λ (o : Option Kept). option_map_or (put_live p.0 y (at + length x) h1) o h1) (get_put h.live p.0 k1)
        ∙ ap (λ (m : Blocks). record h { live = m })
        (insert_over h.live p.0 k1 (record k1 { bytes = put_at k1.bytes (at + length x) y }))
        ∙ ap (λ (bytes : List ℕ). record h { live = finite.insert h.live p.0 (record k { bytes = bytes }) })
        (put_more k.bytes at x y room)

pub has_still : (h : Held) (b : Block) (at from size : ℕ) (x : List ℕ) → HasBytes h b at (length x)
    → HasBytes h b from size → HasBytes (with_bytes h b at x) b from size
has_still h b at from size x has far =
    subst (λ (o : Option (List ℕ)). IsSomeAnd o (λ bytes. from + size ≤ length bytes)) (sym (written_block h b at x))
    (go (bytes_of h b) has far)
  where
    go : (o : Option (List ℕ)) → IsSomeAnd o (λ bytes. at + length x ≤ length bytes)
        → IsSomeAnd o (λ bytes. from + size ≤ length bytes)
        → IsSomeAnd (option_map (λ bytes. put_at bytes at x) o) (λ bytes. from + size ≤ length bytes)
    go None has far = absurd has
    go (Some bytes) has far = let long = length-put_at bytes at x has in omega (arith, far, long)

-- fewer bytes stand there too
pub has_part : (h : Held) (b : Block) (at width from size : ℕ) → HasBytes h b at width → from + size ≤ at + width
    → HasBytes h b from size
has_part h b at width from size has low = go (bytes_of h b) has
  where
    go : (o : Option (List ℕ)) → IsSomeAnd o (λ bytes. at + width ≤ length bytes)
        → IsSomeAnd o (λ bytes. from + size ≤ length bytes)
    go None has = absurd has
    go (Some bytes) has = omega (arith, has, low)

-- ---- one byte more

-- a byte is its number
pub single : (ys : List ℕ) → length ys ≡ 1 → number_of ys ∷ [] ≡ ys
single [] long = absurd (omega (arith, long))
single (y ∷ []) long = ap (λ (n : ℕ). n ∷ []) (let same : y * 1 + 0 ≡ y = omega arith in same)
single (y ∷ z ∷ ys) long = absurd (omega (arith, long))

pub one_byte : (x : ℕ) → x < 256 → bytes_high_first 1 x ≡ x ∷ []
one_byte x below =
    sym (single (bytes_high_first 1 x) (length-bytes_high_first 1 x)) ∙ ap (λ (n : ℕ). n ∷ []) (spelled 1 x below)

range_more : (bytes : List ℕ) (at i : ℕ) → bytes_at bytes at (i + 1) ≡ bytes_at bytes at i ++ bytes_at bytes (at + i) 1
range_more bytes at i =
    take-add i 1 (drop at bytes)
    ∙ ap (λ (rest : List ℕ). bytes_at bytes at i ++ take 1 rest) (drop-drop i at bytes)

pub read_step : (o : Option (List ℕ)) (into : List ℕ) (at i x size : ℕ)
    → IsSomeAnd o (λ bytes. at + size ≤ length bytes) → i < size → i < length into
    → IfSome o (λ bytes. take i into ≡ bytes_at bytes at i)
    → IfSome o (λ bytes. x ≡ number_of (bytes_at bytes (at + i) 1))
    → IfSome o (λ bytes. take (i + 1) (slice_set into i x) ≡ bytes_at bytes at (i + 1))
read_step None into at i x size has less within was is = tt
read_step (Some bytes) into at i x size has less within was is =
    take_more_set into i x within
    ∙ ap (λ (front : List ℕ). front ++ x ∷ []) was
    ∙ ap (λ (n : ℕ). bytes_at bytes at i ++ n ∷ []) is
    ∙ ap (λ (one : List ℕ). bytes_at bytes at i ++ one)
    (single (bytes_at bytes (at + i) 1) (length_range bytes (at + i) 1 (omega (arith, has, less))))
    ∙ sym (range_more bytes at i)

pub write_step : (h : Held) (b : Block) (at i x : ℕ) (bytes : List ℕ) → HasBytes h b at (length bytes) → i < length bytes
    → x < 256 → get_or bytes i 0 ≡ x
    → with_bytes (with_bytes h b at (take i bytes)) b (at + i) (bytes_high_first 1 x)
    ≡ with_bytes h b at (take (i + 1) bytes)
write_step h b at i x bytes has within below is =
    let long : length (take i bytes) ≡ i = length-take-le i bytes (omega (arith, within)) in
    let one : bytes_high_first 1 x ≡ x ∷ [] = one_byte x below in
    let more : take i bytes ++ x ∷ [] ≡ take (i + 1) bytes =
    ap (λ (n : ℕ). take i bytes ++ n ∷ []) (sym is) ∙ sym (take-suc bytes i 0 within)
    ∙ ap (λ (n : ℕ). take n bytes) (let e : suc i ≡ i + 1 = omega arith in e) in
    ap (λ (n : ℕ). with_bytes (with_bytes h b at (take i bytes)) b (at + n) (bytes_high_first 1 x)) (sym long)
    ∙ ap (λ (new : List ℕ). with_bytes (with_bytes h b at (take i bytes)) b (at + length (take i bytes)) new) one
    ∙ with_more h b at (take i bytes) (x ∷ [])
    (has_part h b at (length bytes) at (length (take i bytes) + 1) has (omega (arith, long, within)))
    ∙ ap (with_bytes h b at) more
