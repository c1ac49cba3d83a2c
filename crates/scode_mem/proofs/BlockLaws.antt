-- What a change leaves of a block, and of the others.
use Rattle.std.proofs.Common.{◌≡◌, ◌≢◌, ℕ, ◌+◌, ◌<◌, ◌≤◌, ◌^◌, ◌⊎◌, List, inl, inr, length, refl, sym, ◌∙◌, ap, subst, arith}
use Rattle.std.specs.Prelude.{Option, Some, None, IfSome, IsSomeAnd}
use Rattle.std.specs.FinMap as finite
use Rattle.std.specs.Int.{bytes_high_first}
use Rattle.std.specs.Option.{option_map, option_map_or}
use Rattle.std.proofs.lemmas.Bool.{cases_eq}
use Rattle.byteorder.specs.Numbers.{length-bytes_high_first}
use Rattle.sed_engine.specs.declared.call.Place.{Place}
use Rattle.sed_wire.specs.Number.{number_of}
use Rattle.sed_wire.proofs.NumberLemmas.{written_spells}
use Rattle.scode_mem.specs.declared.block.Block.{Block}
use Rattle.scode_mem.specs.declared.block.Block.TheVariants.{Live, Statics}
use Rattle.scode_mem.specs.Blocks.{HasBytes, Held, Kept, bytes_at, bytes_of, first_bytes, live_bytes, put_at, with_bytes, with_new, with_number, without}
use Rattle.scode_mem.proofs.Bytes.{length-put_at, range_after, range_before, range_put}
use Rattle.sed_value.proofs.Maps.{get_beside, get_put, kept_beside, taken_out, total_over}

apart_places : (p q : Place) → Live p ≢ Live q → p.0 ≢ q.0
apart_places p q ne e = let same : Live p ≡ Live q = (λ i. Live (record { 0 = e i })) in ne same

-- ---- bytes put into a block

pub written_block : (h : Held) (b : Block) (at : ℕ) (new : List ℕ) → bytes_of (with_bytes h b at new) b ≡ option_map (λ bytes. put_at bytes at new) (bytes_of h b)
written_block h Statics at new = refl
written_block h (Live p) at new = go (finite.get h.live p.0) refl
  where
    go : (o : Option Kept) → finite.get h.live p.0 ≡ o → bytes_of (option_map_or (λ k. record h { live = finite.insert h.live p.0 (record k { bytes = put_at k.bytes at new }) }) o h) (Live p)
        ≡ option_map (λ bytes. put_at bytes at new) (option_map (λ k. k.bytes) o)
    go (Some k) is = ap (option_map (λ k. k.bytes)) (get_put h.live p.0 (record k { bytes = put_at k.bytes at new }))
    go None is = ap (option_map (λ k. k.bytes)) is

pub other_block : (h : Held) (b other : Block) (at : ℕ) (new : List ℕ) → other ≢ b → bytes_of (with_bytes h b at new) other ≡ bytes_of h other
other_block h Statics Statics at new ne = absurd (ne refl)
other_block h Statics (Live q) at new ne = refl
other_block h (Live p) other at new ne = go (finite.get h.live p.0) other ne
  where
    go : (o : Option Kept) (other : Block) → other ≢ Live p → bytes_of (option_map_or (λ k. record h { live = finite.insert h.live p.0 (record k { bytes = put_at k.bytes at new }) }) o h) other ≡ bytes_of h other
    go None other ne = refl
    go (Some k) Statics ne = refl
    go (Some k) (Live q) ne = ap (option_map (λ k. k.bytes)) (get_beside h.live p.0 (record k { bytes = put_at k.bytes at new }) q.0 (apart_places q p ne))

pub same_classes : (h : Held) (b : Block) (at : ℕ) (new : List ℕ) (place : ℕ) → option_map (λ k. k.class) (finite.get (with_bytes h b at new).live place) ≡ option_map (λ k. k.class) (finite.get h.live place)
same_classes h Statics at new place = refl
same_classes h (Live p) at new place = go (finite.get h.live p.0) refl
  where
    go : (o : Option Kept) → finite.get h.live p.0 ≡ o → option_map (λ k. k.class) (finite.get (option_map_or (λ k. record h { live = finite.insert h.live p.0 (record k { bytes = put_at k.bytes at new }) }) o h).live place)
        ≡ option_map (λ k. k.class) (finite.get h.live place)
    go None is = refl
    go (Some k) is = elim (cases_eq place p.0) [
      | inl e ↦
          ap (λ q. option_map (λ (k : Kept). k.class) (finite.get (finite.insert h.live p.0 (record k { bytes = put_at k.bytes at new })) q)) e
          ∙ ap (option_map (λ (k : Kept). k.class)) (get_put h.live p.0 (record k { bytes = put_at k.bytes at new }))
          ∙ sym (ap (λ q. option_map (λ (k : Kept). k.class) (finite.get h.live q)) e ∙ ap (option_map (λ (k : Kept). k.class)) is)
      | inr ne ↦ ap (option_map (λ (k : Kept). k.class)) (get_beside h.live p.0 (record k { bytes = put_at k.bytes at new }) place ne)
    ]

pub same_sizes : (h : Held) (b : Block) (at : ℕ) (new : List ℕ) → HasBytes h b at (length new) → live_bytes (with_bytes h b at new).live ≡ live_bytes h.live
same_sizes h Statics at new has = refl
same_sizes h (Live p) at new has = go (finite.get h.live p.0) refl has
  where
    go : (o : Option Kept) → finite.get h.live p.0 ≡ o → IsSomeAnd (option_map (λ k. k.bytes) o) (λ bytes. at + length new ≤ length bytes)
        → live_bytes (option_map_or (λ k. record h { live = finite.insert h.live p.0 (record k { bytes = put_at k.bytes at new }) }) o h).live ≡ live_bytes h.live
    go None is has = absurd has
    go (Some k) is has = total_over (λ (k : Kept). length k.bytes) h.live p.0 k (record k { bytes = put_at k.bytes at new }) is (sym (length-put_at k.bytes at new has))

module _ (h : Held) (b : Block) (at width number : ℕ) (has : HasBytes h b at width) where
  as_many : length (bytes_high_first width number) ≡ width
  as_many = length-bytes_high_first width number

  -- the block that was, and that is
  over : (P : List ℕ → Option (List ℕ) → Type 0) → ((old : List ℕ) → at + length (bytes_high_first width number) ≤ length old → P old (Some (put_at old at (bytes_high_first width number))))
      → IfSome (bytes_of h b) (λ old. P old (bytes_of (with_number h b at width number) b))
  over P each =
      subst (λ (o : Option (List ℕ)). IfSome (bytes_of h b) (λ old. P old o)) (sym (written_block h b at (bytes_high_first width number)))
      (go (bytes_of h b) has)
    where
      go : (o : Option (List ℕ)) → IsSomeAnd o (λ bytes. at + width ≤ length bytes) → IfSome o (λ old. P old (option_map (λ bytes. put_at bytes at (bytes_high_first width number)) o))
      go None has = absurd has
      go (Some old) has = each old (let n = as_many in omega arith)

  -- a fact that holds whichever it was
  whichever : (P : Type 0) → IfSome (bytes_of h b) (λ _. P) → P
  whichever P holds = go (bytes_of h b) has holds
    where
      go : (o : Option (List ℕ)) → IsSomeAnd o (λ bytes. at + width ≤ length bytes) → IfSome o (λ _. P) → P
      go None has holds = absurd has
      go (Some old) has holds = holds

  pub read_back : number < 256 ^ width → IsSomeAnd (bytes_of (with_number h b at width number) b) (λ bytes. number_of (bytes_at bytes at width) ≡ number)
  read_back fits =
      whichever (IsSomeAnd (bytes_of (with_number h b at width number) b) (λ bytes. number_of (bytes_at bytes at width) ≡ number))
      (over (λ old o. IsSomeAnd o (λ bytes. number_of (bytes_at bytes at width) ≡ number)) there)
    where
      there : (old : List ℕ) → at + length (bytes_high_first width number) ≤ length old → number_of (bytes_at (put_at old at (bytes_high_first width number)) at width) ≡ number
      there old room =
          ap (λ n. number_of (bytes_at (put_at old at (bytes_high_first width number)) at n)) (sym as_many)
          ∙ ap number_of (range_put old at (bytes_high_first width number) room) ∙ (written_spells width number fits).is_number

  pub other_range : (from size : ℕ) → (from + size ≤ at) ⊎ (at + width ≤ from)
      → IfSome (bytes_of h b) (λ old. IsSomeAnd (bytes_of (with_number h b at width number) b) (λ new. bytes_at new from size ≡ bytes_at old from size))
  other_range from size apart = over (λ old o. IsSomeAnd o (λ new. bytes_at new from size ≡ bytes_at old from size)) (λ old room. elim apart [
    | inl before ↦ range_before old at (bytes_high_first width number) room from size before
    | inr behind ↦ range_after old at (bytes_high_first width number) room from size (let n = as_many in omega arith)
  ])

  pub still_there : (from size : ℕ) → HasBytes h b from size → HasBytes (with_number h b at width number) b from size
  still_there from size has_other = kept (bytes_of h b) refl has_other
    where
      kept : (o : Option (List ℕ)) → bytes_of h b ≡ o → IsSomeAnd o (λ bytes. from + size ≤ length bytes) → HasBytes (with_number h b at width number) b from size
      kept None is far = absurd far
      kept (Some old) is far =
          let room : at + width ≤ length old = subst (λ (o : Option (List ℕ)). IsSomeAnd o (λ bytes. at + width ≤ length bytes)) is has in
          let n = as_many in
          let long = length-put_at old at (bytes_high_first width number) (omega arith) in
          subst (λ (o : Option (List ℕ)). IsSomeAnd o (λ bytes. from + size ≤ length bytes))
          (sym (written_block h b at (bytes_high_first width number) ∙ ap (option_map (λ bytes. put_at bytes at (bytes_high_first width number))) is)) (omega arith)

-- two blocks are one or not
pub which_block : (a b : Block) → (a ≡ b) ⊎ (a ≢ b)
which_block Statics Statics = inl refl
which_block Statics (Live q) = inr (λ e. cc)
which_block (Live p) Statics = inr (λ e. cc)
which_block (Live p) (Live q) = elim (cases_eq p.0 q.0) [
  | inl e ↦ inl (λ i. Live (record { 0 = e i }))
  | inr ne ↦ inr (λ e. ne (place_of e))
]
  where
    place_of : Live p ≡ Live q → p.0 ≡ q.0
    place_of e = let same : p ≡ q = cc in ap (λ (p : Place). p.0) same

pub bytes_there : (h : Held) (b other : Block) (at width number from size : ℕ) → HasBytes h b at width → HasBytes h other from size → HasBytes (with_number h b at width number) other from size
bytes_there h b other at width number from size has far = elim (which_block other b) [
  | inl e ↦
      subst (λ (o : Block). HasBytes (with_number h b at width number) o from size) (sym e)
      (still_there h b at width number has from size (subst (λ (o : Block). HasBytes h o from size) e far))
  | inr ne ↦ subst (λ (o : Option (List ℕ)). IsSomeAnd o (λ bytes. from + size ≤ length bytes)) (sym (other_block h b other at (bytes_high_first width number) ne)) far
]

-- ---- blocks that come and go

pub new_block : (h : Held) (p : Place) (class : ℕ) → bytes_of (with_new h p.0 class) (Live p) ≡ Some (first_bytes h class)
new_block h p class = ap (option_map (λ (k : Kept). k.bytes)) (get_put h.live p.0 (record { class = class; bytes = first_bytes h class }))

pub beside_new : (h : Held) (p : Place) (class : ℕ) (other : Block) → other ≢ Live p → bytes_of (with_new h p.0 class) other ≡ bytes_of h other
beside_new h p class Statics ne = refl
beside_new h p class (Live q) ne = ap (option_map (λ (k : Kept). k.bytes)) (get_beside h.live p.0 (record { class = class; bytes = first_bytes h class }) q.0 (apart_places q p ne))

pub gone_block : (h : Held) (p : Place) → bytes_of (without h p.0) (Live p) ≡ None
gone_block h p = ap (option_map (λ (k : Kept). k.bytes)) (taken_out h.live p.0)

pub beside_gone : (h : Held) (p : Place) (other : Block) → other ≢ Live p → bytes_of (without h p.0) other ≡ bytes_of h other
beside_gone h p Statics ne = refl
beside_gone h p (Live q) ne = ap (option_map (λ (k : Kept). k.bytes)) (kept_beside h.live p.0 q.0 (apart_places q p ne))
