-- Blocks of bytes: one for each live object, and the static one. What each call of a pool does to them.
use Rattle.std.specs.Prelude.{ℕ, ◌≡◌, ◌+◌, ◌<◌, ◌≤◌, List, [], ◌++◌, length, take, drop, slice_index_or, sum_by}
use Rattle.std.specs.Prelude.{Option, Some, IfSome, IsSomeAnd}
use Rattle.std.specs.Option.{option_map, option_map_or}
use Rattle.std.specs.FinMap as finite
use Rattle.std.specs.FinMap.{FinMap}
use Rattle.std.specs.Int.{bytes_high_first}
use Rattle.std.specs.Ordering.{nat_cmp}
use Rattle.scode_mem.specs.declared.block.Block.{Block}
use Rattle.scode_mem.specs.declared.block.Block.TheVariants.{Live, Statics}

-- a live block: its class, and its bytes
pub record Kept : Type 0 where
  pub class : ℕ
  pub bytes : List ℕ

-- live blocks by place
abbrev pub Blocks : Type 0
Blocks = FinMap nat_cmp Kept

-- what a pool keeps: the first bytes of each class, the live blocks, the bytes of the static block, and how many bytes
-- the live blocks may have together
pub record Held : Type 0 where
  pub firsts : List (List ℕ)
  pub live : Blocks
  pub statics : List ℕ
  pub limit : ℕ

-- how many bytes live blocks have together
abbrev pub live_bytes : Blocks → ℕ
live_bytes live = sum_by (λ b. length b.bytes) (finite.values live)

abbrev pub first_bytes : Held → ℕ → List ℕ
first_bytes h class = slice_index_or h.firsts class []

-- each live block is of a class, and has as many bytes as its class begins with
abbrev pub AreSized : Held → Type 0
AreSized h = (place : ℕ) → IfSome (finite.get h.live place)
    (λ k. (k.class < length h.firsts) × (length k.bytes ≡ length (first_bytes h k.class)))

-- one block more, with the first bytes of its class
abbrev pub with_new : Held → ℕ → ℕ → Held
with_new h place class =
    record h { live = finite.insert h.live place (record { class = class; bytes = first_bytes h class }) }

abbrev pub without : Held → ℕ → Held
without h place = record h { live = finite.remove h.live place }

-- the bytes of a block; a place that is not live has none
abbrev pub bytes_of : Held → Block → Option (List ℕ)
bytes_of h (Live p) = option_map (λ b. b.bytes) (finite.get h.live p.0)
bytes_of h Statics = Some h.statics

-- so many bytes of a block stand from an offset on
abbrev pub HasBytes : Held → Block → ℕ → ℕ → Type 0
HasBytes h b at width = IsSomeAnd (bytes_of h b) (λ bytes. at + width ≤ length bytes)

-- so many bytes from an offset on
abbrev pub bytes_at : List ℕ → ℕ → ℕ → List ℕ
bytes_at bytes at width = take width (drop at bytes)

-- bytes with others in the place of those from an offset on
abbrev pub put_at : List ℕ → ℕ → List ℕ → List ℕ
put_at bytes at new = take at bytes ++ new ++ drop (at + length new) bytes

-- other bytes from an offset of a block on, and all else as it was
abbrev pub with_bytes : Held → Block → ℕ → List ℕ → Held
with_bytes h (Live p) at new =
    option_map_or (λ k. record h { live = finite.insert h.live p.0 (record k { bytes = put_at k.bytes at new }) })
    (finite.get h.live p.0) h
with_bytes h Statics at new = record h { statics = put_at h.statics at new }

-- a number in so many bytes, the highest first, from an offset of a block on
abbrev pub with_number : Held → Block → ℕ → ℕ → ℕ → Held
with_number h b at width number = with_bytes h b at (bytes_high_first width number)
