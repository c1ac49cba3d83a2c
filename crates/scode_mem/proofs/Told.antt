-- What a pool's value tells of its parts.
use Rattle.std.proofs.Common.{◌≡◌, ℕ, ◌+◌, ◌-◌, ◌<◌, ◌≤◌, List, [], ◌∷◌, ◌++◌, get_or, set, take, length, refl, sym, ◌∙◌, ap, subst, arith}
use Rattle.std.specs.Prelude.{Option, Some, None, Contains, IsSome, IfSome, IsSomeAnd, is_some, remove, vec_capacity}
use Rattle.std.specs.Option.{option_map, option_map_or}
use Rattle.std.specs.FinMap as finite
use Rattle.std.proofs.lemmas.List.{get_or-take, get_or_default, get_or_read}
use Rattle.sed_engine.specs.declared.call.Place.{Place}
use Rattle.scode_mem.specs.declared.block.Block.TheVariants.{Live}
use Rattle.scode_mem.specs.declared.entry.Entry.{Entry}
use Rattle.scode_mem.specs.declared.pool.Pool.TheInside.{Inside}
use Rattle.scode_mem.specs.Blocks.{HasBytes, Held, Kept, bytes_at, bytes_of, first_bytes, live_bytes, put_at, with_bytes, with_new, without}
use Rattle.scode_mem.specs.Kept.{IsAdded, IsKept, Parts, blocks_of, class_at, entry_at, held_of, kept_at, no_entry, parts, size_at, start_at}
use Rattle.scode_mem.proofs.Bytes.{length-put_at, range_within}
use Rattle.scode_mem.proofs.Changes.{added, class_there, end_there, fresh, held_added, held_moved, held_removed, how_many, length-live, live_at, live_where, place_below, removed, size_within, sum_there, written}
use Rattle.scode_mem.proofs.Places.{length-kept}

-- the parts of a pool
abbrev pub parts_of : Inside → Parts
parts_of i = parts i.firsts.items i.bytes.items i.directory.items

abbrev pub Keeps : Inside → Type 0
Keeps i = IsKept (parts_of i) i.places.items (vec_capacity i.places) i.count i.used i.filled

abbrev pub seen : Inside → Held
seen i = held_of (parts_of i) i.places.items i.count i.statics.items

module _ (i : Inside) (is : Keeps i) (h : Held) (view : seen i ≡ h) where
  -- where a live place stands
  pub place_of : (q : ℕ) → IsSome (finite.get h.live q) → (k : ℕ) × (k < i.count) × (get_or i.places.items k 0 ≡ q)
  place_of q there =
      live_where (parts_of i) i.places.items (vec_capacity i.places) i.count i.used i.filled is q (subst (λ (h : Held). IsSome (finite.get h.live q)) (sym view) there)

  pub in_directory : (q : ℕ) → IsSome (finite.get h.live q) → q < length i.directory.items
  in_directory q there =
      let x = place_of q there in
      let below : q < 4096 = subst (λ (q : ℕ). q < 4096) x.2 (place_below (parts_of i) i.places.items (vec_capacity i.places) i.count i.used i.filled is x.0 x.1) in
      let entries = is.entries in
      omega arith

  -- its entry, as it is read
  pub entry_read : (q : ℕ) → IsSome (finite.get h.live q) → (e : Entry) → e ≡ get_or i.directory.items q e → e ≡ entry_at (parts_of i) q
  entry_read q there e read = get_or_read i.directory.items q e (in_directory q there) read no_entry

  -- its block
  pub block_of : (q : ℕ) → IsSome (finite.get h.live q) → finite.get h.live q ≡ Some (kept_at (parts_of i) q)
  block_of q there =
      let x = place_of q there in
      let P : ℕ → Type 0 = λ q. finite.get h.live q ≡ Some (kept_at (parts_of i) q) in
      subst P x.2
      (subst (λ (h : Held). finite.get h.live (get_or i.places.items x.0 0) ≡ Some (kept_at (parts_of i) (get_or i.places.items x.0 0))) view
      (live_at (parts_of i) i.places.items (vec_capacity i.places) i.count i.used i.filled is x.0 x.1))

  end_told : (q : ℕ) → IsSome (finite.get h.live q) → start_at (parts_of i) q + size_at (parts_of i) q ≤ length i.bytes.items
  end_told q there =
      let x = place_of q there in
      let P : ℕ → Type 0 = λ q. start_at (parts_of i) q + size_at (parts_of i) q ≤ length i.bytes.items in
      subst P x.2 (let e = end_there (parts_of i) i.places.items (vec_capacity i.places) i.count i.used i.filled is x.0 x.1 in let n = is.lie.in_bytes in omega arith)

  module _ (q : Place) (at width : ℕ) (has : HasBytes h (Live q) at width) where
    -- a block with bytes is live
    pub has_place : IsSome (finite.get h.live q.0)
    has_place = go (finite.get h.live q.0) has
      where
        go : (o : Option Kept) → IsSomeAnd (option_map (λ b. b.bytes) o) (λ bytes. at + width ≤ length bytes) → IsSome o
        go (Some k) has = refl
        go None has = absurd has

    -- and they lie in it
    pub has_size : at + width ≤ size_at (parts_of i) q.0
    has_size =
        let far : at + width ≤ length (kept_at (parts_of i) q.0).bytes =
        subst (λ (o : Option Kept). IsSomeAnd (option_map (λ b. b.bytes) o) (λ bytes. at + width ≤ length bytes)) (block_of q.0 has_place) has in
        let as_many = length-kept (parts_of i) q.0 (end_told q.0 has_place) in
        omega arith

    pub has_bytes : start_at (parts_of i) q.0 + at + width ≤ length i.bytes.items
    has_bytes = let far = end_told q.0 has_place in let size = has_size in omega arith

    -- they are those bytes of the pool
    pub bytes_told : (P : List ℕ → Type 0) → P (bytes_at i.bytes.items (start_at (parts_of i) q.0 + at) width) → IfSome (bytes_of h (Live q)) (λ bytes. P (bytes_at bytes at width))
    bytes_told P holds =
        subst (λ (o : Option Kept). IfSome (option_map (λ b. b.bytes) o) (λ bytes. P (bytes_at bytes at width))) (sym (block_of q.0 has_place))
        (subst P (sym (range_within i.bytes.items (start_at (parts_of i) q.0) (size_at (parts_of i) q.0) at width has_size)) holds)

  -- the class of a live block is one of those that are
  pub class_told : (q : ℕ) → IsSome (finite.get h.live q) → class_at (parts_of i) q < length i.firsts.items
  class_told q there =
      let x = place_of q there in
      let P : ℕ → Type 0 = λ q. class_at (parts_of i) q < length i.firsts.items in
      subst P x.2 (class_there (parts_of i) i.places.items (vec_capacity i.places) i.count i.used i.filled is x.0 x.1)

  -- and it has as many bytes as that begins with
  pub sized_told : (q : ℕ) → IfSome (finite.get h.live q) (λ k. (k.class < length h.firsts) × (length k.bytes ≡ length (first_bytes h k.class)))
  sized_told q = by_block (finite.get h.live q) refl
    where
      by_block : (o : Option Kept) → finite.get h.live q ≡ o → IfSome o (λ k. (k.class < length h.firsts) × (length k.bytes ≡ length (first_bytes h k.class)))
      by_block None e = tt
      by_block (Some k) e =
          let there : IsSome (finite.get h.live q) = ap is_some e in
          subst (λ (o : Option Kept). IfSome o (λ k. (k.class < length h.firsts) × (length k.bytes ≡ length (first_bytes h k.class)))) (sym (block_of q there) ∙ e) (
            subst (λ (all : List (List ℕ)). class_at (parts_of i) q < length all) (ap (λ (h : Held). h.firsts) view) (class_told q there),
            length-kept (parts_of i) q (end_told q there)
                ∙ ap (λ (h : Held). length (first_bytes h (class_at (parts_of i) q))) view,
          )

  -- a live place is among the first
  pub among_live : (q : ℕ) → IsSome (finite.get h.live q) → Contains (take i.count i.places.items) q
  among_live q there =
      let x = place_of q there in
      let n = length-live (parts_of i) i.places.items (vec_capacity i.places) i.count i.used i.filled is in
      let within : x.0 < length (take i.count i.places.items) = (let lt = x.1 in omega arith) in
      (x.0, within, sym (get_or_default (take i.count i.places.items) x.0 0 q within) ∙ get_or-take i.count i.places.items x.0 0 x.1 ∙ x.2)

  -- ---- what calls leave

  pub written_told : (q : Place) (at : ℕ) (new bytes : List ℕ) → HasBytes h (Live q) at (length new) → bytes ≡ put_at i.bytes.items (start_at (parts_of i) q.0 + at) new
      → held_of (parts i.firsts.items bytes i.directory.items) i.places.items i.count i.statics.items ≡ with_bytes h (Live q) at new
  written_told q at new bytes has is_put =
      let there = has_place q at (length new) has in
      let x = place_of q.0 there in
      let P : ℕ → Type 0 = λ q. at + length new ≤ size_at (parts_of i) q in
      let fits = subst P (sym x.2) (has_size q at (length new) has) in
      let Q : ℕ → Type 0 = λ q. blocks_of (parts i.firsts.items (put_at i.bytes.items (start_at (parts_of i) q + at) new) i.directory.items) (take i.count i.places.items)
      ≡ finite.insert (seen i).live q (record { class = class_at (parts_of i) q; bytes = put_at (kept_at (parts_of i) q).bytes at new }) in
      let left = subst Q x.2 (written (parts_of i) i.places.items (vec_capacity i.places) i.count i.used i.filled x.0 at new is x.1 fits) in
      let all : blocks_of (parts i.firsts.items bytes i.directory.items) (take i.count i.places.items) ≡ finite.insert (seen i).live q.0 (record (kept_at (parts_of i) q.0) { bytes = put_at (kept_at (parts_of i) q.0).bytes at new }) =
      ap (λ (bytes : List ℕ). blocks_of (parts i.firsts.items bytes i.directory.items) (take i.count i.places.items)) is_put ∙ left in
      let room : start_at (parts_of i) q.0 + at + length new ≤ length i.bytes.items = has_bytes q at (length new) has in
      let long : length bytes ≡ length i.bytes.items = ap length is_put ∙ length-put_at i.bytes.items (start_at (parts_of i) q.0 + at) new room in
      let here : finite.get (seen i).live q.0 ≡ Some (kept_at (parts_of i) q.0) = ap (λ (h : Held). finite.get h.live q.0) view ∙ block_of q.0 there in
      let put : Kept → Held = λ k. record (seen i) { live = finite.insert (seen i).live q.0 (record k { bytes = put_at k.bytes at new }) } in
      (λ j. record (seen i) { live = all j; limit = long j })
      ∙ sym (ap (λ (o : Option Kept). option_map_or put o (seen i)) here)
      ∙ ap (λ (h : Held). with_bytes h (Live q) at new) view

  -- a live place, as a search finds it
  module _ (q k : ℕ) (within : k < length (take i.count i.places.items)) (found : get_or (take i.count i.places.items) k 0 ≡ q) where
    pub k_below : k < i.count
    k_below = let n = length-live (parts_of i) i.places.items (vec_capacity i.places) i.count i.used i.filled is in omega arith

    pub k_there : get_or i.places.items k 0 ≡ q
    k_there = sym (get_or-take i.count i.places.items k 0 k_below) ∙ found

    module _ (size : ℕ) (as_many : size ≡ size_at (parts_of i) q) where
      here : size_at (parts_of i) (get_or i.places.items k 0) ≡ size
      here = ap (size_at (parts_of i)) k_there ∙ sym as_many

      pub size_told : size ≤ i.filled
      size_told = let within = size_within (parts_of i) i.places.items (vec_capacity i.places) i.count i.used i.filled k is k_below in let same = here in omega arith

      pub less_told : (rest : List ℕ) (room : ℕ) → rest ≡ remove i.places.items k ++ get_or i.places.items k 0 ∷ [] → room ≡ vec_capacity i.places
          → IsKept (parts_of i) rest room (i.count - 1) i.used (i.filled - size)
      less_told rest room is_left same_room =
          subst (λ (xs : List ℕ). IsKept (parts_of i) xs room (i.count - 1) i.used (i.filled - size)) (sym is_left)
          (subst (λ (n : ℕ). IsKept (parts_of i) (remove i.places.items k ++ get_or i.places.items k 0 ∷ []) n (i.count - 1) i.used (i.filled - size)) (sym same_room)
          (subst (λ (n : ℕ). IsKept (parts_of i) (remove i.places.items k ++ get_or i.places.items k 0 ∷ []) (vec_capacity i.places) (i.count - 1) i.used (i.filled - n)) here
          (held_removed (parts_of i) i.places.items (vec_capacity i.places) i.count i.used i.filled k is k_below)))

    pub removed_told : (rest : List ℕ) → rest ≡ remove i.places.items k ++ get_or i.places.items k 0 ∷ [] → held_of (parts_of i) rest (i.count - 1) i.statics.items ≡ without h q
    removed_told rest is_left =
        let left : blocks_of (parts_of i) (take (i.count - 1) rest) ≡ finite.remove (seen i).live q =
        ap (λ (xs : List ℕ). blocks_of (parts_of i) (take (i.count - 1) xs)) is_left
        ∙ removed (parts_of i) i.places.items (vec_capacity i.places) i.count i.used i.filled k is k_below
        ∙ ap (finite.remove (seen i).live) k_there in
        (λ j. record (seen i) { live = left j }) ∙ ap (λ (h : Held). without h q) view

  pub few_told : finite.len h.live < 4096 → i.count < 4096
  few_told few =
      let many = how_many (parts_of i) i.places.items (vec_capacity i.places) i.count i.used i.filled is in
      let same = ap (λ (h : Held). finite.len h.live) view in
      omega arith

  -- how many bytes live blocks have
  pub bytes_of_live : live_bytes h.live ≡ i.filled
  bytes_of_live = ap (λ (h : Held). live_bytes h.live) (sym view) ∙ sum_there (parts_of i) i.places.items (vec_capacity i.places) i.count i.used i.filled is

  pub limit_told : h.limit ≡ length i.bytes.items
  limit_told = ap (λ (h : Held). h.limit) (sym view)

  pub first_told : (class : ℕ) → first_bytes h class ≡ get_or i.firsts.items class []
  first_told class = ap (λ (h : Held). first_bytes h class) (sym view)

  -- a block more, where the others may have moved
  module _ (few : i.count < 4096) (class : ℕ) (of_class : class < length i.firsts.items) (place : ℕ) (next : place ≡ get_or i.places.items i.count 0) where
    pub fresh_told : finite.get h.live place ≡ None
    fresh_told =
        ap (λ (h : Held). finite.get h.live place) (sym view) ∙ ap (finite.get (blocks_of (parts_of i) (take i.count i.places.items))) next
        ∙ fresh (parts_of i) i.places.items (vec_capacity i.places) i.count i.used i.filled is few

    module _ (all : List ℕ) (new : List Entry) (start size : ℕ) (as_many : size ≡ length (get_or i.firsts.items class []))
        (put : IsAdded (parts_of i) (parts i.firsts.items all new) (take i.count i.places.items) place class start) where
      between : IsKept (parts i.firsts.items put.bytes put.directory) i.places.items (vec_capacity i.places) i.count start i.filled
      between =
          held_moved (parts_of i) (parts i.firsts.items put.bytes put.directory) i.places.items (vec_capacity i.places) i.count i.used i.filled start is refl put.as_many put.entries put.moved put.lie
          (let was = is.counted in let far = put.after in omega arith)

      fits : start + length (get_or i.firsts.items class []) ≤ length put.bytes
      fits = let far = put.fits in let same = put.as_many in omega arith

      new_entries : set put.directory (get_or i.places.items i.count 0) (record { offset = start; class = class }) ≡ new
      new_entries = ap (λ q. set put.directory q (record { offset = start; class = class })) (sym next) ∙ sym put.noted

      pub more_told : IsKept (parts i.firsts.items all new) i.places.items (vec_capacity i.places) (i.count + 1) (start + size) (i.filled + size)
      more_told =
          subst (λ (b : List ℕ). IsKept (parts i.firsts.items b new) i.places.items (vec_capacity i.places) (i.count + 1) (start + size) (i.filled + size)) (sym put.put)
          (subst (λ (d : List Entry). IsKept (parts i.firsts.items (put_at put.bytes start (get_or i.firsts.items class [])) d) i.places.items (vec_capacity i.places) (i.count + 1) (start + size) (i.filled + size)) new_entries
          (subst (λ (n : ℕ). IsKept (parts i.firsts.items (put_at put.bytes start (get_or i.firsts.items class [])) (set put.directory (get_or i.places.items i.count 0) (record { offset = start; class = class }))) i.places.items (vec_capacity i.places) (i.count + 1) (start + n) (i.filled + n)) (sym as_many)
          (held_added (parts i.firsts.items put.bytes put.directory) i.places.items (vec_capacity i.places) i.count start i.filled class between few of_class fits)))

      pub added_told : held_of (parts i.firsts.items all new) i.places.items (i.count + 1) i.statics.items ≡ with_new h place class
      added_told =
          let same : length all ≡ length i.bytes.items = ap length put.put ∙ length-put_at put.bytes start (get_or i.firsts.items class []) fits ∙ put.as_many in
          let left : blocks_of (parts i.firsts.items all new) (take (i.count + 1) i.places.items) ≡ finite.insert (seen i).live place (record { class = class; bytes = get_or i.firsts.items class [] }) =
          (λ j. blocks_of (parts i.firsts.items (put.put j) (sym new_entries j)) (take (i.count + 1) i.places.items))
          ∙ added (parts i.firsts.items put.bytes put.directory) i.places.items (vec_capacity i.places) i.count start i.filled class between few of_class fits
          ∙ (λ j. finite.insert (put.moved.blocks j) (sym next j) (record { class = class; bytes = get_or i.firsts.items class [] })) in
          (λ j. record (seen i) { live = left j; limit = same j }) ∙ ap (λ (h : Held). with_new h place class) view

-- a fact of parts that are equal to others
pub along : (P : List (List ℕ) → List ℕ → List Entry → List ℕ → Type 0) (f g : List (List ℕ)) (a b : List ℕ) (d e : List Entry) (xs ys : List ℕ)
    → f ≡ g → a ≡ b → d ≡ e → xs ≡ ys → P f a d xs → P g b e ys
along P f g a b d e xs ys first bytes directory keys holds =
    subst (λ (f : List (List ℕ)). P f b e ys) first (subst (λ (a : List ℕ). P f a e ys) bytes (subst (λ (d : List Entry). P f a d ys) directory (subst (λ (xs : List ℕ). P f a d xs) keys holds)))
