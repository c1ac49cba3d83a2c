-- What changes of blocks are to the objects that they are.
use Rattle.std.proofs.Common.{◌≡◌, ◌≢◌, inl, inr, ℕ, zero, suc, List, [], ◌∷◌, length, map, refl, sym, ◌∙◌, ap, subst}
use Rattle.std.specs.Prelude.{Option, Some, None, IfOk, IfSome, IsSome, IsSomeAnd, Result, Ok, Err, slice_get, slice_index_or}
use Rattle.std.specs.FinMap as finite
use Rattle.std.specs.Cmp.{nat_cmp_total}
use Rattle.std.specs.Option.{option_map, option_map_or}
use Rattle.std.specs.Ordering.{nat_cmp}
use Rattle.std.proofs.lemmas.Bool.{cases_eq}
use Rattle.sed_typed.specs.Contents.{Contents}
use Rattle.sed_engine.specs.declared.call.Place.{Place}
use Rattle.sed_engine.specs.Code.{Object, Places, data_of, new_object}
use Rattle.sed_engine.specs.Fits.{Fits}
use Rattle.sed_engine.specs.Values.{Component}
use Rattle.sed_engine.specs.Whole.{IsObject}
use Rattle.scode_image.specs.declared.image.Image.{Image}
use Rattle.scode_image.specs.declared.image.ImageClass.{ImageClass}
use Rattle.scode_code.specs.Contents.{class_bytes, held, statics_held}
use Rattle.scode_code.specs.Faults.{IsVerified}
use Rattle.scode_code.specs.Image.{meaning_of}
use Rattle.scode_mem.specs.declared.block.Block.{Block}
use Rattle.scode_mem.specs.declared.block.Block.TheVariants as block
use Rattle.scode_mem.specs.Blocks.{Blocks, Held, Kept, bytes_of, first_bytes, live_bytes, with_new, without}
use Rattle.scode_state.specs.Stands.{BlockFits, BlocksFit, contents_in}
use Rattle.scode_state.specs.Values.{held_in}
use Rattle.sed_value.proofs.Maps.{get-map_values, get_beside, get_put, kept_beside, len-map_values, out-map_values, put-map_values, taken_out}
use Rattle.scode_whole.proofs.Truths.{no_value, same_value}
use Rattle.scode_engine.specs.Loaded.{IsLoaded, live_of, object_in, statics_of}
use Rattle.scode_engine.proofs.Sums.{sums_mapped}

-- ---- objects of live places

-- what is asked of each object at a place
abbrev pub AreObjects : Image → Places → Type 0
AreObjects image live = (q : ℕ) → IfSome (finite.get live q) (IsObject (meaning_of image))

objects_put : (image : Image) (live : Places) (k : ℕ) (o : Object) → AreObjects image live
    → IsObject (meaning_of image) o → AreObjects image (finite.insert live k o)
objects_put image live k o are object q = elim (cases_eq q k) [
  | inl e ↦
      subst (λ (r : Option Object). IfSome r (IsObject (meaning_of image)))
      (sym (ap (finite.get (finite.insert live k o)) e ∙ get_put live k o)) object
  | inr ne ↦
      subst (λ (r : Option Object). IfSome r (IsObject (meaning_of image))) (sym (get_beside live k o q ne)) (are q)
]

objects_out : (image : Image) (live : Places) (k : ℕ) → AreObjects image live
    → AreObjects image (finite.remove live k)
objects_out image live k are q = elim (cases_eq q k) [
  | inl e ↦
      subst (λ (r : Option Object). IfSome r (IsObject (meaning_of image)))
      (sym (ap (finite.get (finite.remove live k)) e ∙ taken_out live k)) tt
  | inr ne ↦
      subst (λ (r : Option Object). IfSome r (IsObject (meaning_of image))) (sym (kept_beside live k q ne)) (are q)
]

-- a live place has a block, of which what is said of its object holds
pub block_at : (image : Image) (h : Held) (q : ℕ) (P : Object → Type 0) → IsSomeAnd (finite.get (live_of image h) q) P
    → (k : Kept) × (finite.get h.live q ≡ Some k) × P (object_in image k)
block_at image h q P is =
    go (finite.get h.live q) refl
    (subst (λ (r : Option Object). IsSomeAnd r P) (get-map_values (object_in image) h.live q) is)
  where
    go : (r : Option Kept) → finite.get h.live q ≡ r → IsSomeAnd (option_map (object_in image) r) P
        → (k : Kept) × (finite.get h.live q ≡ Some k) × P (object_in image k)
    go None e is = absurd is
    go (Some k) e is = (k, e, is)

pub object_at : (image : Image) (h : Held) (q : ℕ) (k : Kept) → finite.get h.live q ≡ Some k
    → finite.get (live_of image h) q ≡ Some (object_in image k)
object_at image h q k at = get-map_values (object_in image) h.live q ∙ ap (option_map (object_in image)) at

pub none_at : (image : Image) (h : Held) (q : ℕ) → finite.get h.live q ≡ None → finite.get (live_of image h) q ≡ None
none_at image h q at = get-map_values (object_in image) h.live q ∙ ap (option_map (object_in image)) at

-- a place with an object has a block
pub some_live : (image : Image) (h : Held) (q : ℕ) → IsSome (finite.get (live_of image h) q)
    → IsSome (finite.get h.live q)
some_live image h q is =
    go (finite.get h.live q)
    (subst (λ (r : Option Object). IsSome r) (get-map_values (object_in image) h.live q) is)
  where
    go : (r : Option Kept) → IsSome (option_map (object_in image) r) → IsSome r
    go None is = is
    go (Some k) is = refl

pub told : (image : Image) (h : Held) (q : ℕ) (k : Kept) (P : Object → Type 0) → finite.get h.live q ≡ Some k
    → P (object_in image k) → IfSome (finite.get (live_of image h) q) P
told image h q k P at holds = subst (λ (r : Option Object). IfSome r P) (sym (object_at image h q k at)) holds

pub object_there : (image : Image) (h : Held) → IsLoaded image h → (q : ℕ) (k : Kept) → finite.get h.live q ≡ Some k
    → IsObject (meaning_of image) (object_in image k)
object_there image h is q k at =
    subst (λ (r : Option Object). IfSome r (IsObject (meaning_of image))) (object_at image h q k at) (is.objects q)

-- ---- a new block

first_of : (classes : List ImageClass) (k : ℕ) → slice_index_or (map (λ (c : ImageClass). c.contents) classes) k []
    ≡ option_map_or (λ (c : ImageClass). c.contents) (slice_get classes k) []
first_of [] k = refl
first_of (c ∷ cs) zero = refl
first_of (c ∷ cs) (suc k) = first_of cs k

module _ (image : Image) (h : Held) (is : IsLoaded image h) where
  pub begins : (class : ℕ) → first_bytes h class ≡ class_bytes image class
  begins class =
      ap (λ (all : List (List ℕ)). slice_index_or all class []) is.firsts ∙ first_of image.classes class

  pub live_added : (place class : ℕ) → live_of image (with_new h place class)
      ≡ finite.insert (live_of image h) place (new_object (meaning_of image) class)
  live_added place class =
      put-map_values (object_in image) h.live place (record { class = class; bytes = first_bytes h class })
      ∙ ap (λ (bytes : List ℕ). finite.insert (live_of image h) place
      (record { class = class; contents = held image class bytes })) (begins class)

  pub loaded_added : (place class : ℕ) → BlocksFit image (with_new h place class)
      → IsObject (meaning_of image) (new_object (meaning_of image) class) → IsLoaded image (with_new h place class)
  loaded_added place class fit object = record {
    verified = is.verified;
    firsts = is.firsts;
    blocks = fit;
    objects = subst (AreObjects image) (sym (live_added place class))
        (objects_put image (live_of image h) place (new_object (meaning_of image) class) is.objects object);
    statics = is.statics;
  }

  -- ---- a block less

  pub live_removed : (place : ℕ) → live_of image (without h place) ≡ finite.remove (live_of image h) place
  live_removed place = out-map_values (object_in image) h.live place

  pub loaded_removed : (place : ℕ) → BlocksFit image (without h place) → IsLoaded image (without h place)
  loaded_removed place fit = record {
    verified = is.verified;
    firsts = is.firsts;
    blocks = fit;
    objects = subst (AreObjects image) (sym (live_removed place))
        (objects_out image (live_of image h) place is.objects);
    statics = is.statics;
  }

  -- ---- how many bytes blocks have

  has_size : (q : ℕ) → IfSome (finite.get h.live q) (λ (k : Kept). length k.bytes ≡ length (class_bytes image k.class))
  has_size q = go (finite.get h.live q) refl
    where
      go : (r : Option Kept) → finite.get h.live q ≡ r
          → IfSome r (λ (k : Kept). length k.bytes ≡ length (class_bytes image k.class))
      go None e = tt
      go (Some k) e =
          let fits : BlockFits image k.class Component h (block.Live (record { 0 = q })) =
          is.blocks k.class Component (block.Live (record { 0 = q }))
          (subst (λ (o : Option Kept). IsSomeAnd o (λ (x : Kept). x.class ≡ k.class)) (sym e) refl) in
          let same : k.bytes ≡ fits.bytes =
          same_value k.bytes fits.bytes (sym (ap (option_map (λ (x : Kept). x.bytes)) e) ∙ fits.are) in
          ap length same ∙ fits.whole

  pub bytes_are_data : live_bytes h.live ≡ data_of (meaning_of image) (live_of image h)
  bytes_are_data =
      sums_mapped (λ (k : Kept). length k.bytes) (λ (o : Object). length (class_bytes image o.class)) (object_in image)
      h.live has_size

-- ---- a new pool

pub nothing_live : (image : Image) (h : Held) → h.live ≡ finite.empty → live_of image h ≡ finite.empty
nothing_live image h none =
    finite.empty_of_len (live_of image h)
    (len-map_values (object_in image) h.live ∙ ap (λ (m : Blocks). finite.len m) none ∙ finite.len-empty nat_cmp Kept)

pub loaded_first : (image : Image) (h : Held) → IsVerified image
    → h.firsts ≡ map (λ (c : ImageClass). c.contents) image.classes → h.live ≡ finite.empty
    → h.statics ≡ image.static_bytes → BlocksFit image h
    → Fits (meaning_of image).fields (meaning_of image).static_fields (meaning_of image).initial_statics
    (meaning_of image).initial_statics
    → IsLoaded image h
loaded_first image h verified firsts none first fit begun = record {
  verified = verified;
  firsts = firsts;
  blocks = fit;
  objects = λ q. subst (λ (r : Option Object). IfSome r (IsObject (meaning_of image)))
      (sym (none_at image h q (ap (λ (m : Blocks). finite.get m q) none ∙ finite.get-empty nat_cmp q))) tt;
  statics = subst (λ (bytes : List ℕ). Fits (meaning_of image).fields (meaning_of image).static_fields
      (meaning_of image).initial_statics (statics_held image bytes)) (sym first) begun;
}

module _ (image : Image) {E : Type 0} (r : Result Held E) where
  pub outcome_loaded : IsVerified image
      → Fits (meaning_of image).fields (meaning_of image).static_fields (meaning_of image).initial_statics
      (meaning_of image).initial_statics
      → ((h : Held) → h.live ≡ finite.empty → h.statics ≡ image.static_bytes → BlocksFit image h)
      → IfOk r (λ h. h.firsts ≡ map (λ (c : ImageClass). c.contents) image.classes)
      → IfOk r (λ h. h.live ≡ finite.empty) → IfOk r (λ h. h.statics ≡ image.static_bytes)
      → IfOk r (IsLoaded image)
  outcome_loaded verified begun fits firsts none first = go r firsts none first
    where
      go : (r : Result Held E) → IfOk r (λ h. h.firsts ≡ map (λ (c : ImageClass). c.contents) image.classes)
          → IfOk r (λ h. h.live ≡ finite.empty) → IfOk r (λ h. h.statics ≡ image.static_bytes)
          → IfOk r (IsLoaded image)
      go (Ok h) firsts none first =
          loaded_first image h verified firsts none first (fits h none first) begun
      go (Err e) firsts none first = tt

  pub outcome_empty : IfOk r (λ h. h.live ≡ finite.empty) → IfOk r (λ h. live_of image h ≡ finite.empty)
  outcome_empty none = go r none
    where
      go : (r : Result Held E) → IfOk r (λ h. h.live ≡ finite.empty) → IfOk r (λ h. live_of image h ≡ finite.empty)
      go (Ok h) none = nothing_live image h none
      go (Err e) none = tt

  pub outcome_statics : IfOk r (λ h. h.statics ≡ image.static_bytes)
      → IfOk r (λ h. statics_of image h ≡ (meaning_of image).initial_statics)
  outcome_statics first = go r first
    where
      go : (r : Result Held E) → IfOk r (λ h. h.statics ≡ image.static_bytes)
          → IfOk r (λ h. statics_of image h ≡ (meaning_of image).initial_statics)
      go (Ok h) first = ap (λ (bytes : List ℕ). statics_held image bytes) first
      go (Err e) first = tt

-- ---- a block with other contents

same_kept : (a b : Option Kept) → option_map (λ (k : Kept). k.class) a ≡ option_map (λ (k : Kept). k.class) b
    → option_map (λ (k : Kept). k.bytes) a ≡ option_map (λ (k : Kept). k.bytes) b → a ≡ b
same_kept None None classes bytes = refl
same_kept None (Some l) classes bytes = no_value l.class classes
same_kept (Some k) None classes bytes = no_value k.class (sym classes)
same_kept (Some k) (Some l) classes bytes =
    let class : k.class ≡ l.class = same_value k.class l.class classes in
    let all : k.bytes ≡ l.bytes = same_value k.bytes l.bytes bytes in
    λ i. Some (record { class = class i; bytes = all i })

same_place : (p q : Place) → block.Live p ≡ block.Live q → p.0 ≡ q.0
same_place p q e = let same : p ≡ q = cc in ap (λ (x : Place). x.0) same

pub no_statics : (p : Place) → block.Live p ≢ block.Statics
no_statics p e = let never : ⊥ = cc in never

-- an object by its class and contents
object_of : (image : Image) (k : Kept) (class : ℕ) (contents : Contents) → k.class ≡ class
    → held image class k.bytes ≡ contents → object_in image k ≡ record { class = class; contents = contents }
object_of image k class contents same holds =
    let of_class : object_in image k ≡ record { class = class; contents = held image class k.bytes } =
    ap (λ (c : ℕ). let o : Object = record { class = c; contents = held image c k.bytes } in o) same in
    of_class ∙ ap (λ (m : Contents). let o : Object = record { class = class; contents = m } in o) holds

module _ (image : Image) (old new : Held) (p : Place) (k : Kept) (at : finite.get old.live p.0 ≡ Some k)
    (classes : (q : ℕ) → option_map (λ (x : Kept). x.class) (finite.get new.live q)
    ≡ option_map (λ (x : Kept). x.class) (finite.get old.live q)) where
  -- the block that is there then
  pub own_block : (l : Kept) × (finite.get new.live p.0 ≡ Some l) × (l.class ≡ k.class)
  own_block = go (finite.get new.live p.0) refl
    where
      go : (r : Option Kept) → finite.get new.live p.0 ≡ r
          → (l : Kept) × (finite.get new.live p.0 ≡ Some l) × (l.class ≡ k.class)
      go None e =
          no_value k.class
          (sym (ap (option_map (λ (x : Kept). x.class)) e) ∙ classes p.0 ∙ ap (option_map (λ (x : Kept). x.class)) at)
      go (Some l) e = (
        l,
        e,
        same_value l.class k.class
            (sym (ap (option_map (λ (x : Kept). x.class)) e) ∙ classes p.0 ∙ ap (option_map (λ (x : Kept). x.class)) at),
      )

  module _ (others : (b : Block) → b ≢ block.Live p → b ≢ block.Statics → bytes_of new b ≡ bytes_of old b)
      (contents : Contents) (now : contents_in image k.class Component new (block.Live p) ≡ contents) where
    live_here : finite.get (live_of image new) p.0 ≡ Some (record { class = k.class; contents = contents })
    live_here =
        let l = own_block in
        let holds : held image k.class l.0.bytes ≡ contents =
        sym (ap (λ (r : Option Kept). option_map_or (held_in image k.class Component)
        (option_map (λ (x : Kept). x.bytes) r) []) l.1)
        ∙ now in
        object_at image new p.0 l.0 l.1
        ∙ ap (λ (o : Object). Some o) (object_of image l.0 k.class contents l.2 holds)

    live_there : (q : ℕ) → q ≢ p.0 → finite.get (live_of image new) q ≡ finite.get (live_of image old) q
    live_there q ne =
        let bytes : bytes_of new (block.Live (record { 0 = q })) ≡ bytes_of old (block.Live (record { 0 = q })) =
        others (block.Live (record { 0 = q })) (λ e. ne (same_place (record { 0 = q }) p e))
        (λ e. no_statics (record { 0 = q }) e) in
        get-map_values (object_in image) new.live q
        ∙ ap (option_map (object_in image)) (same_kept (finite.get new.live q) (finite.get old.live q) (classes q) bytes)
        ∙ sym (get-map_values (object_in image) old.live q)

    pub live_changed : live_of image new
        ≡ finite.insert (live_of image old) p.0 (record { class = k.class; contents = contents })
    live_changed =
        finite.same_map nat_cmp_total finite.nat_cmp-IsAntisymmetric _ _ (λ q. elim (cases_eq q p.0) [
          | inl e ↦
              ap (finite.get (live_of image new)) e ∙ live_here
              ∙ sym (ap (finite.get (finite.insert (live_of image old) p.0
              (record { class = k.class; contents = contents }))) e
              ∙ get_put (live_of image old) p.0 (record { class = k.class; contents = contents }))
          | inr ne ↦
              live_there q ne
              ∙ sym (get_beside (live_of image old) p.0 (record { class = k.class; contents = contents }) q ne)
        ])

    pub loaded_changed : IsLoaded image old → BlocksFit image new → new.firsts ≡ old.firsts
        → IsObject (meaning_of image) (record { class = k.class; contents = contents })
        → Fits (meaning_of image).fields (meaning_of image).static_fields (meaning_of image).initial_statics
        (statics_of image new)
        → IsLoaded image new
    loaded_changed is fit firsts object statics = record {
      verified = is.verified;
      firsts = firsts ∙ is.firsts;
      blocks = fit;
      objects = subst (AreObjects image) (sym live_changed)
          (objects_put image (live_of image old) p.0 (record { class = k.class; contents = contents }) is.objects
          object);
      statics = statics;
    }
