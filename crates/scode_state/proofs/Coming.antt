-- The blocks of a new pool fit, and go on to where one comes or goes.
use Rattle.std.proofs.Common.{◌≡◌, ◌≢◌, ◌⊎◌, inl, inr, ℕ, zero, suc, true, List, [], ◌∷◌, length, map, Option, Some, None, refl, sym, ap, subst, ◌∙◌}
use Rattle.std.specs.Prelude.{IsSomeAnd, slice_get, slice_index_or}
use Rattle.std.specs.FinMap as finite
use Rattle.std.specs.Option.{option_map, option_map_or}
use Rattle.std.specs.Ordering.{nat_cmp}
use Rattle.std.proofs.lemmas.Bool.{cases_eq}
use Rattle.sed_engine.specs.Values.{Base, Component, Statics}
use Rattle.scode_image.specs.declared.image.Image.{Image}
use Rattle.scode_image.specs.declared.image.ImageClass.{ImageClass}
use Rattle.scode_code.specs.Contents.{class_bytes}
use Rattle.scode_code.specs.TableRules.{tables_agree}
use Rattle.scode_mem.specs.declared.block.Block.{Block}
use Rattle.scode_mem.specs.declared.block.Block.TheVariants as block
use Rattle.scode_mem.specs.Blocks.{Blocks, Held, Kept, bytes_of, first_bytes, with_new, without}
use Rattle.sed_value.proofs.Maps.{get_beside, get_put, kept_beside, taken_out}
use Rattle.scode_whole.proofs.Rule.{agrees}
use Rattle.scode_state.specs.Stands.{BlockFits, BlocksFit, IsBlock}
use Rattle.scode_state.specs.Values.{BufsFit}
use Rattle.scode_state.proofs.FirstBytes.{first_class, first_statics}

not_live : {P : Type 0} (o : Option Kept) (class : ℕ) → o ≡ None → IsSomeAnd o (λ k. k.class ≡ class) → P
not_live o class none is = absurd (subst (λ (x : Option Kept). IsSomeAnd x (λ k. k.class ≡ class)) none is)

pub first_fit : (image : Image) (h : Held) → tables_agree image ≡ true → h.live ≡ finite.empty
    → h.statics ≡ image.static_bytes → BlocksFit image h
first_fit image h tables live statics class Component (block.Live p) is =
    not_live (finite.get h.live p.0) class (ap (λ (m : Blocks). finite.get m p.0) live ∙ finite.get-empty nat_cmp p.0) is
first_fit image h tables live statics class Component block.Statics is = absurd is
first_fit image h tables live statics class Statics (block.Live p) is = absurd is
first_fit image h tables live statics class Statics block.Statics is = record {
  bytes = h.statics;
  are = refl;
  whole = ap length statics;
  fit = subst (λ (bytes : List ℕ). BufsFit image class Statics bytes) (sym statics)
      (first_statics image (agrees image tables) class);
}

-- the first bytes of a class
nth : (classes : List ImageClass) (k : ℕ) → slice_index_or (map (λ (c : ImageClass). c.contents) classes) k []
    ≡ option_map_or (λ (c : ImageClass). c.contents) (slice_get classes k) []
nth [] k = refl
nth (c ∷ cs) zero = refl
nth (c ∷ cs) (suc k) = nth cs k

first_of : (image : Image) (h : Held) (class : ℕ) → h.firsts ≡ map (λ (c : ImageClass). c.contents) image.classes
    → first_bytes h class ≡ class_bytes image class
first_of image h class are =
    ap (λ (all : List (List ℕ)). slice_index_or all class []) are ∙ nth image.classes class

module _ (image : Image) (h : Held) (place : ℕ) (fit : BlocksFit image h) where
  -- a live block that is as it was
  stays : (new : Held) (class q : ℕ) → finite.get new.live q ≡ finite.get h.live q
      → IsSomeAnd (finite.get new.live q) (λ k. k.class ≡ class)
      → BlockFits image class Component new (block.Live (record { 0 = q }))
  stays new class q same is =
      let old : BlockFits image class Component h (block.Live (record { 0 = q })) =
      fit class Component (block.Live (record { 0 = q }))
      (subst (λ (o : Option Kept). IsSomeAnd o (λ k. k.class ≡ class)) same is) in
      record {
        bytes = old.bytes;
        are = ap (option_map (λ (k : Kept). k.bytes)) same ∙ old.are;
        whole = old.whole;
        fit = old.fit;
      }

  pub added_fit : (class : ℕ) → tables_agree image ≡ true
      → h.firsts ≡ map (λ (c : ImageClass). c.contents) image.classes → BlocksFit image (with_new h place class)
  added_fit class tables are c Component (block.Live p) is = by_place (cases_eq p.0 place)
    where
      new_is : finite.get (with_new h place class).live place
          ≡ Some (record { class = class; bytes = first_bytes h class })
      new_is = get_put h.live place (record { class = class; bytes = first_bytes h class })

      here : p.0 ≡ place → BlockFits image c Component (with_new h place class) (block.Live p)
      here e =
          let at : finite.get (with_new h place class).live p.0
          ≡ Some (record { class = class; bytes = first_bytes h class }) =
          ap (finite.get (with_new h place class).live) e ∙ new_is in
          let same : class ≡ c = subst (λ (o : Option Kept). IsSomeAnd o (λ k. k.class ≡ c)) at is in
          subst (λ (k : ℕ). BlockFits image k Component (with_new h place class) (block.Live p)) same (record {
            bytes = first_bytes h class;
            are = ap (option_map (λ (k : Kept). k.bytes)) at;
            whole = ap length (first_of image h class are);
            fit = subst (λ (bytes : List ℕ). BufsFit image class Component bytes) (sym (first_of image h class are))
                (first_class image (agrees image tables) class);
          })

      by_place : (p.0 ≡ place) ⊎ (p.0 ≢ place)
          → BlockFits image c Component (with_new h place class) (block.Live p)
      by_place (inl e) = here e
      by_place (inr ne) =
          stays (with_new h place class) c p.0
          (get_beside h.live place (record { class = class; bytes = first_bytes h class }) p.0 ne) is
  added_fit class tables are c Component block.Statics is = absurd is
  added_fit class tables are c Statics (block.Live p) is = absurd is
  added_fit class tables are c Statics block.Statics is =
      let old : BlockFits image c Statics h block.Statics = fit c Statics block.Statics tt in
      record { bytes = old.bytes; are = old.are; whole = old.whole; fit = old.fit }

  pub removed_fit : BlocksFit image (without h place)
  removed_fit c Component (block.Live p) is = by_place (cases_eq p.0 place)
    where
      by_place : (p.0 ≡ place) ⊎ (p.0 ≢ place) → BlockFits image c Component (without h place) (block.Live p)
      by_place (inl e) =
          not_live (finite.get (without h place).live p.0) c
          (ap (finite.get (without h place).live) e ∙ taken_out h.live place) is
      by_place (inr ne) = stays (without h place) c p.0 (kept_beside h.live place p.0 ne) is
  removed_fit c Component block.Statics is = absurd is
  removed_fit c Statics (block.Live p) is = absurd is
  removed_fit c Statics block.Statics is =
      let old : BlockFits image c Statics h block.Statics = fit c Statics block.Statics tt in
      record { bytes = old.bytes; are = old.are; whole = old.whole; fit = old.fit }
