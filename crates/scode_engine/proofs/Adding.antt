-- An object that is added, or is not.
use Rattle.std.proofs.Common.{◌≡◌, ◌+◌, ◌<◌, ℕ, List, true, false, length, refl, sym, ◌∙◌, ap, subst, arith}
use Rattle.std.specs.Prelude.{◌↔◌, ◌&&◌, not, Option, Some, None, IsTrue, IfOk, OnErr, Result, Ok, Err, slice_get}
use Rattle.std.specs.FinMap as finite
use Rattle.std.specs.Option.{option_map_or}
use Rattle.std.proofs.lemmas.List.{length-map}
use Rattle.std.proofs.lemmas.Option.{slice_get_within}
use Rattle.sed_typed.specs.declared.schema.ClassInfo.{ClassInfo}
use Rattle.sed_engine.specs.declared.call.AddRefusal.{AddRefusal}
use Rattle.sed_engine.specs.declared.call.AddRefusal.TheVariants.{DataFull}
use Rattle.sed_engine.specs.declared.call.Place.{Place}
use Rattle.sed_engine.specs.Code.{data_of, is_creatable, new_object}
use Rattle.sed_engine.specs.Whole.{IsObject}
use Rattle.scode_image.specs.declared.image.Image.{Image}
use Rattle.scode_image.specs.declared.image.ImageClass.{ImageClass}
use Rattle.scode_code.specs.Image.{meaning_of}
use Rattle.scode_code.specs.Tables.{class_of, schema_of}
use Rattle.scode_mem.specs.Blocks.{Held, first_bytes, live_bytes, with_new}
use Rattle.scode_state.specs.Stands.{BlocksFit}
use Rattle.sed_value.proofs.Maps.{len-map_values}
use Rattle.scode_whole.proofs.Truths.{no_truth}
use Rattle.scode_engine.specs.Loaded.{IsLoaded, live_of, object_in}
use Rattle.scode_engine.proofs.Changes.{begins, bytes_are_data, live_added, loaded_added, none_at}

-- ---- what the pool requires

class_there : (image : Image) (class : ℕ) → IsTrue (is_creatable (meaning_of image) class) → class < length image.classes
class_there image class h = go (slice_get (schema_of image).classes class) refl h
  where
    go : (o : Option ClassInfo) → slice_get (schema_of image).classes class ≡ o
        → option_map_or (λ (c : ClassInfo). c.is_component && not c.is_abstract) o false ≡ true
        → class < length image.classes
    go None is h = no_truth h
    go (Some c) is h =
        let within = slice_get_within (schema_of image).classes class c is in
        let same : length (schema_of image).classes ≡ length image.classes = length-map image.classes class_of in
        omega (arith, within, same)

pub class_within : (image : Image) (h : Held) → IsLoaded image h → (class : ℕ)
    → IsTrue (is_creatable (meaning_of image) class) → class < length h.firsts
class_within image h is class creatable =
    let there = class_there image class creatable in
    let same : length h.firsts ≡ length image.classes =
    ap length is.firsts ∙ length-map image.classes (λ (c : ImageClass). c.contents) in
    omega (arith, there, same)

pub few_live : (image : Image) (h : Held) → finite.len (live_of image h) < 4096 → finite.len h.live < 4096
few_live image h few =
    let same : finite.len (live_of image h) ≡ finite.len h.live = len-map_values (object_in image) h.live in
    omega (arith, few, same)

-- ---- what it leaves

module _ (image : Image) (h new : Held) (is : IsLoaded image h) (class : ℕ) (r : Result Place AddRefusal) where
  pub loaded : IsObject (meaning_of image) (new_object (meaning_of image) class)
      → ((place : ℕ) → BlocksFit image (with_new h place class)) → IfOk r (λ p. new ≡ with_new h p.0 class)
      → OnErr r (new ≡ h) → IsLoaded image new
  loaded object fits added refused = go r added refused
    where
      go : (r : Result Place AddRefusal) → IfOk r (λ p. new ≡ with_new h p.0 class) → OnErr r (new ≡ h)
          → IsLoaded image new
      go (Ok p) added refused =
          subst (IsLoaded image) (sym added) (loaded_added image h is p.0 class (fits p.0) object)
      go (Err e) added refused = subst (IsLoaded image) (sym refused) is

  pub fresh : IfOk r (λ p. finite.get h.live p.0 ≡ None) → IfOk r (λ p. finite.get (live_of image h) p.0 ≡ None)
  fresh none = go r none
    where
      go : (r : Result Place AddRefusal) → IfOk r (λ p. finite.get h.live p.0 ≡ None)
          → IfOk r (λ p. finite.get (live_of image h) p.0 ≡ None)
      go (Ok p) none = none_at image h p.0 none
      go (Err e) none = tt

  pub live : IfOk r (λ p. new ≡ with_new h p.0 class)
      → IfOk r (λ p. live_of image new ≡ finite.insert (live_of image h) p.0 (new_object (meaning_of image) class))
  live added = go r added
    where
      go : (r : Result Place AddRefusal) → IfOk r (λ p. new ≡ with_new h p.0 class)
          → IfOk r (λ p. live_of image new ≡ finite.insert (live_of image h) p.0 (new_object (meaning_of image) class))
      go (Ok p) added = ap (live_of image) added ∙ live_added image h is p.0 class
      go (Err e) added = tt

  pub nothing_new : OnErr r (new ≡ h) → OnErr r (live_of image new ≡ live_of image h)
  nothing_new refused = go r refused
    where
      go : (r : Result Place AddRefusal) → OnErr r (new ≡ h) → OnErr r (live_of image new ≡ live_of image h)
      go (Ok p) refused = tt
      go (Err e) refused = ap (live_of image) refused

  -- whatever is the same of the pool before and after
  pub same_rest : {A : Type 0} (part : Held → A) → ((place : ℕ) → part (with_new h place class) ≡ part h)
      → IfOk r (λ p. new ≡ with_new h p.0 class) → OnErr r (new ≡ h) → part new ≡ part h
  same_rest {A} part stays added refused = go r added refused
    where
      go : (r : Result Place AddRefusal) → IfOk r (λ p. new ≡ with_new h p.0 class) → OnErr r (new ≡ h)
          → part new ≡ part h
      go (Ok p) added refused = ap part added ∙ stays p.0
      go (Err e) added refused = ap part refused

  pub full : (r ≡ Err DataFull) ↔ (h.limit < live_bytes h.live + length (first_bytes h class))
      → (r ≡ Err DataFull)
      ↔ (h.limit < data_of (meaning_of image) (live_of image h) + (meaning_of image).data_size class)
  full told =
      subst (λ (n : ℕ). (r ≡ Err DataFull) ↔ (h.limit < n))
      (ap (λ (n : ℕ). n + length (first_bytes h class)) (bytes_are_data image h is)
      ∙ ap (λ (bytes : List ℕ). data_of (meaning_of image) (live_of image h) + length bytes) (begins image h is class))
      told
