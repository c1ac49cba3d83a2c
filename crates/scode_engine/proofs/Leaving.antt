-- What a root call leaves of the objects.
use Rattle.std.proofs.Common.{◌≡◌, ◌≤◌, ℕ, ℤ, Option, Some, refl, sym, subst}
use Rattle.std.specs.Prelude.{IfSome, IsSomeAnd, IsTrue}
use Rattle.std.specs.FinMap as finite
use Rattle.std.specs.Int.{w64}
use Rattle.sed_value.specs.Value.{is_signed}
use Rattle.sed_value.specs.declared.value.Value.{Value}
use Rattle.sed_typed.specs.Contents.{Contents}
use Rattle.sed_engine.specs.declared.call.Place.{Place}
use Rattle.sed_engine.specs.declared.call.Root.{Root}
use Rattle.sed_engine.specs.Asked.{MayAsk}
use Rattle.sed_engine.specs.Code.{Object, asked_of, called, may_call}
use Rattle.sed_engine.specs.Fits.{Fits}
use Rattle.sed_engine.specs.Root.{RootEnd}
use Rattle.sed_engine.specs.Whole.{IsObject}
use Rattle.sed_engine.proofs.Asking.{may_then}
use Rattle.scode_image.specs.declared.image.Image.{Image}
use Rattle.scode_code.specs.Image.{code_of, meaning_of}
use Rattle.scode_mem.specs.Blocks.{Held, Kept}
use Rattle.scode_engine.specs.Loaded.{IsLeftBy, IsLoaded, live_of, object_in, statics_of}
use Rattle.scode_engine.proofs.Changes.{block_at, live_changed, loaded_changed}

-- the object at a place, where one is
pub object_is : (image : Image) (h : Held) → IsLoaded image h → (q : ℕ) (o : Object)
    → finite.get (live_of image h) q ≡ Some o → IsObject (meaning_of image) o
object_is image h is q o at =
    subst (λ (r : Option Object). IfSome r (IsObject (meaning_of image))) at (is.objects q)

pub may_be_asked : (image : Image) (h : Held) (p : Place) (o : Object) (which : Root) (argument : Value) (turns : ℕ)
    (moment : ℤ) → IsLoaded image h → finite.get (live_of image h) p.0 ≡ Some o
    → IsTrue (may_call (meaning_of image) o.class which argument) → 1 ≤ turns → turns ≤ 1000000
    → IsTrue (is_signed w64 moment)
    → MayAsk (code_of image) (asked_of o (statics_of image h) which argument turns moment)
may_be_asked image h p o which argument turns moment is at may some most long =
    let object : IsObject (meaning_of image) o = object_is image h is p.0 o at in
    may_then (code_of image) (asked_of o (statics_of image h) which argument turns moment) (record {
      creatable = object.creatable;
      contents = object.fits;
      statics = is.statics;
      argument = may;
      some_turns = some;
      most_turns = most;
      moment = long;
    })

-- the block of the object
block_of : (image : Image) (old : Held) (q : ℕ) (o : Object) → finite.get (live_of image old) q ≡ Some o
    → (k : Kept) × (finite.get old.live q ≡ Some k) × (object_in image k ≡ o)
block_of image old q o at =
    block_at image old q (λ (x : Object). x ≡ o)
    (subst (λ (r : Option Object). IsSomeAnd r (λ (x : Object). x ≡ o)) (sym at) refl)

module _ (image : Image) (old new : Held) (p : Place) (e : RootEnd) where
  -- of the object that a block is
  live_of_block : (k : Kept) → finite.get old.live p.0 ≡ Some k → IsLeftBy image k.class p e old new
      → live_of image new ≡ finite.insert (live_of image old) p.0 (called (object_in image k) e)
  live_of_block k at is =
      live_changed image old new p k at is.keeps.classes is.keeps.others e.contents is.contents

  pub live_left : (o : Object) → finite.get (live_of image old) p.0 ≡ Some o → IsLeftBy image o.class p e old new
      → live_of image new ≡ finite.insert (live_of image old) p.0 (called o e)
  live_left o at is =
      let k = block_of image old p.0 o at in
      subst (λ (x : Object). IsLeftBy image x.class p e old new
      → live_of image new ≡ finite.insert (live_of image old) p.0 (called x e)) k.2 (live_of_block k.0 k.1) is

  loaded_of_block : IsLoaded image old → (k : Kept) → finite.get old.live p.0 ≡ Some k
      → IsLeftBy image k.class p e old new → IsObject (meaning_of image) (called (object_in image k) e)
      → Fits (meaning_of image).fields (meaning_of image).static_fields (meaning_of image).initial_statics e.statics
      → IsLoaded image new
  loaded_of_block was k at is object statics =
      loaded_changed image old new p k at is.keeps.classes is.keeps.others e.contents is.contents was is.keeps.fit
      is.keeps.firsts object
      (subst (λ (m : Contents). Fits (meaning_of image).fields (meaning_of image).static_fields
      (meaning_of image).initial_statics m) (sym is.statics) statics)

  pub loaded_left : IsLoaded image old → (o : Object) → finite.get (live_of image old) p.0 ≡ Some o
      → IsLeftBy image o.class p e old new → IsObject (meaning_of image) (called o e)
      → Fits (meaning_of image).fields (meaning_of image).static_fields (meaning_of image).initial_statics e.statics
      → IsLoaded image new
  loaded_left was o at is object statics =
      let k = block_of image old p.0 o at in
      subst (λ (x : Object). IsLeftBy image x.class p e old new → IsObject (meaning_of image) (called x e)
      → IsLoaded image new) k.2
      (λ left fine. loaded_of_block was k.0 k.1 left fine statics) is object
