-- What is assigned to in a typed body: as what it is stored, and how much stands on the stack for it.
use Rattle.std.proofs.Common.{◌≡◌, ◌∷◌, refl, sym, ap, subst, ◌∙◌}
use Rattle.sed_typed.specs.declared.kind.Kind.{Kind}
use Rattle.sed_typed.specs.declared.operators.Gives.{Gives}
use Rattle.sed_typed.specs.declared.operators.Gives.TheVariants.{Old, New}
use Rattle.sed_typed.specs.declared.program.FieldForm.TheVariants as form
use Rattle.sed_typed.specs.declared.tree.Place.{Place}
use Rattle.sed_typed.specs.declared.tree.Place.TheVariants as place
use Rattle.sed_typed.specs.Kinds.{kind_of, place_kind, read_kind}
use Rattle.sed_typed.specs.TypedExpr.{Context, IsPlace}
use Rattle.scode_code.specs.Kinds.{int, statics}
use Rattle.scode_emit.specs.declared.storage.Storage.TheVariants.{InField, InElement}
use Rattle.scode_emit.specs.Instructions.{storage}
use Rattle.scode_emit.specs.Site.{Site, offset_in}
use Rattle.scode_entries.specs.Entries.{above, cell_of, with_old, with_place, with_wanted}
use Rattle.scode_sim.proofs.Frames.{IsSolid}
use Rattle.scode_sim.proofs.Solids.{form_solid}
use Rattle.scode_sim.proofs.Stores.{read_solid}
use Rattle.scode_fine.proofs.Facts.{Facts, solid_above}
use Rattle.scode_fine.proofs.Storages.{Stored, AsLocal, AsField, AsElement, wanted}
use Rattle.scode_fine.proofs.Walks.{Ground, Stack}

module _ (g : Ground) (c : Context) (w : Site) (f : Facts g c w) where
  pub target_solid : (target : Place) → IsPlace c target → IsSolid (place_kind target)
  target_solid (place.Local k i) h = f.solid i k h.0
  target_solid (place.Static p i) h = read_solid p
  target_solid (place.Field' p q e i) h = read_solid p
  target_solid (place.Element' p n q e field r i) h = read_solid p
  target_solid (place.StaticElement' p n i q e) h = read_solid p

  pub stored_as : (target : Place) (below : Stack) → IsPlace c target →
      Stored g c (storage w target) (place_kind target) (with_place target below) below
  stored_as (place.Local k i) below h = AsLocal h.0
  stored_as (place.Static p i) below h =
      AsField statics (λ b. f.get_static i p b h) (λ b. f.put_static i p b h)
  stored_as (place.Field' p q e i) below h =
      let cell = solid_above (kind_of e) below (form_solid c.program (kind_of e) i (form.Prim p) h.1) in
      subst (λ (s : Stack). Stored g c (InField p (offset_in w (kind_of e) i)) (read_kind p) s below) (sym cell)
      (AsField (cell_of (kind_of e)) (λ b. f.get (kind_of e) i p b h.1) (λ b. f.put (kind_of e) i p b h.1))
  stored_as (place.Element' p n q e field r i) below h =
      let cell = solid_above (kind_of e) below (form_solid c.program (kind_of e) field (form.Array p n) h.1) in
      let both : above (kind_of i) (above (kind_of e) below) ≡ int ∷ cell_of (kind_of e) ∷ below =
      ap (λ (k : Kind). above k (above (kind_of e) below)) h.3 ∙ ap (λ (s : Stack). int ∷ s) cell in
      subst (λ (s : Stack). Stored g c (InElement p (offset_in w (kind_of e) field) n) (read_kind p) s below) (sym both)
      (AsElement (cell_of (kind_of e)) (λ b. f.get_at (kind_of e) field n p b h.1) (λ b. f.put_at (kind_of e) field n p b h.1))
  stored_as (place.StaticElement' p n i q e) below h =
      let cell : above (kind_of e) (statics ∷ below) ≡ int ∷ statics ∷ below =
      ap (λ (k : Kind). above k (statics ∷ below)) h.2 in
      subst (λ (s : Stack). Stored g c (InElement p (w.layout.static_offset i) n) (read_kind p) s below) (sym cell)
      (AsElement statics (λ b. f.get_static_at i n p b h.0) (λ b. f.put_static_at i n p b h.0))

  wanted_is : (v : Gives) (target : Place) (stack : Stack) → IsPlace c target →
      with_wanted v target stack ≡ wanted v (storage w target) (place_kind target) stack
  wanted_is New target stack h = refl
  wanted_is Old (place.Local k i) stack h = solid_above k stack (f.solid i k h.0)
  wanted_is Old (place.Static p i) stack h = refl
  wanted_is Old (place.Field' p q e i) stack h = refl
  wanted_is Old (place.Element' p n q e field r i) stack h = refl
  wanted_is Old (place.StaticElement' p n i q e) stack h = refl

  pub old_is : (v : Gives) (target : Place) (below : Stack) → IsPlace c target →
      with_old v target below
      ≡ cell_of (place_kind target) ∷ wanted v (storage w target) (place_kind target) (with_place target below)
  old_is v target below h =
      solid_above (place_kind target) (with_wanted v target (with_place target below)) (target_solid target h)
      ∙ ap (λ (s : Stack). cell_of (place_kind target) ∷ s) (wanted_is v target (with_place target below) h)
