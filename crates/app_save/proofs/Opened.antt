-- What was opened, and what a crash leaves behind it.
use Rattle.std.proofs.Common.{◌≡◌, ◌+◌, ◌*◌, ◌≤◌, min, ℕ, List, length, take, drop, inl, inr, sym, ◌∙◌, ap, subst, arith}
use Rattle.disk_model.specs.Disk.{Image, Meaning, Elapses, Keeps, Rests}
use Rattle.app_save.specs.Store.{Opens, length_at, IsStore, AreSlots}
use Rattle.app_save.specs.Saving.{AllOpen}
use Rattle.app_save.specs.Slots.{IsFound, IsPlace}
use Rattle.app_save.specs.declared.opening.Found.{Found}
use Rattle.app_save.specs.declared.slots.Place.{Place}
use Rattle.app_save.proofs.Newest.{store_stands}

pub opened : (S : ℕ) (image file : Image) (found : Found) (payload : List ℕ) → IsFound image found → file ≡ image → S ≡ found.slot → payload ≡ take found.len (drop (found.begins + 6) file) → Opens S image payload
opened S image file found payload is same slot read = subst (λ (n : ℕ). Opens n image payload) (sym slot) (record {
  store = is.store;
  slot = found.begins;
  other = is.other;
  slots = is.slots;
  newest = is.newest;
  payload_is = ap (λ (n : ℕ). take n (drop (found.begins + 6) image)) (sym is.length) ∙ ap (λ (f : Image). take found.len (drop (found.begins + 6) f)) (sym same) ∙ sym read;
})

pub all_opened : (S : ℕ) (payload : List ℕ) (image : Image) (b d : Meaning) → Opens S image payload → b.content ≡ image → Rests b → Elapses b d → Keeps b d → AllOpen S payload d
all_opened S payload image b d opens same rests time keeps i left = subst (λ (c : Image). Opens S c payload) (sym (rests i (keeps.during d.now i time.later (omega arith) left) ∙ same)) opens

-- the same by the place of a save
pub place_opens : (S : ℕ) (image file : Image) (place : Place) (len : ℕ) (payload : List ℕ) → AreSlots S place.newest place.other → IsStore S image → IsPlace image place → len ≡ min place.len S → file ≡ image → payload ≡ take len (drop (place.newest + 6) file) → Opens S image payload
place_opens S image file place len payload slots store is is_len same read = record {
  store = store;
  slot = place.newest;
  other = place.other;
  slots = slots;
  newest = is.newest;
  payload_is =
      let sound = (store_stands S image place.newest place.other slots store is.newest).sound.length in
      let whole = is.length in
      let size : length_at image place.newest ≡ len = grind (arith, is_len, sound, whole) in
      ap (λ (n : ℕ). take n (drop (place.newest + 6) image)) size ∙ ap (λ (f : Image). take len (drop (place.newest + 6) f)) (sym same) ∙ sym read;
}

pub place_inside : (S : ℕ) (image : Image) (place : Place) (len : ℕ) → AreSlots S place.newest place.other → length image ≡ 2 * (S + 6) → len ≡ min place.len S → place.newest + 6 + len ≤ length image
place_inside S image place len slots size is_len = elim slots [ inl is ↦ grind (arith, is, size, is_len) | inr is ↦ grind (arith, is, size, is_len) ]
