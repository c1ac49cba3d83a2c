-- What is read in front of a payload, and where a save writes.
use Rattle.std.specs.Prelude.{◌≡◌, ◌+◌, ◌%◌, ℕ, true, false}
use Rattle.disk_model.specs.Disk.{Image, Meaning, Rests}
use Rattle.app_save.specs.Store.{IsOpen, length_at, generation_at, IsStore, AreSlots, IsNewest}
use Rattle.app_save.specs.declared.slots.Header.{Header}
use Rattle.app_save.specs.declared.slots.Place.{Place}
use Rattle.app_save.specs.declared.opening.Found.{Found}

-- This header stands at the beginning of the slot.
pub record IsHeader (image : Image) (slot : ℕ) (header : Header) : Type 0 where
  pub is_open : header.is_open ≡ true → IsOpen image slot
  pub is_shut : header.is_open ≡ false → IsOpen image slot → ⊥
  pub length : header.len ≡ length_at image slot
  pub generation : header.generation ≡ generation_at image slot

-- This is the newest slot of the image, and a save of it writes there.
pub record IsPlace (image : Image) (place : Place) : Type 0 where
  pub newest : IsNewest image place.newest place.other
  pub length : place.len ≡ length_at image place.newest
  pub next : place.generation ≡ (generation_at image place.newest + 1) % 3
  pub is_open : place.is_open ≡ true → IsOpen image place.other
  pub is_shut : place.is_open ≡ false → IsOpen image place.other → ⊥

-- Nothing waits for a sync, and a read gives a whole store, of which a save writes there.
pub record IsReady (S : ℕ) (place : Place) (m : Meaning) : Type 0 where
  pub rests : Rests m
  pub store : IsStore S m.content
  pub there : IsPlace m.content place

-- The image is a whole store, and this is its newest slot.
pub record IsFound (image : Image) (found : Found) : Type 0 where
  pub store : IsStore found.slot image
  pub other : ℕ
  pub slots : AreSlots found.slot found.begins other
  pub newest : IsNewest image found.begins other
  pub length : found.len ≡ length_at image found.begins
