-- What headers say of a store.
use Rattle.std.proofs.Common.{◌≡◌, ◌≢◌, inl, inr, ◌+◌, ◌*◌, ◌%◌, ◌<◌, ◌≤◌, ℕ, Bool, true, false, length, refl, sym, ◌∙◌, ap, subst, arith}
use Rattle.sed_value.specs.declared.limits.TheConstants.{LARGEST_SLOT}
use Rattle.disk_model.specs.Disk.{Image}
use Rattle.app_save.specs.Store.{IsOpen, IsSlot}
use Rattle.app_save.specs.Slots.{IsHeader, IsFound}
use Rattle.app_save.specs.Stages.{Stands}
use Rattle.app_save.specs.declared.slots.Header.{Header}
use Rattle.app_save.proofs.Newest.{stands_store}

abbrev pub Sound : ℕ → Header → Type 0
Sound S h = h.is_open ≡ true → (h.generation < 3) × (h.len ≤ S)

read_open : (image : Image) (slot : ℕ) (h : Header) (b : Bool) → h.is_open ≡ b → IsHeader image slot h → IsOpen image slot → h.is_open ≡ true
read_open image slot h true is header is_open = is
read_open image slot h false is header is_open = absurd (header.is_shut is is_open)

is_slot : (S : ℕ) (image : Image) (slot : ℕ) (h : Header) → IsHeader image slot h → Sound S h → IsOpen image slot → IsSlot S image slot
is_slot S image slot h header sound is_open =
    let keeps = sound (read_open image slot h h.is_open refl header is_open) in
    record { generation = subst (λ (n : ℕ). n < 3) header.generation keeps.0; length = subst (λ (n : ℕ). n ≤ S) header.length keeps.1 }

-- the slot with this header is the newest, if it is open and the other one is closed or one behind
stands_by : (S : ℕ) (image : Image) (slot other : ℕ) (h o : Header) → length image ≡ 2 * (S + 6) → IsHeader image slot h → IsHeader image other o → Sound S h → Sound S o → h.is_open ≡ true → (o.is_open ≡ true → h.generation ≡ (o.generation + 1) % 3) → Stands S image slot other
stands_by S image slot other h o size header other_header sound other_sound is_open ahead = record {
  size = size;
  newest = record {
    is_open = header.is_open is_open;
    next = λ other_open.
        let next = ahead (read_open image other o o.is_open refl other_header other_open) in
        sym header.generation ∙ next ∙ ap (λ (n : ℕ). (n + 1) % 3) other_header.generation;
  };
  sound = is_slot S image slot h header sound (header.is_open is_open);
  sound_other = is_slot S image other o other_header other_sound;
}

pub first_found : (S : ℕ) → S ≤ LARGEST_SLOT → (first second : Header) → Sound S first → Sound S second → first.is_open ≡ true → (second.is_open ≡ true → first.generation ≡ (second.generation + 1) % 3)
    → (image : Image) → length image ≡ 2 * (S + 6) → IsHeader image 0 first → IsHeader image (S + 6) second → IsFound image (record { slot = S; begins = 0; len = first.len })
first_found S small first second sound other_sound is_open ahead image size header other_header =
    let stands = stands_by S image 0 (S + 6) first second size header other_header sound other_sound is_open ahead in
    record { store = stands_store S image 0 (S + 6) small (inl (refl, refl)) stands; other = S + 6; slots = inl (refl, refl); newest = stands.newest; length = header.length }

pub second_found : (S : ℕ) → S ≤ LARGEST_SLOT → (first second : Header) → Sound S first → Sound S second → second.is_open ≡ true → (first.is_open ≡ true → second.generation ≡ (first.generation + 1) % 3)
    → (image : Image) → length image ≡ 2 * (S + 6) → IsHeader image 0 first → IsHeader image (S + 6) second → IsFound image (record { slot = S; begins = S + 6; len = second.len })
second_found S small first second sound other_sound is_open ahead image size header other_header =
    let stands = stands_by S image (S + 6) 0 second first size other_header header other_sound sound is_open ahead in
    record { store = stands_store S image (S + 6) 0 small (inr (refl, refl)) stands; other = 0; slots = inr (refl, refl); newest = stands.newest; length = other_header.length }

-- two generations that differ, where the second isn't the next one
pub first_ahead : (a b : ℕ) → a < 3 → b < 3 → a ≢ b → b ≢ (a + 1) % 3 → a ≡ (b + 1) % 3
first_ahead a b small_a small_b differ isnt = omega (arith, small_a, small_b, differ, isnt)
