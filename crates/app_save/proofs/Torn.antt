-- What a write into the slot that isn't newest may leave.
use Rattle.std.proofs.Common.{◌≡◌, ◌⊎◌, inl, inr, ◌+◌, ◌*◌, ◌%◌, ◌<◌, ◌≤◌, ℕ, List, length, get_or, sym, ◌∙◌, ap, subst, arith}
use Rattle.std.proofs.lemmas.Bool.{cases_eq}
use Rattle.disk_model.specs.Disk.{Image, Torn}
use Rattle.app_save.specs.Store.{IsOpen, IsSlot, AreSlots, length_at, generation_at, payload_at}
use Rattle.app_save.specs.Saving.{KeepsPages}
use Rattle.app_save.specs.Stages.{Stands, Stays, Closed, Filled, Saved}
use Rattle.app_save.proofs.Bytes.{SameBytes, same_length, same_generation, same_payload}

-- a slot all of whose bytes are the same
pub record SameSlot (S slot : ℕ) (d c : Image) : Type 0 where
  pub gate : get_or c slot 0 ≡ get_or d slot 0
  pub generation : generation_at c slot ≡ generation_at d slot
  pub length_is : length_at c slot ≡ length_at d slot
  pub payload_is : length_at d slot ≤ S → payload_at c slot ≡ payload_at d slot

same_sound : (S slot : ℕ) (d c : Image) → SameSlot S slot d c → IsSlot S d slot → IsSlot S c slot
same_sound S slot d c same sound = record {
  generation = subst (λ (n : ℕ). n < 3) (sym same.generation) sound.generation;
  length = subst (λ (n : ℕ). n ≤ S) (sym same.length_is) sound.length;
}

module _ (S slot other : ℕ) (slots : AreSlots S slot other) where
  room_slot : slot + S + 6 ≤ 2 * (S + 6)
  room_slot = elim slots [ inl is ↦ omega (arith, is.0) | inr is ↦ omega (arith, is.0) ]

  room_other : other + S + 6 ≤ 2 * (S + 6)
  room_other = elim slots [ inl is ↦ omega (arith, is.1) | inr is ↦ omega (arith, is.1) ]

  module _ (at n : ℕ) (d c : Image) (size : length d ≡ 2 * (S + 6)) (from : other ≤ at) (to : at + n ≤ other + S + 6) (torn : Torn at n d c) where
    pub size_torn : length c ≡ 2 * (S + 6)
    size_torn = let a = torn.no_shorter in let b = torn.no_longer in let r = room_other in grind (arith, a, b, r, size, to)

    -- the write is in the other slot
    slot_same : SameBytes slot (slot + S + 6) d c
    slot_same i low high = elim slots [
      | inl is ↦ torn.same i (inl (omega (arith, is.0, is.1, high, from))) (omega (arith, is.0, high, size))
      | inr is ↦ torn.same i (inr (omega (arith, is.0, is.1, low, to))) (omega (arith, is.0, high, size))
    ]

    pub same_slot : SameSlot S slot d c
    same_slot = record {
      gate = slot_same slot (omega arith) (omega arith);
      generation = same_generation d c slot (λ i low high. slot_same i (omega (arith, low)) (omega (arith, high)));
      length_is = same_length d c slot (λ i low high. slot_same i (omega (arith, low)) (omega (arith, high)));
      payload_is = same_payload d c S slot (omega (arith, size, room_slot)) (omega (arith, size_torn, room_slot)) (λ i low high. slot_same i (omega (arith, low)) high);
    }

    -- the newest slot stays so while the other is closed
    pub still_stands : Stands S d slot other → (IsOpen c other → ⊥) → Stands S c slot other
    still_stands stands shut = record {
      size = size_torn;
      newest = record { is_open = same_slot.gate ∙ stands.newest.is_open; next = λ is_open. absurd (shut is_open) };
      sound = same_sound S slot d c same_slot stands.sound;
      sound_other = λ is_open. absurd (shut is_open);
    }

    -- bytes of the other slot that the write leaves
    other_same : (i : ℕ) → (i < at) ⊎ (at + n ≤ i) → i < other + S + 6 → get_or c i 0 ≡ get_or d i 0
    other_same i out high = torn.same i out (omega (arith, high, size, room_other))

  -- a write behind the closed gate
  module _ (payload : List ℕ) (file : Image) (at n : ℕ) (d c : Image) (from : other + 1 ≤ at) (to : at + n ≤ other + S + 6) (torn : Torn at n d c) (closed : Closed S slot other payload file d) where
    d_size : length d ≡ 2 * (S + 6)
    d_size = closed.stays.stands.size

    still_shut : IsOpen c other → ⊥
    still_shut is = closed.shut (sym (other_same at n d c d_size (omega (arith, from)) to torn other (inl (omega (arith, from))) (omega arith)) ∙ is)

    pub behind_gate : KeepsPages (other + 6) payload file c → Closed S slot other payload file c
    behind_gate pages =
        let same = same_slot at n d c d_size (omega (arith, from)) to torn in
        record {
          stays = record {
            stands = still_stands at n d c d_size (omega (arith, from)) to torn closed.stays.stands still_shut;
            generation = same.generation ∙ closed.stays.generation;
            payload_is = same.payload_is closed.stays.stands.sound.length ∙ closed.stays.payload_is;
            pages = pages;
          };
          shut = still_shut;
        }

    -- a write before the payload leaves all pages
    pub before_payload : at + n ≤ other + 6 → length payload ≤ S → KeepsPages (other + 6) payload file c
    before_payload low fits q has i first last small =
        other_same at n d c d_size (omega (arith, from)) to torn (other + 6 + i) (inr (omega (arith, low))) (omega (arith, small, fits)) ∙ closed.stays.pages q has i first last small

  -- a write to the other gate alone
  module _ (d c : Image) (size : length d ≡ 2 * (S + 6)) (torn : Torn other 1 d c) where
    behind_same : SameBytes (other + 1) (other + S + 6) d c
    behind_same i low high = other_same other 1 d c size (omega arith) (omega arith) torn i (inr (omega (arith, low))) high

    pub gate_pages : (payload : List ℕ) (file : Image) → length payload ≤ S → KeepsPages (other + 6) payload file d → KeepsPages (other + 6) payload file c
    gate_pages payload file fits keeps q has i first last small = behind_same (other + 6 + i) (omega arith) (omega (arith, small, fits)) ∙ keeps q has i first last small

    other_generation : generation_at c other ≡ generation_at d other
    other_generation = same_generation d c other (λ i low high. behind_same i low (omega (arith, high)))

    other_length : length_at c other ≡ length_at d other
    other_length = same_length d c other (λ i low high. behind_same i low (omega (arith, high)))

    other_payload : length_at d other ≤ S → payload_at c other ≡ payload_at d other
    other_payload = same_payload d c S other (omega (arith, size, room_other)) (omega (arith, size_torn other 1 d c size (omega arith) (omega arith) torn, room_other)) behind_same

    gate_slot : SameSlot S slot d c
    gate_slot = same_slot other 1 d c size (omega arith) (omega arith) torn

    -- whether or not the gate was open before, if it is closed now
    pub gate_closed : Stands S d slot other → (IsOpen c other → ⊥) → Stands S c slot other
    gate_closed = still_stands other 1 d c size (omega arith) (omega arith) torn

    -- the gate was open and still reads so
    gate_still_open : Stands S d slot other → IsOpen d other → Stands S c slot other
    gate_still_open stands was_open = record {
      size = size_torn other 1 d c size (omega arith) (omega arith) torn;
      newest = record {
        is_open = gate_slot.gate ∙ stands.newest.is_open;
        next = λ _. gate_slot.generation ∙ stands.newest.next was_open ∙ ap (λ (n : ℕ). (n + 1) % 3) (sym other_generation);
      };
      sound = same_sound S slot d c gate_slot stands.sound;
      sound_other = λ _. record {
        generation = subst (λ (n : ℕ). n < 3) (sym other_generation) (stands.sound_other was_open).generation;
        length = subst (λ (n : ℕ). n ≤ S) (sym other_length) (stands.sound_other was_open).length;
      };
    }

    -- closing a gate that was open, whatever byte is left
    pub closing : (payload : List ℕ) → length payload ≤ S → Stands S d slot other → IsOpen d other → Stays S slot other payload d c
    closing payload fits stands was_open = record {
      stands = elim (cases_eq (get_or c other 0) 165) [ inl is_open ↦ gate_still_open stands was_open | inr shut ↦ gate_closed stands shut ];
      generation = gate_slot.generation;
      payload_is = gate_slot.payload_is stands.sound.length;
      pages = gate_pages payload d fits (λ q has. has);
    }

    -- opening the gate of a slot that is filled, where the byte that is left opens it
    pub opening : (payload : List ℕ) (file : Image) → Closed S slot other payload file d → Filled S slot other payload d → IsOpen c other → Saved S slot other payload c
    opening payload file closed filled is_open = record {
      stands = record {
        size = size_torn other 1 d c size (omega arith) (omega arith) torn;
        newest = record { is_open = is_open; next = λ _. other_generation ∙ filled.generation ∙ ap (λ (n : ℕ). (n + 1) % 3) (sym gate_slot.generation) };
        sound = record {
          generation = let e = other_generation in let f = filled.generation in omega (arith, e, f);
          length = let e = other_length in let f = filled.length_is in let g = filled.fits in omega (arith, e, f, g);
        };
        sound_other = λ _. same_sound S slot d c gate_slot closed.stays.stands.sound;
      };
      payload_is = other_payload (let f = filled.length_is in let g = filled.fits in omega (arith, f, g)) ∙ filled.payload_is;
    }

    -- and where it doesn't
    pub unopened : (payload : List ℕ) (file : Image) → length payload ≤ S → Closed S slot other payload file d → (IsOpen c other → ⊥) → Stays S slot other payload file c
    unopened payload file fits closed shut = record {
      stands = gate_closed closed.stays.stands shut;
      generation = gate_slot.generation ∙ closed.stays.generation;
      payload_is = gate_slot.payload_is closed.stays.stands.sound.length ∙ closed.stays.payload_is;
      pages = gate_pages payload file fits closed.stays.pages;
    }
