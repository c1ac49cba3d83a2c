-- A store whose newest slot is known.
use Rattle.std.proofs.Common.{◌≡◌, inl, inr, ◌+◌, ◌%◌, ◌<◌, ◌≤◌, ℕ, List, sym, ◌∙◌, ap, subst, arith}
use Rattle.sed_value.specs.declared.limits.TheConstants.{LARGEST_SLOT}
use Rattle.disk_model.specs.Disk.{Image}
use Rattle.app_save.specs.Store.{IsOpen, IsSlot, IsStore, AreSlots, IsNewest, payload_at, Opens}
use Rattle.app_save.specs.Stages.{Stands}

not_same : (a b : ℕ) → a ≡ (b + 1) % 3 → b < 3 → a ≡ b → ⊥
not_same a b next small same = omega (arith, next, small, same)

pub other_way : (S slot other : ℕ) → AreSlots S slot other → AreSlots S other slot
other_way S slot other (inl is) = inr (is.1, is.0)
other_way S slot other (inr is) = inl (is.1, is.0)

pub stands_store : (S : ℕ) (c : Image) (slot other : ℕ) → S ≤ LARGEST_SLOT → AreSlots S slot other → Stands S c slot other → IsStore S c
stands_store S c slot other small (inl is) stands =
    let here : Stands S c 0 (S + 6) = subst (λ (n : ℕ). Stands S c n (S + 6)) is.0 (subst (λ (n : ℕ). Stands S c slot n) is.1 stands) in
    record {
      small = small;
      size = here.size;
      some_open = inl here.newest.is_open;
      first = λ _. here.sound;
      second = here.sound_other;
      differ = λ _ is_open same. not_same _ _ (here.newest.next is_open) (here.sound_other is_open).generation same;
    }
stands_store S c slot other small (inr is) stands =
    let here : Stands S c (S + 6) 0 = subst (λ (n : ℕ). Stands S c n 0) is.0 (subst (λ (n : ℕ). Stands S c slot n) is.1 stands) in
    record {
      small = small;
      size = here.size;
      some_open = inr here.newest.is_open;
      first = here.sound_other;
      second = λ _. here.sound;
      differ = λ is_open _ same. not_same _ _ (here.newest.next is_open) (here.sound_other is_open).generation (sym same);
    }

pub stands_opens : (S : ℕ) (c : Image) (slot other : ℕ) (payload : List ℕ) → S ≤ LARGEST_SLOT → AreSlots S slot other → Stands S c slot other → payload_at c slot ≡ payload → Opens S c payload
stands_opens S c slot other payload small slots stands is = record {
  store = stands_store S c slot other small slots stands;
  slot = slot;
  other = other;
  slots = slots;
  newest = stands.newest;
  payload_is = is;
}

-- and a whole store stands so
pub store_stands : (S : ℕ) (c : Image) (slot other : ℕ) → AreSlots S slot other → IsStore S c → IsNewest c slot other → Stands S c slot other
store_stands S c slot other (inl is) store newest = record {
  size = store.size;
  newest = newest;
  sound = subst (λ (n : ℕ). IsSlot S c n) (sym is.0) (store.first (subst (λ (n : ℕ). IsOpen c n) is.0 newest.is_open));
  sound_other = λ is_open. subst (λ (n : ℕ). IsSlot S c n) (sym is.1) (store.second (subst (λ (n : ℕ). IsOpen c n) is.1 is_open));
}
store_stands S c slot other (inr is) store newest = record {
  size = store.size;
  newest = newest;
  sound = subst (λ (n : ℕ). IsSlot S c n) (sym is.0) (store.second (subst (λ (n : ℕ). IsOpen c n) is.0 newest.is_open));
  sound_other = λ is_open. subst (λ (n : ℕ). IsSlot S c n) (sym is.1) (store.first (subst (λ (n : ℕ). IsOpen c n) is.1 is_open));
}

-- two slots can't both be the newest
never_both : (S : ℕ) (c : Image) (slot other : ℕ) → Stands S c slot other → IsNewest c other slot → ⊥
never_both S c slot other stands back =
    let a = stands.newest.next back.is_open in
    let b = back.next stands.newest.is_open in
    let small = stands.sound.generation in
    omega (arith, a, b, small)

-- so the newest slot is one
pub newest_is_one : (S : ℕ) (c : Image) (slot other x y : ℕ) → Stands S c slot other → AreSlots S slot other → AreSlots S x y → IsNewest c x y → (x ≡ slot) × (y ≡ other)
newest_is_one S c slot other x y stands (inl is) (inl has) newest = (has.0 ∙ sym is.0, has.1 ∙ sym is.1)
newest_is_one S c slot other x y stands (inr is) (inr has) newest = (has.0 ∙ sym is.0, has.1 ∙ sym is.1)
newest_is_one S c slot other x y stands (inl is) (inr has) newest = absurd (never_both S c slot other stands (subst (λ (n : ℕ). IsNewest c n slot) (has.0 ∙ sym is.1) (subst (λ (n : ℕ). IsNewest c x n) (has.1 ∙ sym is.0) newest)))
newest_is_one S c slot other x y stands (inr is) (inl has) newest = absurd (never_both S c slot other stands (subst (λ (n : ℕ). IsNewest c n slot) (has.0 ∙ sym is.1) (subst (λ (n : ℕ). IsNewest c x n) (has.1 ∙ sym is.0) newest)))

-- a store opens to one payload
pub payload_is_one : (S : ℕ) (c : Image) (p q : List ℕ) → Opens S c p → Opens S c q → p ≡ q
payload_is_one S c p q one two =
    let stands = store_stands S c one.slot one.other one.slots one.store one.newest in
    let same = newest_is_one S c one.slot one.other two.slot two.other stands one.slots two.slots two.newest in
    sym one.payload_is ∙ ap (payload_at c) (sym same.0) ∙ two.payload_is
