-- A save as a whole: from what was settled to what it leaves.
use Rattle.std.proofs.Common.{◌≡◌, ◌≢◌, ◌⊎◌, inl, inr, ◌+◌, ◌%◌, ◌<◌, ◌≤◌, ℕ, List, get_or, IsTrue, refl, sym, ◌∙◌, ap, subst, arith, Result, Ok, Err, OnOk}
use Rattle.std.proofs.lemmas.Bool.{cases_eq}
use Rattle.sed_value.specs.declared.limits.TheConstants.{LARGEST_SLOT}
use Rattle.disk_model.specs.Disk.{Image, Meaning, Elapses, During, Keeps}
use Rattle.app_save.specs.Store.{IsOpen, IsStore, AreSlots, IsNewest, generation_at, payload_at, Opens}
use Rattle.app_save.specs.Saving.{AllStores, AllOpen, OpensAsBegun, SinceSync, KeepsPages, KeepsEqualPages}
use Rattle.app_save.specs.Stages.{Stands, Stays, Saved, IsSaved, Settled}
use Rattle.app_save.proofs.Bytes.{payload_byte}
use Rattle.app_save.proofs.Moments.{then_during, weaker, at_end, then_since, now_alone}
use Rattle.app_save.proofs.Newest.{other_way, stands_opens, store_stands, newest_is_one}

-- of two different generations one is the other's next
one_is_next : (a b : ℕ) → a < 3 → b < 3 → a ≢ b → (b ≡ (a + 1) % 3) ⊎ (a ≡ (b + 1) % 3)
one_is_next a b small_a small_b differ = elim (cases_eq b ((a + 1) % 3)) [
  | inl is ↦ inl is
  | inr isnt ↦ inr (omega (arith, small_a, small_b, differ, isnt))
]

-- so a whole store has a newest slot, and opens to something
pub store_opens : (S : ℕ) (c : Image) → IsStore S c → (payload : List ℕ) × Opens S c payload
store_opens S c store = elim (cases_eq (get_or c 0 0) 0xa5) [
  | inl first ↦ elim (cases_eq (get_or c (S + 6) 0) 0xa5) [
    | inl second ↦ elim (one_is_next (generation_at c 0) (generation_at c (S + 6)) (store.first first).generation (store.second second).generation (store.differ first second)) [
      | inl next ↦ (payload_at c (S + 6), record { store = store; slot = S + 6; other = 0; slots = inr (refl, refl); newest = record { is_open = second; next = λ _. next }; payload_is = refl })
      | inr next ↦ (payload_at c 0, record { store = store; slot = 0; other = S + 6; slots = inl (refl, refl); newest = record { is_open = first; next = λ _. next }; payload_is = refl })
    ]
    | inr shut ↦ (payload_at c 0, record { store = store; slot = 0; other = S + 6; slots = inl (refl, refl); newest = record { is_open = first; next = λ is. absurd (shut is) }; payload_is = refl })
  ]
  | inr shut ↦
      let second : IsOpen c (S + 6) = elim store.some_open [ inl is ↦ absurd (shut is) | inr is ↦ is ] in
      (payload_at c (S + 6), record { store = store; slot = S + 6; other = 0; slots = inr (refl, refl); newest = record { is_open = second; next = λ is. absurd (shut is) }; payload_is = refl })
]

-- before anything is written
pub as_begun : (S : ℕ) (payload : List ℕ) (m : Meaning) → AllStores S m → (i : Image) → m.leaves m.now i → OpensAsBegun S payload m i
as_begun S payload m stores i left = let is = store_opens S i (stores i left) in record { opened = is.0; opens = is.1; is = inl (i, left, is.1) }

pub settled_moments : {T E : Type 0} (r : Result T E) (S : ℕ) (payload : List ℕ) (a b : Meaning) → AllStores S a → Settled r a b → During a b (OpensAsBegun S payload a)
settled_moments r S payload a b stores settled u i from to left = as_begun S payload a stores i (settled.during u i from to left)

pub settled_pages : {T E : Type 0} (r : Result T E) (S : ℕ) (payload : List ℕ) (a b : Meaning) → IsTrue a.tells_syncs → Settled r a b → SinceSync a b (KeepsEqualPages S payload a.content)
settled_pages r S payload a b told_syncs settled u i from to more left slot other slots newest =
    subst (λ (c : Image). KeepsPages (other + 6) payload a.content c) (sym (settled.since told_syncs u i from to more left)) (λ q has. has)

module _ (S slot other : ℕ) (small : S ≤ LARGEST_SLOT) (slots : AreSlots S slot other) (payload : List ℕ) (a b c : Meaning) (told : IsTrue a.tells) (stores : AllStores S a) (left : a.leaves a.now a.content) (same : b.content ≡ a.content) (newest : IsNewest a.content slot other)
    (one : Elapses a b) (two : Elapses b c) (during : During b c (λ i. Stays S slot other payload b.content i ⊎ Saved S slot other payload i)) where
  begun : Stands S a.content slot other
  begun = store_stands S a.content slot other slots (stores a.content left) newest

  opens_begun : Opens S a.content (payload_at a.content slot)
  opens_begun = stands_opens S a.content slot other (payload_at a.content slot) small slots begun refl

  stays_begun : (i : Image) → Stays S slot other payload b.content i → OpensAsBegun S payload a i
  stays_begun i stays = record {
    opened = payload_at a.content slot;
    opens = stands_opens S i slot other (payload_at a.content slot) small slots stays.stands (stays.payload_is ∙ ap (λ (d : Image). payload_at d slot) same);
    is = inl (a.content, left, opens_begun);
  }

  pub saved_opens : (i : Image) → Saved S slot other payload i → Opens S i payload
  saved_opens i saved = stands_opens S i other slot payload small (other_way S slot other slots) saved.stands saved.payload_is

  in_writing : During b c (OpensAsBegun S payload a)
  in_writing = weaker b c (λ i. Stays S slot other payload b.content i ⊎ Saved S slot other payload i) (OpensAsBegun S payload a)
      (λ i is. elim is [ inl stays ↦ stays_begun i stays | inr saved ↦ record { opened = payload; opens = saved_opens i saved; is = inr refl } ]) during

  pub save_moments : During a b (a.leaves a.now) → During a c (OpensAsBegun S payload a)
  save_moments first = then_during a b c (OpensAsBegun S payload a) told one two (λ u i from to at. as_begun S payload a stores i (first u i from to at)) in_writing

  -- the slot that is written is the other one, whoever names it
  equal_pages : (i : Image) → KeepsPages (other + 6) payload a.content i → KeepsEqualPages S payload a.content i
  equal_pages i keeps x y xy is_newest =
      let is = newest_is_one S a.content slot other x y begun slots xy is_newest in
      subst (λ (n : ℕ). KeepsPages (n + 6) payload a.content i) (sym is.1) keeps

  -- a slot with the payload has each of its pages
  saved_pages : (i : Image) → Saved S slot other payload i → KeepsPages (other + 6) payload a.content i
  saved_pages i saved q has k first last small_k = payload_byte i other payload saved.payload_is k small_k

  pub save_pages : IsTrue a.tells_syncs → SinceSync a b (KeepsEqualPages S payload a.content) → SinceSync a c (KeepsEqualPages S payload a.content)
  save_pages told_syncs first = then_since a b c (KeepsEqualPages S payload a.content) told told_syncs one two first
      (weaker b c (λ i. Stays S slot other payload b.content i ⊎ Saved S slot other payload i) (KeepsEqualPages S payload a.content)
      (λ i is. elim is [
        | inl stays ↦ equal_pages i (subst (λ (d : Image). KeepsPages (other + 6) payload d i) same stays.pages)
        | inr saved ↦ equal_pages i (saved_pages i saved)
      ]) during)

  pub save_done : {T E : Type 0} (r : Result T E) → OnOk r (IsSaved S slot other payload c) → OnOk r (AllOpen S payload c)
  save_done (Ok x) is = λ i at. subst (λ (d : Image). Opens S d payload) (sym (is.rests i at)) (saved_opens c.content is.saved)
  save_done (Err e) is = is

pub begun_store : (S : ℕ) (payload : List ℕ) (m : Meaning) (i : Image) → OpensAsBegun S payload m i → IsStore S i
begun_store S payload m i is = is.opens.store

-- where nothing is asked of the disk
pub untouched_moments : (S : ℕ) (payload : List ℕ) (m : Meaning) → AllStores S m → During m m (OpensAsBegun S payload m)
untouched_moments S payload m stores u i from to left = as_begun S payload m stores i (now_alone m u i from to left)

-- with the mark that ends a save
pub acknowledged_moments : (S : ℕ) (payload : List ℕ) (a b c : Meaning) → IsTrue a.tells → Elapses a b → Elapses b c → During a b (OpensAsBegun S payload a) → Keeps b c → During a c (OpensAsBegun S payload a)
acknowledged_moments S payload a b c told one two first keeps = then_during a b c (OpensAsBegun S payload a) told one two first (λ u i from to left. at_end a b (OpensAsBegun S payload a) one first i (keeps.during u i from to left))

pub acknowledged_all : (S : ℕ) (payload : List ℕ) (b c : Meaning) → Elapses b c → AllOpen S payload b → Keeps b c → AllOpen S payload c
acknowledged_all S payload b c time all keeps i left = all i (keeps.during c.now i time.later (omega arith) left)
