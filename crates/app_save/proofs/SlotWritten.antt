-- The bytes that a save writes, from what was settled to what it leaves.
use Rattle.std.proofs.Common.{◌≡◌, inl, inr, ◌+◌, ◌*◌, ◌%◌, ◌<◌, ◌≤◌, ◌++◌, ◌∷◌, [], ℕ, List, length, get_or, IsTrue, sym, ◌∙◌, ap, subst, arith, length-append, Result, Ok, Err, OnOk}
use Rattle.disk_model.specs.Disk.{Image, Meaning, Elapses, During, Torn, IsTorn, Holds, Keeps, Rests}
use Rattle.disk_model.specs.Written.{written}
use Rattle.app_save.specs.Store.{IsOpen, AreSlots, IsNewest, generation_at}
use Rattle.app_save.specs.Bytes.{header_bytes, slot_bytes}
use Rattle.app_save.specs.Saving.{AllStores, SinceSync, TouchesSlot, WritesSlot, Renews, ClosesFirst, ClosesSlot}
use Rattle.app_save.specs.Stages.{Stands, IsSaved, Settled}
use Rattle.app_save.proofs.Moments.{then_since, torn_self, weaker, no_time}
use Rattle.app_save.proofs.Newest.{store_stands, newest_is_one}
use Rattle.app_save.proofs.Ranges.{holds_both, holds_still, is_written, during_none}
use Rattle.app_save.proofs.Closing.{closes_none, none_torn, closes_later, closes_kept}

-- before anything is written
touches_none : (S : ℕ) (payload : List ℕ) (file i : Image) → i ≡ file → TouchesSlot S payload file i
touches_none S payload file i same slot other slots newest = subst (λ (c : Image). Torn other (6 + length payload) file c) (sym same) (torn_self other (6 + length payload) file)

pub settled_touches : {T E : Type 0} (r : Result T E) (S : ℕ) (payload : List ℕ) (a b : Meaning) → IsTrue a.tells_syncs → Settled r a b → SinceSync a b (TouchesSlot S payload a.content)
settled_touches r S payload a b told_syncs settled u i from to more left = touches_none S payload a.content i (settled.since told_syncs u i from to more left)

pub settled_closes : {T E : Type 0} (r : Result T E) (S : ℕ) (payload : List ℕ) (a b : Meaning) → Elapses a b → Settled r a b → ClosesSlot S payload a b
settled_closes r S payload a b time settled slot other slots newest is_open =
    let behind = header_bytes ((generation_at a.content slot + 1) % 3) (length payload) ++ payload in
    closes_none other behind a b time (none_torn other behind a b settled.during)

-- header and payload behind the gate, and the gate
filled_bytes : (other generation : ℕ) (payload header : List ℕ) (d c : Image) → header ≡ header_bytes generation (length payload) → other + 6 + length payload ≤ length d → ((i : ℕ) → i < length payload → get_or d (other + 6 + i) 0 ≡ get_or payload i 0) → Torn (other + 1) (length header) d c → Holds (other + 1) header c
    → Holds (other + 1) (header_bytes generation (length payload) ++ payload) c
filled_bytes other generation payload header d c is room there torn holds =
    holds_both (other + 1) (other + 6) (header_bytes generation (length payload)) payload c (omega arith)
    (subst (λ (l : List ℕ). Holds (other + 1) l c) is holds)
    (holds_still (other + 6) payload (other + 1) (length header) d c (record { room = room; bytes_are = there }) torn (let five : length header ≡ 5 = ap length is in inr (omega (arith, five))))

opened_bytes : (other generation : ℕ) (payload : List ℕ) (d c : Image) → Holds (other + 1) (header_bytes generation (length payload) ++ payload) d → Torn other 1 d c → Holds other (0xa5 ∷ []) c → Holds other (slot_bytes 0xa5 generation payload) c
opened_bytes other generation payload d c behind torn gate =
    holds_both other (other + 1) (0xa5 ∷ []) (header_bytes generation (length payload) ++ payload) c (omega arith) gate
    (holds_still (other + 1) (header_bytes generation (length payload) ++ payload) other 1 d c behind torn (inr (omega arith)))

pub filled_done : {T E : Type 0} (r : Result T E) (S slot other : ℕ) → AreSlots S slot other → (generation : ℕ) (payload : List ℕ) → length payload ≤ S → (header : List ℕ) (d c : Image) → header ≡ header_bytes generation (length payload) → length d ≡ 2 * (S + 6) → ((i : ℕ) → i < length payload → get_or d (other + 6 + i) 0 ≡ get_or payload i 0)
    → OnOk r (Torn (other + 1) (length header) d c) → OnOk r (Holds (other + 1) header c) → OnOk r (Holds (other + 1) (header_bytes generation (length payload) ++ payload) c)
filled_done (Ok done) S slot other slots generation payload fits header d c is size there torn holds =
    let room : other + 6 + length payload ≤ length d = elim slots [ inl at ↦ omega (arith, at.1, size, fits) | inr at ↦ omega (arith, at.1, size, fits) ] in
    filled_bytes other generation payload header d c is room there torn holds
filled_done (Err refused) S slot other slots generation payload fits header d c is size there torn holds = tt

pub opened_done : {T E : Type 0} (r : Result T E) (other generation : ℕ) (payload : List ℕ) (d c : Image) → Holds (other + 1) (header_bytes generation (length payload) ++ payload) d → OnOk r (Torn other 1 d c) → OnOk r (Holds other (0xa5 ∷ []) c) → OnOk r (Holds other (slot_bytes 0xa5 generation payload) c)
opened_done (Ok done) other generation payload d c behind torn gate = opened_bytes other generation payload d c behind torn gate
opened_done (Err refused) other generation payload d c behind torn gate = tt

module _ (S slot other : ℕ) (slots : AreSlots S slot other) (payload : List ℕ) (fits : length payload ≤ S) (a b c : Meaning) (told : IsTrue a.tells) (stores : AllStores S a) (left : a.leaves a.now a.content) (same : b.content ≡ a.content) (rests : Rests b) (newest : IsNewest a.content slot other)
    (one : Elapses a b) (two : Elapses b c) (during : During b c (IsTorn other (6 + length payload) b)) where
  begun : Stands S a.content slot other
  begun = store_stands S a.content slot other slots (stores a.content left) newest

  in_range : During b c (λ i. Torn other (6 + length payload) a.content i)
  in_range u i from to at = let was = during u i from to at in subst (λ (d : Image). Torn other (6 + length payload) d i) (rests was.0 was.1 ∙ same) was.2

  -- the slot that is written is the other one, whoever names it
  touched : (i : Image) → Torn other (6 + length payload) a.content i → TouchesSlot S payload a.content i
  touched i torn x y xy is_newest =
      let is = newest_is_one S a.content slot other x y begun slots xy is_newest in
      subst (λ (n : ℕ). Torn n (6 + length payload) a.content i) (sym is.1) torn

  pub save_touches : IsTrue a.tells_syncs → SinceSync a b (TouchesSlot S payload a.content) → SinceSync a c (TouchesSlot S payload a.content)
  save_touches told_syncs first = then_since a b c (TouchesSlot S payload a.content) told told_syncs one two first
      (weaker b c (λ i. Torn other (6 + length payload) a.content i) (TouchesSlot S payload a.content) touched in_range)

  pub save_closes : During a b (a.leaves a.now) → (generation : ℕ) → generation ≡ (generation_at a.content slot + 1) % 3
      → (IsOpen b.content other → ClosesFirst other (header_bytes generation (length payload) ++ payload) b c) → ClosesSlot S payload a c
  save_closes keeps generation next closes x y xy is_newest is_open =
      let is = newest_is_one S a.content slot other x y begun slots xy is_newest in
      let open_b : IsOpen b.content other = subst (λ (n : ℕ). IsOpen b.content n) is.1 (subst (λ (i : Image). IsOpen i y) (sym same) is_open) in
      subst (λ (n : ℕ). ClosesFirst n (header_bytes ((generation_at a.content x + 1) % 3) (length payload) ++ payload) a c) (sym is.1)
      (subst (λ (n : ℕ). ClosesFirst other (header_bytes n (length payload) ++ payload) a c) (next ∙ ap (λ (n : ℕ). (generation_at a.content n + 1) % 3) (sym is.0))
      (closes_later other (header_bytes generation (length payload) ++ payload) a b c told one two keeps (closes open_b)))

  room : other + (6 + length payload) ≤ length a.content
  room = let size = begun.size in elim slots [ inl is ↦ omega (arith, is.1, size, fits) | inr is ↦ omega (arith, is.1, size, fits) ]

  module _ (generation : ℕ) (next : generation ≡ (generation_at a.content slot + 1) % 3) (left_c : c.leaves c.now c.content) where
    now_is : Holds other (slot_bytes 0xa5 generation payload) c.content → c.content ≡ written a.content other (slot_bytes 0xa5 ((generation_at a.content slot + 1) % 3) payload)
    now_is holds =
        is_written other (6 + length payload) (slot_bytes 0xa5 generation payload) a.content c.content
        (let l = length-append (header_bytes generation (length payload)) payload in omega (arith, l)) room (in_range c.now c.content two.later (omega arith) left_c) holds
        ∙ ap (λ (n : ℕ). written a.content other (slot_bytes 0xa5 n payload)) next

    pub save_writes : {T E : Type 0} (r : Result T E) → OnOk r (IsSaved S slot other payload c) → OnOk r (Holds other (slot_bytes 0xa5 generation payload) c.content) → OnOk r (WritesSlot S payload a.content c)
    save_writes (Ok done) saved holds = λ x y xy is_newest i at.
        let is = newest_is_one S a.content slot other x y begun slots xy is_newest in
        saved.rests i at ∙ now_is holds
        ∙ ap (λ (n : ℕ). written a.content n (slot_bytes 0xa5 ((generation_at a.content slot + 1) % 3) payload)) (sym is.1)
        ∙ ap (λ (n : ℕ). written a.content y (slot_bytes 0xa5 ((generation_at a.content n + 1) % 3) payload)) (sym is.0)
    save_writes (Err refused) saved holds = tt

    pub save_renews : {T E : Type 0} (r : Result T E) → OnOk r (IsSaved S slot other payload c) → OnOk r (Holds other (slot_bytes 0xa5 generation payload) c.content) → OnOk r (Renews S a.content c)
    save_renews (Ok done) saved holds = λ x y xy is_newest i at.
        let is = newest_is_one S a.content slot other x y begun slots xy is_newest in
        let here = saved.rests i at in (
          subst (λ (d : Image). IsNewest d y x) (sym here) (subst (λ (n : ℕ). IsNewest c.content y n) (sym is.0) (subst (λ (n : ℕ). IsNewest c.content n slot) (sym is.1) saved.saved.stands.newest)),
          ap (λ (d : Image). generation_at d y) here ∙ ap (λ (n : ℕ). generation_at c.content n) is.1 ∙ holds.bytes_are 5 (let l = length-append (header_bytes generation (length payload)) payload in omega (arith, l))
              ∙ next ∙ ap (λ (n : ℕ). (generation_at a.content n + 1) % 3) (sym is.0),
        )
    save_renews (Err refused) saved holds = tt

-- with the mark that ends a save
pub written_kept : (S : ℕ) (payload : List ℕ) (file : Image) (b c : Meaning) → Elapses b c → Keeps b c → WritesSlot S payload file b → WritesSlot S payload file c
written_kept S payload file b c time keeps writes slot other slots newest i left = writes slot other slots newest i (keeps.during c.now i time.later (omega arith) left)

pub closes_untouched : (S : ℕ) (payload : List ℕ) (a : Meaning) → ClosesSlot S payload a a
closes_untouched S payload a slot other slots newest is_open =
    closes_none other (header_bytes ((generation_at a.content slot + 1) % 3) (length payload) ++ payload) a a (no_time a) (during_none other 1 a)

pub closes_acknowledged : (S : ℕ) (payload : List ℕ) (a b c : Meaning) → IsTrue a.tells → Elapses a b → Elapses b c → Keeps b c → ClosesSlot S payload a b → ClosesSlot S payload a c
closes_acknowledged S payload a b c told one two keeps closes slot other slots newest is_open =
    closes_kept other (header_bytes ((generation_at a.content slot + 1) % 3) (length payload) ++ payload) a b c told one two (closes slot other slots newest is_open) keeps

pub renews_kept : (S : ℕ) (file : Image) (b c : Meaning) → Elapses b c → Keeps b c → Renews S file b → Renews S file c
renews_kept S file b c time keeps renews slot other slots newest i left = renews slot other slots newest i (keeps.during c.now i time.later (omega arith) left)
