-- The stages of a save, each by what its calls leave.
use Rattle.std.proofs.Common.{◌≡◌, ◌⊎◌, inl, inr, ◌+◌, ◌*◌, ◌%◌, ◌<◌, ◌≤◌, ℕ, List, [], ◌∷◌, length, get_or, IsTrue, refl, sym, ◌∙◌, ap, subst, arith, Result, Ok, Err, OnOk}
use Rattle.std.proofs.lemmas.Bool.{cases_eq}
use Rattle.disk_model.specs.Disk.{Image, Meaning, Elapses, During, Torn, IsTorn, Holds, Rests}
use Rattle.app_save.specs.Store.{IsOpen, IsStore, IsNewest, AreSlots, length_at, generation_at}
use Rattle.app_save.specs.Stages.{Stands, Stays, Closed, Filled, Saved, IsClosed, IsFilled, IsSaved, Lands}
use Rattle.app_save.proofs.Bytes.{held_part}
use Rattle.app_save.proofs.Moments.{then_during, weaker, at_end, now_alone}
use Rattle.app_save.proofs.Newest.{store_stands}
use Rattle.app_save.proofs.Torn.{closing, opening, unopened, behind_gate, before_payload}

pub stays_chain : (S slot other : ℕ) (payload : List ℕ) (file d c : Image) → Stays S slot other payload file d → Stays S slot other payload d c → Stays S slot other payload file c
stays_chain S slot other payload file d c one two = record {
  stands = two.stands;
  generation = two.generation ∙ one.generation;
  payload_is = two.payload_is ∙ one.payload_is;
  pages = λ q has. two.pages q (one.pages q has);
}

stays_self : (S slot other : ℕ) (payload : List ℕ) (c : Image) → Stands S c slot other → Stays S slot other payload c c
stays_self S slot other payload c stands = record { stands = stands; generation = refl; payload_is = refl; pages = λ q has. has }

closed_self : (S slot other : ℕ) (payload : List ℕ) (file c : Image) → Closed S slot other payload file c → Closed S slot other payload c c
closed_self S slot other payload file c closed = record { stays = stays_self S slot other payload c closed.stays.stands; shut = closed.shut }

pub closed_again : (S slot other : ℕ) (payload : List ℕ) (file : Image) (m : Meaning) → IsClosed S slot other payload file m → IsClosed S slot other payload m.content m
closed_again S slot other payload file m is = record { rests = is.rests; closed = closed_self S slot other payload file m.content is.closed }

pub filled_again : (S slot other : ℕ) (payload : List ℕ) (file : Image) (m : Meaning) → IsFilled S slot other payload file m → IsFilled S slot other payload m.content m
filled_again S slot other payload file m is = record { rests = is.rests; closed = closed_self S slot other payload file m.content is.closed; filled = is.filled }

ok_all : {T E P Q R V : Type 0} (r : Result T E) → (P → Q → R → V) → OnOk r P → OnOk r Q → OnOk r R → OnOk r V
ok_all (Ok x) f p q w = f p q w
ok_all (Err e) f p q w = tt

module _ (S slot other : ℕ) (slots : AreSlots S slot other) (payload : List ℕ) (fits : length payload ≤ S) (a b : Meaning) where
  -- where nothing waits for a sync a write tears the content alone
  torn_now : Rests a → (at n : ℕ) (i : Image) → IsTorn at n a i → Torn at n a.content i
  torn_now rests at n i torn = subst (λ (d : Image). Torn at n d i) (rests torn.0 torn.1) torn.2

  module _ (rests : Rests a) (store : IsStore S a.content) (newest : IsNewest a.content slot other) where
    stands : Stands S a.content slot other
    stands = store_stands S a.content slot other slots store newest

    -- closing the gate that is open
    pub closing_during : {T E : Type 0} (r : Result T E) → IsOpen a.content other → Lands other (0 ∷ []) r a b → During a b (Stays S slot other payload a.content)
    closing_during r was_open lands u i from to left = closing S slot other slots a.content i store.size (torn_now rests other 1 i (lands.during u i from to left)) payload fits stands was_open

    pub closing_done : {T E : Type 0} (r : Result T E) → IsOpen a.content other → Lands other (0 ∷ []) r a b → OnOk r (IsClosed S slot other payload a.content b)
    closing_done r was_open lands = ok_all r (λ torn holds still. record {
      rests = still;
      closed = record {
        stays = closing S slot other slots a.content b.content store.size torn payload fits stands was_open;
        shut = λ is_open. let zero : get_or b.content other 0 ≡ 0 = ap (λ (n : ℕ). get_or b.content n 0) (let e : other ≡ other + 0 = omega arith in e) ∙ holds.bytes_are 0 (omega arith) in absurd (omega (arith, is_open, zero));
      };
    }) lands.torn lands.holds lands.rests

    -- and where it is closed already
    pub closed_during : During a a (Stays S slot other payload a.content)
    closed_during u i from to left = subst (Stays S slot other payload a.content) (sym (rests i (now_alone a u i from to left))) (stays_self S slot other payload a.content stands)

    pub closed_already : (IsOpen a.content other → ⊥) → IsClosed S slot other payload a.content a
    closed_already shut = record { rests = rests; closed = record { stays = stays_self S slot other payload a.content stands; shut = shut } }

  -- opening the gate of the slot that is filled
  module _ {T E : Type 0} (r : Result T E) (filled : IsFilled S slot other payload a.content a) (lands : Lands other (0xa5 ∷ []) r a b) where
    opened : (i : Image) → Torn other 1 a.content i → Stays S slot other payload a.content i ⊎ Saved S slot other payload i
    opened i torn = elim (cases_eq (get_or i other 0) 0xa5) [
      | inl is_open ↦ inr (opening S slot other slots a.content i filled.closed.stays.stands.size torn payload a.content filled.closed filled.filled is_open)
      | inr shut ↦ inl (unopened S slot other slots a.content i filled.closed.stays.stands.size torn payload a.content fits filled.closed shut)
    ]

    pub opening_during : During a b (λ i. Stays S slot other payload a.content i ⊎ Saved S slot other payload i)
    opening_during u i from to left = opened i (torn_now filled.rests other 1 i (lands.during u i from to left))

    pub opening_done : OnOk r (IsSaved S slot other payload b)
    opening_done = ok_all r (λ torn holds still. record {
      rests = still;
      saved =
          let is_open : get_or b.content other 0 ≡ 0xa5 = ap (λ (n : ℕ). get_or b.content n 0) (let e : other ≡ other + 0 = omega arith in e) ∙ holds.bytes_are 0 (omega arith) in
          opening S slot other slots a.content b.content filled.closed.stays.stands.size torn payload a.content filled.closed filled.filled is_open;
    }) lands.torn lands.holds lands.rests

-- the pages, and then length and generation
module _ (S slot other : ℕ) (slots : AreSlots S slot other) (payload : List ℕ) (fits : length payload ≤ S) (a b c : Meaning) (header : List ℕ) (five : length header ≡ 5) {T E : Type 0} (r : Result T E)
    (told : IsTrue a.tells) (one : Elapses a b) (two : Elapses b c) (pages : During a b (Closed S slot other payload a.content)) (lands : Lands (other + 1) header r b c) where
  header_closed : (d i : Image) → Closed S slot other payload a.content d → Torn (other + 1) (length header) d i → Closed S slot other payload a.content i
  header_closed d i closed torn =
      let to : other + 1 + length header ≤ other + S + 6 = omega (arith, five) in
      behind_gate S slot other slots payload a.content (other + 1) (length header) d i (omega arith) to torn closed
      (before_payload S slot other slots payload a.content (other + 1) (length header) d i (omega arith) to torn closed (omega (arith, five)) fits)

  pub filling_during : During a c (Closed S slot other payload a.content)
  filling_during = then_during a b c (Closed S slot other payload a.content) told one two pages
      (λ u i from to left. let was = lands.during u i from to left in header_closed was.0 i (at_end a b (Closed S slot other payload a.content) one pages was.0 was.1) was.2)

  module _ (closed : Closed S slot other payload a.content b.content) (written : (i : ℕ) → i < length payload → get_or b.content (other + 6 + i) 0 ≡ get_or payload i 0)
      (len : 16777216 * get_or header 0 0 + 65536 * get_or header 1 0 + 256 * get_or header 2 0 + get_or header 3 0 ≡ length payload) (generation : get_or header 4 0 ≡ (generation_at a.content slot + 1) % 3) where
    filled_by : (i : Image) → Closed S slot other payload a.content i → Torn (other + 1) (length header) b.content i → Holds (other + 1) header i → Filled S slot other payload i
    filled_by i now torn holds = record {
      fits = fits;
      generation = byte 4 (omega arith) ∙ generation ∙ ap (λ (n : ℕ). (n + 1) % 3) (sym now.stays.generation);
      length_is = length_now;
      payload_is = held_part i (other + 6) (length_at i other) payload length_now (let size = now.stays.stands.size in elim slots [ inl is ↦ omega (arith, is.1, size, length_now, fits) | inr is ↦ omega (arith, is.1, size, length_now, fits) ])
          (λ k small. torn.same (other + 6 + k) (inr (omega (arith, five))) (let size = closed.stays.stands.size in elim slots [ inl is ↦ omega (arith, is.1, size, small, fits) | inr is ↦ omega (arith, is.1, size, small, fits) ]) ∙ written k small);
    }
      where
        byte : (k : ℕ) → k < 5 → get_or i (other + (1 + k)) 0 ≡ get_or header k 0
        byte k small = ap (λ (n : ℕ). get_or i n 0) (let e : other + (1 + k) ≡ other + 1 + k = omega arith in e) ∙ holds.bytes_are k (omega (arith, small, five))

        length_now : length_at i other ≡ length payload
        length_now = let b0 = byte 0 (omega arith) in let b1 = byte 1 (omega arith) in let b2 = byte 2 (omega arith) in let b3 = byte 3 (omega arith) in omega (arith, b0, b1, b2, b3, len)

    pub filling_done : OnOk r (IsFilled S slot other payload a.content c)
    filling_done = ok_all r (λ torn holds still.
        let now = header_closed b.content c.content closed torn in
        record { rests = still; closed = now; filled = filled_by c.content now torn holds }) lands.torn lands.holds lands.rests

-- one stage behind another
module _ (S slot other : ℕ) (payload : List ℕ) (file : Image) where
  abbrev Throughout : Image → Type 0
  Throughout i = Stays S slot other payload file i ⊎ Saved S slot other payload i

  pub throughout_first : (a b : Meaning) → During a b (Stays S slot other payload file) → During a b Throughout
  throughout_first a b = weaker a b (Stays S slot other payload file) Throughout (λ i is. inl is)

  pub throughout_closed : (a b c : Meaning) → IsTrue a.tells → Elapses a b → Elapses b c → During a b (Stays S slot other payload file) → IsClosed S slot other payload file b → During b c (Closed S slot other payload b.content) → During a c Throughout
  throughout_closed a b c told one two first closed second = then_during a b c Throughout told one two (throughout_first a b first)
      (weaker b c (Closed S slot other payload b.content) Throughout (λ i is. inl (stays_chain S slot other payload file b.content i closed.closed.stays is.stays)) second)

  pub throughout_all : (a b c d : Meaning) → IsTrue a.tells → Elapses a b → Elapses b c → Elapses a c → Elapses c d → During a c Throughout → IsClosed S slot other payload file b → IsFilled S slot other payload b.content c
      → During c d (λ i. Stays S slot other payload c.content i ⊎ Saved S slot other payload i) → During a d Throughout
  throughout_all a b c d told one two both three first closed filled second = then_during a c d Throughout told both three first
      (weaker c d (λ i. Stays S slot other payload c.content i ⊎ Saved S slot other payload i) Throughout
      (λ i is. elim is [
        | inl stays ↦ inl (stays_chain S slot other payload file c.content i (stays_chain S slot other payload file b.content c.content closed.closed.stays filled.closed.stays) stays)
        | inr saved ↦ inr saved
      ]) second)
