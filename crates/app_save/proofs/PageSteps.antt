-- A save by pages, one page further.
use Rattle.std.proofs.Common.{◌≡◌, ◌≢◌, ◌⊎◌, inl, inr, ◌+◌, ◌*◌, ◌-◌, ◌/◌, ◌<◌, ◌≤◌, min, ℕ, IsTrue, List, length, take, drop, get_or, get_or-take, get_or-drop, refl, sym, ◌∙◌, ap, subst, arith, length-drop, Result}
use Rattle.std.proofs.lemmas.Bool.{cases_lt, cases_eq}
use Rattle.std.proofs.lemmas.List.{length-take-le}
use Rattle.disk_model.specs.Disk.{Image, Meaning, Elapses, During, Torn, IsTorn, Holds, Writes}
use Rattle.app_save.specs.Store.{AreSlots}
use Rattle.app_save.specs.Saving.{HasPage}
use Rattle.app_save.specs.Stages.{Closed, IsClosed}
use Rattle.app_save.proofs.Moments.{then_during, at_end, now_alone}
use Rattle.app_save.proofs.Torn.{behind_gate}
use Rattle.app_save.proofs.Ranges.{then_range, during_wider}

-- after q pages
pub record SoFar (S slot other : ℕ) (payload : List ℕ) (q : ℕ) (start now : Meaning) : Type 0 where
  pub during : During start now (Closed S slot other payload start.content)
  pub done : (i : ℕ) → i < 512 * q → i < length payload → get_or now.content (other + 6 + i) 0 ≡ get_or payload i 0
  pub rest : (i : ℕ) → 512 * q ≤ i → i < length payload → get_or now.content (other + 6 + i) 0 ≡ get_or start.content (other + 6 + i) 0

pub so_far_none : (S slot other : ℕ) (payload : List ℕ) (a : Meaning) → IsClosed S slot other payload a.content a → SoFar S slot other payload 0 a a
so_far_none S slot other payload a is = record {
  during = λ u i from to left. subst (Closed S slot other payload a.content) (sym (is.rests i (now_alone a u i from to left))) is.closed;
  done = λ i none small. absurd (omega (arith, none));
  rest = λ i le small. refl;
}

-- page q of the payload
module _ (payload : List ℕ) (q end : ℕ) (below : 512 * q < length payload) (is_end : end ≡ min (512 * q + 512) (length payload)) where
  abbrev page : List ℕ
  page = take (end - 512 * q) (drop (512 * q) payload)

  pub page_size : length (take (end - 512 * q) (drop (512 * q) payload)) ≡ min 512 (length payload - 512 * q)
  page_size =
      let whole = length-drop (512 * q) payload in
      let size = length-take-le (end - 512 * q) (drop (512 * q) payload) (grind (arith, whole, is_end, below)) in
      grind (arith, size, is_end, below)

  pub page_bytes : (i : ℕ) → i < length (take (end - 512 * q) (drop (512 * q) payload)) → get_or (take (end - 512 * q) (drop (512 * q) payload)) i 0 ≡ get_or payload (512 * q + i) 0
  page_bytes i small =
      get_or-take (end - 512 * q) (drop (512 * q) payload) i 0 (grind (arith, page_size, small, is_end, below)) ∙ get_or-drop (512 * q) payload i 0

module _ (S slot other : ℕ) (slots : AreSlots S slot other) (payload : List ℕ) (fits : length payload ≤ S) (q : ℕ) (page : List ℕ) (below : 512 * q < length payload) (size : length page ≡ min 512 (length payload - 512 * q))
    (page_is : (i : ℕ) → i < length page → get_or page i 0 ≡ get_or payload (512 * q + i) 0) (a m n : Meaning) (told : IsTrue a.tells) (one : Elapses a m) (two : Elapses m n) (so_far : SoFar S slot other payload q a m) (left_m : m.leaves m.now m.content) where
  short : length page ≤ 512
  short = grind (arith, size)

  within : 512 * q + length page ≤ length payload
  within = grind (arith, size, below)

  covers : (i : ℕ) → 512 * q ≤ i → i < 512 * q + 512 → i < length payload → i < 512 * q + length page
  covers i low high small = grind (arith, size, low, high, small)

  inside : (i : ℕ) → i < length payload → other + 6 + i < 2 * (S + 6)
  inside i small = elim slots [ inl is ↦ omega (arith, is.1, small, fits) | inr is ↦ omega (arith, is.1, small, fits) ]

  now_closed : Closed S slot other payload a.content m.content
  now_closed = at_end a m (Closed S slot other payload a.content) one so_far.during m.content left_m

  -- the page lies in the file
  pub page_inside : other + 6 + 512 * q + length page ≤ length m.content
  page_inside = let long = now_closed.stays.stands.size in elim slots [ inl is ↦ omega (arith, is.1, within, fits, long) | inr is ↦ omega (arith, is.1, within, fits, long) ]

  module _ {T E : Type 0} (r : Result T E) (writes : Writes (other + 6 + 512 * q) page r m n) (equal : Holds (other + 6 + 512 * q) page m.content → During m n (m.leaves m.now)) where
    -- bytes of the payload outside the page stay
    outside : (d c : Image) → length d ≡ 2 * (S + 6) → Torn (other + 6 + 512 * q) (length page) d c → (i : ℕ) → (i < 512 * q) ⊎ (512 * q + length page ≤ i) → i < length payload → get_or c (other + 6 + i) 0 ≡ get_or d (other + 6 + i) 0
    outside d c long torn i out small = elim out [
      | inl low ↦ torn.same (other + 6 + i) (inl (omega (arith, low))) (let room = inside i small in omega (arith, room, long))
      | inr high ↦ torn.same (other + 6 + i) (inr (omega (arith, high))) (let room = inside i small in omega (arith, room, long))
    ]

    -- a page that the file has already is there when this step begins
    held : HasPage (other + 6) payload a.content q → Holds (other + 6 + 512 * q) page m.content
    held has = record {
      room = page_inside;
      bytes_are = λ i small.
          ap (λ (k : ℕ). get_or m.content k 0) (let e : other + 6 + 512 * q + i ≡ other + 6 + (512 * q + i) = omega arith in e)
          ∙ so_far.rest (512 * q + i) (omega arith) (omega (arith, small, within))
          ∙ has (512 * q + i) (omega arith) (omega (arith, small, short)) (omega (arith, small, within))
          ∙ sym (page_is i small);
    }

    other_page : (p i : ℕ) → 512 * p ≤ i → i < 512 * p + 512 → p ≢ q → (i < 512 * q) ⊎ (512 * q + length page ≤ i)
    other_page p i low high differ = elim (cases_lt i (512 * q)) [
      | inl before ↦ inl before
      | inr from ↦ elim (cases_lt i (512 * q + length page)) [
        | inl within_it ↦ absurd (differ (omega (arith, low, high, from, within_it, short)))
        | inr behind ↦ inr behind
      ]
    ]

    step : During m n (Closed S slot other payload a.content)
    step u c from to left =
        let was = writes.during u c from to left in
        let closed = at_end a m (Closed S slot other payload a.content) one so_far.during was.0 was.1 in
        behind_gate S slot other slots payload a.content (other + 6 + 512 * q) (length page) was.0 c (omega arith) (omega (arith, within, fits)) was.2 closed
        (λ p has. elim (cases_eq p q) [
          | inl same ↦
              let here : HasPage (other + 6) payload a.content q = subst (λ (k : ℕ). HasPage (other + 6) payload a.content k) same has in
              (at_end a m (Closed S slot other payload a.content) one so_far.during c (equal (held here) u c from to left)).stays.pages p has
          | inr differ ↦ λ i low high small. outside was.0 c closed.stays.stands.size was.2 i (other_page p i low high differ) small ∙ closed.stays.pages p has i low high small
        ])

    pub further_during : During a n (Closed S slot other payload a.content)
    further_during = then_during a m n (Closed S slot other payload a.content) told one two so_far.during step

    pub further : Holds (other + 6 + 512 * q) page n.content → SoFar S slot other payload (q + 1) a n
    further holds = record {
      during = further_during;
      done = λ i low small. elim (cases_lt i (512 * q)) [
        | inl before ↦ outside m.content n.content now_closed.stays.stands.size writes.torn i (inl before) small ∙ so_far.done i before small
        | inr from ↦
            let k = covers i from (omega (arith, low)) small in
            ap (λ (j : ℕ). get_or n.content j 0) (let e : other + 6 + i ≡ other + 6 + 512 * q + (i - 512 * q) = omega (arith, from) in e)
            ∙ holds.bytes_are (i - 512 * q) (omega (arith, k, from)) ∙ page_is (i - 512 * q) (omega (arith, k, from))
            ∙ ap (λ (j : ℕ). get_or payload j 0) (let e : 512 * q + (i - 512 * q) ≡ i = omega (arith, from) in e)
      ];
      rest = λ i low small. outside m.content n.content now_closed.stays.stands.size writes.torn i (inr (omega (arith, low, short))) small ∙ so_far.rest i (omega (arith, low)) small;
    }

pub page_below : (q len : ℕ) → q < (len + 511) / 512 → 512 * q < len
page_below q len below = omega (arith, below)

pub all_pages : (len q i : ℕ) → (len + 511) / 512 ≤ q → i < len → i < 512 * q
all_pages len q i le small = omega (arith, le, small)

-- a page is in the range of the payload
pub page_touches : (other : ℕ) (payload : List ℕ) (q : ℕ) (page : List ℕ) → 512 * q < length payload → length page ≡ min 512 (length payload - 512 * q) → (a m n : Meaning) → IsTrue a.tells → Elapses a m → Elapses m n → During a m (IsTorn (other + 6) (length payload) a) → During m n (IsTorn (other + 6 + 512 * q) (length page) m)
    → During a n (IsTorn (other + 6) (length payload) a)
page_touches other payload q page below size a m n told one two first second = then_range (other + 6) (length payload) a m n told one two first
    (during_wider (other + 6 + 512 * q) (length page) (other + 6) (length payload) m n (omega arith) (grind (arith, size, below)) second)
