-- What is found among the places is what is found among the sessions that they hold.
use Rattle.std.proofs.Common.{◌≡◌, ℕ, zero, suc, ◌+◌, ◌-◌, ◌%◌, ◌<◌, ◌≤◌, Bool, true, false, not, cond, eqb, List, [], ◌∷◌, length, set, get_or, refl, sym, ◌∙◌, ap, subst, arith, add-zero, add-one}
use Rattle.std.specs.Prelude.{Option, Some, None, is_some, ◌&&◌, count_by, All, replicate}
use Rattle.std.specs.List.{position_from, sum_by}
use Rattle.std.proofs.lemmas.List.Sums.{sum_by-cons}
use Rattle.std.proofs.lemmas.Bool.{and_left, ne_eqb, cond-true, cond-false, both_ways}
use Rattle.sed_outside.specs.declared.addr.Addr.{Addr}
use Rattle.dasp_session.specs.declared.place.Place.{Place}
use Rattle.dasp_session.specs.Session.{Session}
use Rattle.dasp_session.specs.Looking.{Found, found_from, free_from, is_address, is_session_of, is_waiting_for}
use Rattle.dasp_session.specs.Keeping.{seen, Like, Holds, IsOf, AllHold, is_here, waits_here}

pub same_length : (at : ℕ) (places : List Place) (sessions : List (Option Session)) → AllHold at places sessions → length places ≡ length sessions
same_length at [] [] all = refl
same_length at [] (session ∷ sessions) all = absurd all
same_length at (place ∷ places) [] all = absurd all
same_length at (place ∷ places) (session ∷ sessions) all = ap suc (same_length (suc at) places sessions all.2)

-- what a place holds
pub holds_at : (at : ℕ) (places : List Place) (sessions : List (Option Session)) → AllHold at places sessions → (k : ℕ) (d : Place) → k < length places
    → Holds (get_or places k d) (get_or sessions k None) × IsOf (at + k) (get_or sessions k None)
holds_at at [] [] all k d within = absurd (omega arith)
holds_at at [] (session ∷ sessions) all k d within = absurd all
holds_at at (place ∷ places) [] all k d within = absurd all
holds_at at (place ∷ places) (session ∷ sessions) all zero d within =
    (all.0, subst (λ (n : ℕ). IsOf n session) (sym (add-zero at)) all.1)
holds_at at (place ∷ places) (session ∷ sessions) all (suc k) d within =
    let rest = holds_at (suc at) places sessions all.2 k d (omega arith) in
    let e : suc at + k ≡ at + suc k = omega arith in
    (rest.0, subst (λ (n : ℕ). IsOf n (get_or sessions k None)) e rest.1)

-- another one in it
pub set_at : (at : ℕ) (places : List Place) (sessions : List (Option Session)) → AllHold at places sessions → (k : ℕ) (place : Place) (session : Option Session)
    → Holds place session → IsOf (at + k) session → AllHold at (set places k place) (set sessions k session)
set_at at [] [] all k place session holds is = tt
set_at at [] (first ∷ sessions) all k place session holds is = absurd all
set_at at (first ∷ places) [] all k place session holds is = absurd all
set_at at (first ∷ places) (one ∷ sessions) all zero place session holds is =
    (holds, subst (λ (n : ℕ). IsOf n session) (add-zero at) is, all.2)
set_at at (first ∷ places) (one ∷ sessions) all (suc k) place session holds is =
    let e : at + suc k ≡ suc at + k = omega arith in
    (all.0, all.1, set_at (suc at) places sessions all.2 k place session holds (subst (λ (n : ℕ). IsOf n session) e is))

-- the tests of a place that holds a session, and of one that holds none
here-holds : (id : ℕ) (from : Addr) (place : Place) (session : Session) → Holds place (Some session) → is_here id from place ≡ is_session_of id from session
here-holds id from place session holds =
    ap (λ (b : Bool). b && (eqb place.id id && is_address place.address from)) holds.0 ∙ sym (ap (is_session_of id from) holds.1.same)

here-none : (id : ℕ) (from : Addr) (place : Place) → Holds place None → is_here id from place ≡ false
here-none id from place holds = ap (λ (b : Bool). b && (eqb place.id id && is_address place.address from)) holds

waits-holds : (from : Addr) (remote_id : ℕ) (place : Place) (session : Session) → Holds place (Some session) → waits_here from remote_id place ≡ is_waiting_for from remote_id session
waits-holds from remote_id place session holds =
    ap (λ (b : Bool). b && is_waiting_for from remote_id (seen place session.taken session.posted)) holds.0 ∙ sym (ap (is_waiting_for from remote_id) holds.1.same)

waits-none : (from : Addr) (remote_id : ℕ) (place : Place) → Holds place None → waits_here from remote_id place ≡ false
waits-none from remote_id place holds = ap (λ (b : Bool). b && is_waiting_for from remote_id (seen place [] [])) holds

-- A SESSION BY ITS ID

-- places behind that of the id do not hold it
behind-none : (id : ℕ) (from : Addr) (at : ℕ) (places : List Place) (sessions : List (Option Session)) → AllHold at places sessions → id % 16 < at
    → found_from (is_session_of id from) at sessions ≡ None
behind-none id from at [] [] all less = refl
behind-none id from at [] (session ∷ sessions) all less = absurd all
behind-none id from at (place ∷ places) [] all less = absurd all
behind-none id from at (place ∷ places) (None ∷ sessions) all less = behind-none id from (suc at) places sessions all.2 (omega arith)
behind-none id from at (place ∷ places) (Some session ∷ sessions) all less =
    let of_place : session.id % 16 ≡ at = all.1 in
    let other : eqb session.id id ≡ false = ne_eqb session.id id (λ e. let f : session.id % 16 ≡ id % 16 = ap (λ (n : ℕ). n % 16) e in absurd (omega arith)) in
    cond-false (is_session_of id from session) (Some (record { place = at; session = session })) (found_from (is_session_of id from) (suc at) sessions)
    (and_left (eqb session.id id) (is_address session.address from) other)
    ∙ behind-none id from (suc at) places sessions all.2 (omega arith)

-- what the place of an id, so far behind the first one, holds of it
pub record HoldsId (id : ℕ) (from : Addr) (at k : ℕ) (place : Place) (sessions : List (Option Session)) : Type 0 where
  pub session : Session
  pub there : get_or sessions k None ≡ Some session
  pub like : Like place session
  pub found : found_from (is_session_of id from) at sessions ≡ Some (record { place = at + k; session = session })

pub found_here : (id : ℕ) (from : Addr) (at : ℕ) (places : List Place) (sessions : List (Option Session)) → AllHold at places sessions
    → (k : ℕ) (d : Place) → id % 16 ≡ at + k → k < length places → is_here id from (get_or places k d) ≡ true → HoldsId id from at k (get_or places k d) sessions
found_here id from at [] [] all k d is within here = absurd (omega arith)
found_here id from at [] (session ∷ sessions) all k d is within here = absurd all
found_here id from at (place ∷ places) [] all k d is within here = absurd all
found_here id from at (place ∷ places) (None ∷ sessions) all zero d is within here =
    absurd (both_ways (is_here id from place) (here-none id from place all.0) here)
found_here id from at (place ∷ places) (Some session ∷ sessions) all zero d is within here = record {
  session = session;
  there = refl;
  like = all.0.1;
  found =
      cond-true (is_session_of id from session) (Some (record { place = at; session = session })) (found_from (is_session_of id from) (suc at) sessions)
      (sym (here-holds id from place session all.0) ∙ here)
      ∙ ap (λ (n : ℕ). Some (record { place = n; session = session })) (sym (add-zero at));
}
found_here id from at (place ∷ places) (None ∷ sessions) all (suc k) d is within here =
    let e : suc at + k ≡ at + suc k = omega arith in
    let rest : HoldsId id from (suc at) k (get_or places k d) sessions = found_here id from (suc at) places sessions all.2 k d (is ∙ sym e) (omega arith) here in
    record {
      session = rest.session;
      there = rest.there;
      like = rest.like;
      found = rest.found ∙ ap (λ (n : ℕ). Some (record { place = n; session = rest.session })) e;
    }
found_here id from at (place ∷ places) (Some session ∷ sessions) all (suc k) d is within here =
    let e : suc at + k ≡ at + suc k = omega arith in
    let of_place : session.id % 16 ≡ at = all.1 in
    let other : eqb session.id id ≡ false = ne_eqb session.id id (λ f. let g : session.id % 16 ≡ id % 16 = ap (λ (n : ℕ). n % 16) f in absurd (omega arith)) in
    let rest : HoldsId id from (suc at) k (get_or places k d) sessions = found_here id from (suc at) places sessions all.2 k d (is ∙ sym e) (omega arith) here in
    record {
      session = rest.session;
      there = rest.there;
      like = rest.like;
      found =
          cond-false (is_session_of id from session) (Some (record { place = at; session = session })) (found_from (is_session_of id from) (suc at) sessions)
          (and_left (eqb session.id id) (is_address session.address from) other)
          ∙ rest.found ∙ ap (λ (n : ℕ). Some (record { place = n; session = rest.session })) e;
    }

pub found_nowhere : (id : ℕ) (from : Addr) (at : ℕ) (places : List Place) (sessions : List (Option Session)) → AllHold at places sessions
    → (k : ℕ) (d : Place) → id % 16 ≡ at + k → k < length places → is_here id from (get_or places k d) ≡ false → found_from (is_session_of id from) at sessions ≡ None
found_nowhere id from at [] [] all k d is within here = refl
found_nowhere id from at [] (session ∷ sessions) all k d is within here = absurd all
found_nowhere id from at (place ∷ places) [] all k d is within here = absurd all
found_nowhere id from at (place ∷ places) (None ∷ sessions) all zero d is within here =
    behind-none id from (suc at) places sessions all.2 (omega arith)
found_nowhere id from at (place ∷ places) (Some session ∷ sessions) all zero d is within here =
    cond-false (is_session_of id from session) (Some (record { place = at; session = session })) (found_from (is_session_of id from) (suc at) sessions)
    (sym (here-holds id from place session all.0) ∙ here)
    ∙ behind-none id from (suc at) places sessions all.2 (omega arith)
found_nowhere id from at (place ∷ places) (None ∷ sessions) all (suc k) d is within here =
    let e : suc at + k ≡ at + suc k = omega arith in
    found_nowhere id from (suc at) places sessions all.2 k d (is ∙ sym e) (omega arith) here
found_nowhere id from at (place ∷ places) (Some session ∷ sessions) all (suc k) d is within here =
    let e : suc at + k ≡ at + suc k = omega arith in
    let of_place : session.id % 16 ≡ at = all.1 in
    let other : eqb session.id id ≡ false = ne_eqb session.id id (λ f. let g : session.id % 16 ≡ id % 16 = ap (λ (n : ℕ). n % 16) f in absurd (omega arith)) in
    cond-false (is_session_of id from session) (Some (record { place = at; session = session })) (found_from (is_session_of id from) (suc at) sessions)
    (and_left (eqb session.id id) (is_address session.address from) other)
    ∙ found_nowhere id from (suc at) places sessions all.2 k d (is ∙ sym e) (omega arith) here

-- A SESSION THAT WAITS

-- a place found among places, and what is found among sessions
abbrev pub Agree : ℕ → List Place → Option ℕ → Option Found → Type 0
Agree at places None None = Unit {0}
Agree at places None (Some found) = ⊥
Agree at places (Some place) None = ⊥
Agree at places (Some place) (Some found) =
    (at ≤ place) × (place < at + length places) × ((d : Place) → Like (get_or places (place - at) d) found.session)

agree-later : (at : ℕ) (first : Place) (places : List Place) (place : Option ℕ) (found : Option Found) → Agree (suc at) places place found → Agree at (first ∷ places) place found
agree-later at first places None None agree = tt
agree-later at first places None (Some found) agree = absurd agree
agree-later at first places (Some place) None agree = absurd agree
agree-later at first places (Some place) (Some found) agree =
    let least : suc at ≤ place = agree.0 in
    let most : place < suc at + length places = agree.1 in
    let e : suc (place - suc at) ≡ place - at = omega arith in (
      omega arith,
      omega arith,
      λ d. subst (λ (n : ℕ). Like (get_or (first ∷ places) n d) found.session) e (agree.2 d),
    )

agree-here : (at : ℕ) (place : Place) (places : List Place) (session : Session) → Like place session → Agree at (place ∷ places) (Some at) (Some (record { place = at; session = session }))
agree-here at place places session like =
    let e : 0 ≡ at - at = omega arith in
    (omega arith, omega arith, λ d. subst (λ (n : ℕ). Like (get_or (place ∷ places) n d) session) e like)

pub waits-agree : (from : Addr) (remote_id at : ℕ) (places : List Place) (sessions : List (Option Session)) → AllHold at places sessions
    → Agree at places (position_from (waits_here from remote_id) at places) (found_from (is_waiting_for from remote_id) at sessions)
waits-agree from remote_id at [] [] all = tt
waits-agree from remote_id at [] (session ∷ sessions) all = absurd all
waits-agree from remote_id at (place ∷ places) [] all = absurd all
waits-agree from remote_id at (place ∷ places) (None ∷ sessions) all =
    let rest = agree-later at place places _ _ (waits-agree from remote_id (suc at) places sessions all.2) in
    subst (λ (b : Bool). Agree at (place ∷ places) (cond b (Some at) (position_from (waits_here from remote_id) (at + 1) places)) (found_from (is_waiting_for from remote_id) (suc at) sessions))
    (sym (waits-none from remote_id place all.0))
    (subst (λ (n : ℕ). Agree at (place ∷ places) (position_from (waits_here from remote_id) n places) (found_from (is_waiting_for from remote_id) (suc at) sessions)) (sym (add-one at)) rest)
waits-agree from remote_id at (place ∷ places) (Some session ∷ sessions) all =
    let p : List Place → ℕ → Option ℕ = λ all n. position_from (waits_here from remote_id) n all in
    let rest = agree-later at place places _ _ (waits-agree from remote_id (suc at) places sessions all.2) in
    let both : (b : Bool) → Agree at (place ∷ places) (cond b (Some at) (p places (at + 1))) (cond b (Some (record { place = at; session = session })) (found_from (is_waiting_for from remote_id) (suc at) sessions)) =
    λ b. elim b as (λ b. Agree at (place ∷ places) (cond b (Some at) (p places (at + 1))) (cond b (Some (record { place = at; session = session })) (found_from (is_waiting_for from remote_id) (suc at) sessions))) [
      | true ↦ agree-here at place places session all.0.1
      | false ↦ subst (λ (n : ℕ). Agree at (place ∷ places) (p places n) (found_from (is_waiting_for from remote_id) (suc at) sessions)) (sym (add-one at)) rest
    ] in
    subst (λ (b : Bool). Agree at (place ∷ places) (cond b (Some at) (p places (at + 1))) (cond (is_waiting_for from remote_id session) (Some (record { place = at; session = session })) (found_from (is_waiting_for from remote_id) (suc at) sessions)))
    (sym (waits-holds from remote_id place session all.0))
    (both (is_waiting_for from remote_id session))

-- a place that was found
pub record Waits (at : ℕ) (places : List Place) (place : ℕ) (found : Option Found) : Type 0 where
  pub it : Found
  pub is : found ≡ Some it
  pub within : place < at + length places
  pub like : (d : Place) → Like (get_or places (place - at) d) it.session

pub agree-some : (at : ℕ) (places : List Place) (place : ℕ) (found : Option Found) → Agree at places (Some place) found → Waits at places place found
agree-some at places place None agree = absurd agree
agree-some at places place (Some it) agree = record { it = it; is = refl; within = agree.1; like = agree.2 }

pub agree-none : (at : ℕ) (places : List Place) (found : Option Found) → Agree at places None found → found ≡ None
agree-none at places None agree = refl
agree-none at places (Some it) agree = absurd agree

-- A FREE PLACE

pub free-agree : (at : ℕ) (places : List Place) (sessions : List (Option Session)) → AllHold at places sessions
    → position_from (λ place. not place.live) at places ≡ free_from at sessions
free-agree at [] [] all = refl
free-agree at [] (session ∷ sessions) all = absurd all
free-agree at (place ∷ places) [] all = absurd all
free-agree at (place ∷ places) (None ∷ sessions) all =
    ap (λ (b : Bool). cond (not b) (Some at) (position_from (λ (place : Place). not place.live) (at + 1) places)) all.0
free-agree at (place ∷ places) (Some session ∷ sessions) all =
    ap (λ (b : Bool). cond (not b) (Some at) (position_from (λ (place : Place). not place.live) (at + 1) places)) all.0.0
    ∙ ap (λ (n : ℕ). position_from (λ (place : Place). not place.live) n places) (add-one at)
    ∙ free-agree (suc at) places sessions all.2

-- HOW MANY LIVE

pub live-some : (place : Place) (session : Option Session) → Holds place session → place.live ≡ is_some session
live-some place None holds = holds
live-some place (Some session) holds = holds.0

pub count-agree : (at : ℕ) (places : List Place) (sessions : List (Option Session)) → AllHold at places sessions
    → count_by (λ place. place.live) places ≡ count_by is_some sessions
count-agree at [] [] all = refl
count-agree at [] (session ∷ sessions) all = absurd all
count-agree at (place ∷ places) [] all = absurd all
count-agree at (place ∷ places) (session ∷ sessions) all =
    let rest = count-agree (suc at) places sessions all.2 in
    let same : place.live ≡ is_some session = live-some place session all.0 in
    let f : Place → ℕ = λ kept. cond kept.live 1 0 in
    let g : Option Session → ℕ = λ slot. cond (is_some slot) 1 0 in
    sum_by-cons f place places
    ∙ ap (λ (b : Bool). cond b 1 0 + sum_by f places) same
    ∙ ap (λ (n : ℕ). cond (is_some session) 1 0 + n) rest
    ∙ sym (sum_by-cons g session sessions)

-- PLACES IN WHICH NONE LIVES

pub all-free : (at : ℕ) (places : List Place) → All (λ (place : Place). place.live ≡ false) places → AllHold at places (replicate (length places) None)
all-free at [] all = tt
all-free at (place ∷ places) all =
    (all 0 place (omega arith), tt, all-free (suc at) places (λ k d within. all (suc k) d (omega arith)))
