-- What one more recorded call means.
use Rattle.std.proofs.Common.{◌≡◌, inl, inr, ◌+◌, ◌<◌, ◌≤◌, ℕ, List, [], ◌∷◌, ◌++◌, length, take, sum_by, refl, sym, ◌∙◌, ap, subst, arith, Result, Ok, Err, OnOk}
use Rattle.std.proofs.lemmas.Bool.{cases_lt}
use Rattle.std.proofs.lemmas.List.{take-append-le, take_all, length_push}
use Rattle.std.proofs.lemmas.List.Sums.{sum_by-append}
use Rattle.disk_model.specs.Disk.{Image, Meaning, Elapses, During, Torn, Holds, Keeps, Writes, Syncs, MarksUp, SyncsUp, CountsUp}
use Rattle.disk_model.specs.Written.{written, torn_written, holds_written}
use Rattle.disk_model.specs.Replay.{Call, wrote, synced, other, syncs_by, marks_by, State, begun, after, after_all, LeftIn, History, state_of, replayed, content_is_left}

pub after_push : (s : State) (calls : List Call) (c : Call) → after_all s (calls ++ c ∷ []) ≡ after (after_all s calls) c
after_push s [] c = refl
after_push s (d ∷ calls) c = after_push (after s d) calls c

sum_push : (f : Call → ℕ) (calls : List Call) (c : Call) → sum_by f (calls ++ c ∷ []) ≡ sum_by f calls + f c
sum_push f calls c = let e = sum_by-append f calls (c ∷ []) in omega (arith, e)

torn_self : (at n : ℕ) (d : Image) → Torn at n d d
torn_self at n d = record { same = λ i out small. refl; no_shorter = omega arith; no_longer = omega arith }

-- what a crash now may leave is what the state says
pub left_now : (h : History) (d : Image) → LeftIn (state_of h) d → (replayed h).leaves (length h.calls) d
left_now h d left = subst (λ (l : List Call). LeftIn (after_all (begun h.first) l) d) (sym (take_all (length h.calls) h.calls (omega arith))) left

-- one call more
module _ (old new : History) (c : Call) (first : new.first ≡ old.first) (more : new.calls ≡ old.calls ++ c ∷ []) where
  long : length new.calls ≡ length old.calls + 1
  long = ap length more ∙ length_push old.calls c

  front : (u : ℕ) → u ≤ length old.calls → take u new.calls ≡ take u old.calls
  front u le = ap (take u) more ∙ take-append-le u old.calls (c ∷ []) le

  whole : (u : ℕ) → length old.calls < u → take u new.calls ≡ old.calls ++ c ∷ []
  whole u le = take_all u new.calls (omega (arith, long, le)) ∙ more

  state_before : (u : ℕ) → u ≤ length old.calls → after_all (begun new.first) (take u new.calls) ≡ after_all (begun old.first) (take u old.calls)
  state_before u le = ap (λ (f : Image). after_all (begun f) (take u new.calls)) first ∙ ap (λ (l : List Call). after_all (begun old.first) l) (front u le)

  state_behind : (u : ℕ) → length old.calls < u → after_all (begun new.first) (take u new.calls) ≡ after (state_of old) c
  state_behind u le = ap (λ (f : Image). after_all (begun f) (take u new.calls)) first ∙ ap (λ (l : List Call). after_all (begun old.first) l) (whole u le) ∙ after_push (begun old.first) old.calls c

  pub call_state : state_of new ≡ after (state_of old) c
  call_state = ap (λ (f : Image). after_all (begun f) new.calls) first ∙ ap (λ (l : List Call). after_all (begun old.first) l) more ∙ after_push (begun old.first) old.calls c

  pub call_time : Elapses (replayed old) (replayed new)
  call_time = record {
    later = omega (arith, long);
    told = refl;
    told_marks = refl;
    told_syncs = refl;
    past = λ _ u d le. (subst (λ (s : State). LeftIn s d) (state_before u le), subst (λ (s : State). LeftIn s d) (sym (state_before u le)));
    past_marks = λ _ u le. ap (sum_by marks_by) (front u le);
    past_syncs = λ _ u le. ap (sum_by syncs_by) (front u le);
  }

  counts : (f : Call → ℕ) → CountsUp (length old.calls) (length new.calls) (λ u. sum_by f (take u old.calls)) (λ u. sum_by f (take u new.calls)) (f c)
  counts f = record {
    until = λ u from to. let e : u ≡ length old.calls = omega (arith, from, to, long) in ap (sum_by f) (front u (omega (arith, e))) ∙ ap (λ (n : ℕ). sum_by f (take n old.calls)) e;
    at_end = ap (sum_by f) (whole (length new.calls) (omega (arith, long))) ∙ sum_push f old.calls c ∙ ap (λ (l : List Call). sum_by f l + f c) (sym (take_all (length old.calls) old.calls (omega arith)));
  }

  pub call_marks : MarksUp (replayed old) (replayed new) (marks_by c)
  call_marks told = counts marks_by

  pub call_syncs : SyncsUp (replayed old) (replayed new) (syncs_by c)
  call_syncs told = counts syncs_by

  -- at each moment of the call it has not begun, or it is done
  either : (P : Image → Type 0) → ((d : Image) → LeftIn (state_of old) d → P d) → ((d : Image) → LeftIn (after (state_of old) c) d → P d) → During (replayed old) (replayed new) P
  either P before done u d from to left = elim (cases_lt (length old.calls) u) [
    | inl behind ↦ done d (subst (λ (s : State). LeftIn s d) (state_behind u behind) left)
    | inr at_start ↦
        let now : take u old.calls ≡ old.calls = take_all u old.calls from in
        before d (subst (λ (s : State). LeftIn s d) (state_before u at_start ∙ ap (λ (l : List Call). after_all (begun old.first) l) now) left)
  ]

  pub call_keeps : after (state_of old) c ≡ state_of old → Keeps (replayed old) (replayed new)
  call_keeps same = record {
    content = ap (λ (s : State). s.content) (call_state ∙ same);
    during = either ((replayed old).leaves (length old.calls)) (λ d left. left_now old d left) (λ d left. left_now old d (subst (λ (s : State). LeftIn s d) same left));
  }

  pub call_durable : {T E : Type 0} (r : Result T E) → c ≡ synced → Syncs r (replayed old) (replayed new)
  call_durable r is = record {
    during = either ((replayed old).leaves (length old.calls)) (λ d left. left_now old d left) (λ d left. left_now old d (subst (LeftIn (state_of old)) (sym (is_content d left)) (content_is_left (begun old.first) old.calls refl)));
    kept = on_ok r (ap (λ (s : State). s.content) call_state ∙ ap (λ (k : Call). (after (state_of old) k).content) is);
    durable = on_ok r (λ d left. is_content d (subst (λ (s : State). LeftIn s d) (state_behind (length new.calls) (omega (arith, long))) left));
  }
    where
      is_content : (d : Image) → LeftIn (after (state_of old) c) d → d ≡ (state_of old).content
      is_content d left = subst (λ (k : Call). LeftIn (after (state_of old) k) d) is left

      on_ok : {T E P : Type 0} (r : Result T E) → P → OnOk r P
      on_ok (Ok x) p = p
      on_ok (Err e) p = tt

  pub call_writes : {T E : Type 0} (r : Result T E) (at : ℕ) (bytes : List ℕ) → c ≡ wrote at bytes → Writes at bytes r (replayed old) (replayed new)
  call_writes r at bytes is = record {
    torn = subst (λ (i : Image). Torn at (length bytes) (state_of old).content i) (sym now) (torn_written (state_of old).content at bytes (length bytes) refl);
    holds = on_ok r (subst (λ (i : Image). Holds at bytes i) (sym now) (holds_written (state_of old).content at bytes));
    during = either (λ d. (e : Image) × (replayed old).leaves (length old.calls) e × Torn at (length bytes) e d)
        (λ d left. (d, left_now old d left, torn_self at (length bytes) d))
        (λ d left. let was = subst (λ (k : Call). LeftIn (after (state_of old) k) d) is left in (was.0, left_now old was.0 was.1, was.2));
  }
    where
      now : (state_of new).content ≡ written (state_of old).content at bytes
      now = ap (λ (s : State). s.content) call_state ∙ ap (λ (k : Call). (after (state_of old) k).content) is

      on_ok : {T E P : Type 0} (r : Result T E) → P → OnOk r P
      on_ok (Ok x) p = p
      on_ok (Err e) p = tt

-- what a call that does nothing leaves
pub record Idle (old new : Meaning) : Type 0 where
  pub time : Elapses old new
  pub keeps : Keeps old new
  pub marks : MarksUp old new 0
  pub syncs : SyncsUp old new 0

pub idle_call : (old new : History) → new.first ≡ old.first → new.calls ≡ old.calls ++ other ∷ [] → Idle (replayed old) (replayed new)
idle_call old new first more = record {
  time = call_time old new other first more;
  keeps = call_keeps old new other first more refl;
  marks = call_marks old new other first more;
  syncs = call_syncs old new other first more;
}

pub idle_none : (old new : History) → new.first ≡ old.first → new.calls ≡ old.calls → Idle (replayed old) (replayed new)
idle_none old new first same = record {
  time = record {
    later = omega (arith, long);
    told = refl;
    told_marks = refl;
    told_syncs = refl;
    past = λ _ u d le. (subst (λ (s : State). LeftIn s d) (state u), subst (λ (s : State). LeftIn s d) (sym (state u)));
    past_marks = λ _ u le. ap (λ (l : List Call). sum_by marks_by (take u l)) same;
    past_syncs = λ _ u le. ap (λ (l : List Call). sum_by syncs_by (take u l)) same;
  };
  keeps = record {
    content = ap (λ (f : Image). (after_all (begun f) new.calls).content) first ∙ ap (λ (l : List Call). (after_all (begun old.first) l).content) same;
    during = λ u d from to left. subst (λ (n : ℕ). (replayed old).leaves n d) (let e : u ≡ length old.calls = omega (arith, from, to, long) in e) (subst (λ (s : State). LeftIn s d) (state u) left);
  };
  marks = λ _. count marks_by;
  syncs = λ _. count syncs_by;
}
  where
    long : length new.calls ≡ length old.calls
    long = ap length same

    state : (u : ℕ) → after_all (begun new.first) (take u new.calls) ≡ after_all (begun old.first) (take u old.calls)
    state u = ap (λ (f : Image). after_all (begun f) (take u new.calls)) first ∙ ap (λ (l : List Call). after_all (begun old.first) (take u l)) same

    count : (f : Call → ℕ) → CountsUp (length old.calls) (length new.calls) (λ u. sum_by f (take u old.calls)) (λ u. sum_by f (take u new.calls)) 0
    count f = record {
      until = λ u from to. absurd (omega (arith, from, to, long));
      at_end = let e : sum_by f (take (length new.calls) new.calls) ≡ sum_by f (take (length old.calls) old.calls) = ap (λ (l : List Call). sum_by f (take (length l) l)) same in omega (arith, e);
    }

-- a sync that fails has done nothing
pub failed_sync : {T E : Type 0} {old new : Meaning} (e : E) → Keeps old new → Syncs {T = T} (Err e) old new
failed_sync e keeps = record { during = keeps.during; kept = tt; durable = tt }

-- nor has a write that is not recorded
pub failed_write : {T E : Type 0} {old new : Meaning} (at : ℕ) (bytes : List ℕ) (e : E) → Keeps old new → Writes {T = T} at bytes (Err e) old new
failed_write {old = old} at bytes e keeps = record {
  torn = subst (λ (i : Image). Torn at (length bytes) old.content i) (sym keeps.content) (torn_self at (length bytes) old.content);
  holds = tt;
  during = λ u c from to left. (c, keeps.during u c from to left, torn_self at (length bytes) c);
}
