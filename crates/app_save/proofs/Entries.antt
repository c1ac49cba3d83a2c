-- One save more in a run. Nothing here speaks of gates, bytes or syncs.
use Rattle.std.proofs.Common.{◌≡◌, inl, inr, ◌+◌, ◌-◌, ◌≤◌, ℕ, zero, suc, Bool, true, false, if◌then◌else◌, IsTrue, List, [], ◌∷◌, ◌++◌, length, refl, sym, ◌∙◌, ap, subst, arith, length-append, Result, Ok, Err, OnOk, OnErr, is_ok}
use Rattle.std.proofs.lemmas.Bool.{cases_lt}
use Rattle.std.proofs.lemmas.List.{take-append-le, take_all}
use Rattle.disk_model.specs.Disk.{Image, Meaning, Elapses, During, MarksUp}
use Rattle.app_save.specs.Saving.{AllOpen, OpensAsBegun}
use Rattle.app_save.specs.Run.{Saves, acknowledged, entry, IsEntrySince, OpensToEntry, IsRun}
use Rattle.app_save.proofs.Moments.{now_alone}
use Rattle.app_save.proofs.Newest.{payload_is_one}

more_acknowledged : (saves : Saves) (payload : List ℕ) (ok : Bool) → acknowledged (saves ++ (payload, ok) ∷ []) ≡ acknowledged saves + (if ok then 1 else 0)
more_acknowledged [] payload ok = refl
more_acknowledged (save ∷ saves) payload ok = let on = more_acknowledged saves payload ok in omega (arith, on)

entry_stays : (opened : List ℕ) (saves more : Saves) (k : ℕ) → k ≤ length saves → entry opened (saves ++ more) k ≡ entry opened saves k
entry_stays opened [] more zero le = refl
entry_stays opened [] more (suc k) le = absurd (omega (arith, le))
entry_stays opened (save ∷ saves) more zero le = refl
entry_stays opened (save ∷ saves) more (suc k) le = entry_stays save.0 saves more k (omega (arith, le))

entry_added : (opened : List ℕ) (saves : Saves) (payload : List ℕ) (ok : Bool) → entry opened (saves ++ (payload, ok) ∷ []) (suc (length saves)) ≡ payload
entry_added opened [] payload ok = refl
entry_added opened (save ∷ saves) payload ok = entry_added save.0 saves payload ok

module _ (opened : List ℕ) (saves : Saves) (payload : List ℕ) (ok : Bool) where
  size : length (saves ++ (payload, ok) ∷ []) ≡ length saves + 1
  size = length-append saves ((payload, ok) ∷ [])

  -- an entry stays one
  entry_still : (m : ℕ) (p : List ℕ) → IsEntrySince opened saves m p → IsEntrySince opened (saves ++ (payload, ok) ∷ []) m p
  entry_still m p is = record {
    k = is.k;
    there = let le = is.there in omega (arith, le, size);
    not_before = subst (λ (l : Saves). m ≤ acknowledged l) (sym (take-append-le is.k saves ((payload, ok) ∷ []) is.there)) is.not_before;
    is = is.is ∙ sym (entry_stays opened saves ((payload, ok) ∷ []) is.k is.there);
  }

  -- and the payload of this save is one, whatever was acknowledged
  entry_new : (m : ℕ) (p : List ℕ) → m ≤ acknowledged saves + (if ok then 1 else 0) → p ≡ payload → IsEntrySince opened (saves ++ (payload, ok) ∷ []) m p
  entry_new m p le is = record {
    k = suc (length saves);
    there = omega (arith, size);
    not_before =
        let all = ap acknowledged (take_all (suc (length saves)) (saves ++ (payload, ok) ∷ []) (omega (arith, size))) in
        let more = more_acknowledged saves payload ok in
        omega (arith, le, all, more);
    is = is ∙ sym (entry_added opened saves payload ok);
  }

module _ (S : ℕ) (opened : List ℕ) (saves : Saves) (payload : List ℕ) (ok : Bool) (start m n : Meaning) (told : IsTrue m.tells) (told_marks : IsTrue m.tells_marks) (run : IsRun S opened saves start m)
    (time : Elapses m n) (marks : MarksUp m n (if ok then 1 else 0)) (moments : During m n (OpensAsBegun S payload m)) (saved : IsTrue ok → AllOpen S payload n) where
  abbrev more : Saves
  more = saves ++ (payload, ok) ∷ []

  -- within the save, before its mark
  within : (u : ℕ) (i : Image) → n.marks u ≡ m.marks m.now → OpensAsBegun S payload m i → OpensToEntry S opened (saves ++ (payload, ok) ∷ []) (n.marks u - start.marks start.now) i
  within u i unmarked is = elim is.is [
    | inl begun ↦
        let was = run.each m.now begun.0 run.later (omega arith) begun.1 in
        let same : was.payload ≡ is.opened = payload_is_one S begun.0 was.payload is.opened was.opens begun.2 in
        record {
          payload = is.opened;
          opens = is.opens;
          is_entry = entry_still opened saves payload ok (n.marks u - start.marks start.now) is.opened
              (subst (λ (p : List ℕ). IsEntrySince opened saves (n.marks u - start.marks start.now) p) same
              (subst (λ (k : ℕ). IsEntrySince opened saves (k - start.marks start.now) was.payload) (sym unmarked) was.is_entry));
        }
    | inr new ↦ record {
      payload = is.opened;
      opens = is.opens;
      is_entry = entry_new opened saves payload ok (n.marks u - start.marks start.now) is.opened (let made = run.made in omega (arith, unmarked, made)) new;
    }
  ]

  at_last : (b : Bool) → b ≡ ok → (i : Image) → n.leaves n.now i → OpensAsBegun S payload m i → OpensToEntry S opened (saves ++ (payload, ok) ∷ []) (n.marks n.now - start.marks start.now) i
  at_last true is i left begun = record {
    payload = payload;
    opens = saved (sym is) i left;
    is_entry = entry_new opened saves payload ok (n.marks n.now - start.marks start.now) payload (let made = run.made in let end = (marks told_marks).at_end in omega (arith, made, end)) refl;
  }
  at_last false is i left begun = within n.now i (let none : ◌≡◌ {A = ℕ} (if ok then 1 else 0) 0 = ap (λ (b : Bool). if b then 1 else 0) (sym is) in let end = (marks told_marks).at_end in omega (arith, end, none)) begun

  each_moment : (u : ℕ) (i : Image) → start.now ≤ u → u ≤ n.now → n.leaves u i → OpensToEntry S opened (saves ++ (payload, ok) ∷ []) (n.marks u - start.marks start.now) i
  each_moment u i from to left = elim (cases_lt u m.now) [
    | inl before ↦
        let was = run.each u i from (omega (arith, before)) ((time.past told u i (omega (arith, before))).0 left) in
        record {
          payload = was.payload;
          opens = was.opens;
          is_entry = entry_still opened saves payload ok (n.marks u - start.marks start.now) was.payload
              (subst (λ (k : ℕ). IsEntrySince opened saves (k - start.marks start.now) was.payload) (sym (time.past_marks told_marks u (omega (arith, before)))) was.is_entry);
        }
    | inr in_save ↦
        let begun = moments u i in_save to left in
        elim (cases_lt u n.now) [
          | inl during ↦ within u i ((marks told_marks).until u in_save during) begun
          | inr ended ↦
              let end : u ≡ n.now = omega (arith, to, ended) in
              subst (λ (k : ℕ). OpensToEntry S opened (saves ++ (payload, ok) ∷ []) (n.marks k - start.marks start.now) i) (sym end) (at_last ok refl i (subst (λ (k : ℕ). n.leaves k i) end left) begun)
        ]
  ]

  run_goes_on : IsRun S opened (saves ++ (payload, ok) ∷ []) start n
  run_goes_on = record {
    later = let a = run.later in let b = time.later in omega (arith, a, b);
    made = let a = run.made in let b = (marks told_marks).at_end in let c = more_acknowledged saves payload ok in omega (arith, a, b, c);
    each = each_moment;
  }

-- the same, by the answer of a save
pub run_after : {T E : Type 0} (S : ℕ) (opened : List ℕ) (saves : Saves) (payload : List ℕ) (r : Result T E) (start m n : Meaning) → IsTrue m.tells → IsTrue m.tells_marks → IsRun S opened saves start m → Elapses m n → OnOk r (MarksUp m n 1) → OnErr r (MarksUp m n 0) → During m n (OpensAsBegun S payload m)
    → OnOk r (AllOpen S payload n) → IsRun S opened (saves ++ (payload, is_ok r) ∷ []) start n
run_after S opened saves payload (Ok x) start m n told told_marks run time mark none moments saved = run_goes_on S opened saves payload true start m n told told_marks run time mark moments (λ _. saved)
run_after S opened saves payload (Err e) start m n told told_marks run time mark none moments saved = run_goes_on S opened saves payload false start m n told told_marks run time none moments (λ no. absurd (cc no))

-- a run begins where every crash opens to the payload
pub run_begins : (S : ℕ) (payload : List ℕ) (m : Meaning) → AllOpen S payload m → IsRun S payload [] m m
run_begins S payload m all = record {
  later = omega arith;
  made = omega arith;
  each = λ u i from to left. record {
    payload = payload;
    opens = all i (now_alone m u i from to left);
    is_entry = record { k = 0; there = omega arith; not_before = let e : u ≡ m.now = omega (arith, from, to) in let same = ap m.marks e in omega (arith, same); is = refl };
  };
}

-- calls that write nothing and mark nothing
pub run_kept : (S : ℕ) (opened : List ℕ) (saves : Saves) (start m n : Meaning) → IsTrue m.tells → IsTrue m.tells_marks → IsRun S opened saves start m → Elapses m n → MarksUp m n 0 → During m n (m.leaves m.now) → IsRun S opened saves start n
run_kept S opened saves start m n told told_marks run time marks during = record {
  later = let a = run.later in let b = time.later in omega (arith, a, b);
  made = let a = run.made in let b = (marks told_marks).at_end in omega (arith, a, b);
  each = λ u i from to left. elim (cases_lt u m.now) [
    | inl before ↦
        let same = time.past_marks told_marks u (omega (arith, before)) in
        subst (λ (k : ℕ). OpensToEntry S opened saves (k - start.marks start.now) i) (sym same) (run.each u i from (omega (arith, before)) ((time.past told u i (omega (arith, before))).0 left))
    | inr behind ↦
        let counts = marks told_marks in
        let same : n.marks u ≡ m.marks m.now = elim (cases_lt u n.now) [
          | inl within ↦ counts.until u behind within
          | inr ended ↦ let e : u ≡ n.now = omega (arith, to, ended) in let end = counts.at_end in ap n.marks e ∙ omega (arith, end)
        ] in
        subst (λ (k : ℕ). OpensToEntry S opened saves (k - start.marks start.now) i) (sym same) (run.each m.now i run.later (omega arith) (during u i behind to left))
  ];
}
