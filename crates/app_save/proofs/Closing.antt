-- The gate that a save closes: it reads 0 until everything stands behind it.
use Rattle.std.proofs.Common.{◌≡◌, ◌⊎◌, inl, inr, ◌+◌, ◌*◌, ◌<◌, ◌∷◌, [], ℕ, List, length, get_or, IsTrue, ◌∙◌, ap, subst, arith, Result, Ok, Err, OnOk}
use Rattle.std.proofs.lemmas.Bool.{cases_lt}
use Rattle.disk_model.specs.Disk.{Image, Meaning, Elapses, During, Torn, IsTorn, Holds, Keeps, Rests}
use Rattle.app_save.specs.Store.{AreSlots}
use Rattle.app_save.specs.Saving.{ClosesFirst}
use Rattle.app_save.proofs.Moments.{then_time, then_during, at_end, torn_self}
use Rattle.app_save.proofs.Ranges.{holds_still}

-- the byte that was written
pub zero_held : {T E : Type 0} (r : Result T E) (gate : ℕ) (c : Image) → OnOk r (Holds gate (0 ∷ []) c) → OnOk r (get_or c gate 0 ≡ 0)
zero_held (Ok done) gate c holds = ap (λ (n : ℕ). get_or c n 0) (let e : gate ≡ gate + 0 = omega arith in e) ∙ holds.bytes_are 0 (omega arith)
zero_held (Err refused) gate c holds = tt

-- a gate lies in the file
pub gate_inside : (S slot other : ℕ) (c : Image) → AreSlots S slot other → length c ≡ 2 * (S + 6) → other < length c
gate_inside S slot other c slots size = elim slots [ inl is ↦ omega (arith, is.1, size) | inr is ↦ omega (arith, is.1, size) ]

module _ (gate : ℕ) (behind : List ℕ) where
  abbrev IsShut : Image → Type 0
  IsShut c = (get_or c gate 0 ≡ 0) ⊎ Holds (gate + 1) behind c

  -- nothing but the gate was written
  pub closes_none : (a b : Meaning) → Elapses a b → During a b (IsTorn gate 1 a) → ClosesFirst gate behind a b
  closes_none a b time torn = record {
    from = b.now + 1;
    later = let le = time.later in omega (arith, le);
    before = λ u c start end small left. torn u c start end left;
    since = λ u c start end left. absurd (omega (arith, start, end));
  }

  pub none_torn : (a b : Meaning) → During a b (a.leaves a.now) → During a b (IsTorn gate 1 a)
  none_torn a b keeps u c start end left = (c, keeps u c start end left, torn_self gate 1 c)

  -- the gate, and then what stands behind it
  pub closes_then : (a b c : Meaning) → IsTrue a.tells → Elapses a b → Elapses b c → During a b (IsTorn gate 1 a) → During b c IsShut → ClosesFirst gate behind a c
  closes_then a b c told one two first second = record {
    from = b.now;
    later = one.later;
    before = λ u i start end small left. first u i start (omega (arith, small)) ((two.past (one.told ∙ told) u i (omega (arith, small))).0 left);
    since = second;
  }

  -- what is written behind a gate leaves it
  pub shut_still : (n : ℕ) (b c : Meaning) → Rests b → gate < length b.content → get_or b.content gate 0 ≡ 0 → During b c (IsTorn (gate + 1) n b) → During b c IsShut
  shut_still n b c rests room zero torn u i start end left =
      let was = torn u i start end left in
      let now = subst (λ (d : Image). Torn (gate + 1) n d i) (rests was.0 was.1) was.2 in
      inl (now.same gate (inl (omega arith)) room ∙ zero)

  -- and what is written to the gate leaves what stands behind it
  pub filled_still : (b c : Meaning) → Rests b → Holds (gate + 1) behind b.content → During b c (IsTorn gate 1 b) → During b c IsShut
  filled_still b c rests holds torn u i start end left =
      let was = torn u i start end left in
      let now = subst (λ (d : Image). Torn gate 1 d i) (rests was.0 was.1) was.2 in
      inr (holds_still (gate + 1) behind gate 1 b.content i holds now (inr (omega arith)))

  pub shut_then : (a b c : Meaning) → IsTrue a.tells → Elapses a b → Elapses b c → During a b IsShut → During b c IsShut → During a c IsShut
  shut_then a b c = then_during a b c IsShut

  -- behind calls that write nothing
  pub closes_later : (a b c : Meaning) → IsTrue a.tells → Elapses a b → Elapses b c → During a b (a.leaves a.now) → ClosesFirst gate behind b c → ClosesFirst gate behind a c
  closes_later a b c told one two keeps closes = record {
    from = closes.from;
    later = let le = one.later in let next = closes.later in omega (arith, le, next);
    before = λ u i start end small left. elim (cases_lt u b.now) [
      | inl in_first ↦ none_torn a b keeps u i start (omega (arith, in_first)) ((two.past (one.told ∙ told) u i (omega (arith, in_first))).0 left)
      | inr in_second ↦
          let was = closes.before u i in_second end small left in
          (was.0, at_end a b (a.leaves a.now) one keeps was.0 was.1, was.2)
    ];
    since = closes.since;
  }

  -- and before a last call that writes nothing
  pub closes_kept : (a b c : Meaning) → IsTrue a.tells → Elapses a b → Elapses b c → ClosesFirst gate behind a b → Keeps b c → ClosesFirst gate behind a c
  closes_kept a b c told one two closes keeps = elim (cases_lt b.now closes.from) [
    | inl never ↦ closes_none a c (then_time a b c one two) (λ u i start end left. elim (cases_lt u b.now) [
      | inl in_first ↦ closes.before u i start (omega (arith, in_first)) (omega (arith, in_first, never)) (past u i in_first left)
      | inr in_second ↦ closes.before b.now i one.later (omega arith) never (keeps.during u i in_second end left)
    ])
    | inr done ↦ record {
      from = closes.from;
      later = closes.later;
      before = λ u i start end small left. closes.before u i start (omega (arith, small, done)) small (past u i (omega (arith, small, done)) left);
      since = λ u i start end left. elim (cases_lt u b.now) [
        | inl in_first ↦ closes.since u i start (omega (arith, in_first)) (past u i in_first left)
        | inr in_second ↦ closes.since b.now i done (omega arith) (keeps.during u i in_second end left)
      ];
    }
  ]
    where
      past : (u : ℕ) (i : Image) → u < b.now → c.leaves u i → b.leaves u i
      past u i small left = (two.past (one.told ∙ told) u i (omega (arith, small))).0 left
