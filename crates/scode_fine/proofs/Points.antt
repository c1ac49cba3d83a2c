-- Where instructions of a walk stand: at each place that is reached in the code, at each place of a mark, and turns at
-- the places of turns.
use Rattle.std.proofs.Common.{◌≡◌, ◌⊎◌, inl, inr, ℕ, ◌+◌, ◌≤◌, List, [], ◌∷◌, ◌++◌, length, Option, Some, None, refl, sym, ap, subst, ◌∙◌, arith, append_assoc, append-nil}
use Rattle.scode_image.specs.declared.image.ImageMethod.{ImageMethod}
use Rattle.scode_ops.specs.declared.op.Op.{Op}
use Rattle.scode_ops.specs.declared.op.Op.TheVariants as op
use Rattle.scode_ops.specs.Decoding.{op_at, size_of}
use Rattle.scode_code.specs.Breaks as breaks
use Rattle.scode_code.specs.Breaks.{IsReached, StartsAt}
use Rattle.scode_code.proofs.Places.{none_some, size_some, some_eq}
use Rattle.scode_emit.proofs.Counts.{count, count-append}
use Rattle.scode_entries.specs.declared.marks.Mark.{Mark}
use Rattle.scode_fine.proofs.Has.{Has, has_back, has_split}
use Rattle.scode_fine.proofs.Walks.{Ground, Stack, Steps, Walks, Joins, Stops, Enters, Runs, Turns}

-- the bytes of a method are those of these instructions
pub record Coded (m : ImageMethod) (whole : List Op) : Type 0 where
  pub long : length m.code ≡ count whole
  pub stands : (before behind : List Op) (i : Op) → whole ≡ before ++ i ∷ behind → op_at m.code (count before) ≡ Some i

-- a walk along all has come to a place: what stands before it, and which marks were passed
pub record Come (g : Ground) (whole : List Op) (all : List Mark) (at : ℕ) (now : Option Stack) (ops : List Op) (ms : List Mark) : Type 0 where
  pub before : List Op
  pub split : whole ≡ before ++ ops
  pub counted : at ≡ count before
  pub reached : IsReached g.m at
  pub told : List Mark
  pub marks : all ≡ told ++ ms
  pub passed : (k : Mark) → Has told k → (k.place ≤ at) × (k.place ≡ at → now ≡ Some k.stack)

-- an instruction there, with the kinds declared for the stack
pub record Point (g : Ground) (whole : List Op) (all : List Mark) (place : ℕ) : Type 0 where
  pub stack : Stack
  pub i : Op
  pub next : Option Stack
  pub to : ℕ
  pub ops : List Op
  pub ms : List Mark
  pub ts : List ℕ
  pub last : Option Stack
  pub step : to ≡ place + size_of i
  pub steps : Steps g place stack i next
  pub come : Come g whole all place (Some stack) (i ∷ ops) ms
  pub rest : Walks g to next ops ms ts last
  pub over : last ≡ None

-- what stands in front of a walk: nothing where it is over, and else an instruction, which is entered where nothing
-- comes from before
abbrev pub Front : (g : Ground) → List Op → List Mark → ℕ → Option Stack → List Op → Type 0
Front g whole all at now ops =
    ((now ≡ None) × (ops ≡ []))
    ⊎ ((p : Point g whole all at) × Joins now p.stack × (now ≡ None → (k : Mark) × Has all k × (k.place ≡ at)))

-- marks stand at or behind the place of a walk
pub later : {g : Ground} {at : ℕ} {now last : Option Stack} {ops : List Op} {ms : List Mark} {ts : List ℕ} →
    Walks g at now ops ms ts last → (k : Mark) → Has ms k → at ≤ k.place
later Stops k h = absurd h
later (Enters l p j rest) k (inl e) = let f : l.place ≡ k.place = ap (λ (m : Mark). m.place) e in omega (arith, f, p)
later (Enters l p j rest) k (inr h) = later rest k h
later (Runs s step rest) k h = let r = later rest k h in omega (arith, r, step)
later (Turns s step rest) k h = let r = later rest k h in omega (arith, r, step)

joined : (now : Option Stack) (a b : Stack) → Joins now a → a ≡ b → Joins now b
joined None a b j e = tt
joined (Some n) a b j e = j ∙ e

module _ (g : Ground) (whole : List Op) (all : List Mark) where
  enter : (at : ℕ) (now : Option Stack) (ops : List Op) (ms : List Mark) (k : Mark) → k.place ≡ at → Joins now k.stack →
      Come g whole all at now ops (k ∷ ms) → Come g whole all at (Some k.stack) ops ms
  enter at now ops ms k p j c = record {
    before = c.before;
    split = c.split;
    counted = c.counted;
    reached = c.reached;
    told = c.told ++ k ∷ [];
    marks = c.marks ∙ sym (append_assoc c.told (k ∷ []) ms);
    passed = λ l h. by_split l (has_split c.told (k ∷ []) l h);
  }
    where
      same : (n : Option Stack) (l : Mark) → Joins n k.stack → n ≡ Some l.stack → Some k.stack ≡ Some l.stack
      same None l j e = absurd (none_some l.stack e)
      same (Some s) l j e = ap (λ (x : Stack). Some x) (sym j) ∙ e

      by_split : (l : Mark) → Has c.told l ⊎ Has (k ∷ []) l →
          (l.place ≤ at) × (l.place ≡ at → Some k.stack ≡ Some l.stack)
      by_split l (inl h) = let old = c.passed l h in (old.0, λ e. same now l j (old.1 e))
      by_split l (inr (inl e)) =
          let f : k.place ≡ l.place = ap (λ (m : Mark). m.place) e in
          (omega (arith, f, p), λ q. ap (λ (m : Mark). Some m.stack) e)
      by_split l (inr (inr h)) = absurd h

  abbrev point_of : (at : ℕ) (stack : Stack) (i : Op) (next : Option Stack) (to : ℕ) (ops : List Op) (ms : List Mark) (ts : List ℕ) (last : Option Stack) →
      to ≡ at + size_of i → Steps g at stack i next → Come g whole all at (Some stack) (i ∷ ops) ms →
      Walks g to next ops ms ts last → last ≡ None → Point g whole all at
  point_of at stack i next to ops ms ts last step s c w e = record {
    stack = stack;
    i = i;
    next = next;
    to = to;
    ops = ops;
    ms = ms;
    ts = ts;
    last = last;
    step = step;
    steps = s;
    come = c;
    rest = w;
    over = e;
  }

  entered_front : (at : ℕ) (now : Option Stack) (ops : List Op) (ms : List Mark) (k : Mark) → k.place ≡ at → Joins now k.stack →
      Come g whole all at now ops (k ∷ ms) → Front g whole all at (Some k.stack) ops → Front g whole all at now ops
  entered_front at now ops ms k p j c (inl e) = absurd (none_some k.stack (sym e.0))
  entered_front at now ops ms k p j c (inr q) =
      inr (q.0, joined now k.stack q.0.stack j q.1, λ e. (k, subst (λ (ls : List Mark). Has ls k) (sym c.marks) (has_back c.told (k ∷ ms) k (inl refl)), p))

  pub front : {at : ℕ} {now last : Option Stack} {ops : List Op} {ms : List Mark} {ts : List ℕ} → Walks g at now ops ms ts last →
      Come g whole all at now ops ms → last ≡ None → Front g whole all at now ops
  front Stops c e = inl (e, refl)
  front {at = at} {now = now} {ops = ops} (Enters {ms = ms} k p j rest) c e =
      entered_front at now ops ms k p j c (front rest (enter at now ops ms k p j c) e)
  front {at = at} (Runs {stack = stack} {i = i} {next = next} {to = to} {ops = ops} {ms = ms} {ts = ts} {last = last} s step rest) c e =
      inr (point_of at stack i next to ops ms ts last step s c rest e, refl, λ n. absurd (none_some stack (sym n)))
  front {at = at} (Turns {stack = stack} {next = next} {to = to} {ops = ops} {ms = ms} {ts = ts} {last = last} s step rest) c e =
      inr (point_of at stack op.Turn next to ops ms ts last step s c rest e, refl, λ n. absurd (none_some stack (sym n)))

  -- a mark at the place of an instruction tells its stack
  pub agrees : (place : ℕ) (p : Point g whole all place) (k : Mark) → Has all k → k.place ≡ place → k.stack ≡ p.stack
  agrees place p k h e =
      by_split (has_split p.come.told p.ms k (subst (λ (ls : List Mark). Has ls k) p.come.marks h))
    where
      by_split : Has p.come.told k ⊎ Has p.ms k → k.stack ≡ p.stack
      by_split (inl t) = sym (some_eq p.stack k.stack ((p.come.passed k t).1 e))
      by_split (inr t) =
          let low = later p.rest k t in
          let some = size_some p.i in
          let step = p.step in absurd (omega (arith, low, some, step, e))

module _ (g : Ground) (whole : List Op) (all : List Mark) (coded : Coded g.m whole) where
  pub stands_there : (place : ℕ) (p : Point g whole all place) → op_at g.m.code place ≡ Some p.i
  stands_there place p =
      ap (op_at g.m.code) p.come.counted ∙ coded.stands p.come.before p.ops p.i p.come.split

  pub starts_there : (place : ℕ) (p : Point g whole all place) → StartsAt g.m place p.i
  starts_there place p = record { reached = p.come.reached; stands = stands_there place p }

  pub behind_it : (place : ℕ) (p : Point g whole all place) → Come g whole all p.to p.next p.ops p.ms
  behind_it place p = record {
    before = p.come.before ++ p.i ∷ [];
    split = p.come.split ∙ sym (append_assoc p.come.before (p.i ∷ []) p.ops);
    counted = (
        let many = count-append p.come.before (p.i ∷ []) in
        let step = p.step in
        let at = p.come.counted in omega (arith, many, step, at)
        );
    reached = subst (λ (n : ℕ). IsReached g.m n) (sym p.step) (breaks.behind place p.i p.come.reached (stands_there place p));
    told = p.come.told;
    marks = p.come.marks;
    passed = λ k h.
        let old = (p.come.passed k h).0 in
        let some = size_some p.i in
        let step = p.step in
        (omega (arith, old, some, step), λ e. absurd (omega (arith, old, some, step, e)));
  }

  pub front_behind : (place : ℕ) (p : Point g whole all place) → Front g whole all p.to p.next p.ops
  front_behind place p = front g whole all p.rest (behind_it place p) p.over

  -- where nothing stands behind an instruction, the code is over
  pub ends_there : (place : ℕ) (p : Point g whole all place) → p.ops ≡ [] → p.to ≡ length g.m.code
  ends_there place p e =
      let c = behind_it place p in
      let whole_is : whole ≡ c.before = c.split ∙ ap (λ (ops : List Op). c.before ++ ops) e ∙ append-nil c.before in
      c.counted ∙ sym (ap count whole_is) ∙ sym coded.long

  -- ---- all places of marks and turns

  pub marked : {at : ℕ} {now last : Option Stack} {ops : List Op} {ms : List Mark} {ts : List ℕ} → Walks g at now ops ms ts last →
      Come g whole all at now ops ms → last ≡ None → (k : Mark) → Has ms k → Point g whole all k.place
  marked Stops c e k h = absurd h
  marked {at = at} {now = now} {ops = ops} (Enters {ms = ms} l p j rest) c e k (inl same) =
      by_front (front g whole all rest (enter g whole all at now ops ms l p j c) e)
    where
      by_front : Front g whole all at (Some l.stack) ops → Point g whole all k.place
      by_front (inl n) = absurd (none_some l.stack (sym n.0))
      by_front (inr q) = subst (λ (n : ℕ). Point g whole all n) (sym p ∙ ap (λ (m : Mark). m.place) same) q.0
  marked {at = at} {now = now} {ops = ops} (Enters {ms = ms} l p j rest) c e k (inr h) =
      marked rest (enter g whole all at now ops ms l p j c) e k h
  marked {at = at} (Runs {stack = stack} {i = i} {next = next} {to = to} {ops = ops} {ms = ms} {ts = ts} {last = last} s step rest) c e k h =
      marked rest (behind_it at (point_of g whole all at stack i next to ops ms ts last step s c rest e)) e k h
  marked {at = at} (Turns {stack = stack} {next = next} {to = to} {ops = ops} {ms = ms} {ts = ts} {last = last} s step rest) c e k h =
      marked rest (behind_it at (point_of g whole all at stack op.Turn next to ops ms ts last step s c rest e)) e k h

  pub turned : {at : ℕ} {now last : Option Stack} {ops : List Op} {ms : List Mark} {ts : List ℕ} → Walks g at now ops ms ts last →
      Come g whole all at now ops ms → last ≡ None → (t : ℕ) → Has ts t → op_at g.m.code t ≡ Some op.Turn
  turned Stops c e t h = absurd h
  turned {at = at} {now = now} {ops = ops} (Enters {ms = ms} l p j rest) c e t h =
      turned rest (enter g whole all at now ops ms l p j c) e t h
  turned {at = at} (Runs {stack = stack} {i = i} {next = next} {to = to} {ops = ops} {ms = ms} {ts = ts} {last = last} s step rest) c e t h =
      turned rest (behind_it at (point_of g whole all at stack i next to ops ms ts last step s c rest e)) e t h
  turned {at = at} (Turns {stack = stack} {next = next} {to = to} {ops = ops} {ms = ms} {ts = ts} {last = last} s step rest) c e t (inl same) =
      subst (λ (n : ℕ). op_at g.m.code n ≡ Some op.Turn) same
      (ap (op_at g.m.code) c.counted ∙ coded.stands c.before ops op.Turn c.split)
  turned {at = at} (Turns {stack = stack} {next = next} {to = to} {ops = ops} {ms = ms} {ts = ts} {last = last} s step rest) c e t (inr h) =
      turned rest (behind_it at (point_of g whole all at stack op.Turn next to ops ms ts last step s c rest e)) e t h
