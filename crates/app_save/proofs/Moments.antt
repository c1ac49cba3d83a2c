-- How one call of a disk follows another.
use Rattle.std.proofs.Common.{◌≡◌, inl, inr, ◌≤◌, ℕ, List, length, IsTrue, refl, sym, ◌∙◌, ap, subst, arith, Result, Ok, Err}
use Rattle.std.proofs.lemmas.Bool.{cases_lt}
use Rattle.disk_model.specs.Disk.{Image, Meaning, Elapses, During, CountsUp, MarksUp, SyncsUp, Torn, IsTorn, Holds, Keeps, Writes, Syncs}
use Rattle.app_save.specs.Saving.{SinceSync, SyncsOnce}
use Rattle.app_save.specs.Stages.{Lands, Settled}

pub then_time : (a b c : Meaning) → Elapses a b → Elapses b c → Elapses a c
then_time a b c one two = record {
  later = omega (arith, one.later, two.later);
  told = two.told ∙ one.told;
  told_marks = two.told_marks ∙ one.told_marks;
  told_syncs = two.told_syncs ∙ one.told_syncs;
  past = λ told u i le.
      let first = one.past told u i le in
      let second = two.past (one.told ∙ told) u i (omega (arith, le, one.later)) in
      (λ left. first.0 (second.0 left), λ left. second.1 (first.1 left));
  past_marks = λ told u le. two.past_marks (one.told_marks ∙ told) u (omega (arith, le, one.later)) ∙ one.past_marks told u le;
  past_syncs = λ told u le. two.past_syncs (one.told_syncs ∙ told) u (omega (arith, le, one.later)) ∙ one.past_syncs told u le;
}

-- what a crash leaves throughout both
pub then_during : (a b c : Meaning) (P : Image → Type 0) → IsTrue a.tells → Elapses a b → Elapses b c → During a b P → During b c P → During a c P
then_during a b c P told one two first second u i from to left = elim (cases_lt u b.now) [
  | inl in_first ↦ first u i from (omega (arith, in_first)) ((two.past (one.told ∙ told) u i (omega (arith, in_first))).0 left)
  | inr in_second ↦ second u i in_second to left
]

pub weaker : (a b : Meaning) (P Q : Image → Type 0) → ((i : Image) → P i → Q i) → During a b P → During a b Q
weaker a b P Q implies during u i from to left = implies i (during u i from to left)

-- and at the end
pub at_end : (a b : Meaning) (P : Image → Type 0) → Elapses a b → During a b P → (i : Image) → b.leaves b.now i → P i
at_end a b P time during i left = during b.now i time.later (omega arith) left

-- where no call is made
pub no_time : (a : Meaning) → Elapses a a
no_time a = record {
  later = omega arith;
  told = refl;
  told_marks = refl;
  told_syncs = refl;
  past = λ _ u i le. (λ left. left, λ left. left);
  past_marks = λ _ u le. refl;
  past_syncs = λ _ u le. refl;
}

pub no_marks : (a : Meaning) → MarksUp a a 0
no_marks a told = record { until = λ u from to. absurd (omega (arith, from, to)); at_end = omega arith }

pub no_syncs : (a : Meaning) → SyncsUp a a 0
no_syncs a told = record { until = λ u from to. absurd (omega (arith, from, to)); at_end = omega arith }

pub now_alone : (a : Meaning) (u : ℕ) (i : Image) → a.now ≤ u → u ≤ a.now → a.leaves u i → a.leaves a.now i
now_alone a u i from to left = subst (λ (n : ℕ). a.leaves n i) (let e : u ≡ a.now = omega (arith, from, to) in e) left

-- a count of a call that adds nothing, and then of another
then_counts : (a b c : ℕ) (f g h : ℕ → ℕ) (by : ℕ) → ((u : ℕ) → u ≤ b → h u ≡ g u) → CountsUp a b f g 0 → CountsUp b c g h by → CountsUp a c f h by
then_counts a b c f g h by past first second = record {
  until = λ u from to. elim (cases_lt u b) [
    | inl in_first ↦ past u (omega (arith, in_first)) ∙ first.until u from in_first
    | inr in_second ↦ second.until u in_second to ∙ same
  ];
  at_end = let end = second.at_end in omega (arith, end, same);
}
  where
    same : g b ≡ f a
    same = let end = first.at_end in omega (arith, end)

pub then_marks : (a b c : Meaning) (by : ℕ) → Elapses a b → Elapses b c → MarksUp a b 0 → MarksUp b c by → MarksUp a c by
then_marks a b c by one two first second told = then_counts a.now b.now c.now a.marks b.marks c.marks by (two.past_marks (one.told_marks ∙ told)) (first told) (second (one.told_marks ∙ told))

pub then_syncs : (a b c : Meaning) (by : ℕ) → Elapses a b → Elapses b c → SyncsUp a b 0 → SyncsUp b c by → SyncsUp a c by
then_syncs a b c by one two first second told = then_counts a.now b.now c.now a.syncs b.syncs c.syncs by (two.past_syncs (one.told_syncs ∙ told)) (first told) (second (one.told_syncs ∙ told))

pub torn_self : (at n : ℕ) (d : Image) → Torn at n d d
torn_self at n d = record { same = λ i out small. refl; no_shorter = omega arith; no_longer = omega arith }

-- a page that need not be written is written
pub kept_writes : {T E : Type 0} (at : ℕ) (bytes : List ℕ) (x : T) (a b : Meaning) → Keeps a b → Holds at bytes a.content → Writes {E = E} at bytes (Ok x) a b
kept_writes at bytes x a b keeps holds = record {
  torn = subst (λ (i : Image). Torn at (length bytes) a.content i) (sym keeps.content) (torn_self at (length bytes) a.content);
  holds = subst (λ (i : Image). Holds at bytes i) (sym keeps.content) holds;
  during = λ u i from to left. (i, keeps.during u i from to left, torn_self at (length bytes) i);
}

-- a read that failed has written nothing
pub failed_read : {T E : Type 0} (at : ℕ) (bytes : List ℕ) (e : E) (a b : Meaning) → Keeps a b → Writes {T = T} at bytes (Err e) a b
failed_read at bytes e a b keeps = record {
  torn = subst (λ (i : Image). Torn at (length bytes) a.content i) (sym keeps.content) (torn_self at (length bytes) a.content);
  holds = tt;
  during = λ u i from to left. (i, keeps.during u i from to left, torn_self at (length bytes) i);
}

-- a write behind a call that keeps everything
pub keeps_then_writes : {T E : Type 0} (at : ℕ) (bytes : List ℕ) (r : Result T E) (a b c : Meaning) → IsTrue a.tells → Elapses a b → Elapses b c → Keeps a b → Writes at bytes r b c → Writes at bytes r a c
keeps_then_writes at bytes r a b c told one two keeps writes = record {
  torn = subst (λ (i : Image). Torn at (length bytes) i c.content) keeps.content writes.torn;
  holds = writes.holds;
  during = then_during a b c (λ i. (d : Image) × a.leaves a.now d × Torn at (length bytes) d i) told one two
      (λ u i from to left. (i, keeps.during u i from to left, torn_self at (length bytes) i))
      (λ u i from to left. let was = writes.during u i from to left in (was.0, at_end a b (a.leaves a.now) one keeps.during was.0 was.1, was.2));
}

-- a write, and then a sync
pub lands_after : {T U E : Type 0} (at : ℕ) (bytes : List ℕ) (x : T) (r : Result U E) (a b c : Meaning) → IsTrue a.tells → Elapses a b → Elapses b c → Writes {E = E} at bytes (Ok x) a b → Syncs r b c → Lands at bytes r a c
lands_after at bytes x (Ok y) a b c told one two writes syncs = record {
  during = then_during a b c (IsTorn at (length bytes) a) told one two writes.during (λ u i from to left. at_end a b (IsTorn at (length bytes) a) one writes.during i (syncs.during u i from to left));
  torn = subst (λ (i : Image). Torn at (length bytes) a.content i) (sym syncs.kept) writes.torn;
  holds = subst (λ (i : Image). Holds at bytes i) (sym syncs.kept) writes.holds;
  rests = λ i left. syncs.durable i left ∙ sym syncs.kept;
}
lands_after at bytes x (Err e) a b c told one two writes syncs = record {
  during = then_during a b c (IsTorn at (length bytes) a) told one two writes.during (λ u i from to left. at_end a b (IsTorn at (length bytes) a) one writes.during i (syncs.during u i from to left));
  torn = tt;
  holds = tt;
  rests = tt;
}

-- what holds since the first sync of a first part, and throughout a second
pub then_since : (a b c : Meaning) (P : Image → Type 0) → IsTrue a.tells → IsTrue a.tells_syncs → Elapses a b → Elapses b c → SinceSync a b P → During b c P → SinceSync a c P
then_since a b c P told told_syncs one two first second u i from to more left = elim (cases_lt u b.now) [
  | inl in_first ↦
      let same = two.past_syncs (one.told_syncs ∙ told_syncs) u (omega (arith, in_first)) in
      first u i from (omega (arith, in_first)) (omega (arith, more, same)) ((two.past (one.told ∙ told) u i (omega (arith, in_first))).0 left)
  | inr in_second ↦ second u i in_second to left
]

-- where no sync answered Ok nothing is said
pub since_none : (a b : Meaning) (P : Image → Type 0) → IsTrue a.tells_syncs → SyncsUp a b 0 → SinceSync a b P
since_none a b P told up u i from to more left = elim (cases_lt u b.now) [
  | inl before ↦ let count = (up told).until u from before in absurd (omega (arith, more, count))
  | inr ended ↦
      let e : u ≡ b.now = omega (arith, to, ended) in
      let here : b.syncs u ≡ b.syncs b.now = ap b.syncs e in
      let end = (up told).at_end in absurd (omega (arith, more, here, end))
]

-- where no call was made neither
pub since_self : (a : Meaning) (P : Image → Type 0) → SinceSync a a P
since_self a P u i from to more left = let e : u ≡ a.now = omega (arith, from, to) in let here : a.syncs u ≡ a.syncs a.now = ap a.syncs e in absurd (omega (arith, more, here))

-- one sync that answered Ok
pub since_sync : (a b : Meaning) (P : Image → Type 0) → IsTrue a.tells_syncs → SyncsUp a b 1 → ((i : Image) → b.leaves b.now i → P i) → SinceSync a b P
since_sync a b P told up now u i from to more left = elim (cases_lt u b.now) [
  | inl before ↦ let count = (up told).until u from before in absurd (omega (arith, more, count))
  | inr ended ↦ let e : u ≡ b.now = omega (arith, to, ended) in now i (subst (λ (n : ℕ). b.leaves n i) e left)
]

-- a first call that makes none
pub since_later : (a b c : Meaning) (P : Image → Type 0) → IsTrue a.tells_syncs → Elapses a b → Elapses b c → SyncsUp a b 0 → SinceSync b c P → SinceSync a c P
since_later a b c P told one two up since u i from to more left =
    let end = (up told).at_end in
    elim (cases_lt u b.now) [
      | inl before ↦
          let same = two.past_syncs (one.told_syncs ∙ told) u (omega (arith, before)) in
          let count = (up told).until u from before in absurd (omega (arith, more, same, count))
      | inr behind ↦ since u i behind to (omega (arith, more, end)) left
    ]

-- a last call that keeps everything and makes no sync
pub since_kept : (a b c : Meaning) (P : Image → Type 0) → IsTrue a.tells → IsTrue a.tells_syncs → Elapses a b → Elapses b c → SinceSync a b P → Keeps b c → SyncsUp b c 0 → SinceSync a c P
since_kept a b c P told told_syncs one two first keeps syncs u i from to more left = elim (cases_lt u b.now) [
  | inl in_first ↦
      let same = two.past_syncs (one.told_syncs ∙ told_syncs) u (omega (arith, in_first)) in
      first u i from (omega (arith, in_first)) (omega (arith, more, same)) ((two.past (one.told ∙ told) u i (omega (arith, in_first))).0 left)
  | inr in_second ↦
      let counts = syncs (one.told_syncs ∙ told_syncs) in
      let same : c.syncs u ≡ b.syncs b.now = elim (cases_lt u c.now) [
        | inl during ↦ counts.until u in_second during
        | inr ended ↦ let e : u ≡ c.now = omega (arith, to, ended) in let end = counts.at_end in ap c.syncs e ∙ omega (arith, end)
      ] in
      first b.now i one.later (omega arith) (omega (arith, more, same)) (keeps.during u i in_second to left)
]

-- where no call is made nothing is written
pub keeps_self : (a : Meaning) → Keeps a a
keeps_self a = record { content = refl; during = λ u i from to left. now_alone a u i from to left }

-- one sync, and behind it a call that makes none
pub then_synced : (a b c : Meaning) → Elapses a b → SyncsOnce a b → SyncsUp b c 0 → SyncsOnce a c
then_synced a b c one once none told =
    let end = (none (one.told_syncs ∙ told)).at_end in
    let here = once told in
    omega (arith, end, here)

-- a sync settles what was written
pub settled_sync : {T E : Type 0} (x : T) (a b : Meaning) → Syncs {E = E} (Ok x) a b → SyncsUp a b 1 → Settled {E = E} (Ok x) a b
settled_sync x a b syncs up = record {
  during = syncs.during;
  since = λ told. since_sync a b (λ i. i ≡ a.content) told up syncs.durable;
  kept = syncs.kept;
  rests = λ i left. syncs.durable i left ∙ sym syncs.kept;
}

-- and it stays so behind a call that writes nothing
pub settled_on : {T U E F : Type 0} (x : T) (r : Result U F) (a b c : Meaning) → IsTrue a.tells → Elapses a b → Elapses b c → Settled {E = E} (Ok x) a b → Keeps b c → Settled r a c
settled_on x (Ok y) a b c told one two settled keeps = record {
  during = then_during a b c (a.leaves a.now) told one two settled.during (λ u i from to left. at_end a b (a.leaves a.now) one settled.during i (keeps.during u i from to left));
  since = λ told_syncs. then_since a b c (λ i. i ≡ a.content) told told_syncs one two (settled.since told_syncs) (λ u i from to left. settled.rests i (keeps.during u i from to left) ∙ settled.kept);
  kept = keeps.content ∙ settled.kept;
  rests = λ i left. settled.rests i (keeps.during c.now i two.later (omega arith) left) ∙ sym keeps.content;
}
settled_on x (Err e) a b c told one two settled keeps = record {
  during = then_during a b c (a.leaves a.now) told one two settled.during (λ u i from to left. at_end a b (a.leaves a.now) one settled.during i (keeps.during u i from to left));
  since = λ told_syncs. then_since a b c (λ i. i ≡ a.content) told told_syncs one two (settled.since told_syncs) (λ u i from to left. settled.rests i (keeps.during u i from to left) ∙ settled.kept);
  kept = tt;
  rests = tt;
}
