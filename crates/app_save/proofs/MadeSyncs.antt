-- The syncs of a store that is made, and what a crash leaves since the first one.
use Rattle.std.proofs.Common.{◌≡◌, inl, inr, ◌+◌, ◌*◌, ◌≤◌, ◌∷◌, [], ℕ, List, length, replicate, IsTrue, sym, ◌∙◌, ap, subst, arith, Result, Ok, Err, OnOk, is_ok, if◌then◌else◌}
use Rattle.std.proofs.lemmas.Bool.{cases_lt}
use Rattle.disk_model.specs.Disk.{Image, Meaning, Elapses, During, SyncsUp, Syncs, CountsUp, Torn, IsTorn, Holds, Keeps}
use Rattle.app_save.specs.Bytes.{header_bytes}
use Rattle.app_save.specs.Saving.{SinceSync, LeavesOnly}
use Rattle.app_save.specs.Stages.{Lands}
use Rattle.app_save.specs.Making.{IsBlank, blank_store, store_behind, made_store, stages_made, NewOrNone, SyncsThrough}
use Rattle.app_save.proofs.Moments.{then_time, then_syncs, then_since, since_sync, at_end, no_time, no_syncs, torn_self}
use Rattle.app_save.proofs.Ranges.{wider, twice}
use Rattle.app_save.proofs.MadeBytes.{blank_is, behind_is_none, unopened_is, opened_is, gate_new_or_none}

-- one sync, and those that follow
pub through_sync : (a b m : Meaning) (image : Image) (images : List Image) → IsTrue a.tells → IsTrue a.tells_syncs → Elapses a b → Elapses b m → SyncsUp a b 1 → LeavesOnly b b.now image → SyncsThrough m b.now images → SyncsThrough m a.now (image ∷ images)
through_sync a b m image images told told_syncs one two up leaves rest = (
  b.now,
  one.later,
  two.later,
  record {
    until = λ u from to. past u (omega (arith, to)) ∙ counts.until u from to ∙ sym begun;
    at_end = let end = counts.at_end in let here = past b.now (omega arith) in omega (arith, end, here, begun);
  },
  λ c left. leaves c ((two.past (one.told ∙ told) b.now c (omega arith)).0 left),
  rest,
)
  where
    counts : CountsUp a.now b.now a.syncs b.syncs 1
    counts = up told_syncs

    past : (u : ℕ) → u ≤ b.now → m.syncs u ≡ b.syncs u
    past = two.past_syncs (one.told_syncs ∙ told_syncs)

    begun : m.syncs a.now ≡ a.syncs a.now
    begun = past a.now one.later ∙ one.past_syncs told_syncs a.now (omega arith)

-- no sync more
pub through_none : (a m : Meaning) → IsTrue a.tells_syncs → Elapses a m → SyncsUp a m 0 → SyncsThrough m a.now []
through_none a m told_syncs time up u from to = elim (cases_lt u m.now) [
  | inl before ↦ counts.until u from before ∙ sym begun
  | inr ended ↦
      let e : u ≡ m.now = omega (arith, to, ended) in
      let end = counts.at_end in
      ap m.syncs e ∙ (let same : m.syncs m.now ≡ m.syncs a.now = omega (arith, end, begun) in same)
]
  where
    counts : CountsUp a.now m.now a.syncs m.syncs 0
    counts = up told_syncs

    begun : m.syncs a.now ≡ a.syncs a.now
    begun = time.past_syncs told_syncs a.now (omega arith)

-- a call without a sync in front of them, and one behind them that keeps everything
pub through_later : (a b m : Meaning) (images : List Image) → IsTrue a.tells_syncs → Elapses a b → Elapses b m → SyncsUp a b 0 → SyncsThrough m b.now images → SyncsThrough m a.now images
through_later a b m [] told_syncs one two up rest = λ u from to.
    let counts = up told_syncs in
    let end = counts.at_end in
    let begun : m.syncs a.now ≡ a.syncs a.now = two.past_syncs (one.told_syncs ∙ told_syncs) a.now one.later ∙ one.past_syncs told_syncs a.now (omega arith) in
    let there : m.syncs b.now ≡ b.syncs b.now = two.past_syncs (one.told_syncs ∙ told_syncs) b.now (omega arith) in
    elim (cases_lt u b.now) [
      | inl before ↦ two.past_syncs (one.told_syncs ∙ told_syncs) u (omega (arith, before)) ∙ counts.until u from before ∙ sym begun
      | inr behind ↦ let same = rest u behind to in omega (arith, same, there, end, begun)
    ]
through_later a b m (image ∷ images) told_syncs one two up (at, from, to, counts, leaves, rest) = (
  at,
  omega (arith, from, one.later),
  to,
  record {
    until = λ u start end. elim (cases_lt u b.now) [
      | inl before ↦ two.past_syncs (one.told_syncs ∙ told_syncs) u (omega (arith, before)) ∙ (up told_syncs).until u start before ∙ sym begun
      | inr behind ↦ let same = counts.until u behind end in omega (arith, same, there)
    ];
    at_end = let end = counts.at_end in omega (arith, end, there);
  },
  leaves,
  rest,
)
  where
    begun : m.syncs a.now ≡ a.syncs a.now
    begun = two.past_syncs (one.told_syncs ∙ told_syncs) a.now one.later ∙ one.past_syncs told_syncs a.now (omega arith)

    there : m.syncs b.now ≡ m.syncs a.now
    there = let end = (up told_syncs).at_end in let same = two.past_syncs (one.told_syncs ∙ told_syncs) b.now (omega arith) in omega (arith, end, same, begun)

pub through_kept : (m n : Meaning) (from : ℕ) (images : List Image) → IsTrue m.tells → IsTrue m.tells_syncs → Elapses m n → SyncsUp m n 0 → from ≤ m.now → SyncsThrough m from images → SyncsThrough n from images
through_kept m n from [] told told_syncs time up inside rest = λ u start end. elim (cases_lt u m.now) [
  | inl before ↦ time.past_syncs told_syncs u (omega (arith, before)) ∙ rest u start (omega (arith, before)) ∙ sym begun
  | inr behind ↦
      let counts = up told_syncs in
      let last = rest m.now inside (omega arith) in
      elim (cases_lt u n.now) [
        | inl within ↦ counts.until u behind within ∙ last ∙ sym begun
        | inr ended ↦
            let e : u ≡ n.now = omega (arith, end, ended) in
            let up_to = counts.at_end in
            ap n.syncs e ∙ (let same : n.syncs n.now ≡ n.syncs from = omega (arith, up_to, last, begun) in same)
      ]
]
  where
    begun : n.syncs from ≡ m.syncs from
    begun = time.past_syncs told_syncs from inside
through_kept m n from (image ∷ images) told told_syncs time up inside (at, start, end, counts, leaves, rest) = (
  at,
  start,
  omega (arith, end, time.later),
  record {
    until = λ u low high. time.past_syncs told_syncs u (omega (arith, high, end)) ∙ counts.until u low high ∙ sym (time.past_syncs told_syncs from inside);
    at_end = let last = counts.at_end in let here = time.past_syncs told_syncs at end in let begun = time.past_syncs told_syncs from inside in omega (arith, last, here, begun);
  },
  λ c left. leaves c ((time.past told at c end).0 left),
  through_kept m n at images told told_syncs time up end rest,
)

-- the zeros are on the disk
pub record Zeroed (S : ℕ) (a z : Meaning) : Type 0 where
  pub told : IsTrue z.tells
  pub time : Elapses a z
  pub up : SyncsUp a z 1
  pub leaves : LeavesOnly z z.now (blank_store S)
  pub is : z.content ≡ blank_store S

pub zeroed : {T E : Type 0} (x : T) (S : ℕ) (a z0 z : Meaning) → IsTrue a.tells → Elapses a z0 → Elapses z0 z → SyncsUp a z0 0 → IsBlank (2 * (S + 6)) z0.content → Syncs {E = E} (Ok x) z0 z → SyncsUp z0 z 1 → Zeroed S a z
zeroed x S a z0 z told one two none blank syncs up = record {
  told = two.told ∙ one.told ∙ told;
  time = then_time a z0 z one two;
  up = then_syncs a z0 z 1 one two none up;
  leaves = λ i left. syncs.durable i left ∙ zeros;
  is = syncs.kept ∙ zeros;
}
  where
    zeros : z0.content ≡ blank_store S
    zeros = blank_is (2 * (S + 6)) z0.content blank

-- and behind them the header and the payload
pub record Bodied (payload header : List ℕ) (z b d : Meaning) : Type 0 where
  pub told : IsTrue d.tells
  pub torn_header : Torn 1 (length header) z.content b.content
  pub holds_header : Holds 1 header b.content
  pub torn : Torn 6 (length payload) b.content d.content
  pub holds : Holds 6 payload d.content
  pub rests : LeavesOnly d d.now d.content

-- what is left at the end, whether syncs are told or not
pub made_exact : {T E : Type 0} (r : Result T E) (S : ℕ) (payload header : List ℕ) → length payload ≤ S → header ≡ header_bytes 0 (length payload) → (z b d e : Meaning) → z.content ≡ blank_store S → Bodied payload header z b d → Lands 0 (0xa5 ∷ []) r d e
    → OnOk r (LeavesOnly e e.now (made_store S payload))
made_exact (Ok done) S payload header fits is z b d e zeros body lands = λ c left. lands.rests c left ∙ opened_is S payload fits b.content d.content
    (subst (λ (i : Image). Torn 1 5 i b.content) zeros (subst (λ (n : ℕ). Torn 1 n z.content b.content) (ap length is) body.torn_header)) (subst (λ (l : List ℕ). Holds 1 l b.content) is body.holds_header)
    body.torn body.holds e.content lands.torn lands.holds
made_exact (Err refused) S payload header fits is z b d e zeros body lands = tt

-- with the mark
pub leaves_kept : (m n : Meaning) (image : Image) → Elapses m n → Keeps m n → LeavesOnly m m.now image → LeavesOnly n n.now image
leaves_kept m n image time keeps leaves c left = leaves c (keeps.during n.now c time.later (omega arith) left)

-- the calls of a new store: up to the sync of the zeros, the header, the payload, the gate
module _ (S : ℕ) (payload header : List ℕ) (fits : length payload ≤ S) (is : header ≡ header_bytes 0 (length payload)) (a z b : Meaning) (told : IsTrue a.tells) (told_syncs : IsTrue a.tells_syncs) (zeros : Zeroed S a z)
    (to_b : Elapses z b) (header_torn : During z b (IsTorn 1 (length header) z)) where
  to_z : Elapses a z
  to_z = zeros.time

  blank : LeavesOnly z z.now (blank_store S)
  blank = zeros.leaves

  five : length header ≡ 5
  five = ap length is

  abbrev Behind : Image → Type 0
  Behind c = Torn 1 (5 + length payload) (replicate (2 * (S + 6)) 0) c

  behind_header : During z b (λ c. Torn 1 (5 + length payload) (replicate (2 * (S + 6)) 0) c)
  behind_header u c from to left =
      let was = header_torn u c from to left in
      wider 1 (length header) 1 (5 + length payload) (replicate (2 * (S + 6)) 0) c (omega arith) (omega (arith, five)) (subst (λ (d : Image). Torn 1 (length header) d c) (blank was.0 was.1) was.2)

  since_z : SinceSync a z (NewOrNone S payload)
  since_z = since_sync a z (NewOrNone S payload) told_syncs zeros.up (λ c left. subst (NewOrNone S payload) (sym (blank c left)) (behind_is_none S payload fits (replicate (2 * (S + 6)) 0) (torn_self 1 (5 + length payload) (replicate (2 * (S + 6)) 0))))

  pub since_header : SinceSync a b (NewOrNone S payload)
  since_header = then_since a z b (NewOrNone S payload) told told_syncs to_z to_b since_z (λ u c from to left. behind_is_none S payload fits c (behind_header u c from to left))

  module _ (d : Meaning) (to_d : Elapses b d) (payload_torn : During b d (IsTorn 6 (length payload) b)) where
    behind_payload : During b d (λ c. Torn 1 (5 + length payload) (replicate (2 * (S + 6)) 0) c)
    behind_payload u c from to left =
        let was = payload_torn u c from to left in
        twice 1 (5 + length payload) (replicate (2 * (S + 6)) 0) was.0 c (at_end z b (λ i. Torn 1 (5 + length payload) (replicate (2 * (S + 6)) 0) i) to_b behind_header was.0 was.1)
        (wider 6 (length payload) 1 (5 + length payload) was.0 c (omega arith) (omega arith) was.2)

    pub since_payload : SinceSync a d (NewOrNone S payload)
    since_payload = then_since a b d (NewOrNone S payload) told told_syncs (then_time a z b to_z to_b) to_d since_header (λ u c from to left. behind_is_none S payload fits c (behind_payload u c from to left))

    -- and once the payload is on the disk
    module _ (body : Bodied payload header z b d) (e : Meaning) (to_e : Elapses d e) (gate_torn : During d e (IsTorn 0 1 d)) where
      torn_header : Torn 1 5 (replicate (2 * (S + 6)) 0) b.content
      torn_header = subst (λ (i : Image). Torn 1 5 i b.content) zeros.is (subst (λ (n : ℕ). Torn 1 n z.content b.content) five body.torn_header)

      holds_header : Holds 1 (header_bytes 0 (length payload)) b.content
      holds_header = subst (λ (l : List ℕ). Holds 1 l b.content) is body.holds_header

      leaves_d : LeavesOnly d d.now (store_behind 0 S payload)
      leaves_d c left = body.rests c left ∙ unopened_is S payload fits b.content d.content torn_header holds_header body.torn body.holds

      pub since_gate : SinceSync a e (NewOrNone S payload)
      since_gate = then_since a d e (NewOrNone S payload) told told_syncs (then_time a b d (then_time a z b to_z to_b) to_d) to_e since_payload
          (λ u c from to left.
          let was = gate_torn u c from to left in
          gate_new_or_none S payload fits b.content d.content torn_header holds_header body.torn body.holds c (subst (λ (i : Image). Torn 0 1 i c) (body.rests was.0 was.1) was.2))

      module _ (torn_e : Torn 0 1 d.content e.content) (holds_e : Holds 0 (0xa5 ∷ []) e.content) (rests_e : LeavesOnly e e.now e.content) where
        leaves_made : LeavesOnly e e.now (made_store S payload)
        leaves_made c left = rests_e c left ∙ opened_is S payload fits b.content d.content torn_header holds_header body.torn body.holds e.content torn_e holds_e

        through_made : SyncsUp z d 1 → SyncsUp d e 1 → SyncsThrough e a.now (stages_made S payload)
        through_made up_d up_e =
            let z_d = then_time z b d to_b to_d in
            let syncs_d : IsTrue d.tells_syncs = z_d.told_syncs ∙ to_z.told_syncs ∙ told_syncs in
            through_sync a z e (blank_store S) (store_behind 0 S payload ∷ made_store S payload ∷ []) told told_syncs to_z (then_time z d e z_d to_e) zeros.up blank
            (through_sync z d e (store_behind 0 S payload) (made_store S payload ∷ []) zeros.told (to_z.told_syncs ∙ told_syncs) z_d to_e up_d leaves_d
            (through_sync d e e (made_store S payload) [] body.told syncs_d to_e (no_time e) up_e leaves_made
            (through_none e e (to_e.told_syncs ∙ syncs_d) (no_time e) (no_syncs e))))

      pub done_through : {T E : Type 0} (r : Result T E) → Lands 0 (0xa5 ∷ []) r d e → SyncsUp z d 1 → SyncsUp d e (if is_ok r then 1 else 0) → OnOk r (SyncsThrough e a.now (stages_made S payload))
      done_through (Ok done) lands up_d up_e = through_made lands.torn lands.holds lands.rests up_d up_e
      done_through (Err refused) lands up_d up_e = tt
