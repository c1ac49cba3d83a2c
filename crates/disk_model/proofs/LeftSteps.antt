-- One entry further towards the call within which the crash comes.
use Rattle.std.proofs.Common.{◌≡◌, ◌≢◌, ◌+◌, ◌-◌, ◌<◌, ◌≤◌, ℕ, zero, suc, List, [], ◌∷◌, length, take, drop, get_or, replicate, sum_by, refl, sym, ◌∙◌, ap, subst, arith, Result, Ok, Err, IfOk, Vec}
use Rattle.std.specs.declared.alloc.Global.{Global}
use Rattle.std.proofs.lemmas.List.{drop_more, length-replicate}
use Rattle.std.proofs.lemmas.List.Sums.{sum_by-cons}
use Rattle.disk_model.specs.Disk.{Image, Torn}
use Rattle.disk_model.specs.Written.{written, torn_written}
use Rattle.disk_model.specs.Replay.{Call, wrote, synced, other, marked, calls_by, State, begun, after, after_all, LeftIn, History, replayed}
use Rattle.disk_model.specs.Left.{Pair, alike, filled, with_call, image_within, image_left, place_of, IsMomentOf}
use Rattle.disk_model.specs.Recorded.{calls_of, call_of, bytes_behind, is_call}
use Rattle.disk_model.specs.declared.left.Fill.{Fill}
use Rattle.disk_model.specs.declared.left.Fill.TheVariants.{Old, New, Byte}
use Rattle.disk_model.specs.declared.journal.Entry.{Entry}
use Rattle.disk_model.specs.declared.journal.Entry.TheVariants.{Wrote, Synced, Other, Marked}

skip_first : (fill : Fill) (p : Pair) (log : List ℕ) (e : Entry) (entries : List Entry) (k : ℕ) → is_call e ≡ 0 → image_left fill p (calls_of log (e ∷ entries)) k ≡ image_left fill p (calls_of log entries) k
skip_first fill p log (Wrote at len) entries k none = absurd (omega (arith, none))
skip_first fill p log Synced entries k none = absurd (omega (arith, none))
skip_first fill p log Other entries k none = absurd (omega (arith, none))
skip_first fill p log Marked entries k none = refl

pass_first : (fill : Fill) (p : Pair) (log : List ℕ) (e : Entry) (entries : List Entry) (k : ℕ) → is_call e ≡ 1 → image_left fill p (calls_of log (e ∷ entries)) (suc k) ≡ image_left fill (with_call fill p (call_of log e)) (calls_of (bytes_behind log e) entries) k
pass_first fill p log (Wrote at len) entries k one = refl
pass_first fill p log Synced entries k one = refl
pass_first fill p log Other entries k one = refl
pass_first fill p log Marked entries k one = absurd (omega (arith, one))

stop_first : (fill : Fill) (p : Pair) (log : List ℕ) (e : Entry) (entries : List Entry) → is_call e ≡ 1 → image_left fill p (calls_of log (e ∷ entries)) 0 ≡ image_within fill p (call_of log e)
stop_first fill p log (Wrote at len) entries one = refl
stop_first fill p log Synced entries one = refl
stop_first fill p log Other entries one = refl
stop_first fill p log Marked entries one = absurd (omega (arith, one))

module _ (fill : Fill) (p : Pair) (log : List ℕ) (entries : List Entry) (i : ℕ) (d : Entry) (inside : i < length entries) where
  first : drop i entries ≡ get_or entries i d ∷ drop (i + 1) entries
  first = drop_more entries i d inside

  pub skip : (k : ℕ) → is_call (get_or entries i d) ≡ 0 → image_left fill p (calls_of log (drop (i + 1) entries)) k ≡ image_left fill p (calls_of log (drop i entries)) k
  skip k none = sym (ap (λ (l : List Entry). image_left fill p (calls_of log l) k) first ∙ skip_first fill p log (get_or entries i d) (drop (i + 1) entries) k none)

  pub pass : (k : ℕ) → is_call (get_or entries i d) ≡ 1 → k ≢ 0 → image_left fill (with_call fill p (call_of log (get_or entries i d))) (calls_of (bytes_behind log (get_or entries i d)) (drop (i + 1) entries)) (k - 1) ≡ image_left fill p (calls_of log (drop i entries)) k
  pass k one some =
      let e : k ≡ suc (k - 1) = omega (arith, some) in
      sym (ap (λ (l : List Entry). image_left fill p (calls_of log l) k) first ∙ ap (λ (n : ℕ). image_left fill p (calls_of log (get_or entries i d ∷ drop (i + 1) entries)) n) e ∙ pass_first fill p log (get_or entries i d) (drop (i + 1) entries) (k - 1) one)

  pub stop : (k : ℕ) → is_call (get_or entries i d) ≡ 1 → k ≡ 0 → image_within fill p (call_of log (get_or entries i d)) ≡ image_left fill p (calls_of log (drop i entries)) k
  stop k one none = sym (ap (λ (l : List Entry). image_left fill p (calls_of log l) k) first ∙ ap (λ (n : ℕ). image_left fill p (calls_of log (get_or entries i d ∷ drop (i + 1) entries)) n) none ∙ stop_first fill p log (get_or entries i d) (drop (i + 1) entries) one)

-- what fills the ranges is what a crash may leave
torn_self : (at n : ℕ) (d : Image) → Torn at n d d
torn_self at n d = record { same = λ i out small. refl; no_shorter = omega arith; no_longer = omega arith }

torn_filled : (fill : Fill) (d : Image) (at : ℕ) (bytes : List ℕ) → Torn at (length bytes) d (filled fill d at bytes)
torn_filled Old d at bytes = torn_self at (length bytes) d
torn_filled New d at bytes = torn_written d at bytes (length bytes) refl
torn_filled (Byte b) d at bytes = torn_written d at (replicate (length bytes) b) (length bytes) (length-replicate (length bytes) b)

-- the pair goes along with the state
pub record Goes (s : State) (p : Pair) : Type 0 where
  pub content : p.content ≡ s.content
  pub left : LeftIn s p.image

goes_on : (fill : Fill) (s : State) (p : Pair) (c : Call) → Goes s p → Goes (after s c) (with_call fill p c)
goes_on fill s p (wrote at bytes) g = record { content = ap (λ (i : Image). written i at bytes) g.content; left = (p.image, g.left, torn_filled fill p.image at bytes) }
goes_on fill s p synced g = record { content = g.content; left = g.content }
goes_on fill s p other g = g
goes_on fill s p marked g = g

-- in the call, at its beginning or at its end
within : (fill : Fill) (s : State) (p : Pair) (c : Call) (calls : List Call) → Goes s p → (u : ℕ) × (u ≤ 1) × LeftIn (after_all s (take u (c ∷ calls))) (image_within fill p c)
within fill s p (wrote at bytes) calls g = (1, omega arith, (p.image, g.left, torn_filled fill p.image at bytes))
within fill s p synced calls g = (0, omega arith, g.left)
within fill s p other calls g = (0, omega arith, g.left)
within fill s p marked calls g = (0, omega arith, g.left)

abbrev Found : Fill → State → Pair → List Call → ℕ → Type 0
Found fill s p calls k = (u : ℕ) × IsMomentOf calls k u × LeftIn (after_all s (take u calls)) (image_left fill p calls k)

further : (fill : Fill) (s : State) (p : Pair) (c : Call) (calls : List Call) (k : ℕ) → Found fill (after s c) (with_call fill p c) calls k → (u : ℕ) × ((suc (place_of calls k) ≤ u) × (u ≤ suc (place_of calls k) + 1)) × LeftIn (after_all s (take u (c ∷ calls))) (image_left fill (with_call fill p c) calls k)
further fill s p c calls k found = (suc found.0, (omega (arith, found.1.0), omega (arith, found.1.1)), found.2)

one_more : (c : Call) (calls : List Call) (k : ℕ) → calls_by c ≡ 1 → suc k < sum_by calls_by (c ∷ calls) → k < sum_by calls_by calls
one_more c calls k one small = let whole = sum_by-cons calls_by c calls in omega (arith, one, small, whole)

find : (fill : Fill) (s : State) (p : Pair) (calls : List Call) (k : ℕ) → Goes s p → k < sum_by calls_by calls → Found fill s p calls k
find fill s p [] k g small = absurd (omega (arith, small))
find fill s p (marked ∷ calls) k g small = further fill s p marked calls k (find fill s p calls k g (let whole = sum_by-cons calls_by marked calls in omega (arith, small, whole)))
find fill s p (wrote at bytes ∷ calls) zero g small = let here = within fill s p (wrote at bytes) calls g in (here.0, (omega arith, omega (arith, here.1)), here.2)
find fill s p (wrote at bytes ∷ calls) (suc k) g small = further fill s p (wrote at bytes) calls k (find fill (after s (wrote at bytes)) (with_call fill p (wrote at bytes)) calls k (goes_on fill s p (wrote at bytes) g) (one_more (wrote at bytes) calls k refl small))
find fill s p (synced ∷ calls) zero g small = let here = within fill s p synced calls g in (here.0, (omega arith, omega (arith, here.1)), here.2)
find fill s p (synced ∷ calls) (suc k) g small = further fill s p synced calls k (find fill (after s synced) (with_call fill p synced) calls k (goes_on fill s p synced g) (one_more synced calls k refl small))
find fill s p (other ∷ calls) zero g small = let here = within fill s p other calls g in (here.0, (omega arith, omega (arith, here.1)), here.2)
find fill s p (other ∷ calls) (suc k) g small = further fill s p other calls k (find fill (after s other) (with_call fill p other) calls k (goes_on fill s p other g) (one_more other calls k refl small))

-- the image that is given is one that a crash at a moment of the call leaves
pub image_is_left : (fill : Fill) (h : History) (k : ℕ) → k < sum_by calls_by h.calls → (u : ℕ) × IsMomentOf h.calls k u × (replayed h).leaves u (image_left fill (alike h.first) h.calls k)
image_is_left fill h k small = find fill (begun h.first) (alike h.first) h.calls k (record { content = refl; left = refl }) small

pub images_are_left : {E : Type 0} (fill : Fill) (h : History) (k : ℕ) → k < sum_by calls_by h.calls → (r : Result (Vec ℕ Global) E) → IfOk r (λ image. image.items ≡ image_left fill (alike h.first) h.calls k) → IfOk r (λ image. (u : ℕ) × IsMomentOf h.calls k u × (replayed h).leaves u image.items)
images_are_left fill h k small (Ok image) same = subst (λ (i : Image). (u : ℕ) × IsMomentOf h.calls k u × (replayed h).leaves u i) (sym same) (image_is_left fill h k small)
images_are_left fill h k small (Err e) same = same
