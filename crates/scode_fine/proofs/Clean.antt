-- A method whose code is walked along, with its marks as entries, breaks no rule on code.
use Rattle.std.proofs.Common.{◌≡◌, ◌⊎◌, inl, inr, ℕ, ◌+◌, ◌<◌, Bool, true, false, List, [], length, Option, Some, None, refl, sym, ap, subst, ◌∙◌, arith}
use Rattle.std.specs.Prelude.{slice_get}
use Rattle.std.proofs.lemmas.Bool.{and_from, and_parts, both_ways, not-true}
use Rattle.std.proofs.lemmas.List.{length-reverse}
use Rattle.scode_image.specs.declared.image.ImageEntry.{ImageEntry}
use Rattle.scode_ops.specs.declared.op.Op.{Op}
use Rattle.scode_ops.specs.declared.op.Op.TheVariants as op
use Rattle.scode_ops.specs.Decoding.{op_at, size_of}
use Rattle.scode_code.specs.Breaks as breaks
use Rattle.scode_code.specs.Breaks.{Arrives, CodeBreaks, IsReached, IsStart, KindsAt, StartsAt}
use Rattle.scode_code.specs.CodeRules.{after, all_meet, entry_at, entry_shape, field_missing, first_shape, is_end, jumps_to, locals_after, number_missing, result_differs}
use Rattle.scode_code.specs.Kinds.{Shape, all_go, shape_goes}
use Rattle.scode_code.specs.Wants.{needs}
use Rattle.scode_code.specs.declared.needs.Need.{Need}
use Rattle.scode_code.proofs.Places.{none_some, some_eq, within_code}
use Rattle.scode_code.proofs.Verifies.{shape_goes_to_itself}
use Rattle.scode_whole.proofs.Truths.{no_truth}
use Rattle.scode_entries.specs.declared.marks.Mark.{Mark}
use Rattle.scode_entries.specs.Entries.{mark}
use Rattle.scode_fine.proofs.Finer.{fields_over, has_many, has_meet, has_over, locals_over, needs_same, result_over, stack_over}
use Rattle.scode_fine.proofs.Goings.{Ordered, all_go_length, all_go_over}
use Rattle.scode_fine.proofs.Has.{Has}
use Rattle.scode_fine.proofs.Points.{Coded, Come, Front, Point, agrees, ends_there, front, front_behind, marked, stands_there, starts_there, turned}
use Rattle.scode_fine.proofs.Walks.{Fits, GoesOn, Ground, Joins, JumpsTo, Stack, Walks, has_all, here, left_by}

-- the entries of a method are those of these marks
pub record Entered (g : Ground) (all : List Mark) : Type 0 where
  pub from : (place : ℕ) (e : ImageEntry) → entry_at g.m place ≡ Some e →
      (k : Mark) × Has all k × (k.place ≡ place) × (entry_shape e ≡ here g k.stack)
  pub there : (k : Mark) → Has all k → (e : ImageEntry) × (entry_at g.m k.place ≡ Some e)
  pub each : (n : ℕ) (e : ImageEntry) → slice_get g.m.entries n ≡ Some e → (k : Mark) × Has all k × (k.place ≡ e.place)

-- what is known of a method's code
pub record Walked (g : Ground) (whole : List Op) (all : List Mark) (ts : List ℕ) : Type 0 where
  pub coded : Coded g.m whole
  pub entered : Entered g all
  pub ordered : Ordered g.image
  pub walk : Walks g 0 (Some []) whole all ts None
  pub told : (place : ℕ) (stack : Stack) → g.Told place stack → Has all (mark place stack)
  pub turns : (place : ℕ) → g.Turned place → Has ts place

next_is : (g : Ground) (left : Stack) (b : Bool) (n : Option Stack) → b ≡ false → GoesOn g b left n →
    (s : Stack) × (n ≡ Some s) × (all_go g.image left s ≡ true)
next_is g left true n e h = no_truth (sym e)
next_is g left false None e h = absurd h
next_is g left false (Some s) e h = (s, refl, h)

none_next : (g : Ground) (left : Stack) (b : Bool) (n : Option Stack) → b ≡ true → GoesOn g b left n → n ≡ None
none_next g left true None e h = refl
none_next g left true (Some s) e h = absurd h
none_next g left false n e h = no_truth e

module _ (g : Ground) (whole : List Op) (all : List Mark) (ts : List ℕ) (w : Walked g whole all ts) where
  -- kinds that go to those declared at an instruction there
  abbrev Finer : ℕ → Shape → Type 0
  Finer place shape = (p : Point g whole all place) × (shape_goes g.image shape (here g p.stack) ≡ true)

  first_come : Come g whole all 0 (Some []) whole all
  first_come = record {
    before = [];
    split = refl;
    counted = refl;
    reached = breaks.first;
    told = [];
    marks = refl;
    passed = λ k h. absurd h;
  }

  first_finer : Finer 0 (first_shape g.m)
  first_finer = by_front (front g whole all w.walk first_come refl)
    where
      by_front : Front g whole all 0 (Some []) whole → Finer 0 (first_shape g.m)
      by_front (inl e) = absurd (none_some [] (sym e.0))
      by_front (inr q) = (
        q.0,
        subst (λ (s : Stack). shape_goes g.image (first_shape g.m) (here g s) ≡ true) q.1
            (shape_goes_to_itself g.image (here g [])),
      )

  -- what is left by an instruction with finer kinds is finer than what is declared behind it
  behind_finer : (place : ℕ) (shape : Shape) (p : Point g whole all place) → shape_goes g.image shape (here g p.stack) ≡ true →
      is_end p.i ≡ false → Finer (place + size_of p.i) (after g.image shape p.i)
  behind_finer place shape p goes on =
      subst (λ (n : ℕ). Finer n (after g.image shape p.i)) p.step (by_front (front_behind g whole all w.coded place p))
    where
      next : (s : Stack) × (p.next ≡ Some s) × (all_go g.image (left_by g p.stack p.i) s ≡ true)
      next = next_is g (left_by g p.stack p.i) (is_end p.i) p.next on p.steps.goes_on

      parts : (all_go g.image shape.locals g.m.locals ≡ true) × (all_go g.image shape.stack p.stack ≡ true)
      parts = and_parts (all_go g.image shape.locals g.m.locals) (all_go g.image shape.stack p.stack) goes

      locals_go : all_go g.image (locals_after shape p.i) g.m.locals ≡ true
      locals_go =
          all_go_over g.image w.ordered (locals_after shape p.i) (locals_after (here g p.stack) p.i) g.m.locals
          (locals_over g.image w.ordered p.i shape (here g p.stack) parts.0 parts.1) p.steps.fits.locals

      stack_there : (s : Stack) → all_go g.image (left_by g p.stack p.i) s ≡ true →
          all_go g.image (after g.image shape p.i).stack s ≡ true
      stack_there s h =
          all_go_over g.image w.ordered (after g.image shape p.i).stack (left_by g p.stack p.i) s
          (stack_over g.image w.ordered p.i shape (here g p.stack) parts.0 parts.1) h

      goes_to_next : (s : Stack) → next.0 ≡ s → shape_goes g.image (after g.image shape p.i) (here g s) ≡ true
      goes_to_next s e =
          and_from (all_go g.image (locals_after shape p.i) g.m.locals) (all_go g.image (after g.image shape p.i).stack s)
          locals_go
          (stack_there s (subst (λ (t : Stack). all_go g.image (left_by g p.stack p.i) t ≡ true) e next.2))

      by_front : Front g whole all p.to p.next p.ops → Finer p.to (after g.image shape p.i)
      by_front (inl e) = absurd (none_some next.0 (sym e.0 ∙ next.1))
      by_front (inr q) =
          let same : next.0 ≡ q.0.stack = subst (λ (n : Option Stack). Joins n q.0.stack) next.1 q.1 in
          (q.0, goes_to_next q.0.stack same)

  op_is : (place : ℕ) (i : Op) (p : Point g whole all place) → StartsAt g.m place i → p.i ≡ i
  op_is place i p starts = some_eq p.i i (sym (stands_there g whole all w.coded place p) ∙ starts.stands)

  on_finer : (place : ℕ) (shape : Shape) (i : Op) → Finer place shape → StartsAt g.m place i → is_end i ≡ false →
      Finer (place + size_of i) (after g.image shape i)
  on_finer place shape i f starts on =
      subst (λ (j : Op). is_end j ≡ false → Finer (place + size_of j) (after g.image shape j))
      (op_is place i f.0 starts) (behind_finer place shape f.0 f.1) on

  -- ---- points at all places

  behind_point : (before : ℕ) (i : Op) (q : Point g whole all before) → op_at g.m.code before ≡ Some i →
      before + size_of i < length g.m.code → Point g whole all (before + size_of i)
  behind_point before i q stands within = by_front (front_behind g whole all w.coded before q)
    where
      same : q.i ≡ i
      same = some_eq q.i i (sym (stands_there g whole all w.coded before q) ∙ stands)

      next : q.to ≡ before + size_of i
      next = q.step ∙ ap (λ (j : Op). before + size_of j) same

      by_front : Front g whole all q.to q.next q.ops → Point g whole all (before + size_of i)
      by_front (inl e) =
          let end = ends_there g whole all w.coded before q e.1 in
          let at = next in absurd (omega (arith, end, within, at))
      by_front (inr r) = subst (λ (n : ℕ). Point g whole all n) next r.0

  point_at : (place : ℕ) → IsReached g.m place → place < length g.m.code → Point g whole all place
  point_at place breaks.first within = first_finer.0
  point_at place (breaks.behind before i reached stands) within =
      behind_point before i (point_at before reached (within_code g.m.code before i stands)) stands within

  start_point : (place : ℕ) → IsStart g.m place → Point g whole all place
  start_point place start = point_at place start.1.reached (within_code g.m.code place start.0 start.1.stands)

  mark_point : (k : Mark) → Has all k → Point g whole all k.place
  mark_point k h = marked g whole all w.coded w.walk first_come refl k h

  point_start : (place : ℕ) → Point g whole all place → IsStart g.m place
  point_start place p = (p.i, starts_there g whole all w.coded place p)

  -- ---- kinds at all places

  entry_is : (place : ℕ) (e : ImageEntry) (p : Point g whole all place) → entry_at g.m place ≡ Some e →
      entry_shape e ≡ here g p.stack
  entry_is place e p there =
      let k = w.entered.from place e there in
      k.3 ∙ ap (λ (s : Stack). here g s) (agrees g whole all place p k.0 k.1 k.2)

  entry_finer : (place : ℕ) (e : ImageEntry) → IsStart g.m place → entry_at g.m place ≡ Some e → Finer place (entry_shape e)
  entry_finer place e start there =
      let p = start_point place start in (
        p,
        subst (λ (s : Shape). shape_goes g.image s (here g p.stack) ≡ true) (sym (entry_is place e p there))
            (shape_goes_to_itself g.image (here g p.stack)),
      )

  kinds_finer : (place : ℕ) (shape : Shape) → KindsAt g.image g.m place shape → Finer place shape
  kinds_finer place shape (breaks.entered at e start there) = entry_finer at e start there
  kinds_finer place shape (breaks.begun none) = first_finer
  kinds_finer place shape (breaks.left at before i kinds starts on none) =
      on_finer at before i (kinds_finer at before kinds) starts on

  arrival_finer : (place : ℕ) (shape : Shape) → Arrives g.image g.m place shape → Finer place shape
  arrival_finer place shape breaks.at_first = first_finer
  arrival_finer place shape (breaks.from_before at before i kinds starts on) =
      on_finer at before i (kinds_finer at before kinds) starts on

  -- ---- what is known of an instruction

  fits_there : (place : ℕ) (i : Op) (p : Point g whole all place) → StartsAt g.m place i → Fits g p.stack i
  fits_there place i p starts = subst (λ (j : Op). Fits g p.stack j) (op_is place i p starts) p.steps.fits

  jumps_there : (place to : ℕ) (i : Op) (p : Point g whole all place) → StartsAt g.m place i → jumps_to i ≡ Some to →
      JumpsTo g place (left_by g p.stack i) (Some to)
  jumps_there place to i p starts is =
      subst (λ (o : Option ℕ). JumpsTo g place (left_by g p.stack i) o) is
      (subst (λ (j : Op). JumpsTo g place (left_by g p.stack j) (jumps_to j)) (op_is place i p starts) p.steps.jumps)

  stack_goes : (s : Shape) (p : Stack) → shape_goes g.image s (here g p) ≡ true → all_go g.image s.stack p ≡ true
  stack_goes s p goes = (and_parts (all_go g.image s.locals g.m.locals) (all_go g.image s.stack p) goes).1

  -- what is left goes to what is declared, at the same instruction
  left_goes : (s : Shape) (i : Op) (p : Stack) → shape_goes g.image s (here g p) ≡ true → Fits g p i →
      shape_goes g.image (after g.image s i) (here g (left_by g p i)) ≡ true
  left_goes s i p goes fits =
      let parts = and_parts (all_go g.image s.locals g.m.locals) (all_go g.image s.stack p) goes in
      and_from (all_go g.image (locals_after s i) g.m.locals) (all_go g.image (after g.image s i).stack (left_by g p i))
      (all_go_over g.image w.ordered (locals_after s i) (locals_after (here g p) i) g.m.locals
      (locals_over g.image w.ordered i s (here g p) parts.0 parts.1) fits.locals)
      (stack_over g.image w.ordered i s (here g p) parts.0 parts.1)

  cells_there : (s : Shape) (i : Op) (p : Stack) → shape_goes g.image s (here g p) ≡ true → Fits g p i →
      has_all g.image (needs g.image s i) s.stack ≡ true
  cells_there s i p goes fits =
      subst (λ (ns : List Need). has_all g.image ns s.stack ≡ true) (needs_same g.image (here g p) s i)
      (has_over g.image w.ordered (needs g.image (here g p) i) s.stack p (stack_goes s p goes) fits.cells)

  -- ---- the rules

  pub clean : (place rule : ℕ) → CodeBreaks g.image g.m place rule → ⊥
  clean place rule (breaks.no_code none) =
      let p = first_finer.0 in
      let within = within_code g.m.code 0 p.i (stands_there g whole all w.coded 0 p) in omega (arith, within, none)
  clean place rule (breaks.nothing_stands at reached within none) =
      let p = point_at at reached within in none_some p.i (sym none ∙ stands_there g whole all w.coded at p)
  clean place rule (breaks.runs_past at i starts on past) =
      let p = start_point at (i, starts) in
      let q = (on_finer at (here g p.stack) i (p, shape_goes_to_itself g.image (here g p.stack)) starts on).0 in
      let within = within_code g.m.code (at + size_of i) q.i (stands_there g whole all w.coded (at + size_of i) q) in
      omega (arith, within, past)
  clean place rule (breaks.misses_start at to i starts is none) =
      let p = start_point at (i, starts) in
      let j = jumps_there at to i p starts is in
      none (point_start to (mark_point (mark to (left_by g p.stack i)) (w.told to (left_by g p.stack i) j.0)))
  clean place rule (breaks.goes_back at to i j starts is back target other) =
      by_jump (jumps_there at to i (start_point at (i, starts)) starts is).1
    where
      by_jump : (at < to) ⊎ g.Turned to → ⊥
      by_jump (inl less) = omega (arith, less, back)
      by_jump (inr turn) =
          other (some_eq j op.Turn (sym target.stands ∙ turned g whole all w.coded w.walk first_come refl to (w.turns to turn)))
  clean place rule (breaks.lacks_number at i starts lacks) =
      let p = start_point at (i, starts) in
      both_ways (number_missing g.image g.m i) (fits_there at i p starts).numbers lacks
  clean place rule (breaks.enters_above at e start there high) =
      let f = entry_finer at e start there in
      let long = length-reverse e.stack in
      let same = all_go_length g.image (entry_shape e).stack f.0.stack (stack_goes (entry_shape e) f.0.stack f.1) in
      let low = f.0.steps.fits.low in omega (arith, long, same, low, high)
  clean place rule (breaks.lacks_cell at s i runs few) =
      let f = kinds_finer at s runs.kinds in
      let many = has_many g.image (needs g.image s i) s.stack (cells_there s i f.0.stack f.1 (fits_there at i f.0 runs.starts)) in
      omega (arith, many, few)
  clean place rule (breaks.goes_above at s i runs high) =
      let f = kinds_finer at s runs.kinds in
      let fits = fits_there at i f.0 runs.starts in
      let same = all_go_length g.image (after g.image s i).stack (left_by g f.0.stack i)
      (stack_goes (after g.image s i) (left_by g f.0.stack i) (left_goes s i f.0.stack f.1 fits)) in
      let low = fits.left_low in omega (arith, same, low, high)
  clean place rule (breaks.differs at s i runs other) =
      let f = kinds_finer at s runs.kinds in
      let met = has_meet g.image (needs g.image s i) s.stack (cells_there s i f.0.stack f.1 (fits_there at i f.0 runs.starts)) in
      both_ways (all_meet g.image (needs g.image s i) s.stack) (not-true (all_meet g.image (needs g.image s i) s.stack) other) met
  clean place rule (breaks.lacks_field at s i runs lacks) =
      let f = kinds_finer at s runs.kinds in
      let fits = fits_there at i f.0 runs.starts in
      both_ways (field_missing g.image s.stack i)
      (fields_over g.image w.ordered i s.stack f.0.stack (stack_goes s f.0.stack f.1) fits.fields) lacks
  clean place rule (breaks.no_entry at to i starts is none) =
      let p = start_point at (i, starts) in
      let j = jumps_there at to i p starts is in
      let e = w.entered.there (mark to (left_by g p.stack i)) (w.told to (left_by g p.stack i) j.0) in
      none_some e.0 (sym none ∙ e.1)
  clean place rule (breaks.brings_other at to s i e runs is there other) =
      let f = kinds_finer at s runs.kinds in
      let fits = fits_there at i f.0 runs.starts in
      let left = left_by g f.0.stack i in
      let j = jumps_there at to i f.0 runs.starts is in
      let q = mark_point (mark to left) (w.told to left j.0) in
      let same : left ≡ q.stack = agrees g whole all to q (mark to left) (w.told to left j.0) refl in
      let entry : here g left ≡ entry_shape e = ap (λ (t : Stack). here g t) same ∙ sym (entry_is to e q there) in
      both_ways (shape_goes g.image (after g.image s i) (entry_shape e)) other
      (subst (λ (t : Shape). shape_goes g.image (after g.image s i) t ≡ true) entry (left_goes s i f.0.stack f.1 fits))
  clean place rule (breaks.arrives_other at s e start arrives there other) =
      let f = arrival_finer at s arrives in
      both_ways (shape_goes g.image s (entry_shape e)) other
      (subst (λ (t : Shape). shape_goes g.image s t ≡ true) (sym (entry_is at e f.0 there)) f.1)
  clean place rule (breaks.nothing_arrives at i starts end start none) =
      by_front (front_behind g whole all w.coded at p)
    where
      p : Point g whole all at
      p = start_point at (i, starts)

      same : p.i ≡ i
      same = op_is at i p starts

      next : p.to ≡ at + size_of i
      next = p.step ∙ ap (λ (j : Op). at + size_of j) same

      over : p.next ≡ None
      over =
          none_next g (left_by g p.stack p.i) (is_end p.i) p.next (ap (λ (j : Op). is_end j) same ∙ end) p.steps.goes_on

      by_front : Front g whole all p.to p.next p.ops → ⊥
      by_front (inl e) =
          let past = ends_there g whole all w.coded at p e.1 in
          let within = within_code g.m.code (at + size_of i) start.0 start.1.stands in
          let to = next in omega (arith, past, within, to)
      by_front (inr q) =
          let k = q.2 over in
          let e = w.entered.there k.0 k.1 in
          none_some e.0 (sym none ∙ sym (ap (λ (n : ℕ). entry_at g.m n) (k.2 ∙ next)) ∙ e.1)
  clean place rule (breaks.enters_no_start n e there none) =
      let k = w.entered.each n e there in
      none (subst (λ (m : ℕ). IsStart g.m m) k.2 (point_start k.0.place (mark_point k.0 k.1)))
  clean place rule (breaks.returns_other at s i runs other) =
      let f = kinds_finer at s runs.kinds in
      let fits = fits_there at i f.0 runs.starts in
      both_ways (result_differs g.image g.m s i)
      (result_over g.image w.ordered i g.m s (here g f.0.stack) (stack_goes s f.0.stack f.1) fits.result) other
