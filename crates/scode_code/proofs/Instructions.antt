-- The rules at one instruction: those that the walk tells are those that are broken there.
use Rattle.std.proofs.Common.{◌≡◌, ◌⊎◌, inl, inr, ℕ, ◌+◌, ◌<◌, ◌≤◌, Bool, true, false, List, [], ◌∷◌, ◌++◌, length, refl, sym, ◌∙◌, ap, subst, arith, ltb-false, ltb-true, lt-ltb, leb-true}
use Rattle.std.specs.Prelude.{◌&&◌, ◌||◌, ◌≢◌, not, nat_le, nat_lt, Option, Some, None}
use Rattle.std.specs.Option.{option_map_or}
use Rattle.std.proofs.lemmas.Bool.{and_parts, le-ltb, le-leb}
use Rattle.std.proofs.lemmas.List.{length-reverse}
use Rattle.scode_ops.specs.declared.op.Op.{Op}
use Rattle.scode_ops.specs.declared.op.Op.TheVariants.{Turn}
use Rattle.scode_ops.specs.Decoding.{op_at, size_of}
use Rattle.scode_image.specs.declared.image.Image.{Image}
use Rattle.scode_image.specs.declared.image.ImageEntry.{ImageEntry}
use Rattle.scode_image.specs.declared.image.ImageMethod.{ImageMethod}
use Rattle.scode_code.specs.Kinds.{Shape, shape_goes}
use Rattle.scode_code.specs.Wants.{needs}
use Rattle.scode_code.specs.CodeRules.{after, arrives, arrives_wrong, broken_at, broken_by, broken_with, broken_without, carried_wrong, entry_at, entry_shape, field_missing, first_of, goes_back, is_end, is_start, is_turn, jumps_to, kind_differs, kind_rules, misses_start, number_missing, plain_rules, result_differs, rules_with, rules_without, runs_past, shape_at, stack_breaks}
use Rattle.scode_code.specs.Breaks as breaks
use Rattle.scode_code.specs.Breaks.{StartsAt, IsStart, KindsAt, Runs, CodeBreaks}
use Rattle.scode_code.proofs.Places.{none_some, one_stands, some_eq, start_is, start_or_not, start_told, within_code}
use Rattle.scode_code.proofs.Tells.{Tells, AtMost, ascend, first_tells, first_is_least}
use Rattle.scode_code.proofs.Arrivals.{Comes, EndsAt, kinds_are, kinds_stand, ends_none}

pub not_true : (b : Bool) → not b ≡ true → b ≡ false
not_true true e = absurd cc
not_true false e = refl

pub or_true : (a b : Bool) → a || b ≡ true → (a ≡ true) ⊎ (b ≡ true)
or_true true b e = inl refl
or_true false b e = inr e

pub or_left : (a b : Bool) → a ≡ true → a || b ≡ true
or_left true b e = refl
or_left false b e = absurd cc

pub or_right : (a b : Bool) → b ≡ true → a || b ≡ true
or_right true b e = refl
or_right false b e = e

-- ---- what is told is broken

turn_is : (j : Op) → is_turn (Some j) ≡ false → j ≢ Turn
turn_is j e same = let turn : is_turn (Some j) ≡ true = ap (λ (k : Op). is_turn (Some k)) same in absurd cc

-- a rule that is told, with none below it
abbrev IsFirst : List (ℕ × Bool) → ℕ → Type 0
IsFirst rules r = (k : ℕ) → k < r → Tells rules k → ⊥

module _ (image : Image) (m : ImageMethod) (place : ℕ) (i : Op) (starts : StartsAt m place i) where
  past_breaks : runs_past m place i ≡ true → CodeBreaks image m place 2
  past_breaks e =
      let p = and_parts (not (nat_lt (place + size_of i) (length m.code))) (not (is_end i)) e in
      breaks.runs_past place i starts (not_true (is_end i) p.1)
      (ltb-false (place + size_of i) (length m.code) (not_true (nat_lt (place + size_of i) (length m.code)) p.0))

  misses_breaks : (o : Option ℕ) → jumps_to i ≡ o → option_map_or (λ to. not (is_start m.code to)) o false ≡ true
      → CodeBreaks image m place 3
  misses_breaks None to e = absurd cc
  misses_breaks (Some to) is e =
      breaks.misses_start place to i starts is
      (λ start. let told = start_told m to start in let none = not_true (is_start m.code to) e in absurd cc)

  back_breaks : (o : Option ℕ) → jumps_to i ≡ o
      → option_map_or (λ to. nat_le to place && not (is_turn (op_at m.code to))) o false ≡ true
      → (option_map_or (λ to. not (is_start m.code to)) o false ≡ true → ⊥) → CodeBreaks image m place 4
  back_breaks None to e hits = absurd cc
  back_breaks (Some to) is e hits = by_start (start_or_not m to)
    where
      parts : (nat_le to place ≡ true) × (not (is_turn (op_at m.code to)) ≡ true)
      parts = and_parts (nat_le to place) (not (is_turn (op_at m.code to))) e

      no_start : (b : Bool) → is_start m.code to ≡ b → (IsStart m to → ⊥) → not b ≡ true
      no_start true told none = absurd (none (start_is m to told))
      no_start false told none = refl

      by_start : IsStart m to ⊎ (IsStart m to → ⊥) → CodeBreaks image m place 4
      by_start (inl start) =
          breaks.goes_back place to i start.0 starts is (leb-true to place parts.0) start.1
          (turn_is start.0
          (ap is_turn (sym start.1.stands) ∙ not_true (is_turn (op_at m.code to)) parts.1))
      by_start (inr none) = absurd (hits (no_start (is_start m.code to) refl none))

  -- rules 2 to 5, or one of the rules behind them
  plain_breaks : (rest : List (ℕ × Bool)) (r : ℕ) → IsFirst (plain_rules image m place i ++ rest) r
      → Tells (plain_rules image m place i ++ rest) r → CodeBreaks image m place r ⊎ Tells rest r
  plain_breaks rest r least (inl is) =
      inl (subst (λ (k : ℕ). CodeBreaks image m place k) (sym is.0) (past_breaks is.1))
  plain_breaks rest r least (inr (inl is)) =
      inl (subst (λ (k : ℕ). CodeBreaks image m place k) (sym is.0) (misses_breaks (jumps_to i) refl is.1))
  plain_breaks rest r least (inr (inr (inl is))) =
      inl (subst (λ (k : ℕ). CodeBreaks image m place k) (sym is.0)
      (back_breaks (jumps_to i) refl is.1
      (λ missed. least 3 (let four = is.0 in omega (arith, four)) (inr (inl (refl, missed))))))
  plain_breaks rest r least (inr (inr (inr (inl is)))) =
      inl (subst (λ (k : ℕ). CodeBreaks image m place k) (sym is.0) (breaks.lacks_number place i starts is.1))
  plain_breaks rest r least (inr (inr (inr (inr more)))) = inr more

module _ (image : Image) (m : ImageMethod) (place : ℕ) (i : Op) (starts : StartsAt m place i) (carried : Option Shape)
    (w : Comes image m place carried) (s : Shape) (here : shape_at (entry_at m place) carried ≡ Some s) where
  runs : Runs image m place s i
  runs = record { starts = starts; kinds = kinds_stand image m place carried s w (i, starts) here }

  above_breaks : m.stack < length s.stack → CodeBreaks image m place 6
  unfolding runs
  above_breaks high = by_entry (entry_at m place) refl here
    where
      by_entry : (o : Option ImageEntry) → entry_at m place ≡ o → shape_at o carried ≡ Some s
          → CodeBreaks image m place 6
      by_entry None none is = let low = w.low s is in absurd (omega (arith, high, low))
      by_entry (Some e) there is =
          let same : length s.stack ≡ length e.stack =
          ap (λ (t : Shape). length t.stack) (sym (some_eq (entry_shape e) s is)) ∙ length-reverse e.stack in
          breaks.enters_above place e (i, starts) there (omega (arith, high, same))

  stack_breaks_there : stack_breaks image m s i ≡ true → CodeBreaks image m place 6
  stack_breaks_there e = by_part (or_true _ _ e)
    where
      by_cells : (nat_lt m.stack (length s.stack) ≡ true)
          ⊎ (nat_lt (length s.stack) (length (needs image s i)) ≡ true) → CodeBreaks image m place 6
      by_cells (inl t) = above_breaks (ltb-true m.stack (length s.stack) t)
      by_cells (inr t) =
          breaks.lacks_cell place s i runs (ltb-true (length s.stack) (length (needs image s i)) t)

      by_part : (nat_lt m.stack (length s.stack) || nat_lt (length s.stack) (length (needs image s i)) ≡ true)
          ⊎ (nat_lt m.stack (length (after image s i).stack) ≡ true) → CodeBreaks image m place 6
      by_part (inl t) =
          by_cells (or_true (nat_lt m.stack (length s.stack))
          (nat_lt (length s.stack) (length (needs image s i))) t)
      by_part (inr t) = breaks.goes_above place s i runs (ltb-true m.stack (length (after image s i).stack) t)

  wrong_breaks : carried_wrong image (entry_at m place) carried ≡ true → CodeBreaks image m place 9
  wrong_breaks e = by_parts (entry_at m place) refl carried refl e
    where
      by_parts : (o : Option ImageEntry) → entry_at m place ≡ o → (c : Option Shape) → carried ≡ c
          → carried_wrong image o c ≡ true → CodeBreaks image m place 9
      by_parts None is c same e = absurd cc
      by_parts (Some entry) is None same e = absurd cc
      by_parts (Some entry) is (Some t) same e =
          breaks.arrives_other place t entry (i, starts) (w.arrives t same) is
          (not_true (shape_goes image t (entry_shape entry)) e)

  brings_breaks : (o : Option ℕ) → jumps_to i ≡ o
      → option_map_or (λ to. not (arrives image (after image s i) (entry_at m to))) o false ≡ true
      → CodeBreaks image m place 9
  brings_breaks None to e = absurd cc
  brings_breaks (Some to) is e =
      by_entry (entry_at m to) refl (not_true (arrives image (after image s i) (entry_at m to)) e)
    where
      by_entry : (o : Option ImageEntry) → entry_at m to ≡ o → arrives image (after image s i) o ≡ false
          → CodeBreaks image m place 9
      by_entry None none e = breaks.no_entry place to i starts is none
      by_entry (Some entry) there e = breaks.brings_other place to s i entry runs is there e

  kinds_break : (r : ℕ)
      → Tells (kind_rules image m (carried_wrong image (entry_at m place) carried) s i) r → CodeBreaks image m place r
  kinds_break r (inl is) = subst (λ (k : ℕ). CodeBreaks image m place k) (sym is.0) (stack_breaks_there is.1)
  kinds_break r (inr (inl is)) =
      subst (λ (k : ℕ). CodeBreaks image m place k) (sym is.0) (breaks.differs place s i runs is.1)
  kinds_break r (inr (inr (inl is))) =
      subst (λ (k : ℕ). CodeBreaks image m place k) (sym is.0) (breaks.lacks_field place s i runs is.1)
  kinds_break r (inr (inr (inr (inl is)))) =
      subst (λ (k : ℕ). CodeBreaks image m place k) (sym is.0)
      (by_part (or_true (carried_wrong image (entry_at m place) carried) (arrives_wrong image m s i) is.1))
    where
      by_part : (carried_wrong image (entry_at m place) carried ≡ true) ⊎ (arrives_wrong image m s i ≡ true)
          → CodeBreaks image m place 9
      by_part (inl e) = wrong_breaks e
      by_part (inr e) = brings_breaks (jumps_to i) refl e
  kinds_break r (inr (inr (inr (inr (inl is))))) =
      subst (λ (k : ℕ). CodeBreaks image m place k) (sym is.0) (breaks.returns_other place s i runs is.1)
  kinds_break r (inr (inr (inr (inr (inr none))))) = absurd none

-- nothing arrives there
lonely_breaks : (image : Image) (m : ImageMethod) (place : ℕ) (i : Op) → StartsAt m place i → EndsAt m place
    → entry_at m place ≡ None → CodeBreaks image m place 9
lonely_breaks image m place i starts e none =
    subst (λ (p : ℕ). IsStart m p → entry_at m p ≡ None → CodeBreaks image m p 9) e.next
    (λ start no_entry. breaks.nothing_arrives e.before e.i e.starts e.end start no_entry) (i, starts) none

pub first_is_broken : (image : Image) (m : ImageMethod) (place : ℕ) (i : Op) (carried : Option Shape) (r : ℕ)
    → StartsAt m place i → Comes image m place carried → broken_at image m place carried i ≡ Some r
    → CodeBreaks image m place r
first_is_broken image m place i carried r starts w e = by_shape (shape_at (entry_at m place) carried) refl e
  where
    least : (rules : List (ℕ × Bool)) → first_of rules ≡ Some r → ((k : ℕ) → Tells rules k → AtMost (first_of rules) k)
        → IsFirst rules r
    least rules is all k below tells =
        let high : r ≤ k = subst (λ (o : Option ℕ). AtMost o k) is (all k tells) in omega (arith, high, below)

    none_entry : (o : Option ImageEntry) (c : Option Shape) → shape_at o c ≡ None → (o ≡ None) × (c ≡ None)
    none_entry None c none = (refl, none)
    none_entry (Some e) c none = absurd (none_some (entry_shape e) (sym none))

    without : shape_at (entry_at m place) carried ≡ None
        → CodeBreaks image m place r ⊎ Tells ((9, true) ∷ []) r → CodeBreaks image m place r
    without none (inl broken) = broken
    without none (inr (inl is)) =
        let parts = none_entry (entry_at m place) carried none in
        subst (λ (k : ℕ). CodeBreaks image m place k) (sym is.0)
        (lonely_breaks image m place i starts (w.ends parts.1) parts.0)
    without none (inr (inr more)) = absurd more

    with_kinds : (s : Shape) → shape_at (entry_at m place) carried ≡ Some s
        → CodeBreaks image m place r
        ⊎ Tells (kind_rules image m (carried_wrong image (entry_at m place) carried) s i) r
        → CodeBreaks image m place r
    with_kinds s here (inl broken) = broken
    with_kinds s here (inr told) = kinds_break image m place i starts carried w s here r told

    by_shape : (o : Option Shape) → shape_at (entry_at m place) carried ≡ o
        → broken_by image m place (carried_wrong image (entry_at m place) carried) o i ≡ Some r
        → CodeBreaks image m place r
    by_shape None none e =
        without none (plain_breaks image m place i starts ((9, true) ∷ []) r
        (least (rules_without image m place i) e
        (λ k tells. first_is_least (rules_without image m place i) 2 k refl tells))
        (first_tells (rules_without image m place i) r e))
    by_shape (Some s) here e =
        with_kinds s here (plain_breaks image m place i starts
        (kind_rules image m (carried_wrong image (entry_at m place) carried) s i) r
        (least (rules_with image m place (carried_wrong image (entry_at m place) carried) s i) e
        (λ k tells.
        first_is_least (rules_with image m place (carried_wrong image (entry_at m place) carried) s i) 2 k refl tells))
        (first_tells (rules_with image m place (carried_wrong image (entry_at m place) carried) s i) r e))

-- ---- what is broken is told

module _ (image : Image) (m : ImageMethod) (i : Op) where
  past_told : (place : ℕ) → is_end i ≡ false → length m.code ≤ place + size_of i → runs_past m place i ≡ true
  past_told place on past =
      let over : nat_lt (place + size_of i) (length m.code) ≡ false = le-ltb (place + size_of i) (length m.code) past in
      rw (over, on) refl

  missed_told : (to : ℕ) → jumps_to i ≡ Some to → (IsStart m to → ⊥) → misses_start m i ≡ true
  missed_told to is none = rw is (by_test (is_start m.code to) refl)
    where
      by_test : (b : Bool) → is_start m.code to ≡ b → not b ≡ true
      by_test true told = absurd (none (start_is m to told))
      by_test false told = refl

  back_told : (place to : ℕ) (j : Op) → jumps_to i ≡ Some to → to ≤ place → op_at m.code to ≡ Some j → j ≢ Turn
      → goes_back m place i ≡ true
  back_told place to j is back stands other =
      let low : nat_le to place ≡ true = le-leb to place back in rw (is, low, stands) (not_turn j other)
    where
      not_turn : (k : Op) → k ≢ Turn → not (is_turn (Some k)) ≡ true
      not_turn Turn other = absurd (other refl)
      not_turn _ other = refl

  brought_told : (s : Shape) (to : ℕ) → jumps_to i ≡ Some to
      → arrives image (after image s i) (entry_at m to) ≡ false → arrives_wrong image m s i ≡ true
  brought_told s to is wrong = rw (is, wrong) refl

-- what holds of one instruction at a place holds of the other
same_op : (m : ImageMethod) (place : ℕ) (i j : Op) → op_at m.code place ≡ Some i → StartsAt m place j → j ≡ i
same_op m place i j stands s = one_stands m place place j i refl s.stands stands

-- where kinds stand
pub broken_with_kinds : (image : Image) (m : ImageMethod) (place : ℕ) (i : Op) (carried : Option Shape) (s : Shape)
    (r : ℕ) → op_at m.code place ≡ Some i → Comes image m place carried → shape_at (entry_at m place) carried ≡ Some s
    → CodeBreaks image m place r
    → Tells (rules_with image m place (carried_wrong image (entry_at m place) carried) s i) r
broken_with_kinds image m place i carried s r stands w here (breaks.no_code none) =
    let within = within_code m.code 0 i stands in absurd (omega (arith, within, none))
broken_with_kinds image m place i carried s r stands w here (breaks.nothing_stands at reached within none) =
    absurd (none_some i (sym none ∙ stands))
broken_with_kinds image m place i carried s r stands w here (breaks.runs_past at j starts on past) =
    let same = same_op m place i j stands starts in
    inl (
      refl,
      past_told image m i place (subst (λ (k : Op). is_end k ≡ false) same on)
          (subst (λ (k : Op). length m.code ≤ place + size_of k) same past),
    )
broken_with_kinds image m place i carried s r stands w here (breaks.misses_start at to j starts is none) =
    let same = same_op m place i j stands starts in
    inr (inl (refl, missed_told image m i to (subst (λ (k : Op). jumps_to k ≡ Some to) same is) none))
broken_with_kinds image m place i carried s r stands w here (breaks.goes_back at to j k starts is back target other) =
    let same = same_op m place i j stands starts in
    inr (inr (inl (
      refl,
      back_told image m i place to k (subst (λ (o : Op). jumps_to o ≡ Some to) same is) back
          target.stands other,
    )))
broken_with_kinds image m place i carried s r stands w here (breaks.lacks_number at j starts lacks) =
    let same = same_op m place i j stands starts in
    inr (inr (inr (inl (refl, subst (λ (k : Op). number_missing image m k ≡ true) same lacks))))
broken_with_kinds image m place i carried s r stands w here (breaks.enters_above at e start there high) =
    let shape : entry_shape e ≡ s =
    some_eq (entry_shape e) s (sym (ap (λ (o : Option ImageEntry). shape_at o carried) there) ∙ here) in
    let long : length s.stack ≡ length e.stack =
    ap (λ (t : Shape). length t.stack) (sym shape) ∙ length-reverse e.stack in
    let above : nat_lt m.stack (length s.stack) ≡ true = lt-ltb m.stack (length s.stack) (omega (arith, high, long)) in
    inr (inr (inr (inr (inl (refl, or_left _ _ (or_left _ _ above))))))
broken_with_kinds image m place i carried s r stands w here (breaks.lacks_cell at t j runs few) =
    let same = same_op m place i j stands runs.starts in
    let shape = some_eq s t (sym here ∙ kinds_are image m place carried t w runs.kinds) in
    let less : length s.stack < length (needs image s i) =
    subst (λ (u : Shape). length u.stack < length (needs image u i)) (sym shape)
    (subst (λ (k : Op). length t.stack < length (needs image t k)) same few) in
    let told : nat_lt (length s.stack) (length (needs image s i)) ≡ true =
    lt-ltb (length s.stack) (length (needs image s i)) less in
    inr (inr (inr (inr (inl (refl, or_left _ _ (or_right (nat_lt m.stack (length s.stack)) _ told))))))
broken_with_kinds image m place i carried s r stands w here (breaks.goes_above at t j runs high) =
    let same = same_op m place i j stands runs.starts in
    let shape = some_eq s t (sym here ∙ kinds_are image m place carried t w runs.kinds) in
    let more : m.stack < length (after image s i).stack =
    subst (λ (u : Shape). m.stack < length (after image u i).stack) (sym shape)
    (subst (λ (k : Op). m.stack < length (after image t k).stack) same high) in
    let told : nat_lt m.stack (length (after image s i).stack) ≡ true =
    lt-ltb m.stack (length (after image s i).stack) more in
    inr (inr (inr (inr (inl (
      refl,
      or_right (nat_lt m.stack (length s.stack)
          || nat_lt (length s.stack) (length (needs image s i))) _ told,
    )))))
broken_with_kinds image m place i carried s r stands w here (breaks.differs at t j runs other) =
    let same = same_op m place i j stands runs.starts in
    let shape = some_eq s t (sym here ∙ kinds_are image m place carried t w runs.kinds) in
    inr (inr (inr (inr (inr (inl (
      refl,
      subst (λ (u : Shape). kind_differs image u i ≡ true) (sym shape)
          (subst (λ (k : Op). kind_differs image t k ≡ true) same other),
    ))))))
broken_with_kinds image m place i carried s r stands w here (breaks.lacks_field at t j runs lacks) =
    let same = same_op m place i j stands runs.starts in
    let shape = some_eq s t (sym here ∙ kinds_are image m place carried t w runs.kinds) in
    inr (inr (inr (inr (inr (inr (inl (
      refl,
      subst (λ (u : Shape). field_missing image u.stack i ≡ true) (sym shape)
          (subst (λ (k : Op). field_missing image t.stack k ≡ true) same lacks),
    )))))))
broken_with_kinds image m place i carried s r stands w here (breaks.no_entry at to j starts is none) =
    let same = same_op m place i j stands starts in
    let wrong : arrives image (after image s i) (entry_at m to) ≡ false = rw none refl in
    inr (inr (inr (inr (inr (inr (inr (inl (
      refl,
      or_right (carried_wrong image (entry_at m place) carried) _
          (brought_told image m i s to (subst (λ (k : Op). jumps_to k ≡ Some to) same is) wrong),
    ))))))))
broken_with_kinds image m place i carried s r stands w here (breaks.brings_other at to t j e runs is there other) =
    let same = same_op m place i j stands runs.starts in
    let shape = some_eq s t (sym here ∙ kinds_are image m place carried t w runs.kinds) in
    let differs : shape_goes image (after image s i) (entry_shape e) ≡ false =
    subst (λ (u : Shape). shape_goes image (after image u i) (entry_shape e) ≡ false) (sym shape)
    (subst (λ (k : Op). shape_goes image (after image t k) (entry_shape e) ≡ false) same other) in
    let wrong : arrives image (after image s i) (entry_at m to) ≡ false = rw there differs in
    inr (inr (inr (inr (inr (inr (inr (inl (
      refl,
      or_right (carried_wrong image (entry_at m place) carried) _
          (brought_told image m i s to (subst (λ (k : Op). jumps_to k ≡ Some to) same is) wrong),
    ))))))))
broken_with_kinds image m place i carried s r stands w here (breaks.arrives_other at t e start arrives there other) =
    let told = w.all t arrives in
    let wrong : carried_wrong image (entry_at m place) carried ≡ true = rw (there, told, other) refl in
    inr (inr (inr (inr (inr (inr (inr (inl (refl, or_left _ _ wrong))))))))
broken_with_kinds image m place i carried s r stands w here (breaks.nothing_arrives before j starts end start none) =
    let carries : carried ≡ Some s = sym (ap (λ (o : Option ImageEntry). shape_at o carried) none) ∙ here in
    absurd (ends_none image m place s (record { before = before; i = j; starts = starts; end = end; next = refl })
    (w.arrives s carries))
broken_with_kinds image m place i carried s r stands w here (breaks.enters_no_start n e there none) =
    absurd (none (i, record { reached = w.reached; stands = stands }))
broken_with_kinds image m place i carried s r stands w here (breaks.returns_other at t j runs other) =
    let same = same_op m place i j stands runs.starts in
    let shape = some_eq s t (sym here ∙ kinds_are image m place carried t w runs.kinds) in
    inr (inr (inr (inr (inr (inr (inr (inr (inl (
      refl,
      subst (λ (u : Shape). result_differs image m u i ≡ true) (sym shape)
          (subst (λ (k : Op). result_differs image m t k ≡ true) same other),
    )))))))))

-- where none stand
module _ (image : Image) (m : ImageMethod) (place : ℕ) (i : Op) (carried : Option Shape)
    (stands : op_at m.code place ≡ Some i) (w : Comes image m place carried)
    (none : shape_at (entry_at m place) carried ≡ None) where
  no_kinds : (s : Shape) → KindsAt image m place s → ⊥
  no_kinds s kinds = none_some s (sym none ∙ kinds_are image m place carried s w kinds)

  no_entry_there : (e : ImageEntry) → entry_at m place ≡ Some e → ⊥
  no_entry_there e there =
      none_some (entry_shape e) (sym none ∙ ap (λ (o : Option ImageEntry). shape_at o carried) there)

pub broken_without_kinds : (image : Image) (m : ImageMethod) (place : ℕ) (i : Op) (carried : Option Shape) (r : ℕ)
    → op_at m.code place ≡ Some i → Comes image m place carried → shape_at (entry_at m place) carried ≡ None
    → CodeBreaks image m place r → Tells (rules_without image m place i) r
broken_without_kinds image m place i carried r stands w bare (breaks.no_code none) =
    let within = within_code m.code 0 i stands in absurd (omega (arith, within, none))
broken_without_kinds image m place i carried r stands w bare (breaks.nothing_stands at reached within none) =
    absurd (none_some i (sym none ∙ stands))
broken_without_kinds image m place i carried r stands w bare (breaks.runs_past at j starts on past) =
    let same = same_op m place i j stands starts in
    inl (
      refl,
      past_told image m i place (subst (λ (k : Op). is_end k ≡ false) same on)
          (subst (λ (k : Op). length m.code ≤ place + size_of k) same past),
    )
broken_without_kinds image m place i carried r stands w bare (breaks.misses_start at to j starts is none) =
    let same = same_op m place i j stands starts in
    inr (inl (refl, missed_told image m i to (subst (λ (k : Op). jumps_to k ≡ Some to) same is) none))
broken_without_kinds image m place i carried r stands w bare (breaks.goes_back at to j k starts is back target other) =
    let same = same_op m place i j stands starts in
    inr (inr (inl (
      refl,
      back_told image m i place to k (subst (λ (o : Op). jumps_to o ≡ Some to) same is) back
          target.stands other,
    )))
broken_without_kinds image m place i carried r stands w bare (breaks.lacks_number at j starts lacks) =
    let same = same_op m place i j stands starts in
    inr (inr (inr (inl (refl, subst (λ (k : Op). number_missing image m k ≡ true) same lacks))))
broken_without_kinds image m place i carried r stands w bare (breaks.enters_above at e start there high) =
    absurd (no_entry_there image m place i carried stands w bare e there)
broken_without_kinds image m place i carried r stands w bare (breaks.lacks_cell at t j kept few) =
    absurd (no_kinds image m place i carried stands w bare t kept.kinds)
broken_without_kinds image m place i carried r stands w bare (breaks.goes_above at t j kept high) =
    absurd (no_kinds image m place i carried stands w bare t kept.kinds)
broken_without_kinds image m place i carried r stands w bare (breaks.differs at t j kept other) =
    absurd (no_kinds image m place i carried stands w bare t kept.kinds)
broken_without_kinds image m place i carried r stands w bare (breaks.lacks_field at t j kept lacks) =
    absurd (no_kinds image m place i carried stands w bare t kept.kinds)
broken_without_kinds image m place i carried r stands w bare (breaks.no_entry at to j starts is none) =
    inr (inr (inr (inr (inl (refl, refl)))))
broken_without_kinds image m place i carried r stands w bare (breaks.brings_other at to t j e kept is there other) =
    absurd (no_kinds image m place i carried stands w bare t kept.kinds)
broken_without_kinds image m place i carried r stands w bare (breaks.arrives_other at t e start arrives there other) =
    absurd (no_entry_there image m place i carried stands w bare e there)
broken_without_kinds image m place i carried r stands w bare (breaks.nothing_arrives before j starts end start none) =
    inr (inr (inr (inr (inl (refl, refl)))))
broken_without_kinds image m place i carried r stands w bare (breaks.enters_no_start n e there none) =
    absurd (none (i, record { reached = w.reached; stands = stands }))
broken_without_kinds image m place i carried r stands w bare (breaks.returns_other at t j kept other) =
    absurd (no_kinds image m place i carried stands w bare t kept.kinds)

pub broken_is_told : (image : Image) (m : ImageMethod) (place : ℕ) (i : Op) (carried : Option Shape) (r : ℕ)
    → op_at m.code place ≡ Some i → Comes image m place carried → CodeBreaks image m place r
    → AtMost (broken_at image m place carried i) r
broken_is_told image m place i carried r stands w broken = by_shape (shape_at (entry_at m place) carried) refl
  where
    by_shape : (o : Option Shape) → shape_at (entry_at m place) carried ≡ o
        → AtMost (broken_by image m place (carried_wrong image (entry_at m place) carried) o i) r
    by_shape None none =
        first_is_least (rules_without image m place i) 2 r refl
        (broken_without_kinds image m place i carried r stands w none broken)
    by_shape (Some s) here =
        first_is_least (rules_with image m place (carried_wrong image (entry_at m place) carried) s i) 2 r refl
        (broken_with_kinds image m place i carried s r stands w here broken)

-- ---- where no rule is broken

none_told : (rules : List (ℕ × Bool)) (n k : ℕ) → ascend n rules ≡ true → first_of rules ≡ None → Tells rules k → ⊥
none_told rules n k up none tells = subst (λ (o : Option ℕ). AtMost o k) none (first_is_least rules n k up tells)

-- kinds stand there
pub some_rule : (image : Image) (m : ImageMethod) (place : ℕ) (i : Op) → broken_without image m place i ≡ None → ⊥
some_rule image m place i none =
    none_told (rules_without image m place i) 2 9 refl none (inr (inr (inr (inr (inl (refl, refl))))))

-- and what the instruction leaves is not above the maximum
pub not_above : (image : Image) (m : ImageMethod) (place : ℕ) (i : Op) (wrong : Bool) (s : Shape)
    → broken_with image m place wrong s i ≡ None → length (after image s i).stack ≤ m.stack
not_above image m place i wrong s none = by_test (nat_lt m.stack (length (after image s i).stack)) refl
  where
    by_test : (b : Bool) → nat_lt m.stack (length (after image s i).stack) ≡ b
        → length (after image s i).stack ≤ m.stack
    by_test false is = ltb-false m.stack (length (after image s i).stack) is
    by_test true is =
        absurd (none_told (rules_with image m place wrong s i) 2 6 refl none
        (inr (inr (inr (inr (inl (
          refl,
          or_right (nat_lt m.stack (length s.stack)
              || nat_lt (length s.stack) (length (needs image s i))) _ is,
        )))))))
