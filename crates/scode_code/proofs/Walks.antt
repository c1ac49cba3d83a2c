-- The walk of the rules over the code of a method: it finds the first rule that is broken, and none where none is.
use Rattle.std.proofs.Common.{◌≡◌, ◌⊎◌, inl, inr, ℕ, zero, suc, ◌+◌, ◌<◌, ◌≤◌, Bool, true, false, length, refl, sym, subst, arith, ltb-true, ltb-false, lt-ltb, eqb-true, leb-true}
use Rattle.std.specs.Prelude.{◌==◌, ◌&&◌, cond, find, nat_le, nat_lt, slice_get, Option, Some, None}
use Rattle.std.specs.Option.{option_map}
use Rattle.std.proofs.lemmas.Bool.{and_parts, le-leb}
use Rattle.scode_ops.specs.declared.op.Op.{Op}
use Rattle.scode_ops.specs.Decoding.{op_at, size_of}
use Rattle.scode_image.specs.declared.image.Image.{Image}
use Rattle.scode_image.specs.declared.image.ImageEntry.{ImageEntry}
use Rattle.scode_image.specs.declared.image.ImageMethod.{ImageMethod}
use Rattle.scode_code.specs.Kinds.{Shape}
use Rattle.scode_code.specs.CodeRules.{Fault, broken_at, broken_by, carried_on, carried_wrong, code_fault, entry_at, entry_between, entry_from, fault_from, fault_on, fault_or, first_shape, is_abstract, is_between, is_from, shape_at, stray_or}
use Rattle.scode_code.specs.TableRules.{places_ascend}
use Rattle.scode_code.specs.Breaks as breaks
use Rattle.scode_code.specs.Breaks.{IsReached, StartsAt, IsStart, CodeBreaks}
use Rattle.scode_code.proofs.Places.{size_some, apart, less_or_same, within_code}
use Rattle.scode_code.proofs.Tells.{AtMost}
use Rattle.scode_code.proofs.Ascending.{found_among, found_first, none_among}
use Rattle.scode_code.proofs.Arrivals.{Comes, comes_first, comes_on}
use Rattle.scode_code.proofs.Instructions.{broken_is_told, first_is_broken, not_above, some_rule}

-- a place and rule is a fault or behind it
abbrev pub IsBehind : Fault → ℕ → ℕ → Type 0
IsBehind f place rule = (f.0 < place) ⊎ ((f.0 ≡ place) × (f.1 ≤ rule))

-- of the places that are asked for
pub record FirstAt (image : Image) (m : ImageMethod) (asked : ℕ → Type 0) (f : Fault) : Type 0 where
  pub broken : CodeBreaks image m f.0 f.1
  pub first : (place rule : ℕ) → asked place → CodeBreaks image m place rule → IsBehind f place rule

-- the first rule that is broken at those places, if one is
abbrev pub FirstOf : Image → ImageMethod → (ℕ → Type 0) → Option Fault → Type 0
FirstOf image m asked None = (place rule : ℕ) → asked place → CodeBreaks image m place rule → ⊥
FirstOf image m asked (Some f) = FirstAt image m asked f

abbrev pub FirstFrom : Image → ImageMethod → ℕ → Option Fault → Type 0
FirstFrom image m from o = FirstOf image m (λ place. from ≤ place) o

-- ---- the rules at a place that is no start

-- an entry that is no start
record Strays (m : ImageMethod) (place rule : ℕ) : Type 0 where
  n : ℕ
  e : ImageEntry
  there : slice_get m.entries n ≡ Some e
  at : e.place ≡ place
  nine : rule ≡ 9

abbrev ReachesOrStrays : ImageMethod → ℕ → ℕ → Type 0
ReachesOrStrays m place rule = (IsReached m place × (place < length m.code)) ⊎ Strays m place rule

started : (m : ImageMethod) (place rule : ℕ) (i : Op) → StartsAt m place i → ReachesOrStrays m place rule
started m place rule i s = inl (s.reached, within_code m.code place i s.stands)

reaches : (image : Image) (m : ImageMethod) (place rule : ℕ) → 0 < length m.code → CodeBreaks image m place rule
    → ReachesOrStrays m place rule
reaches image m place rule some (breaks.no_code none) = absurd (omega (arith, some, none))
reaches image m place rule some (breaks.nothing_stands at reached within none) = inl (reached, within)
reaches image m place rule some (breaks.runs_past at i s on past) = started m place rule i s
reaches image m place rule some (breaks.misses_start at to i s is none) = started m place rule i s
reaches image m place rule some (breaks.goes_back at to i j s is back target other) = started m place rule i s
reaches image m place rule some (breaks.lacks_number at i s lacks) = started m place rule i s
reaches image m place rule some (breaks.enters_above at e start there high) = started m place rule start.0 start.1
reaches image m place rule some (breaks.lacks_cell at t i r few) = started m place rule i r.starts
reaches image m place rule some (breaks.goes_above at t i r high) = started m place rule i r.starts
reaches image m place rule some (breaks.differs at t i r other) = started m place rule i r.starts
reaches image m place rule some (breaks.lacks_field at t i r lacks) = started m place rule i r.starts
reaches image m place rule some (breaks.no_entry at to i s is none) = started m place rule i s
reaches image m place rule some (breaks.brings_other at to t i e r is there other) = started m place rule i r.starts
reaches image m place rule some (breaks.arrives_other at t e start arrives there other) =
    started m place rule start.0 start.1
reaches image m place rule some (breaks.nothing_arrives before i s end start none) =
    started m place rule start.0 start.1
reaches image m place rule some (breaks.enters_no_start n e there none) =
    inr (record { n = n; e = e; there = there; at = refl; nine = refl })
reaches image m place rule some (breaks.returns_other at t i r other) = started m place rule i r.starts

two_first : (image : Image) (m : ImageMethod) (place rule : ℕ) → CodeBreaks image m place rule → 2 ≤ rule
two_first image m place rule (breaks.no_code none) = omega arith
two_first image m place rule (breaks.nothing_stands at reached within none) = omega arith
two_first image m place rule (breaks.runs_past at i s on past) = omega arith
two_first image m place rule (breaks.misses_start at to i s is none) = omega arith
two_first image m place rule (breaks.goes_back at to i j s is back target other) = omega arith
two_first image m place rule (breaks.lacks_number at i s lacks) = omega arith
two_first image m place rule (breaks.enters_above at e start there high) = omega arith
two_first image m place rule (breaks.lacks_cell at t i r few) = omega arith
two_first image m place rule (breaks.goes_above at t i r high) = omega arith
two_first image m place rule (breaks.differs at t i r other) = omega arith
two_first image m place rule (breaks.lacks_field at t i r lacks) = omega arith
two_first image m place rule (breaks.no_entry at to i s is none) = omega arith
two_first image m place rule (breaks.brings_other at to t i e r is there other) = omega arith
two_first image m place rule (breaks.arrives_other at t e start arrives there other) = omega arith
two_first image m place rule (breaks.nothing_arrives before i s end start none) = omega arith
two_first image m place rule (breaks.enters_no_start n e there none) = omega arith
two_first image m place rule (breaks.returns_other at t i r other) = omega arith

-- ---- one part of the walk, and what is behind it

fault_first : (image : Image) (m : ImageMethod) (place : ℕ) (o : Option ℕ) (later : Option Fault)
    → ((r : ℕ) → o ≡ Some r → CodeBreaks image m place r) → ((r : ℕ) → CodeBreaks image m place r → AtMost o r)
    → (o ≡ None → FirstFrom image m (suc place) later) → FirstFrom image m place (fault_or place o later)
fault_first image m place (Some rule) later sound all behind = record {
  broken = sound rule refl;
  first = λ at r from broken. by_order at r broken (less_or_same place at from);
}
  where
    by_order : (at r : ℕ) → CodeBreaks image m at r → (place < at) ⊎ (place ≡ at) → IsBehind (place, rule) at r
    by_order at r broken (inl less) = inl less
    by_order at r broken (inr same) =
        inr (same, all r (subst (λ (p : ℕ). CodeBreaks image m p r) (sym same) broken))
fault_first image m place None later sound all behind = from_here later (behind refl)
  where
    above : (at r : ℕ) → place ≤ at → CodeBreaks image m at r → suc place ≤ at
    above at r from broken = by_order (less_or_same place at from)
      where
        by_order : (place < at) ⊎ (place ≡ at) → suc place ≤ at
        by_order (inl less) = less
        by_order (inr same) = absurd (all r (subst (λ (p : ℕ). CodeBreaks image m p r) (sym same) broken))

    from_here : (o : Option Fault) → FirstFrom image m (suc place) o → FirstFrom image m place o
    from_here None none = λ at r from broken. none at r (above at r from broken) broken
    from_here (Some f) found = record {
      broken = found.broken;
      first = λ at r from broken. found.first at r (above at r from broken) broken;
    }

positive : (n : ℕ) → (n == 0) ≡ false → 0 < n
positive zero e = absurd cc
positive (suc n) e = omega arith

stray_behind : (place at rule : ℕ) → rule ≡ 9 → (place < at) ⊎ (place ≡ at) → IsBehind (place, 9) at rule
stray_behind place at rule nine (inl less) = inl less
stray_behind place at rule nine (inr same) = inr (same, omega (arith, nine))

-- where at some places but entries of a kind can be broken, the first of them is told, or what is behind them
strays_first : (image : Image) (m : ImageMethod) (p : ImageEntry → Bool) (from : ℕ) (here there : ℕ → Type 0)
    (later : Option Fault) → places_ascend 0 m.entries ≡ true
    → ((at : ℕ) → from ≤ at → here at ⊎ there at)
    → ((at rule : ℕ) → here at → CodeBreaks image m at rule
    → (s : Strays m at rule) × (p s.e ≡ true))
    → ((e : ImageEntry) → p e ≡ true → IsStart m e.place → ⊥)
    → ((e : ImageEntry) (at : ℕ) → p e ≡ true → there at → e.place < at)
    → FirstOf image m there later
    → FirstFrom image m from (stray_or (option_map (λ e. e.place) (find p m.entries)) later)
strays_first image m p from here there later up either only none lower behind =
    by_found (find p m.entries) refl
  where
    inside_behind : (e : ImageEntry) (at rule : ℕ) → find p m.entries ≡ Some e → (s : Strays m at rule) → p s.e ≡ true
        → IsBehind (e.place, 9) at rule
    inside_behind e at rule found s is =
        let low = found_first p m.entries 0 e up found s.n s.e s.there is in
        let same = s.at in
        stray_behind e.place at rule s.nine (less_or_same e.place at (omega (arith, low, same)))

    is_behind : (e : ImageEntry) → find p m.entries ≡ Some e → p e ≡ true → (at rule : ℕ) → CodeBreaks image m at rule
        → here at ⊎ there at → IsBehind (e.place, 9) at rule
    is_behind e found is at rule broken (inr beyond) = inl (lower e at is beyond)
    is_behind e found is at rule broken (inl inside) =
        let stray = only at rule inside broken in inside_behind e at rule found stray.0 stray.1

    beyond : find p m.entries ≡ None → (at rule : ℕ) → CodeBreaks image m at rule → here at ⊎ there at → there at
    beyond found at rule broken (inr out) = out
    beyond found at rule broken (inl inside) =
        let stray = only at rule inside broken in
        let other = none_among p m.entries found stray.0.n stray.0.e stray.0.there in
        let is = stray.1 in absurd cc

    from_here : find p m.entries ≡ None → (o : Option Fault) → FirstOf image m there o → FirstFrom image m from o
    from_here found None none =
        λ at rule high broken. none at rule (beyond found at rule broken (either at high)) broken
    from_here found (Some f) first = record {
      broken = first.broken;
      first = λ at rule high broken. first.first at rule (beyond found at rule broken (either at high)) broken;
    }

    by_found : (o : Option ImageEntry) → find p m.entries ≡ o
        → FirstFrom image m from (stray_or (option_map (λ e. e.place) o) later)
    by_found None found = from_here found later behind
    by_found (Some e) found =
        let a = found_among p m.entries e found in
        record {
          broken = breaks.enters_no_start a.n e a.there (none e a.is);
          first = λ at rule high broken. is_behind e found a.is at rule broken (either at high);
        }

-- within an instruction
between_first : (image : Image) (m : ImageMethod) (place : ℕ) (i : Op) (later : Option Fault)
    → places_ascend 0 m.entries ≡ true → 0 < length m.code → StartsAt m place i
    → FirstFrom image m (place + size_of i) later
    → FirstFrom image m (suc place) (stray_or (entry_between m.entries place (place + size_of i)) later)
between_first image m place i later up some starts behind =
    strays_first image m (is_between place (place + size_of i)) (suc place)
    (λ at. (place < at) × (at < place + size_of i)) (λ at. place + size_of i ≤ at) later up either only none lower
    behind
  where
    by_test : (at : ℕ) → place < at → (b : Bool) → nat_lt at (place + size_of i) ≡ b
        → ((place < at) × (at < place + size_of i)) ⊎ (place + size_of i ≤ at)
    by_test at low true is = inl (low, ltb-true at (place + size_of i) is)
    by_test at low false is = inr (ltb-false at (place + size_of i) is)

    either : (at : ℕ) → suc place ≤ at → ((place < at) × (at < place + size_of i)) ⊎ (place + size_of i ≤ at)
    either at low = by_test at low (nat_lt at (place + size_of i)) refl

    unreached : (at : ℕ) → place < at → at < place + size_of i → IsReached m at → ⊥
    unreached at low high reached = by_case (apart m at reached place i starts)
      where
        by_case : (at ≤ place) ⊎ (place + size_of i ≤ at) → ⊥
        by_case (inl below) = omega (arith, low, below)
        by_case (inr above) = omega (arith, high, above)

    within : (at rule : ℕ) → place < at → at < place + size_of i → ReachesOrStrays m at rule
        → (s : Strays m at rule)
        × (nat_lt place s.e.place && nat_lt s.e.place (place + size_of i) ≡ true)
    within at rule low high (inl reached) = absurd (unreached at low high reached.0)
    within at rule low high (inr s) =
        let a : nat_lt place s.e.place ≡ true = let same = s.at in lt-ltb place s.e.place (omega (arith, low, same)) in
        let b : nat_lt s.e.place (place + size_of i) ≡ true =
        let same = s.at in lt-ltb s.e.place (place + size_of i) (omega (arith, high, same)) in
        (s, rw (a, b) refl)

    only : (at rule : ℕ) → (place < at) × (at < place + size_of i) → CodeBreaks image m at rule
        → (s : Strays m at rule)
        × (nat_lt place s.e.place && nat_lt s.e.place (place + size_of i) ≡ true)
    only at rule inside broken = within at rule inside.0 inside.1 (reaches image m at rule some broken)

    none : (e : ImageEntry) → nat_lt place e.place && nat_lt e.place (place + size_of i) ≡ true → IsStart m e.place → ⊥
    none e is start =
        let p = and_parts (nat_lt place e.place) (nat_lt e.place (place + size_of i)) is in
        unreached e.place (ltb-true place e.place p.0) (ltb-true e.place (place + size_of i) p.1) start.1.reached

    lower : (e : ImageEntry) (at : ℕ) → nat_lt place e.place && nat_lt e.place (place + size_of i) ≡ true
        → place + size_of i ≤ at → e.place < at
    lower e at is beyond =
        let p = and_parts (nat_lt place e.place) (nat_lt e.place (place + size_of i)) is in
        let high = ltb-true e.place (place + size_of i) p.1 in omega (arith, high, beyond)

-- where the code is over
last_first : (image : Image) (m : ImageMethod) (place : ℕ) → places_ascend 0 m.entries ≡ true → 0 < length m.code
    → length m.code ≤ place → FirstFrom image m place (stray_or (entry_from m.entries place) None)
last_first image m place up some past =
    strays_first image m (is_from place) place (λ at. place ≤ at) (λ at. ⊥) None up (λ at high. inl high) only
    none (λ e at is wrong. absurd wrong) (λ at rule wrong broken. wrong)
  where
    within : (at rule : ℕ) → place ≤ at → ReachesOrStrays m at rule
        → (s : Strays m at rule) × (nat_le place s.e.place ≡ true)
    within at rule high (inl reached) = let low = reached.1 in absurd (omega (arith, low, past, high))
    within at rule high (inr s) = let same = s.at in (s, le-leb place s.e.place (omega (arith, high, same)))

    only : (at rule : ℕ) → place ≤ at → CodeBreaks image m at rule
        → (s : Strays m at rule) × (nat_le place s.e.place ≡ true)
    only at rule high broken = within at rule high (reaches image m at rule some broken)

    none : (e : ImageEntry) → nat_le place e.place ≡ true → IsStart m e.place → ⊥
    none e is start =
        let high = leb-true place e.place is in
        let low = within_code m.code e.place start.0 start.1.stands in omega (arith, high, low, past)

-- ---- the walk

comes_next : (image : Image) (m : ImageMethod) (place : ℕ) (i : Op) (carried : Option Shape)
    → Comes image m place carried → StartsAt m place i → broken_at image m place carried i ≡ None
    → Comes image m (place + size_of i) (carried_on image (shape_at (entry_at m place) carried) i)
comes_next image m place i carried w starts kept = by_shape (shape_at (entry_at m place) carried) refl kept
  where
    by_shape : (o : Option Shape) → shape_at (entry_at m place) carried ≡ o
        → broken_by image m place (carried_wrong image (entry_at m place) carried) o i ≡ None
        → Comes image m (place + size_of i) (carried_on image (shape_at (entry_at m place) carried) i)
    by_shape None none kept = absurd (some_rule image m place i kept)
    by_shape (Some s) here kept = comes_on image m place carried i s w starts here
        (not_above image m place i (carried_wrong image (entry_at m place) carried) s kept)

walk_on : (most : ℕ) (image : Image) (m : ImageMethod) (place : ℕ) (carried : Option Shape) (o : Option Op)
    → places_ascend 0 m.entries ≡ true → Comes image m place carried → place < length m.code → op_at m.code place ≡ o
    → ((next : ℕ) (left : Option Shape) → place < next → Comes image m next left
    → FirstFrom image m next (fault_from most image m next left))
    → FirstFrom image m place (fault_on (λ next left. fault_from most image m next left) image m place carried o)
walk_on most image m place carried None up w within none further = record {
  broken = breaks.nothing_stands place w.reached within none;
  first = λ at rule high broken. by_order at rule broken (less_or_same place at high);
}
  where
    by_order : (at rule : ℕ) → CodeBreaks image m at rule → (place < at) ⊎ (place ≡ at) → IsBehind (place, 2) at rule
    by_order at rule broken (inl less) = inl less
    by_order at rule broken (inr same) = inr (same, two_first image m at rule broken)
walk_on most image m place carried (Some i) up w within there further =
    fault_first image m place (broken_at image m place carried i)
    (stray_or (entry_between m.entries place (place + size_of i))
    (fault_from most image m (place + size_of i) (carried_on image (shape_at (entry_at m place) carried) i)))
    (λ r told. first_is_broken image m place i carried r starts w told)
    (λ r broken. broken_is_told image m place i carried r there w broken)
    (λ kept. between_first image m place i
    (fault_from most image m (place + size_of i) (carried_on image (shape_at (entry_at m place) carried) i)) up
    (omega (arith, within)) starts
    (further (place + size_of i) (carried_on image (shape_at (entry_at m place) carried) i)
    (let some = size_some i in omega (arith, some)) (comes_next image m place i carried w starts kept)))
  where
    starts : StartsAt m place i
    starts = record { reached = w.reached; stands = there }

walk_first : (most : ℕ) (image : Image) (m : ImageMethod) (place : ℕ) (carried : Option Shape)
    → places_ascend 0 m.entries ≡ true → 0 < length m.code → 0 < most → suc (length m.code) ≤ most + place
    → Comes image m place carried → FirstFrom image m place (fault_from most image m place carried)
walk_first zero image m place carried up some fuel enough w = absurd (omega (arith, fuel))
walk_first (suc most) image m place carried up some fuel enough w =
    by_test (nat_lt place (length m.code)) refl
    (λ next left beyond within w_next. walk_first most image m next left up some (omega (arith, enough, within))
    (omega (arith, enough, beyond)) w_next)
  where
    by_test : (b : Bool) → nat_lt place (length m.code) ≡ b
        → ((next : ℕ) (left : Option Shape) → place < next → place < length m.code → Comes image m next left
        → FirstFrom image m next (fault_from most image m next left))
        → FirstFrom image m place (cond b
        (fault_on (λ next left. fault_from most image m next left) image m place carried (op_at m.code place))
        (stray_or (entry_from m.entries place) None))
    by_test true is further =
        let within = ltb-true place (length m.code) is in
        walk_on most image m place carried (op_at m.code place) up w within refl
        (λ next left beyond w_next. further next left beyond within w_next)
    by_test false is further = last_first image m place up some (ltb-false place (length m.code) is)

-- what the walk finds in the code of a method is the first rule that is broken there
pub code_first : (image : Image) (m : ImageMethod) → places_ascend 0 m.entries ≡ true → is_abstract m ≡ false
    → FirstFrom image m 0 (code_fault image m)
code_first image m up concrete = by_tests (is_abstract m) concrete (length m.code == 0) refl
  where
    by_tests : (a : Bool) → a ≡ false → (b : Bool) → (length m.code == 0) ≡ b
        → FirstFrom image m 0 (cond a None (cond b (Some (0, 2))
        (fault_from (suc (length m.code)) image m 0 (Some (first_shape m)))))
    by_tests true is b same = absurd cc
    by_tests false is true same = record {
      broken = breaks.no_code (eqb-true (length m.code) 0 same);
      first = λ at rule high broken. by_order at rule broken (less_or_same 0 at high);
    }
      where
        by_order : (at rule : ℕ) → CodeBreaks image m at rule → (0 < at) ⊎ (0 ≡ at) → IsBehind (0, 2) at rule
        by_order at rule broken (inl less) = inl less
        by_order at rule broken (inr same) = inr (same, two_first image m at rule broken)
    by_tests false is false same =
        walk_first (suc (length m.code)) image m 0 (Some (first_shape m)) up (positive (length m.code) same)
        (omega arith) (omega arith) (comes_first image m)
