-- How many instructions are left without a turn: each step goes on in a method, or back to a `turn`.
use Rattle.std.proofs.Common.{◌≡◌, ℕ, zero, suc, ◌+◌, ◌-◌, ◌*◌, ◌<◌, ◌≤◌, ◌==◌, ◌||◌, Bool, true, false, if◌then◌else◌, List, [], ◌∷◌, length, map, drop, Option, Some, None, refl, sym, ap, subst, ◌∙◌, arith, ltb-true, ltb-false, eqb-true}
use Rattle.std.specs.Prelude.{nat_lt, nat_le, slice_get}
use Rattle.std.specs.List.{list_any}
use Rattle.std.proofs.Math.Nat.{suc-mul}
use Rattle.scode_ops.specs.declared.op.Op.{Op}
use Rattle.scode_ops.specs.declared.op.Op.TheVariants.{Turn}
use Rattle.scode_ops.specs.Decoding.{front_op, op_at, size_of}
use Rattle.scode_image.specs.declared.image.ImageMethod.{ImageMethod}
use Rattle.scode_code.specs.CodeRules.{is_turn, is_start, starts, starts_from, starts_on}
use Rattle.scode_code.specs.Steps.{counted_on, counted_within, instruction_count, longest_of}
use Rattle.scode_whole.proofs.Truths.{no_truth, no_value, same_value}
use Rattle.sed_engine.proofs.FirstFits.{equal}
use Rattle.scode_sound.specs.Potential.{extra, here_left, left, left_at, turn_at}
use Rattle.scode_sound.proofs.Booleans.{or_right}

-- ---- in a list of places that ascends, of which some have a `turn`

abbrev pub stands : List ℕ → ℕ → Bool
stands all p = list_any (λ q. q == p) all

abbrev pub Ascends : ℕ → List ℕ → Type 0
Ascends least [] = Unit {0}
Ascends least (q ∷ qs) = (least ≤ q) × Ascends (suc q) qs

extra_or : (a b : Bool) → extra (a || b) ≤ extra a + 1
extra_or true b = omega arith
extra_or false true = omega arith
extra_or false false = omega arith

pub left_most : (turn : ℕ → Bool) (seen : Bool) (qs : List ℕ) (p : ℕ) → left turn seen qs p ≤ length qs + extra seen
left_most turn seen [] p = omega arith
left_most turn seen (q ∷ qs) p = cases (q == p) (turn q) (left_most turn (seen || turn q) qs p)
  where
    cases : (b t : Bool) → left turn (seen || t) qs p ≤ length qs + extra (seen || t)
        → (if b then here_left seen (suc (length qs)) t else left turn (seen || t) qs p) ≤ suc (length qs) + extra seen
    cases true true h = omega arith
    cases true false h = omega arith
    cases false t h = let e = extra_or seen t in omega (arith, h, e)

pub left_some : (turn : ℕ → Bool) (seen : Bool) (qs : List ℕ) (p : ℕ) → stands qs p ≡ true → 1 ≤ left turn seen qs p
left_some turn seen [] p h = no_truth h
left_some turn seen (q ∷ qs) p h = cases (q == p) (turn q) (left_some turn (seen || turn q) qs p) h
  where
    cases : (b t : Bool) → (stands qs p ≡ true → 1 ≤ left turn (seen || t) qs p) → (b || stands qs p) ≡ true
        → 1 ≤ (if b then here_left seen (suc (length qs)) t else left turn (seen || t) qs p)
    cases true true later h = omega arith
    cases true false later h = omega arith
    cases false t later h = later h

pub left_turn : (turn : ℕ → Bool) (seen : Bool) (qs : List ℕ) (p : ℕ) → stands qs p ≡ true → turn p ≡ true
    → left turn seen qs p ≡ 1
left_turn turn seen [] p h is = no_truth h
left_turn turn seen (q ∷ qs) p h is = cases (q == p) refl (left_turn turn (seen || turn q) qs p) h
  where
    cases : (b : Bool) → (q == p) ≡ b
        → (stands qs p ≡ true → turn p ≡ true → left turn (seen || turn q) qs p ≡ 1) → (b || stands qs p) ≡ true
        → (if b then here_left seen (suc (length qs)) (turn q) else left turn (seen || turn q) qs p) ≡ 1
    cases true e later h =
        ap (λ (t : Bool). if t then 1 else suc (length qs) + extra seen) (ap turn (eqb-true q p e) ∙ is)
    cases false e later h = later h is

-- what stands in an ascending list is not below its least
at_least : (least : ℕ) (qs : List ℕ) (p : ℕ) → Ascends least qs → stands qs p ≡ true → least ≤ p
at_least least [] p asc h = no_truth h
at_least least (q ∷ qs) p asc h = cases (q == p) refl (at_least (suc q) qs p asc.1) h
  where
    cases : (b : Bool) → (q == p) ≡ b → (stands qs p ≡ true → suc q ≤ p) → (b || stands qs p) ≡ true → least ≤ p
    cases true e later h = let same : q ≡ p = eqb-true q p e in let low : least ≤ q = asc.0 in omega (arith, same, low)
    cases false e later h = let more : suc q ≤ p = later h in let low : least ≤ q = asc.0 in omega (arith, more, low)

or_nothing : (seen t : Bool) → t ≡ false → extra (seen || t) ≡ extra seen
or_nothing seen true e = no_truth (sym e)
or_nothing true false e = refl
or_nothing false false e = refl

or_all : (seen t : Bool) → t ≡ true → (seen || t) ≡ true
or_all seen false e = no_truth e
or_all true true e = refl
or_all false true e = refl

-- on: less is left
pub left_on : (turn : ℕ → Bool) (seen : Bool) (least : ℕ) (qs : List ℕ) (p r : ℕ) → Ascends least qs
    → stands qs p ≡ true → stands qs r ≡ true → p < r → turn p ≡ false → left turn seen qs r < left turn seen qs p
left_on turn seen least [] p r asc sp sr less none = no_truth sp
left_on turn seen least (q ∷ qs) p r asc sp sr less none =
    cases (q == p) (q == r) refl refl sp sr
    (λ a b. left_on turn (seen || turn q) (suc q) qs p r asc.1 a b less none)
  where
    cases : (b c : Bool) → (q == p) ≡ b → (q == r) ≡ c → (b || stands qs p) ≡ true → (c || stands qs r) ≡ true
        → (stands qs p ≡ true → stands qs r ≡ true
        → left turn (seen || turn q) qs r < left turn (seen || turn q) qs p)
        → (if c then here_left seen (suc (length qs)) (turn q) else left turn (seen || turn q) qs r)
        < (if b then here_left seen (suc (length qs)) (turn q) else left turn (seen || turn q) qs p)
    cases true true e f sp sr later =
        let at_p : q ≡ p = eqb-true q p e in
        let at_r : q ≡ r = eqb-true q r f in
        absurd (omega (arith, at_p, at_r, less))
    cases true false e f sp sr later =
        let no_turn : turn q ≡ false = ap turn (eqb-true q p e) ∙ none in
        let most = left_most turn (seen || turn q) qs r in
        let flag = or_nothing seen (turn q) no_turn in
        let first : here_left seen (suc (length qs)) (turn q) ≡ suc (length qs) + extra seen =
        ap (λ (t : Bool). if t then 1 else suc (length qs) + extra seen) no_turn in
        omega (arith, most, flag, first)
    cases false true e f sp sr later =
        let at_r : q ≡ r = eqb-true q r f in
        let more : suc q ≤ p = at_least (suc q) qs p asc.1 sp in
        absurd (omega (arith, at_r, more, less))
    cases false false e f sp sr later = later sp sr

-- where a `turn` stands before: at least two
two_left : (turn : ℕ → Bool) (qs : List ℕ) (p : ℕ) → stands qs p ≡ true → turn p ≡ false → 2 ≤ left turn true qs p
two_left turn [] p h none = no_truth h
two_left turn (q ∷ qs) p h none = cases (q == p) refl (two_left turn qs p) h
  where
    cases : (b : Bool) → (q == p) ≡ b → (stands qs p ≡ true → turn p ≡ false → 2 ≤ left turn true qs p)
        → (b || stands qs p) ≡ true
        → 2 ≤ (if b then here_left true (suc (length qs)) (turn q) else left turn true qs p)
    cases true e later h =
        let first : here_left true (suc (length qs)) (turn q) ≡ suc (length qs) + 1 =
        ap (λ (t : Bool). if t then 1 else suc (length qs) + 1) (ap turn (eqb-true q p e) ∙ none) in
        omega (arith, first)
    cases false e later h = later h none

pub left_back : (turn : ℕ → Bool) (seen : Bool) (least : ℕ) (qs : List ℕ) (p r : ℕ) → Ascends least qs
    → stands qs p ≡ true → stands qs r ≡ true → r < p → turn r ≡ true → turn p ≡ false → 2 ≤ left turn seen qs p
left_back turn seen least [] p r asc sp sr less is none = no_truth sp
left_back turn seen least (q ∷ qs) p r asc sp sr less is none =
    cases (q == p) (q == r) refl refl sp sr
    (λ a b. left_back turn (seen || turn q) (suc q) qs p r asc.1 a b less is none)
  where
    cases : (b c : Bool) → (q == p) ≡ b → (q == r) ≡ c → (b || stands qs p) ≡ true → (c || stands qs r) ≡ true
        → (stands qs p ≡ true → stands qs r ≡ true → 2 ≤ left turn (seen || turn q) qs p)
        → 2 ≤ (if b then here_left seen (suc (length qs)) (turn q) else left turn (seen || turn q) qs p)
    cases true true e f sp sr later =
        let at_p : q ≡ p = eqb-true q p e in
        let at_r : q ≡ r = eqb-true q r f in
        absurd (omega (arith, at_p, at_r, less))
    cases true false e f sp sr later =
        let at_p : q ≡ p = eqb-true q p e in
        let more : suc q ≤ r = at_least (suc q) qs r asc.1 sr in
        absurd (omega (arith, at_p, more, less))
    cases false true e f sp sr later =
        let flag : (seen || turn q) ≡ true = or_all seen (turn q) (ap turn (eqb-true q r f) ∙ is) in
        subst (λ (s : Bool). 2 ≤ left turn s qs p) (sym flag) (two_left turn qs p sp none)
    cases false false e f sp sr later = later sp sr

-- ---- the starts of code

pub size_some : (i : Op) → 1 ≤ size_of i
size_some i = omega arith

none_left : (k : ℕ) (xs : List ℕ) → length xs ≤ k → drop k xs ≡ []
none_left zero [] long = refl
none_left (suc k) [] long = refl
none_left zero (x ∷ xs) long = absurd (omega (arith, long))
none_left (suc k) (x ∷ xs) long = none_left k xs (omega (arith, long))

pub within_code : (code : List ℕ) (place : ℕ) (i : Op) → op_at code place ≡ Some i → place < length code
within_code code place i e = by_test (nat_lt place (length code)) refl
  where
    by_test : (b : Bool) → nat_lt place (length code) ≡ b → place < length code
    by_test true is = ltb-true place (length code) is
    by_test false is =
        let long : length code ≤ place = ltb-false place (length code) is in
        no_value i (sym (ap front_op (none_left place code long)) ∙ e)

lower : (m n : ℕ) (qs : List ℕ) → m ≤ n → Ascends n qs → Ascends m qs
lower m n [] h asc = tt
lower m n (q ∷ qs) h asc = (let low : n ≤ q = asc.0 in omega (arith, h, low), asc.1)

pub starts_ascend : (most place : ℕ) (code : List ℕ) → Ascends place (starts_from most place code)
starts_ascend zero place code = tt
starts_ascend (suc most) place code = by_op (op_at code place) (λ next. starts_ascend most next code)
  where
    by_op : (o : Option Op) → ((next : ℕ) → Ascends next (starts_from most next code))
        → Ascends place (starts_on (λ next. starts_from most next code) place o)
    by_op None again = tt
    by_op (Some i) again = (
      omega arith,
      lower (suc place) (place + size_of i) (starts_from most (place + size_of i) code)
          (let some = size_some i in omega (arith, some)) (again (place + size_of i)),
    )

first_from : (most place : ℕ) (code : List ℕ) (i : Op) → op_at code place ≡ Some i → 0 < most
    → stands (starts_from most place code) place ≡ true
first_from zero place code i e some = absurd (omega (arith, some))
first_from (suc most) place code i e some =
    ap (λ (o : Option Op). stands (starts_on (λ next. starts_from most next code) place o) place) e
    ∙ ap (λ (b : Bool). b || stands (starts_from most (place + size_of i) code) place) (equal place place refl)

next_from : (most place : ℕ) (code : List ℕ) (p : ℕ) (i j : Op) → length code ≤ most + place
    → stands (starts_from most place code) p ≡ true → op_at code p ≡ Some i → op_at code (p + size_of i) ≡ Some j
    → stands (starts_from most place code) (p + size_of i) ≡ true
next_from zero place code p i j room sp ip jp = no_truth sp
next_from (suc most) place code p i j room sp ip jp =
    by_op (op_at code place) refl sp (λ next r s. next_from most next code p i j r s ip jp)
  where
    by_first : (x : Op) → op_at code place ≡ Some x
        → ((next : ℕ) → length code ≤ most + next → stands (starts_from most next code) p ≡ true
        → stands (starts_from most next code) (p + size_of i) ≡ true)
        → (b : Bool) → (place == p) ≡ b → (b || stands (starts_from most (place + size_of x) code) p) ≡ true
        → ((place == p + size_of i) || stands (starts_from most (place + size_of x) code) (p + size_of i)) ≡ true
    by_first x is again true e sp =
        let here : place ≡ p = eqb-true place p e in
        let same : x ≡ i = same_value x i (sym is ∙ ap (op_at code) here ∙ ip) in
        let next : place + size_of x ≡ p + size_of i =
        ap (λ (k : ℕ). k + size_of x) here ∙ ap (λ (y : Op). p + size_of y) same in
        let inside : p + size_of i < length code = within_code code (p + size_of i) j jp in
        let size = size_some i in
        or_right (place == p + size_of i) (stands (starts_from most (place + size_of x) code) (p + size_of i))
        (subst (λ (k : ℕ). stands (starts_from most k code) (p + size_of i) ≡ true) (sym next)
        (first_from most (p + size_of i) code j jp (omega (arith, inside, size, room, here))))
    by_first x is again false e sp =
        let size = size_some x in
        or_right (place == p + size_of i) (stands (starts_from most (place + size_of x) code) (p + size_of i))
        (again (place + size_of x) (omega (arith, room, size)) sp)

    by_op : (o : Option Op) → op_at code place ≡ o
        → stands (starts_on (λ next. starts_from most next code) place o) p ≡ true
        → ((next : ℕ) → length code ≤ most + next → stands (starts_from most next code) p ≡ true
        → stands (starts_from most next code) (p + size_of i) ≡ true)
        → stands (starts_on (λ next. starts_from most next code) place o) (p + size_of i) ≡ true
    by_op None is sp again = no_truth sp
    by_op (Some x) is sp again = by_first x is again (place == p) refl sp

pub first_start : (code : List ℕ) (i : Op) → op_at code 0 ≡ Some i → is_start code 0 ≡ true
first_start code i e = first_from (length code) 0 code i e (within_code code 0 i e)

pub next_start : (code : List ℕ) (p : ℕ) (i j : Op) → is_start code p ≡ true → op_at code p ≡ Some i
    → op_at code (p + size_of i) ≡ Some j → is_start code (p + size_of i) ≡ true
next_start code p i j sp ip jp = next_from (length code) 0 code p i j (omega arith) sp ip jp

-- ---- how many there are

drop_nothing : (k : ℕ) → drop {A = ℕ} k [] ≡ []
drop_nothing zero = refl
drop_nothing (suc k) = refl

drop_further : (a b : ℕ) (xs : List ℕ) → drop b (drop a xs) ≡ drop (a + b) xs
drop_further zero b xs = ap (λ (k : ℕ). drop k xs) (let e : b ≡ 0 + b = omega arith in e)
drop_further (suc a) b [] = drop_nothing b ∙ sym (drop_nothing (suc a + b))
drop_further (suc a) b (x ∷ xs) =
    drop_further a b xs ∙ ap (λ (k : ℕ). drop k (x ∷ xs)) (let e : suc (a + b) ≡ suc a + b = omega arith in e)

counted : (most place : ℕ) (code : List ℕ) → length (starts_from most place code) ≡ counted_within most
    (drop place code)
counted zero place code = refl
counted (suc most) place code = by_op (op_at code place) (λ next. counted most next code)
  where
    by_op : (o : Option Op)
        → ((next : ℕ) → length (starts_from most next code) ≡ counted_within most (drop next code))
        → length (starts_on (λ next. starts_from most next code) place o)
        ≡ counted_on (λ rest. counted_within most rest) (drop place code) o
    by_op None again = refl
    by_op (Some i) again =
        ap suc (again (place + size_of i)
        ∙ ap (λ (rest : List ℕ). counted_within most rest) (sym (drop_further place (size_of i) code)))

pub starts_counted : (code : List ℕ) → length (starts code) ≡ instruction_count code
starts_counted code = counted (length code) 0 code

pub longest_is_most : (methods : List ImageMethod) (n : ℕ) (m : ImageMethod) → slice_get methods n ≡ Some m
    → instruction_count m.code ≤ longest_of (map (λ (x : ImageMethod). x.code) methods)
longest_is_most [] n m e = no_value m e
longest_is_most (x ∷ xs) zero m e =
    subst (λ (y : ImageMethod). instruction_count y.code
    ≤ longest_of (map (λ (z : ImageMethod). z.code) (x ∷ xs))) (same_value x m e)
    (cases (nat_le (longest_of (map (λ (z : ImageMethod). z.code) xs)) (instruction_count x.code)) refl)
  where
    cases : (b : Bool) → nat_le (longest_of (map (λ (z : ImageMethod). z.code) xs)) (instruction_count x.code) ≡ b
        → instruction_count x.code
        ≤ (if b then instruction_count x.code else longest_of (map (λ (z : ImageMethod). z.code) xs))
    cases true is = omega arith
    cases false is = grind (arith, is)
longest_is_most (x ∷ xs) (suc n) m e =
    cases (nat_le (longest_of (map (λ (z : ImageMethod). z.code) xs)) (instruction_count x.code)) refl
    (longest_is_most xs n m e)
  where
    cases : (b : Bool) → nat_le (longest_of (map (λ (z : ImageMethod). z.code) xs)) (instruction_count x.code) ≡ b
        → instruction_count m.code ≤ longest_of (map (λ (z : ImageMethod). z.code) xs)
        → instruction_count m.code
        ≤ (if b then instruction_count x.code else longest_of (map (λ (z : ImageMethod). z.code) xs))
    cases true is h =
        let le : longest_of (map (λ (z : ImageMethod). z.code) xs) ≤ instruction_count x.code = grind (arith, is) in
        omega (arith, le, h)
    cases false is h = h

-- ---- the instructions that are left at a place of code

pub at_most : (code : List ℕ) (p : ℕ) → left_at code p ≤ instruction_count code
at_most code p =
    let most = left_most (turn_at code) false (starts code) p in
    let all = starts_counted code in
    omega (arith, most, all)

pub at_some : (code : List ℕ) (p : ℕ) → is_start code p ≡ true → 1 ≤ left_at code p
at_some code p h = left_some (turn_at code) false (starts code) p h

pub at_turn : (code : List ℕ) (p : ℕ) → is_start code p ≡ true → op_at code p ≡ Some Turn → left_at code p ≡ 1
at_turn code p h e = left_turn (turn_at code) false (starts code) p h (ap is_turn e)

pub at_later : (code : List ℕ) (p r : ℕ) → is_start code p ≡ true → is_start code r ≡ true → p < r
    → turn_at code p ≡ false → left_at code r < left_at code p
at_later code p r sp sr less none =
    left_on (turn_at code) false 0 (starts code) p r (starts_ascend (length code) 0 code) sp sr less none

pub at_back : (code : List ℕ) (p r : ℕ) → is_start code p ≡ true → is_start code r ≡ true → r < p
    → op_at code r ≡ Some Turn → turn_at code p ≡ false → left_at code r < left_at code p
at_back code p r sp sr less e none =
    let two = left_back (turn_at code) false 0 (starts code) p r (starts_ascend (length code) 0 code) sp sr less
    (ap is_turn e) none in
    let one = at_turn code r sr e in
    omega (arith, two, one)

-- a turn pays for so many instructions
pub paid : (t n a : ℕ) → 0 < t → a ≤ n → (t - 1) * n + a ≤ t * n
paid zero n a some h = absurd (omega (arith, some))
paid (suc t) n a some h =
    let e : suc t - 1 ≡ t = omega arith in
    let f : (suc t - 1) * n + a ≡ t * n + a = ap (λ k. k * n + a) e in
    let g = suc-mul t n in
    omega (arith, f, g, h)
