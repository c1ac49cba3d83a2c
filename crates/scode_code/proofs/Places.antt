-- Where instructions stand: places that are reached stand apart, and the list of starts has those that are.
use Rattle.std.proofs.Common.{◌≡◌, ◌⊎◌, inl, inr, ℕ, zero, suc, ◌+◌, ◌<◌, ◌≤◌, Bool, true, false, List, [], ◌∷◌, length, drop, refl, sym, ◌∙◌, ap, subst, arith, ltb-true, ltb-false, eqb-true}
use Rattle.std.specs.Prelude.{◌==◌, ◌||◌, nat_lt, Option, Some, None}
use Rattle.std.specs.List.{list_any}
use Rattle.scode_ops.specs.declared.op.Op.{Op}
use Rattle.scode_ops.specs.Decoding.{front_op, op_at, size_of}
use Rattle.scode_image.specs.declared.image.ImageMethod.{ImageMethod}
use Rattle.scode_code.specs.CodeRules.{is_start, starts_from, starts_on}
use Rattle.scode_code.specs.Breaks.{IsReached, first, behind, StartsAt, IsStart}

pub none_some : {A : Type 0} (a : A) → None ≡ Some a → ⊥
none_some a e = cc

pub some_eq : {A : Type 0} (a b : A) → Some a ≡ Some b → a ≡ b
some_eq a b e = cc

pub same_eq : (n : ℕ) → (n == n) ≡ true
same_eq n = grind arith

pub less_or_same : (p q : ℕ) → p ≤ q → (p < q) ⊎ (p ≡ q)
less_or_same p q at_most = by_test (nat_lt p q) refl
  where
    by_test : (b : Bool) → nat_lt p q ≡ b → (p < q) ⊎ (p ≡ q)
    by_test true is = inl (ltb-true p q is)
    by_test false is = let least : q ≤ p = ltb-false p q is in inr (omega (arith, least, at_most))

-- ---- an instruction and its size

pub size_some : (i : Op) → 1 ≤ size_of i
size_some i = omega arith

none_left : (k : ℕ) (xs : List ℕ) → length xs ≤ k → drop k xs ≡ []
none_left zero [] long = refl
none_left (suc k) [] long = refl
none_left zero (x ∷ xs) long = absurd (omega arith)
none_left (suc k) (x ∷ xs) long = none_left k xs (omega arith)

pub within_code : (code : List ℕ) (place : ℕ) (i : Op) → op_at code place ≡ Some i → place < length code
within_code code place i e = by_test (nat_lt place (length code)) refl
  where
    by_test : (b : Bool) → nat_lt place (length code) ≡ b → place < length code
    by_test true is = ltb-true place (length code) is
    by_test false is =
        let long : length code ≤ place = ltb-false place (length code) is in
        absurd (none_some i (sym (ap front_op (none_left place code long)) ∙ e))

pub one_stands : (m : ImageMethod) (p q : ℕ) (i j : Op) → p ≡ q → op_at m.code p ≡ Some i → op_at m.code q ≡ Some j
    → i ≡ j
one_stands m p q i j same is other = some_eq i j (sym is ∙ ap (op_at m.code) same ∙ other)

-- ---- places that are reached

-- no place is inside an instruction
abbrev pub IsApart : ℕ → ℕ → Op → Type 0
IsApart p q j = (p ≤ q) ⊎ (q + size_of j ≤ p)

-- where a place is inside no instruction, none is reached inside that which stands there
beyond : (m : ImageMethod) (p : ℕ) (i : Op) → op_at m.code p ≡ Some i
    → ((q : ℕ) (j : Op) → StartsAt m q j → IsApart p q j)
    → (q : ℕ) → IsReached m q → p < q → p + size_of i ≤ q
beyond m p i is apart q first less = absurd (omega (arith, less))
beyond m p i is apart q (behind o j reached stands) less =
    by_case (apart o j (record { reached = reached; stands = stands })) (beyond m p i is apart o reached)
  where
    by_order : (p < o) ⊎ (p ≡ o) → (p < o → p + size_of i ≤ o) → p + size_of i ≤ o + size_of j
    by_order (inl lower) further = let h = further lower in omega (arith, h)
    by_order (inr same) further =
        let equal : size_of i ≡ size_of j = ap size_of (one_stands m p o i j same is stands) in
        omega (arith, same, equal)

    by_case : IsApart p o j → (p < o → p + size_of i ≤ o) → p + size_of i ≤ o + size_of j
    by_case (inl low) further = by_order (less_or_same p o low) further
    by_case (inr high) further = absurd (omega (arith, high, less))

pub apart : (m : ImageMethod) (p : ℕ) → IsReached m p → (q : ℕ) (j : Op) → StartsAt m q j → IsApart p q j
apart m p first q j s = inl (omega arith)
apart m p (behind o i reached stands) q j s =
    by_case (apart m o reached q j s) (beyond m o i stands (apart m o reached) q s.reached)
  where
    by_order : (o < q) ⊎ (o ≡ q) → (o < q → o + size_of i ≤ q) → IsApart (o + size_of i) q j
    by_order (inl lower) further = inl (further lower)
    by_order (inr same) further =
        let equal : size_of i ≡ size_of j = ap size_of (one_stands m o q i j same stands s.stands) in
        inr (omega (arith, same, equal))

    by_case : IsApart o q j → (o < q → o + size_of i ≤ q) → IsApart (o + size_of i) q j
    by_case (inl low) further = by_order (less_or_same o q low) further
    by_case (inr high) further = inr (omega (arith, high))

-- one instruction stands before a place
pub same_before : (m : ImageMethod) (p q : ℕ) (i j : Op) → StartsAt m p i → StartsAt m q j
    → p + size_of i ≡ q + size_of j → (p ≡ q) × (i ≡ j)
same_before m p q i j s t same = both (by_case (apart m p s.reached q j t) (apart m q t.reached p i s))
  where
    by_case : IsApart p q j → IsApart q p i → p ≡ q
    by_case (inl a) (inl b) = omega (arith, a, b)
    by_case (inl a) (inr b) = let some = size_some j in absurd (omega (arith, b, same, some))
    by_case (inr a) b = let some = size_some i in absurd (omega (arith, a, same, some))

    both : p ≡ q → (p ≡ q) × (i ≡ j)
    both is = (is, one_stands m p q i j is s.stands t.stands)

-- where no instruction stands, nothing is reached behind
last_reached : (m : ImageMethod) (p : ℕ) → IsReached m p → op_at m.code p ≡ None → (q : ℕ) → IsReached m q → q ≤ p
last_reached m p reached none q first = omega arith
last_reached m p reached none q (behind o j before stands) =
    by_case (apart m p reached o j (record { reached = before; stands = stands }))
    (last_reached m p reached none o before)
  where
    by_case : IsApart p o j → o ≤ p → o + size_of j ≤ p
    by_case (inl low) high =
        let same : p ≡ o = omega (arith, low, high) in
        absurd (none_some j (sym none ∙ ap (op_at m.code) same ∙ stands))
    by_case (inr apart) high = apart

-- ---- the list of starts

-- a start is the first one, or one of those behind it
start_on : (most : ℕ) (m : ImageMethod) (place to : ℕ) (o : Option Op) → op_at m.code place ≡ o → IsReached m place
    → ((next : ℕ) → IsReached m next → list_any (λ p. p == to) (starts_from most next m.code) ≡ true → IsStart m to)
    → list_any (λ p. p == to) (starts_on (λ next. starts_from most next m.code) place o) ≡ true → IsStart m to
start_on most m place to None is reached further told = absurd cc
start_on most m place to (Some i) is reached further told = by_first (place == to) refl told
  where
    by_first : (b : Bool) → (place == to) ≡ b
        → b || list_any (λ p. p == to) (starts_from most (place + size_of i) m.code) ≡ true → IsStart m to
    by_first true same told =
        subst (λ (t : ℕ). IsStart m t) (eqb-true place to same) (i, record { reached = reached; stands = is })
    by_first false same told = further (place + size_of i) (behind place i reached is) told

starts_are : (most : ℕ) (m : ImageMethod) (place to : ℕ) → IsReached m place
    → list_any (λ p. p == to) (starts_from most place m.code) ≡ true → IsStart m to
starts_are zero m place to reached told = absurd cc
starts_are (suc most) m place to reached told =
    start_on most m place to (op_at m.code place) refl reached (λ next r t. starts_are most m next to r t) told

told_on : (most : ℕ) (m : ImageMethod) (place to : ℕ) (o : Option Op) → op_at m.code place ≡ o → IsReached m place
    → IsStart m to → place ≤ to
    → ((next : ℕ) → place < next → IsReached m next → next ≤ to
    → list_any (λ p. p == to) (starts_from most next m.code) ≡ true)
    → list_any (λ p. p == to) (starts_on (λ next. starts_from most next m.code) place o) ≡ true
told_on most m place to None is reached start low further =
    let high = last_reached m place reached is to start.1.reached in
    let same : place ≡ to = omega (arith, low, high) in
    absurd (none_some start.0 (sym is ∙ ap (op_at m.code) same ∙ start.1.stands))
told_on most m place to (Some i) is reached start low further = by_order (less_or_same place to low)
  where
    by_order : (place < to) ⊎ (place ≡ to)
        → (place == to) || list_any (λ p. p == to) (starts_from most (place + size_of i) m.code) ≡ true
    by_order (inl less) =
        let some = size_some i in
        let high = beyond m place i is (apart m place reached) to start.1.reached less in
        let later = further (place + size_of i) (omega (arith, some)) (behind place i reached is) high in
        or_right (place == to) _ later
      where
        or_right : (a b : Bool) → b ≡ true → a || b ≡ true
        or_right true b e = refl
        or_right false b e = e
    by_order (inr same) =
        let here : (place == to) ≡ true = subst (λ (t : ℕ). (place == t) ≡ true) same (same_eq place) in rw here refl

starts_have : (most : ℕ) (m : ImageMethod) (place to : ℕ) → IsReached m place → IsStart m to → place ≤ to
    → length m.code ≤ most + place → list_any (λ p. p == to) (starts_from most place m.code) ≡ true
starts_have zero m place to reached start low enough =
    let within = within_code m.code to start.0 start.1.stands in absurd (omega (arith, low, enough, within))
starts_have (suc most) m place to reached start low enough =
    told_on most m place to (op_at m.code place) refl reached start low
    (λ next beyond r h. starts_have most m next to r start h (omega (arith, beyond, enough)))

pub start_is : (m : ImageMethod) (to : ℕ) → is_start m.code to ≡ true → IsStart m to
start_is m to told = starts_are (length m.code) m 0 to first told

pub start_told : (m : ImageMethod) (to : ℕ) → IsStart m to → is_start m.code to ≡ true
start_told m to start = starts_have (length m.code) m 0 to first start (omega arith) (omega arith)

-- a place is a start, or it is none
pub start_or_not : (m : ImageMethod) (to : ℕ) → IsStart m to ⊎ (IsStart m to → ⊥)
start_or_not m to = by_test (is_start m.code to) refl
  where
    by_test : (b : Bool) → is_start m.code to ≡ b → IsStart m to ⊎ (IsStart m to → ⊥)
    by_test true is = inl (start_is m to is)
    by_test false is = inr (λ start. let told = start_told m to start in cc)
