-- The first fault of two lists together is the lesser one of their first, and faults of one text are in the order of
-- the text.
use Rattle.std.proofs.Common.{◌≡◌, ℕ, Bool, true, false, if◌then◌else◌, nat_lt, List, [], ◌∷◌, ◌++◌, map}
use Rattle.std.proofs.Common.{Option, Some, None, option_map, refl, sym, ap, ◌∙◌, arith}
use Rattle.std.proofs.lemmas.Bool.Decides.{nat_tests}
use Rattle.sed_faults.specs.declared.fault.Fault.{Fault}
use Rattle.sed_faults.specs.Faults as text
use Rattle.sed_classes.specs.declared.source_type.PlacedFault.{PlacedFault}
use Rattle.sed_classes.specs.Declarations.{Declaration}
use Rattle.sed_classes.specs.Faults.{by, is_before, first_of, placed_in}
use Rattle.sed_first_fault.specs.Parts.{lesser}

-- ---- the order

by_chained : (x y z : ℕ) (n m k : Bool) → (n ≡ true → m ≡ true → k ≡ true) →
    by z y n ≡ true → by y x m ≡ true → by z x k ≡ true
by_chained x y z true true k h p q = let t : k ≡ true = h refl refl in grind (arith, nat_tests)
by_chained x y z true false k h p q = grind (arith, nat_tests)
by_chained x y z false true k h p q = grind (arith, nat_tests)
by_chained x y z false false k h p q = grind (arith, nat_tests)

by_not_chained : (x y z : ℕ) (n m k : Bool) → (n ≡ false → m ≡ false → k ≡ false) →
    by z y n ≡ false → by y x m ≡ false → by z x k ≡ false
by_not_chained x y z false false k h p q = let t : k ≡ false = h refl refl in grind (arith, nat_tests)
by_not_chained x y z true false k h p q = grind (arith, nat_tests)
by_not_chained x y z false true k h p q = grind (arith, nat_tests)
by_not_chained x y z true true k h p q = grind (arith, nat_tests)

rule_chained : (x y z : ℕ) → nat_lt z y ≡ true → nat_lt y x ≡ true → nat_lt z x ≡ true
rule_chained x y z p q = grind (arith, nat_tests)

rule_not_chained : (x y z : ℕ) → nat_lt z y ≡ false → nat_lt y x ≡ false → nat_lt z x ≡ false
rule_not_chained x y z p q = grind (arith, nat_tests)

-- by place and rule, and by text before them
abbrev places : PlacedFault → PlacedFault → Bool
places a b = by a.at b.at (nat_lt a.rule b.rule)

abbrev texts : PlacedFault → PlacedFault → Bool
texts a b = by a.text b.text (places a b)

chained : (a b c : PlacedFault) → is_before c b ≡ true → is_before b a ≡ true → is_before c a ≡ true
chained a b c =
    let rules = rule_chained a.rule b.rule c.rule in
    let in_text : places c b ≡ true → places b a ≡ true → places c a ≡ true =
    by_chained a.at b.at c.at (nat_lt c.rule b.rule) (nat_lt b.rule a.rule) (nat_lt c.rule a.rule) rules in
    by_chained
    a.kit
    b.kit
    c.kit
    (texts c b)
    (texts b a)
    (texts c a)
    (by_chained a.text b.text c.text (places c b) (places b a) (places c a) in_text)

not_chained : (a b c : PlacedFault) → is_before c b ≡ false → is_before b a ≡ false → is_before c a ≡ false
not_chained a b c =
    let rules = rule_not_chained a.rule b.rule c.rule in
    let in_text : places c b ≡ false → places b a ≡ false → places c a ≡ false =
    by_not_chained a.at b.at c.at (nat_lt c.rule b.rule) (nat_lt b.rule a.rule) (nat_lt c.rule a.rule) rules in
    by_not_chained
    a.kit
    b.kit
    c.kit
    (texts c b)
    (texts b a)
    (texts c a)
    (by_not_chained a.text b.text c.text (places c b) (places b a) (places c a) in_text)

-- ---- two lists

three : (a b c : PlacedFault) → lesser (lesser (Some a) (Some b)) (Some c) ≡ lesser (Some a) (lesser (Some b) (Some c))
three a b c = by_tests (is_before b a) (is_before c b) refl refl
  where
    by_tests : (x y : Bool) → is_before b a ≡ x → is_before c b ≡ y →
        lesser (Some (if x then b else a)) (Some c) ≡ lesser (Some a) (Some (if y then c else b))
    by_tests true true p q =
        ap (λ z. Some (if z then c else b)) q ∙ sym (ap (λ z. Some (if z then c else a)) (chained a b c q p))
    by_tests true false p q = ap (λ z. Some (if z then c else b)) q ∙ sym (ap (λ z. Some (if z then b else a)) p)
    by_tests false true p q = refl
    by_tests false false p q =
        ap (λ z. Some (if z then c else a)) (not_chained a b c q p) ∙ sym (ap (λ z. Some (if z then b else a)) p)

pub lesser_assoc : (a b c : Option PlacedFault) → lesser (lesser a b) c ≡ lesser a (lesser b c)
lesser_assoc None b c = refl
lesser_assoc (Some a) None c = refl
lesser_assoc (Some a) (Some b) None = refl
lesser_assoc (Some a) (Some b) (Some c) = three a b c

pub lesser_none : (a : Option PlacedFault) → lesser a None ≡ a
lesser_none None = refl
lesser_none (Some a) = refl

first_cons : (f : PlacedFault) (fs : List PlacedFault) → first_of (f ∷ fs) ≡ lesser (Some f) (first_of fs)
first_cons f fs = by_case (first_of fs) refl
  where
    by_case : (o : Option PlacedFault) → first_of fs ≡ o → first_of (f ∷ fs) ≡ lesser (Some f) (first_of fs)
    by_case None e = rw e refl
    by_case (Some g) e = rw e refl

pub together : (xs ys : List PlacedFault) → first_of (xs ++ ys) ≡ lesser (first_of xs) (first_of ys)
together [] ys = refl
together (x ∷ xs) ys =
    first_cons x (xs ++ ys)
    ∙ ap (lesser (Some x)) (together xs ys)
    ∙ sym (lesser_assoc (Some x) (first_of xs) (first_of ys))
    ∙ ap (λ a. lesser a (first_of ys)) (sym (first_cons x xs))

pub first_together : (a b r : Option PlacedFault) → r ≡ lesser a b →
    (xs ys : List PlacedFault) → a ≡ first_of xs → b ≡ first_of ys → r ≡ first_of (xs ++ ys)
first_together a b r e xs ys p q =
    e ∙ ap (λ z. lesser z b) p ∙ ap (lesser (first_of xs)) q ∙ sym (together xs ys)

-- ---- faults of one text

by_same : (k : ℕ) (n : Bool) → by k k n ≡ n
by_same k true = grind (arith, nat_tests)
by_same k false = grind (arith, nat_tests)

before_in : (d : Declaration) (f g : Fault) → is_before (placed_in d f) (placed_in d g) ≡ text.is_before f g
before_in d f g = by_same d.kit (by d.text d.text (text.is_before f g)) ∙ by_same d.text (text.is_before f g)

placed_lesser : (d : Declaration) (f : Fault) (o : Option Fault) →
    lesser (Some (placed_in d f)) (option_map (placed_in d) o) ≡ option_map (placed_in d) (text.lesser (Some f) o)
placed_lesser d f None = refl
placed_lesser d f (Some g) = by_test (text.is_before g f) (before_in d g f)
  where
    by_test : (b : Bool) → is_before (placed_in d g) (placed_in d f) ≡ b →
        lesser (Some (placed_in d f)) (Some (placed_in d g)) ≡ Some (placed_in d (if b then g else f))
    by_test true e = ap (λ z. Some (if z then placed_in d g else placed_in d f)) e
    by_test false e = ap (λ z. Some (if z then placed_in d g else placed_in d f)) e

pub placed_least : (d : Declaration) (xs : List Fault) →
    first_of (map (placed_in d) xs) ≡ option_map (placed_in d) (text.least xs)
placed_least d [] = refl
placed_least d (x ∷ xs) =
    first_cons (placed_in d x) (map (placed_in d) xs)
    ∙ ap (lesser (Some (placed_in d x))) (placed_least d xs)
    ∙ placed_lesser d x (text.least xs)

pub placed_first : (d : Declaration) (xs : List Fault) (f : Option Fault) → f ≡ text.least xs →
    option_map (placed_in d) f ≡ first_of (map (placed_in d) xs)
placed_first d xs f e = ap (option_map (placed_in d)) e ∙ sym (placed_least d xs)
