-- The least of two lists of faults together is the lesser one of their least; and going over a row keeps it.
use Rattle.std.proofs.Common.{◌≡◌, ℕ, ◌+◌, ◌==◌, Bool, true, false, ◌&&◌, ◌||◌, if◌then◌else◌, nat_lt, List, [], ◌∷◌, ◌++◌, drop, Option, Some, None, refl, sym, ap, ◌∙◌, arith}
use Rattle.std.proofs.lemmas.Bool.Decides.{nat_tests}
use Rattle.sed_faults.specs.declared.fault.Fault.{Fault}
use Rattle.sed_faults.specs.Faults.{is_before, lesser, least, said_from}

-- by numbers alone: place and rule
abbrev comes_first : ℕ → ℕ → ℕ → ℕ → Bool
comes_first a r b s = nat_lt a b || ((a == b) && nat_lt r s)

chained : (a r b s c q : ℕ) → comes_first c q b s ≡ true → comes_first b s a r ≡ true → comes_first c q a r ≡ true
chained a r b s c q h g = grind (arith, nat_tests)

not_chained : (a r b s c q : ℕ) → comes_first c q b s ≡ false → comes_first b s a r ≡ false → comes_first c q a r ≡ false
not_chained a r b s c q h g = grind (arith, nat_tests)

three : (a b c : Fault) → lesser (lesser (Some a) (Some b)) (Some c) ≡ lesser (Some a) (lesser (Some b) (Some c))
three a b c = by_tests (is_before b a) (is_before c b) refl refl
  where
    by_tests : (x y : Bool) → is_before b a ≡ x → is_before c b ≡ y →
        lesser (Some (if x then b else a)) (Some c) ≡ lesser (Some a) (Some (if y then c else b))
    by_tests true true p q =
        ap (λ z. Some (if z then c else b)) q ∙ sym (ap (λ z. Some (if z then c else a)) (chained a.at a.rule b.at b.rule c.at c.rule q p))
    by_tests true false p q = ap (λ z. Some (if z then c else b)) q ∙ sym (ap (λ z. Some (if z then b else a)) p)
    by_tests false true p q = refl
    by_tests false false p q =
        ap (λ z. Some (if z then c else a)) (not_chained a.at a.rule b.at b.rule c.at c.rule q p) ∙ sym (ap (λ z. Some (if z then b else a)) p)

pub lesser_assoc : (a b c : Option Fault) → lesser (lesser a b) c ≡ lesser a (lesser b c)
lesser_assoc None b c = refl
lesser_assoc (Some a) None c = refl
lesser_assoc (Some a) (Some b) None = refl
lesser_assoc (Some a) (Some b) (Some c) = three a b c

pub least_together : (xs ys : List Fault) → least (xs ++ ys) ≡ lesser (least xs) (least ys)
least_together [] ys = refl
least_together (x ∷ xs) ys = ap (lesser (Some x)) (least_together xs ys) ∙ sym (lesser_assoc (Some x) (least xs) (least ys))

pub lesser_none : (a : Option Fault) → lesser a None ≡ a
lesser_none None = refl
lesser_none (Some a) = refl

-- ---- a loop over a row, which keeps the least so far

-- what is left of a row, before and after one more of its items
pub said_next : {X : Type 0} (said : ℕ → X → List Fault) (i : ℕ) (xs : List X) (x : X) (far one : Option Fault) →
    drop i xs ≡ x ∷ drop (i + 1) xs → one ≡ least (said i x) →
    lesser (lesser far one) (least (said_from said (i + 1) (drop (i + 1) xs))) ≡ lesser far (least (said_from said i (drop i xs)))
said_next said i xs x far one e o =
    lesser_assoc far one (least (said_from said (i + 1) (drop (i + 1) xs)))
    ∙ ap (λ w. lesser far (lesser w (least (said_from said (i + 1) (drop (i + 1) xs))))) o
    ∙ sym (ap (lesser far) (least_together (said i x) (said_from said (i + 1) (drop (i + 1) xs))))
    ∙ sym (ap (λ rest. lesser far (least (said_from said i rest))) e)
