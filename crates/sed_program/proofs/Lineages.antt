-- The bases of a class, where units break no rule: a climb that ends.
use Rattle.std.proofs.Common.{◌≡◌, ◌<◌, ◌≤◌, ◌||◌, ℕ, suc, Bool, true, false, eqb, nat_lt, List, [], ◌∷◌, drop, length, Option, Some, None, refl, sym, ap, ◌∙◌, subst, arith}
use Rattle.std.specs.List.{list_any}
use Rattle.std.proofs.lemmas.Map.Steps.{length-le_from_distinct_below}
use Rattle.std.proofs.lemmas.Bool.Decides.{nat_tests}
use Rattle.sed_classes.specs.declared.kit_units.KitUnits.{KitUnits}
use Rattle.sed_classes.specs.Declarations.{all_classes}
use Rattle.sed_classes.specs.Bases.{base_of, bases, lineage}
use Rattle.sed_outline.proofs.Rounds.{base_behind}
use Rattle.sed_outline.specs.Fits.{Unbroken}
use Rattle.sed_outline.proofs.Ends.{climbed, ends}
use Rattle.sed_outline.proofs.Fitting.{inside, no_back}
use Rattle.sed_outline.proofs.Orders.{depth}
use Rattle.sed_program.proofs.Leads.{Leads, leads_distinct, leads_lineage, leads_same}
use Rattle.sed_program.proofs.Within.{base_within}

abbrev pub places : List KitUnits → ℕ
places units = length (all_classes units)

-- what passes from a base to each class based on it holds of all
pub climb : (P : ℕ → Type 0) (units : List KitUnits) → Unbroken units → ((at : ℕ) → base_of units at ≡ None → P at) →
    ((at base : ℕ) → base_of units at ≡ Some base → P base → P at) → (class : ℕ) → P class
climb P units u first on class =
    climbed
    P
    (base_of units)
    first
    on
    (suc (places units))
    class
    (ends (base_of units) (places units) (no_back units u.faultless) (inside units) class)

abbrev Climbs : List KitUnits → ℕ → Type 0
Climbs units class = (xs : List ℕ) × Leads (base_of units) (base_of units class) xs

climbs : (units : List KitUnits) → Unbroken units → (class : ℕ) → Climbs units class
climbs units u class =
    climb (Climbs units) units u (λ at e. ([], e)) (λ at base e p. (base ∷ p.0, (e, p.1))) class

-- ---- no more than there are classes

met_below : (units : List KitUnits) (q : ℕ) (o : Option ℕ) (xs : List ℕ) → ((c : ℕ) → o ≡ Some c → c < places units) →
    Leads (base_of units) o xs → list_any (eqb q) xs ≡ true → q < places units
met_below units q o [] h p e = cc
met_below units q o (x ∷ xs) h p e =
    by_test (eqb q x) refl (λ f. met_below units q (base_of units x) xs (base_within units x) p.1 f)
  where
    by_test : (b : Bool) → eqb q x ≡ b → (list_any (eqb q) xs ≡ true → q < places units) → q < places units
    by_test true t rest =
        let same : q ≡ x = grind (arith, nat_tests) in
        omega (arith, same, h x p.0)
    by_test false t rest = rest (sym (ap (λ b. b || list_any (eqb q) xs) t) ∙ e)

few : (units : List KitUnits) (class : ℕ) (xs : List ℕ) → class < places units →
    Leads (base_of units) (base_of units class) xs →
    suc (length xs) ≤ places units
few units class xs h p =
    length-le_from_distinct_below
    (class ∷ xs)
    (places units)
    (leads_distinct (base_of units) (Some class) (class ∷ xs) (refl, p))
    (λ q e. met_below units q (Some class) (class ∷ xs) (λ c s. let same : class
    ≡ c = cc in omega (arith, same, h)) (refl, p) e)

short : (units : List KitUnits) (class : ℕ) (xs : List ℕ) → Leads (base_of units) (base_of units class) xs →
    length xs ≤ places units
short units class xs p = by_test (nat_lt class (places units)) refl
  where
    none : (ys : List ℕ) → Leads (base_of units) None ys → length ys ≤ places units
    none [] q = omega arith
    none (y ∷ ys) q = let e : None ≡ Some y = q.0 in cc

    by_test : (b : Bool) → nat_lt class (places units) ≡ b → length xs ≤ places units
    by_test true t = let h : class < places units = grind (arith, nat_tests) in omega (arith, few units class xs h p)
    by_test false t =
        none xs (subst (λ o. Leads (base_of units) o xs) (base_behind units class (grind (arith, nat_tests))) p)

lineage_is : (units : List KitUnits) (u : Unbroken units) (class : ℕ) →
    lineage units class ≡ class ∷ (climbs units u class).0
lineage_is units u class =
    leads_lineage
    (base_of units)
    (places units)
    class
    (climbs units u class).0
    (climbs units u class).1
    (short units class (climbs units u class).0 (climbs units u class).1)

-- ---- what is said of them

bases_is : (units : List KitUnits) (u : Unbroken units) (class : ℕ) → bases units class ≡ (climbs units u class).0
bases_is units u class = ap (drop 1) (lineage_is units u class)

pub lineage_first : (units : List KitUnits) → Unbroken units → (class : ℕ) →
    lineage units class ≡ class ∷ bases units class
lineage_first units u class = lineage_is units u class ∙ ap (λ xs. class ∷ xs) (sym (bases_is units u class))

pub bases_lead : (units : List KitUnits) → Unbroken units → (class : ℕ) →
    Leads (base_of units) (base_of units class) (bases units class)
bases_lead units u class =
    subst (Leads (base_of units) (base_of units class)) (sym (bases_is units u class)) (climbs units u class).1

pub bases_few : (units : List KitUnits) → Unbroken units → (class : ℕ) → class < places units →
    depth units class < places units
bases_few units u class h = few units class (bases units class) h (bases_lead units u class)

-- a class with a base has that one's lineage behind it
pub bases_cons : (units : List KitUnits) → Unbroken units → (class base : ℕ) → base_of units class ≡ Some base →
    bases units class ≡ lineage units base
bases_cons units u class base e =
    leads_same
    (base_of units)
    (base_of units class)
    (bases units class)
    (lineage units base)
    (bases_lead units u class)
    (subst (Leads (base_of units) (base_of units class)) (sym (lineage_first units u base))
    (e, bases_lead units u base))

pub bases_none : (units : List KitUnits) → Unbroken units → (class : ℕ) → base_of units class ≡ None →
    bases units class ≡ []
bases_none units u class e =
    leads_same (base_of units) (base_of units class) (bases units class) [] (bases_lead units u class) e

pub lineage_cons : (units : List KitUnits) → Unbroken units → (class base : ℕ) → base_of units class ≡ Some base →
    lineage units class ≡ class ∷ lineage units base
lineage_cons units u class base e = lineage_first units u class
    ∙ ap (λ xs. class ∷ xs) (bases_cons units u class base e)

pub lineage_one : (units : List KitUnits) → Unbroken units → (class : ℕ) → base_of units class ≡ None →
    lineage units class ≡ class ∷ []
lineage_one units u class e = lineage_first units u class ∙ ap (λ xs. class ∷ xs) (bases_none units u class e)

-- a base has one base fewer
pub depth_base : (units : List KitUnits) → Unbroken units → (class base : ℕ) → base_of units class ≡ Some base →
    depth units class ≡ suc (depth units base)
depth_base units u class base e =
    ap length (bases_cons units u class base e) ∙ ap length (lineage_first units u base)
