-- Rows of all classes, and rounds over them.
use Rattle.std.proofs.Common.{◌≡◌, ◌≢◌, ◌≤◌, ℕ, zero, suc, ◌+◌, ◌-◌, ◌<◌, map, length, List, [], ◌∷◌, Option, None, replicate, slice_set, refl, sym, ap, ◌∙◌, arith}
use Rattle.std.specs.List.{range_with_len}
use Rattle.std.specs.Option.{option_and_then, option_map_or}
use Rattle.std.proofs.lemmas.Option.{slice_get_past}
use Rattle.sed_classes.specs.declared.kit_units.KitUnits.{KitUnits}
use Rattle.sed_classes.specs.Declarations.{Declaration, all_classes}
use Rattle.sed_classes.specs.Bases.{base_of, base_written, lineage, gone_on}
use Rattle.sed_classes.specs.Members.{members_of}
use Rattle.sed_outline.specs.Rounds.{item, row_of, rounds}

item_range : {X : Type 0} (f : ℕ → X) (d : X) (a n i : ℕ) → (n ≤ i → f (a + i) ≡ d) →
    item d (map f (range_with_len a n)) i ≡ f (a + i)
item_range f d a zero i past = sym (past (omega arith))
item_range f d a (suc n) zero past = let e : a ≡ a + 0 = omega arith in ap f e
item_range f d a (suc n) (suc i) past =
    let e : a + 1 + i ≡ a + suc i = omega arith in
    let behind : n ≤ i → f (a + 1 + i) ≡ d = λ le. ap f e ∙ past (omega (arith, le)) in
    item_range f d (a + 1) n i behind ∙ ap f e

-- a row has at a place what the function gives there, also behind its end
pub item_is : {X : Type 0} (units : List KitUnits) (f : ℕ → X) (d : X) →
    ((h : ℕ) → length (all_classes units) ≤ h → f h ≡ d) → (h : ℕ) → item d (row_of units f) h ≡ f h
item_is units f d past h =
    let e : 0 + h ≡ h = omega arith in
    item_range f d 0 (length (all_classes units)) h (λ le. ap f e ∙ past h le) ∙ ap f e

constant_range : {X : Type 0} (d : X) (a n : ℕ) → replicate n d ≡ map (λ (i : ℕ). d) (range_with_len a n)
constant_range d a zero = refl
constant_range d a (suc n) = ap (λ xs. d ∷ xs) (constant_range d (a + 1) n)

pub constant_row : {X : Type 0} (units : List KitUnits) (d : X) →
    replicate (length (all_classes units)) d ≡ row_of units (λ (i : ℕ). d)
constant_row units d = constant_range d 0 (length (all_classes units))

-- ---- an item put into a row

pub same_everywhere : {X : Type 0} (other : X) (n at : ℕ) → item other (replicate n other) at ≡ other
same_everywhere other zero at = refl
same_everywhere other (suc n) zero = refl
same_everywhere other (suc n) (suc at) = same_everywhere other n at

pub put_here : {X : Type 0} (other x : X) (row : List X) (at : ℕ) → at < length row →
    item other (slice_set row at x) at ≡ x
put_here other x [] at lt = absurd (omega (arith, lt))
put_here other x (y ∷ row) zero lt = refl
put_here other x (y ∷ row) (suc at) lt = put_here other x row at (omega (arith, lt))

pub put_elsewhere : {X : Type 0} (other x : X) (row : List X) (at place : ℕ) → place ≢ at →
    item other (slice_set row at x) place ≡ item other row place
put_elsewhere other x [] at place ne = refl
put_elsewhere other x (y ∷ row) zero zero ne = absurd (ne refl)
put_elsewhere other x (y ∷ row) zero (suc place) ne = refl
put_elsewhere other x (y ∷ row) (suc at) zero ne = refl
put_elsewhere other x (y ∷ row) (suc at) (suc place) ne = put_elsewhere other x row at place (λ e. ne (ap suc e))

-- ---- places behind all classes

pub base_behind : (units : List KitUnits) (class : ℕ) → length (all_classes units) ≤ class → base_of units class ≡ None
base_behind units class le =
    ap
    (λ found. option_and_then (λ (d : Declaration). base_written units class d.kit d.class.base) found)
    (slice_get_past (all_classes units) class le)

pub gone_none : (next : ℕ → Option ℕ) (n : ℕ) (far : List ℕ) → gone_on next n far None ≡ far
gone_none next zero far = refl
gone_none next (suc n) far = refl

pub lineage_behind : (units : List KitUnits) (class : ℕ) → length (all_classes units) ≤ class →
    lineage units class ≡ class ∷ []
lineage_behind units class le =
    ap (gone_on (base_of units) (length (all_classes units)) (class ∷ [])) (base_behind units class le)
    ∙ gone_none (base_of units) (length (all_classes units)) (class ∷ [])

pub members_behind : (units : List KitUnits) (class : ℕ) → length (all_classes units) ≤ class →
    members_of units class ≡ []
members_behind units class le =
    ap
    (λ found. option_map_or (λ (d : Declaration). d.class.members) found [])
    (slice_get_past (all_classes units) class le)

-- ---- rounds

-- what a round leaves as it is stays so
pub rounds_same : {X : Type 0} (next : List X → List X) (n : ℕ) (row : List X) → next row ≡ row →
    rounds next n row ≡ row
unfolding rounds
rounds_same next zero row e = refl
rounds_same next (suc n) row e = ap (rounds next n) e ∙ rounds_same next n row e

-- one round done
pub rounds_one : {X : Type 0} (next : List X → List X) (n : ℕ) (row : List X) →
    rounds next (suc n) row ≡ rounds next n (next row)
unfolding rounds
rounds_one next n row = refl

pub rounds_none : {X : Type 0} (next : List X → List X) (row : List X) → rounds next 0 row ≡ row
unfolding rounds
rounds_none next row = refl

-- so many rounds over rows of functions, each of which is a round from the one before
pub rounds_reach : {X : Type 0} (units : List KitUnits) (next : List X → List X) (f : ℕ → ℕ → X) →
    ((k : ℕ) → next (row_of units (f k)) ≡ row_of units (f (suc k))) → (n k : ℕ) →
    rounds next n (row_of units (f k)) ≡ row_of units (f (k + n))
unfolding rounds
rounds_reach units next f step zero k = let e : k ≡ k + 0 = omega arith in ap (λ i. row_of units (f i)) e
rounds_reach units next f step (suc n) k =
    let e : suc k + n ≡ k + suc n = omega arith in
    ap (rounds next n) (step k) ∙ rounds_reach units next f step n (suc k) ∙ ap (λ i. row_of units (f i)) e

-- ---- loops of rounds

pub round_more : {X : Type 0} (next : List X → List X) (left : ℕ) (row new asked : List X) → 0 < left → new ≡ next row →
    rounds next left row ≡ asked → rounds next (left - 1) new ≡ asked
round_more next left row new asked some e i =
    let same : suc (left - 1) ≡ left = omega arith in
    ap (rounds next (left - 1)) e ∙ sym (rounds_one next (left - 1) row) ∙ ap (λ n. rounds next n row) same ∙ i

pub round_same : {X : Type 0} (next : List X → List X) (left : ℕ) (row asked : List X) → next row ≡ row →
    rounds next left row ≡ asked → row ≡ asked
round_same next left row asked e i = sym (rounds_same next left row e) ∙ i

pub round_none : {X : Type 0} (next : List X → List X) (left : ℕ) (row asked : List X) → left ≤ 0 →
    rounds next left row ≡ asked → row ≡ asked
round_none next left row asked none i =
    let same : 0 ≡ left = omega arith in
    sym (rounds_none next row) ∙ ap (λ n. rounds next n row) same ∙ i
