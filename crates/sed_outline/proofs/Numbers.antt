-- The numbers of kits and of classes in their kits.
use Rattle.std.proofs.Common.{◌≡◌, ◌<◌, ◌≤◌, ◌+◌, ◌*◌, ◌==◌, ℕ, zero, suc, false, List, [], ◌∷◌, ◌++◌, map, length, get_or, All, refl, sym, ap, ◌∙◌, arith}
use Rattle.std.specs.List.{range_with_len}
use Rattle.std.proofs.lemmas.List.{length-append, map-append}
use Rattle.std.proofs.lemmas.List.Elements.{All-append, All-nil}
use Rattle.std.proofs.lemmas.List.FromFn.{get_or-range_with_len}
use Rattle.std.proofs.lemmas.Bool.Decides.{nat_tests}
use Rattle.sed_units.specs.declared.classes.Class.{Class}
use Rattle.sed_units.specs.declared.classes.Unit.{Unit as SourceUnit}
use Rattle.sed_classes.specs.declared.kit_units.KitUnits.{KitUnits}
use Rattle.sed_classes.specs.Declarations.{Declaration, kit_declares, kits_declare, text_declares}

abbrev numbers : List Declaration → List ℕ
numbers ds = map (λ (d : Declaration). d.number) ds

pub joined_range : (a m n : ℕ) → range_with_len a m ++ range_with_len (a + m) n ≡ range_with_len a (m + n)
joined_range a zero n =
    let at : a + 0 ≡ a = omega arith in
    let same : n ≡ 0 + n = omega arith in
    ap (λ k. range_with_len k n) at ∙ ap (range_with_len a) same
joined_range a (suc m) n =
    let at : a + suc m ≡ a + 1 + m = omega arith in
    let same : suc (m + n) ≡ suc m + n = omega arith in
    ap (λ r. a ∷ r) (ap (λ k. range_with_len (a + 1) m ++ range_with_len k n) at ∙ joined_range (a + 1) m n)
    ∙ ap (range_with_len a) same

text_numbers : (kit text n : ℕ) (cs : List Class) → numbers (text_declares kit text n cs) ≡ range_with_len n (length cs)
text_numbers kit text n [] = refl
text_numbers kit text n (c ∷ cs) = ap (λ r. n ∷ r) (text_numbers kit text (n + 1) cs)

text_len : (kit text n : ℕ) (cs : List Class) → length (text_declares kit text n cs) ≡ length cs
text_len kit text n [] = refl
text_len kit text n (c ∷ cs) = ap suc (text_len kit text (n + 1) cs)

kit_numbers : (kit text n : ℕ) (us : List SourceUnit) →
    numbers (kit_declares kit text n us) ≡ range_with_len n (length (kit_declares kit text n us))
kit_numbers kit text n [] = refl
kit_numbers kit text n (u ∷ us) =
    map-append (λ (d : Declaration). d.number) (text_declares kit text n u.classes) (kit_declares kit (text + 1) (n + length u.classes) us)
    ∙ ap (λ r. r ++ numbers (kit_declares kit (text + 1) (n + length u.classes) us)) (text_numbers kit text n u.classes)
    ∙ ap (λ r. range_with_len n (length u.classes) ++ r) (kit_numbers kit (text + 1) (n + length u.classes) us)
    ∙ joined_range n (length u.classes) (length (kit_declares kit (text + 1) (n + length u.classes) us))
    ∙ ap
    (λ k. range_with_len n (k + length (kit_declares kit (text + 1) (n + length u.classes) us)))
    (sym (text_len kit text n u.classes))
    ∙ ap
    (range_with_len n)
    (sym (length-append (text_declares kit text n u.classes) (kit_declares kit (text + 1) (n + length u.classes) us)))

number_at : (ds : List Declaration) (i : ℕ) (d : Declaration) → i < length ds → get_or (numbers ds) i d.number ≡ (get_or ds i d).number
number_at [] i d h = absurd (omega (arith, h))
number_at (x ∷ xs) zero d h = refl
number_at (x ∷ xs) (suc i) d h = number_at xs i d (omega (arith, h))

pub numbered : (kit : ℕ) (us : List SourceUnit) (i : ℕ) (d : Declaration) → i < length (kit_declares kit 0 0 us) →
    (get_or (kit_declares kit 0 0 us) i d).number ≡ i
numbered kit us i d h =
    let at : 0 + i ≡ i = omega arith in
    sym (number_at (kit_declares kit 0 0 us) i d h)
    ∙ ap (λ r. get_or r i d.number) (kit_numbers kit 0 0 us)
    ∙ get_or-range_with_len 0 (length (kit_declares kit 0 0 us)) i d.number h
    ∙ at

-- ---- no class has the number 64

abbrev pub Free : Declaration → Type 0
Free d = (d.number == 64) ≡ false

abbrev pub Low : Declaration → Type 0
Low d = d.number < 64

apart : (n : ℕ) → (n == 64) ≡ false → n ≡ 64 → ⊥
apart n e s = grind (arith, nat_tests)

-- one of several in a row, where there are more than 64
some_is : (kit : ℕ) (us : List SourceUnit) (d : Declaration) → All Free (kit_declares kit 0 0 us) →
    64 < length (kit_declares kit 0 0 us) → ⊥
some_is kit us d free h =
    apart (get_or (kit_declares kit 0 0 us) 64 d).number (free 64 d h) (numbered kit us 64 d h)

pub few : (kit : ℕ) (us : List SourceUnit) → All Free (kit_declares kit 0 0 us) → length (kit_declares kit 0 0 us) ≤ 64
few kit us free = by_list (kit_declares kit 0 0 us) (λ d h. some_is kit us d free h)
  where
    by_list : (ds : List Declaration) → (Declaration → 64 < length ds → ⊥) → length ds ≤ 64
    by_list [] none = omega arith
    by_list (d ∷ ds) none = omega (arith, none d)

low : (kit : ℕ) (us : List SourceUnit) → All Free (kit_declares kit 0 0 us) → All Low (kit_declares kit 0 0 us)
low kit us free i d h = omega (arith, numbered kit us i d h, few kit us free)

pub all_left : {X : Type 0} (P : X → Type 0) (xs ys : List X) → All P (xs ++ ys) → All P xs
all_left P [] ys a i d h = absurd (omega (arith, h))
all_left P (x ∷ xs) ys a zero d h = a 0 d (omega arith)
all_left P (x ∷ xs) ys a (suc i) d h =
    all_left P xs ys (λ j e k. a (suc j) e (omega arith)) i d (omega (arith, h))

pub all_right : {X : Type 0} (P : X → Type 0) (xs ys : List X) → All P (xs ++ ys) → All P ys
all_right P [] ys a = a
all_right P (x ∷ xs) ys a = all_right P xs ys (λ j e k. a (suc j) e (omega arith))

pub lows : (kit : ℕ) (ks : List KitUnits) → All Free (kits_declare kit ks) → All Low (kits_declare kit ks)
lows kit [] free = All-nil Low
lows kit (k ∷ ks) free =
    All-append
    Low
    (kit_declares kit 0 0 k.units)
    (kits_declare (kit + 1) ks)
    (low kit k.units (all_left Free (kit_declares kit 0 0 k.units) (kits_declare (kit + 1) ks) free))
    (lows (kit + 1) ks (all_right Free (kit_declares kit 0 0 k.units) (kits_declare (kit + 1) ks) free))

pub fews : (kit : ℕ) (ks : List KitUnits) → All Free (kits_declare kit ks) → length (kits_declare kit ks) ≤ 64 * length ks
fews kit [] free = omega arith
fews kit (k ∷ ks) free =
    omega (
      arith,
      length-append (kit_declares kit 0 0 k.units) (kits_declare (kit + 1) ks),
      few kit k.units (all_left Free (kit_declares kit 0 0 k.units) (kits_declare (kit + 1) ks) free),
      fews (kit + 1) ks (all_right Free (kit_declares kit 0 0 k.units) (kits_declare (kit + 1) ks) free),
    )

-- ---- kits

abbrev pub InKits : ℕ → Declaration → Type 0
InKits most d = d.kit ≤ most

text_kit : (most kit text n : ℕ) (cs : List Class) → kit ≤ most → All (InKits most) (text_declares kit text n cs)
text_kit most kit text n [] le i d h = absurd (omega (arith, h))
text_kit most kit text n (c ∷ cs) le zero d h = le
text_kit most kit text n (c ∷ cs) le (suc i) d h = text_kit most kit text (n + 1) cs le i d (omega (arith, h))

kit_kit : (most kit text n : ℕ) (us : List SourceUnit) → kit ≤ most → All (InKits most) (kit_declares kit text n us)
kit_kit most kit text n [] le = All-nil (InKits most)
kit_kit most kit text n (u ∷ us) le =
    All-append
    (InKits most)
    (text_declares kit text n u.classes)
    (kit_declares kit (text + 1) (n + length u.classes) us)
    (text_kit most kit text n u.classes le)
    (kit_kit most kit (text + 1) (n + length u.classes) us le)

pub kits_kit : (most kit : ℕ) (ks : List KitUnits) → kit + length ks ≤ suc most → All (InKits most) (kits_declare kit ks)
kits_kit most kit [] le = All-nil (InKits most)
kits_kit most kit (k ∷ ks) le =
    All-append
    (InKits most)
    (kit_declares kit 0 0 k.units)
    (kits_declare (kit + 1) ks)
    (kit_kit most kit 0 0 k.units (omega (arith, le)))
    (kits_kit most (kit + 1) ks (omega (arith, le)))
