-- The classes of each kit are numbered from 0, each once.
use Rattle.std.proofs.Common.{◌≡◌, ◌<◌, ◌≤◌, ◌+◌, ◌==◌, ◌&&◌, ℕ, zero, suc, Bool, true, false, List, [], ◌∷◌, length, All, refl, sym, ap, ◌∙◌, arith}
use Rattle.std.specs.List.{count_by, range_with_len, sum_by}
use Rattle.std.proofs.lemmas.List.Sums.{sum_by-append, sum_by-cons}
use Rattle.std.proofs.lemmas.Bool.Decides.{nat_tests}
use Rattle.sed_units.specs.declared.classes.Class.{Class}
use Rattle.sed_units.specs.declared.classes.Unit.{Unit as SourceUnit}
use Rattle.sed_classes.specs.declared.kit_units.KitUnits.{KitUnits}
use Rattle.sed_classes.specs.SysSource.{sys_classes}
use Rattle.sed_classes.specs.Declarations.{Declaration, all_classes, declared_in, kit_declares, kits_declare, sys_declares, text_declares}
use Rattle.sed_outline.proofs.Numbers.{Free, all_left, all_right, few, joined_range}
use Rattle.sed_program.proofs.OrderLists.{count_high, count_range, is, weight}
use Rattle.sed_program.proofs.Infos.{sum_same}

-- how many classes texts declare
abbrev pub classes_in : List SourceUnit → ℕ
classes_in [] = 0
classes_in (u ∷ us) = length u.classes + classes_in us

-- ---- what a class counts by its kit and its number

abbrev pub counts : (ℕ → ℕ → ℕ) → Declaration → ℕ
counts w d = w d.kit d.number

text_sum : (w : ℕ → ℕ → ℕ) (kit text n : ℕ) (cs : List Class) →
    sum_by (counts w) (text_declares kit text n cs) ≡ sum_by (w kit) (range_with_len n (length cs))
text_sum w kit text n [] = refl
text_sum w kit text n (c ∷ cs) =
    sum_by-cons (counts w) (record { kit = kit; text = text; number = n; class = c }) (text_declares kit text
    (n + 1) cs)
    ∙ ap (λ k. w kit n + k) (text_sum w kit text (n + 1) cs)
    ∙ sym (sum_by-cons (w kit) n (range_with_len (n + 1) (length cs)))

kit_sum : (w : ℕ → ℕ → ℕ) (kit text n : ℕ) (us : List SourceUnit) →
    sum_by (counts w) (kit_declares kit text n us) ≡ sum_by (w kit) (range_with_len n (classes_in us))
kit_sum w kit text n [] = refl
kit_sum w kit text n (u ∷ us) =
    sum_by-append (counts w) (text_declares kit text n u.classes) (kit_declares kit (text + 1)
    (n + length u.classes) us)
    ∙ ap (λ k. k + sum_by (counts w) (kit_declares kit (text + 1) (n + length u.classes) us))
    (text_sum w kit text n u.classes)
    ∙ ap (λ k. sum_by (w kit) (range_with_len n (length u.classes)) + k) (kit_sum w kit (text + 1)
    (n + length u.classes) us)
    ∙ sym (sum_by-append (w kit) (range_with_len n (length u.classes)) (range_with_len (n + length u.classes)
    (classes_in us)))
    ∙ ap (sum_by (w kit)) (joined_range n (length u.classes) (classes_in us))

-- ---- classes of one kit, and of one number in it

abbrev pub in_kit : ℕ → ℕ → ℕ → ℕ
in_kit kit k n = weight (k == kit)

abbrev pub at_number : ℕ → ℕ → ℕ → ℕ → ℕ
at_number kit number k n = weight ((k == kit) && (n == number))

none_of : (f : ℕ → ℕ) → ((n : ℕ) → f n ≡ 0) → (xs : List ℕ) → sum_by f xs ≡ 0
none_of f h [] = refl
none_of f h (x ∷ xs) = omega (arith, sum_by-cons f x xs, h x, none_of f h xs)

ones : (f : ℕ → ℕ) → ((n : ℕ) → f n ≡ 1) → (a k : ℕ) → sum_by f (range_with_len a k) ≡ k
ones f h a zero = refl
ones f h a (suc k) = omega (arith, sum_by-cons f a (range_with_len (a + 1) k), h a, ones f h (a + 1) k)

other_kit : (kit k n : ℕ) → (k == kit) ≡ false → in_kit kit k n ≡ 0
other_kit kit k n e = ap weight e

other_number : (kit number k n : ℕ) → (k == kit) ≡ false → at_number kit number k n ≡ 0
other_number kit number k n e = ap (λ b. weight (b && (n == number))) e

same_number : (kit number k n : ℕ) → (k == kit) ≡ true → at_number kit number k n ≡ weight (n == number)
same_number kit number k n e = ap (λ b. weight (b && (n == number))) e

-- those of later kits are none of them
later_kits : (w : ℕ → ℕ → ℕ) (kit from : ℕ) → ((k n : ℕ) → kit < k → w k n ≡ 0) → kit < from → (ks : List KitUnits) →
    sum_by (counts w) (kits_declare from ks) ≡ 0
later_kits w kit from h l [] = refl
later_kits w kit from h l (k ∷ ks) =
    sum_by-append (counts w) (kit_declares from 0 0 k.units) (kits_declare (from + 1) ks)
    ∙ omega (
      arith,
      kit_sum w from 0 0 k.units,
      none_of (w from) (λ n. h from n l) (range_with_len 0 (classes_in k.units)),
      later_kits w kit (from + 1) h (omega (arith, l)) ks,
    )

apart : (kit k : ℕ) → kit < k → (k == kit) ≡ false
apart kit k l = grind (arith, nat_tests)

-- so many classes are of the kit, and of each lesser number there is one of them
pub record Numbered (ds : List Declaration) (kit number : ℕ) : Type 0 where
  pub below : number < sum_by (counts (in_kit kit)) ds → sum_by (counts (at_number kit number)) ds ≡ 1
  pub behind : sum_by (counts (in_kit kit)) ds ≤ number → sum_by (counts (at_number kit number)) ds ≡ 0

one_kit : (kit number k s : ℕ) → (k == kit) ≡ true →
    (sum_by (in_kit kit k) (range_with_len 0 s) ≡ s)
    × (number < s → sum_by (at_number kit number k) (range_with_len 0 s) ≡ 1)
    × (s ≤ number → sum_by (at_number kit number k) (range_with_len 0 s) ≡ 0)
one_kit kit number k s e =
    let same : sum_by (at_number kit number k) (range_with_len 0 s) ≡ count_by (is number) (range_with_len 0 s) =
    sum_same (at_number kit number k) (λ n. weight (is number n)) (λ n. same_number kit number k n e)
    (range_with_len 0 s) in (
      ones (in_kit kit k) (λ n. ap weight e) 0 s,
      λ h. same ∙ count_range number 0 s (omega arith) (omega (arith, h)),
      λ h. same ∙ count_high number 0 s (omega (arith, h)),
    )

numbered_from : (kit number from : ℕ) (ks : List KitUnits) → Numbered (kits_declare from ks) kit number
numbered_from kit number from [] = record { below = λ h. absurd (omega (arith, h)); behind = λ h. refl }
numbered_from kit number from (k ∷ ks) = by_test (from == kit) refl (numbered_from kit number (from + 1) ks)
  where
    rest : List Declaration
    rest = kits_declare (from + 1) ks

    kits : sum_by (counts (in_kit kit)) (kits_declare from (k ∷ ks))
        ≡ sum_by (in_kit kit from) (range_with_len 0 (classes_in k.units)) + sum_by (counts (in_kit kit)) (kits_declare
        (from + 1) ks)
    kits =
        sum_by-append (counts (in_kit kit)) (kit_declares from 0 0 k.units) (kits_declare (from + 1) ks)
        ∙ ap (λ n. n + sum_by (counts (in_kit kit)) (kits_declare (from + 1) ks)) (kit_sum
        (in_kit kit) from 0 0 k.units)

    ats : sum_by (counts (at_number kit number)) (kits_declare from (k ∷ ks))
        ≡ sum_by (at_number kit number from) (range_with_len 0 (classes_in k.units)) + sum_by (counts
        (at_number kit number)) (kits_declare (from + 1) ks)
    ats =
        sum_by-append (counts (at_number kit number)) (kit_declares from 0 0 k.units) (kits_declare (from + 1) ks)
        ∙ ap (λ n. n + sum_by (counts (at_number kit number)) (kits_declare (from + 1) ks)) (kit_sum
        (at_number kit number) from 0 0 k.units)

    by_test : (b : Bool) → (from == kit) ≡ b → Numbered (kits_declare (from + 1) ks) kit number →
        Numbered (kits_declare from (k ∷ ks)) kit number
    by_test true e more =
        let own = one_kit kit number from (classes_in k.units) e in
        let l : kit < from + 1 = grind (arith, nat_tests) in
        let no_kits : sum_by (counts (in_kit kit)) (kits_declare (from + 1) ks) ≡ 0 =
        later_kits (in_kit kit) kit (from + 1) (λ j n h. other_kit kit j n (apart kit j h)) l ks in
        let no_ats : sum_by (counts (at_number kit number)) (kits_declare (from + 1) ks) ≡ 0 =
        later_kits (at_number kit number) kit (from + 1) (λ j n h. other_number kit number j n (apart kit j h)) l ks in
        record {
          below = λ h. omega (arith, ats, no_ats, own.1 (omega (arith, h, kits, no_kits, own.0)));
          behind = λ h. omega (arith, ats, no_ats, own.2 (omega (arith, h, kits, no_kits, own.0)));
        }
    by_test false e more =
        let no_kits : sum_by (in_kit kit from) (range_with_len 0 (classes_in k.units)) ≡ 0 =
        none_of (in_kit kit from) (λ n. other_kit kit from n e) (range_with_len 0 (classes_in k.units)) in
        let no_ats : sum_by (at_number kit number from) (range_with_len 0 (classes_in k.units)) ≡ 0 =
        none_of (at_number kit number from) (λ n. other_number kit number from n e) (range_with_len 0
        (classes_in k.units)) in
        record {
          below = λ h. omega (arith, ats, no_ats, more.below (omega (arith, h, kits, no_kits)));
          behind = λ h. omega (arith, ats, no_ats, more.behind (omega (arith, h, kits, no_kits)));
        }

-- ---- with the types of `sys`

sys_kit_sum : (w : ℕ → ℕ → ℕ) → sum_by (counts w) sys_declares ≡ sum_by (w 0) (range_with_len 0 5)
sys_kit_sum w = text_sum w 0 0 0 sys_classes

all_sum : (w : ℕ → ℕ → ℕ) (units : List KitUnits) →
    sum_by (counts w) (all_classes units) ≡ sum_by (w 0) (range_with_len 0 5) + sum_by (counts w) (kits_declare 1 units)
unfolding all_classes
all_sum w units =
    sum_by-append (counts w) sys_declares (declared_in units)
    ∙ ap (λ n. n + sum_by (counts w) (kits_declare 1 units)) (sys_kit_sum w)

pub sys_five : (units : List KitUnits) → sum_by (counts (in_kit 0)) (all_classes units) ≡ 5
sys_five units =
    omega (
      arith,
      all_sum (in_kit 0) units,
      ones (in_kit 0 0) (λ n. refl) 0 5,
      later_kits (in_kit 0) 0 1 (λ j n h. other_kit 0 j n (apart 0 j h)) (omega arith) units,
    )

pub numbered : (units : List KitUnits) (kit number : ℕ) → Numbered (all_classes units) kit number
numbered units kit number = by_test (0 == kit) refl
  where
    by_test : (b : Bool) → (0 == kit) ≡ b → Numbered (all_classes units) kit number
    by_test true e =
        let own = one_kit kit number 0 5 e in
        let l : kit < 1 = grind (arith, nat_tests) in
        let no_kits : sum_by (counts (in_kit kit)) (kits_declare 1 units) ≡ 0 =
        later_kits (in_kit kit) kit 1 (λ j n h. other_kit kit j n (apart kit j h)) l units in
        let no_ats : sum_by (counts (at_number kit number)) (kits_declare 1 units) ≡ 0 =
        later_kits (at_number kit number) kit 1 (λ j n h. other_number kit number j n (apart kit j h)) l units in
        record {
          below = λ h. omega (
            arith,
            all_sum (at_number kit number) units,
            no_ats,
            own.1 (omega (
              arith,
              h,
              all_sum
                  (in_kit kit) units,
              no_kits,
              own.0,
            )),
          );
          behind = λ h. omega (
            arith,
            all_sum (at_number kit number) units,
            no_ats,
            own.2 (omega (
              arith,
              h,
              all_sum
                  (in_kit kit) units,
              no_kits,
              own.0,
            )),
          );
        }
    by_test false e =
        let more = numbered_from kit number 1 units in
        let no_kits : sum_by (in_kit kit 0) (range_with_len 0 5) ≡ 0 =
        none_of (in_kit kit 0) (λ n. other_kit kit 0 n e) (range_with_len 0 5) in
        let no_ats : sum_by (at_number kit number 0) (range_with_len 0 5) ≡ 0 =
        none_of (at_number kit number 0) (λ n. other_number kit number 0 n e) (range_with_len 0 5) in
        record {
          below = λ h. omega (
            arith,
            all_sum (at_number kit number) units,
            no_ats,
            more.below (omega (
              arith,
              h,
              all_sum
                  (in_kit kit) units,
              no_kits,
            )),
          );
          behind = λ h. omega (
            arith,
            all_sum (at_number kit number) units,
            no_ats,
            more.behind (omega
                (arith, h, all_sum (in_kit kit) units, no_kits)),
          );
        }

-- ---- no more than 64 in a kit

kit_len : (kit : ℕ) (us : List SourceUnit) → length (kit_declares kit 0 0 us) ≡ classes_in us
kit_len kit us =
    sym (all_ones (kit_declares kit 0 0 us)) ∙ kit_sum (λ k n. 1) kit 0 0 us
    ∙ ones (λ (n : ℕ). 1) (λ n. refl) 0 (classes_in us)
  where
    all_ones : (ds : List Declaration) → sum_by (counts (λ k n. 1)) ds ≡ length ds
    all_ones [] = refl
    all_ones (d ∷ ds) = omega (arith, sum_by-cons (counts (λ k n. 1)) d ds, all_ones ds)

few_from : (kit from : ℕ) (ks : List KitUnits) → All Free (kits_declare from ks) →
    sum_by (counts (in_kit kit)) (kits_declare from ks) ≤ 64
few_from kit from [] free = omega arith
few_from kit from (k ∷ ks) free =
    by_test
    (from == kit)
    refl
    (few_from kit (from + 1) ks (all_right Free (kit_declares from 0 0 k.units) (kits_declare (from + 1) ks) free))
  where
    kits : sum_by (counts (in_kit kit)) (kits_declare from (k ∷ ks))
        ≡ sum_by (in_kit kit from) (range_with_len 0 (classes_in k.units)) + sum_by (counts (in_kit kit)) (kits_declare
        (from + 1) ks)
    kits =
        sum_by-append (counts (in_kit kit)) (kit_declares from 0 0 k.units) (kits_declare (from + 1) ks)
        ∙ ap (λ n. n + sum_by (counts (in_kit kit)) (kits_declare (from + 1) ks)) (kit_sum
        (in_kit kit) from 0 0 k.units)

    by_test : (b : Bool) → (from == kit) ≡ b → sum_by (counts (in_kit kit)) (kits_declare (from + 1) ks) ≤ 64 →
        sum_by (counts (in_kit kit)) (kits_declare from (k ∷ ks)) ≤ 64
    by_test true e more =
        let l : kit < from + 1 = grind (arith, nat_tests) in
        omega (
          arith,
          kits,
          ones (in_kit kit from) (λ n. ap weight e) 0 (classes_in k.units),
          later_kits (in_kit kit) kit (from + 1) (λ j n h. other_kit kit j n (apart kit j h)) l ks,
          kit_len from k.units,
          few from k.units (all_left Free (kit_declares from 0 0 k.units) (kits_declare (from + 1) ks) free),
        )
    by_test false e more =
        omega (
          arith,
          kits,
          none_of (in_kit kit from) (λ n. other_kit kit from n e) (range_with_len 0 (classes_in k.units)),
          more,
        )

pub kit_few : (units : List KitUnits) → All Free (declared_in units) → (kit : ℕ) →
    sum_by (counts (in_kit kit)) (all_classes units) ≤ 64
kit_few units free kit = by_test (0 == kit) refl
  where
    by_test : (b : Bool) → (0 == kit) ≡ b → sum_by (counts (in_kit kit)) (all_classes units) ≤ 64
    by_test true e =
        let l : kit < 1 = grind (arith, nat_tests) in
        omega (
          arith,
          all_sum (in_kit kit) units,
          ones (in_kit kit 0) (λ n. ap weight e) 0 5,
          later_kits (in_kit kit) kit 1 (λ j n h. other_kit kit j n (apart kit j h)) l units,
        )
    by_test false e =
        omega (
          arith,
          all_sum (in_kit kit) units,
          none_of (in_kit kit 0) (λ n. other_kit kit 0 n e) (range_with_len 0 5),
          few_from kit 1 units free,
        )
