-- Sums that stand still at the end of 64 bits, in loops over rows.
use Rattle.std.proofs.Common.{◌≡◌, ℕ, ◌+◌, ◌-◌, ◌^◌, ◌<◌, Bool, List, take, length, get_or, slice_get, Option, sym, ap, ◌∙◌, arith}
use Rattle.std.specs.List.{sum_by}
use Rattle.std.specs.Option.{option_map_or}
use Rattle.std.proofs.Math.Numerals.{add-one}
use Rattle.std.proofs.lemmas.List.Sums.{sum_by_more}
use Rattle.std.proofs.lemmas.Bool.Decides.{nat_tests}
use Rattle.sed_value.proofs.Found.{sum_taken}
use Rattle.sed_units.specs.declared.classes.Member.{Member}
use Rattle.sed_faults.specs.declared.fault.Fault.{Fault}
use Rattle.sed_faults.specs.Faults.{broken_if, least}
use Rattle.sed_classes.specs.LimitRules.{passes}
use Rattle.sed_outline.specs.Rounds.{capped}
use Rattle.sed_first_fault.specs.Counts.{passing}

capped_sum : (a b : ℕ) → capped (capped a + capped b) ≡ capped (a + b)
capped_sum a b = omega arith

capped_more : (a b c d : ℕ) → b + c ≡ d → capped (capped (a + b) + capped c) ≡ capped (a + d)
capped_more a b c d e = omega arith

-- a bound below the end is passed by a sum where the capped one passes it
passes_capped : (most a b : ℕ) → most < 2 ^ 64 - 1 → passes most (capped a) (capped b) ≡ passes most a b
passes_capped most a b h = grind (arith, nat_tests)

one_more : {X : Type 0} (count : X → ℕ) (i : ℕ) (xs : List X) (x : X) → i < length xs → get_or xs i x ≡ x →
    sum_by count (take i xs) + count x ≡ sum_by count (take (i + 1) xs)
one_more count i xs x h at = sym (sum_by_more count xs i x h ∙ ap (λ y. sum_by count (take i xs) + count y) at)

-- one more item of a row
pub sum_step : {X : Type 0} (count : X → ℕ) (i : ℕ) (xs : List X) (x : X) (far new one : ℕ) →
    i < length xs → get_or xs i x ≡ x → one ≡ capped (count x) → new ≡ capped (far + one) →
    far ≡ capped (sum_by count (take i xs)) → new ≡ capped (sum_by count (take (i + 1) xs))
sum_step count i xs x far new one h at o n f =
    n
    ∙ ap (λ k. capped (k + one)) f
    ∙ ap (λ k. capped (capped (sum_by count (take i xs)) + k)) o
    ∙ capped_sum (sum_by count (take i xs)) (count x)
    ∙ ap capped (one_more count i xs x h at)

-- the same, begun with what came before
pub begun_step : {X : Type 0} (count : X → ℕ) (start i : ℕ) (xs : List X) (x : X) (far new one : ℕ) →
    i < length xs → get_or xs i x ≡ x → one ≡ capped (count x) → new ≡ capped (far + one) →
    far ≡ capped (start + sum_by count (take i xs)) → new ≡ capped (start + sum_by count (take (i + 1) xs))
begun_step count start i xs x far new one h at o n f =
    n
    ∙ ap (λ k. capped (k + one)) f
    ∙ ap (λ k. capped (capped (start + sum_by count (take i xs)) + k)) o
    ∙ capped_more start (sum_by count (take i xs)) (count x) (sum_by count (take (i + 1) xs)) (one_more count i xs x h at)

-- the fault of a member, told from the sum so far
pub passing_at : (most start i : ℕ) (count : Member → ℕ) (members : List Member) (m : Member) (before more : ℕ) (test : Bool) (one : Option Fault) →
    most < 2 ^ 64 - 1 → before ≡ capped (start + sum_by count (take i members)) → more ≡ capped (count m) →
    test ≡ passes most before more → one ≡ least (broken_if test 22 m.at) → one ≡ least (passing most count start members i m)
passing_at most start i count members m before more test one h b c t o =
    o
    ∙ ap
    (λ p. least (broken_if p 22 m.at))
    (t
    ∙ ap (λ k. passes most k more) b
    ∙ ap (passes most (capped (start + sum_by count (take i members)))) c
    ∙ passes_capped most (start + sum_by count (take i members)) (count m) h)

pub found_step : {X : Type 0} (count : X → ℕ) (i : ℕ) (xs : List X) (far new one : ℕ) →
    one ≡ capped (option_map_or count (slice_get xs i) 0) → new ≡ capped (far + one) →
    far ≡ capped (sum_by count (take i xs)) → new ≡ capped (sum_by count (take (i + 1) xs))
found_step count i xs far new one o n f =
    n
    ∙ ap (λ k. capped (k + one)) f
    ∙ ap (λ k. capped (capped (sum_by count (take i xs)) + k)) o
    ∙ capped_sum (sum_by count (take i xs)) (option_map_or count (slice_get xs i) 0)
    ∙ ap capped (sym (ap (λ k. sum_by count (take k xs)) (add-one i) ∙ sum_taken count i xs))
