-- What a loop over members gives, in the words of the limits.
use mathlib.Core.Path.{fun_ext}
use Rattle.std.proofs.Common.{◌≡◌, ℕ, ◌+◌, ◌-◌, ◌^◌, ◌<◌, Bool, true, false, cond, List, take, Option, refl, ap, ◌∙◌, arith}
use Rattle.std.specs.List.{sum_by, count_by}
use Rattle.std.proofs.lemmas.Bool.Decides.{nat_tests}
use Rattle.sed_units.specs.declared.classes.Member.{Member}
use Rattle.sed_faults.specs.declared.fault.Fault.{Fault}
use Rattle.sed_faults.specs.Faults.{broken_if, least, said_from}
use Rattle.sed_classes.specs.declared.kit_units.KitUnits.{KitUnits}
use Rattle.sed_classes.specs.Declarations.{Declaration}
use Rattle.sed_classes.specs.Bases.{bases}
use Rattle.sed_classes.specs.Members.{is_method}
use Rattle.sed_classes.specs.LimitRules.{one_if, own_sum, passes, statics_before, too_many_methods, too_many_statics}
use Rattle.sed_outline.specs.Rounds.{capped}
use Rattle.sed_first_fault.specs.declared.counted.Counted.{Counted}
use Rattle.sed_first_fault.specs.declared.counted.Counted.TheVariants.{Methods, Statics}
use Rattle.sed_first_fault.specs.Counts.{count_as, passing, summed}

-- a bound below the end is passed where it is passed by a sum that begins with the whole of what came before
begun : (most b s c : ℕ) → most < 2 ^ 64 - 1 → passes most (capped b + s) c ≡ passes most (b + s) c
begun most b s c h = grind (arith, nat_tests)

begun_all : (most b : ℕ) (count : Member → ℕ) (ms : List Member) → most < 2 ^ 64 - 1 →
    least (said_from (passing most count (capped b) ms) 0 ms) ≡ least (said_from (passing most count b ms) 0 ms)
begun_all most b count ms h =
    ap
    (λ f. least (said_from f 0 ms))
    (fun_ext (λ i. fun_ext (λ m. ap (λ t. broken_if t 22 m.at) (begun most b (sum_by count (take i ms)) (count m) h))))

pub as_summed : (most : ℕ) (counted : Counted) (units : List KitUnits) (class : ℕ) (d : Declaration) (start : ℕ) (far : Option Fault) →
    most < 2 ^ 64 - 1 →
    start ≡ capped (sum_by (own_sum (count_as counted units) units) (bases units class)) →
    far ≡ least (said_from (passing most (count_as counted units d.kit) start d.class.members) 0 d.class.members) →
    far ≡ least (said_from (summed most counted units class d) 0 d.class.members)
as_summed most counted units class d start far h s e =
    e
    ∙ ap (λ k. least (said_from (passing most (count_as counted units d.kit) k d.class.members) 0 d.class.members)) s
    ∙ begun_all
    most
    (sum_by (own_sum (count_as counted units) units) (bases units class))
    (count_as counted units d.kit)
    d.class.members
    h

pub as_statics : (units : List KitUnits) (class : ℕ) (d : Declaration) (start : ℕ) (far : Option Fault) →
    start ≡ capped (statics_before units class) →
    far ≡ least (said_from (passing 65535 (count_as Statics units d.kit) start d.class.members) 0 d.class.members) →
    far ≡ least (said_from (too_many_statics units class d) 0 d.class.members)
as_statics units class d start far s e =
    e
    ∙ ap (λ k. least (said_from (passing 65535 (count_as Statics units d.kit) k d.class.members) 0 d.class.members)) s
    ∙ begun_all 65535 (statics_before units class) (count_as Statics units d.kit) d.class.members (omega arith)

one : (b : Bool) → one_if b ≡ cond b 1 0
one true = refl
one false = refl

methods_are : (units : List KitUnits) (kit : ℕ) (ms : List Member) → sum_by (count_as Methods units kit) ms ≡ count_by is_method ms
methods_are units kit ms = ap (λ (f : Member → ℕ). sum_by f ms) (fun_ext (λ m. one (is_method m)))

none_before : (n : ℕ) → 0 + n ≡ n
none_before n = omega arith

pub as_methods : (units : List KitUnits) (d : Declaration) (far : Option Fault) →
    far ≡ least (said_from (passing 60 (count_as Methods units d.kit) 0 d.class.members) 0 d.class.members) →
    far ≡ least (said_from (too_many_methods d) 0 d.class.members)
as_methods units d far e =
    e ∙ ap
    (λ f. least (said_from f 0 d.class.members))
    (fun_ext (λ i. fun_ext (λ m.
    ap
    (λ n. broken_if (passes 60 n (one_if (is_method m))) 22 m.at)
    (none_before (sum_by (count_as Methods units d.kit) (take i d.class.members)) ∙ methods_are units d.kit (take i d.class.members)))))
