-- Which class of the schema has a number in a kit.
use Rattle.std.proofs.Common.{◌≡◌, ◌<◌, ◌≤◌, ◌==◌, ◌&&◌, ◌^◌, ℕ, Bool, true, false, nat_lt, if◌then◌else◌, List, position, Some, None, refl, ap, ◌∙◌, arith}
use Rattle.std.specs.List.{count_by, sum_by}
use Rattle.std.specs.Option.{option_and_then}
use Rattle.std.proofs.lemmas.Bool.Decides.{nat_tests}
use Rattle.sed_typed.specs.declared.schema.ClassInfo.{ClassInfo}
use Rattle.sed_typed.specs.Schemas as schemas
use Rattle.sed_classes.specs.declared.kit_units.KitUnits.{KitUnits}
use Rattle.sed_classes.specs.Declarations.{Declaration, all_classes, class_at}
use Rattle.sed_classes.specs.Schema.{class_info, class_infos}
use Rattle.sed_outline.specs.Fits.{Unbroken}
use Rattle.sed_outline.proofs.Fitting.{fits}
use Rattle.sed_program.proofs.OrderLists.{is_itself, once_at, weight}
use Rattle.sed_program.proofs.Lineages.{places}
use Rattle.sed_program.proofs.Order.{number, number_in, place_is}
use Rattle.sed_program.proofs.Infos.{info_at, infos_sum}
use Rattle.sed_program.proofs.Kits.{at_number, counts, in_kit, numbered}
use Rattle.std.proofs.lemmas.Option.{slice_get_within}
use Rattle.std.proofs.lemmas.Bool.{and_from as both_true}

-- the class of the schema with this number in this kit
abbrev pub is_type : ℕ → ℕ → ClassInfo → Bool
is_type kit number c = (c.kit == kit) && (c.number == number)

pub types_sum : (units : List KitUnits) → Unbroken units → (kit : ℕ) →
    count_by (λ c. c.kit == kit) (class_infos units) ≡ sum_by (counts (in_kit kit)) (all_classes units)
types_sum units u kit = infos_sum units u (λ c. weight (c.kit == kit)) (counts (in_kit kit)) (λ c d. refl)

pub type_sum : (units : List KitUnits) → Unbroken units → (kit n : ℕ) →
    count_by (is_type kit n) (class_infos units) ≡ sum_by (counts (at_number kit n)) (all_classes units)
type_sum units u kit n = infos_sum units u (λ c. weight (is_type kit n c)) (counts (at_number kit n)) (λ c d. refl)

type_most : (units : List KitUnits) → Unbroken units → (kit n : ℕ) → count_by (is_type kit n) (class_infos units) ≤ 1
type_most units u kit n = by_test (nat_lt n (sum_by (counts (in_kit kit)) (all_classes units))) refl
  where
    by_test : (b : Bool) → nat_lt n (sum_by (counts (in_kit kit)) (all_classes units)) ≡ b →
        count_by (is_type kit n) (class_infos units) ≤ 1
    by_test true t = omega (arith, type_sum units u kit n, (numbered units kit n).below (grind (arith, nat_tests)))
    by_test false t = omega (arith, type_sum units u kit n, (numbered units kit n).behind (grind (arith, nat_tests)))

pub place_below : (units : List KitUnits) (class : ℕ) (d : Declaration) → class_at units class ≡ Some d →
    class < places units
place_below units class d e = slice_get_within (all_classes units) class d e

pub type_at_is : (units : List KitUnits) → Unbroken units → (class : ℕ) (d : Declaration) →
    class_at units class ≡ Some d →
    schemas.type_at (class_infos units) d.kit d.number ≡ Some (number units class)
type_at_is units u class d e =
    let h : class < places units = place_below units class d e in
    let at : position (is_type d.kit d.number) (class_infos units) ≡ Some (number units class) =
    once_at
    (is_type d.kit d.number)
    (class_infos units)
    (number units class)
    (class_info units class d)
    (type_most units u d.kit d.number)
    (info_at units u (number units class) class d (place_is units u class h) e)
    (both_true (d.kit == d.kit) (d.number == d.number) (is_itself d.kit) (is_itself d.number)) in
    let small : nat_lt (number units class) (2 ^ 16) ≡ true =
    tested (number units class) (omega (arith, number_in units u class h, (fits units u).count)) in
    ap (option_and_then schemas.numbered) at ∙ ap (λ b. if b then Some (number units class) else None) small
  where
    tested : (n : ℕ) → n < 65536 → nat_lt n (2 ^ 16) ≡ true
    tested n l = grind (arith, nat_tests)
