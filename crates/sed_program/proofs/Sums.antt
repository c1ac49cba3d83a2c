-- Sums over rows of counts.
use Rattle.std.proofs.Common.{◌≡◌, ◌≤◌, ℕ, List, filter, length, Option, Some, None, refl, ap, ◌∙◌}
use Rattle.std.specs.List.{sum_by}
use Rattle.std.specs.Prelude.{Result, Ok, Err, IfOk}
use Rattle.std.specs.Option.{option_map, unwrap_or}
use mathlib.Core.Path.{fun_ext}
use Rattle.sed_typed.specs.declared.number.TypeNo.{TypeNo}
use Rattle.sed_classes.specs.declared.kit_units.KitUnits.{KitUnits}
use Rattle.sed_classes.specs.Declarations.{all_classes}
use Rattle.sed_classes.specs.Schema.{type_number}
use Rattle.sed_outline.specs.Rounds.{item, row_of}
use Rattle.sed_outline.proofs.Rounds.{item_is, members_behind}
use Rattle.sed_program.specs.declared.parts.Part.{Part}
use Rattle.sed_program.specs.Parts.{count_of, is_of}
use Rattle.sed_program.specs.Types.{number_of, type_no}

none_behind : (p : Part) (units : List KitUnits) (h : ℕ) → length (all_classes units) ≤ h → count_of p units h ≡ 0
none_behind p units h le = ap (λ ms. length (filter (is_of p) ms)) (members_behind units h le)

pub counts_are : (p : Part) (units : List KitUnits) → item 0 (row_of units (count_of p units)) ≡ count_of p units
counts_are p units = fun_ext (λ h. item_is units (count_of p units) 0 (none_behind p units) h)

pub sum_is : (p : Part) (units : List KitUnits) (counts classes : List ℕ) (sum : ℕ) →
    counts ≡ row_of units (count_of p units) → sum ≡ sum_by (item 0 counts) classes →
    sum ≡ sum_by (count_of p units) classes
sum_is p units counts classes sum e s =
    s ∙ ap (λ row. sum_by (item 0 row) classes) e ∙ ap (λ f. sum_by f classes) (counts_are p units)

plain : (o : Option ℕ) → unwrap_or (option_map (λ (t : TypeNo). t.0) (option_map type_no o)) 0 ≡ unwrap_or o 0
plain None = refl
plain (Some n) = refl

pub number_is : (units : List KitUnits) (class n : ℕ) (o : Option TypeNo) →
    o ≡ number_of units class → n ≡ unwrap_or (option_map (λ (t : TypeNo). t.0) o) 0 →
    n ≡ unwrap_or (type_number units class) 0
number_is units class n o e m =
    m ∙ ap (λ k. unwrap_or (option_map (λ (t : TypeNo). t.0) k) 0) e ∙ plain (type_number units class)

pub sum_over_is : {E : Type 0} (p : Part) (units : List KitUnits) (counts classes : List ℕ) (r : Result ℕ E) →
    counts ≡ row_of units (count_of p units) → IfOk r (λ n. n ≡ sum_by (item 0 counts) classes) →
    IfOk r (λ n. n ≡ sum_by (count_of p units) classes)
sum_over_is p units counts classes (Ok n) e s = sum_is p units counts classes n e s
sum_over_is p units counts classes (Err f) e s = tt
