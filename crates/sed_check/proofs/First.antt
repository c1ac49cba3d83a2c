-- The first class of units that has no fault as `cycles` asks.
use Rattle.std.proofs.Common.{◌≡◌, ◌^◌, ◌&&◌, ℕ, Bool, true, false, not, nat_lt, IsTrue, IsSomeAnd, if◌then◌else◌, List, [], ◌∷◌, ◌++◌, map, slice_get, Option, Some, None, refl, sym, ap, ◌∙◌, subst}
use Rattle.std.specs.Option.{option_and_then, option_map_or}
use Rattle.std.proofs.lemmas.Option.{slice_get_within}
use Rattle.sed_typed.specs.declared.program.Program.{Program}
use Rattle.sed_typed.specs.declared.schema.ClassInfo.{ClassInfo}
use Rattle.sed_typed.specs.Schemas.{numbered, type_at}
use Rattle.sed_units.specs.declared.classes.Class.{Class}
use Rattle.sed_units.specs.declared.classes.Unit.{Unit as TheUnit}
use Rattle.sed_faults.specs.Faults.{broken_if}
use Rattle.sed_classes.specs.declared.kit_units.KitUnits.{KitUnits}
use Rattle.sed_classes.specs.Declarations.{Declaration, all_classes, class_at, text_declares}
use Rattle.sed_classes.specs.Faults.{placed_in}
use Rattle.sed_engine.specs.Program.{meaning_of}
use Rattle.sed_engine.specs.Code.{is_creatable}
use Rattle.sed_engine.specs.Runnable.{IsRunnable, first_class}
use Rattle.sed_first_fault.specs.Faults.{is_runnable, not_runnable}
use Rattle.sed_program.specs.Ordered.{IsOrdered, number}

-- ---- as `cycles` asks

-- the first class that units declare, which may have objects
pub record HasFirst (units : List KitUnits) : Type 0 where
  pub declared : Declaration
  pub there : class_at units 5 ≡ Some declared
  pub runs : IsTrue (is_runnable units declared)

not_said : (d : Declaration) (test : Bool) (rule at : ℕ) → map (placed_in d) (broken_if (not test) rule at) ≡ [] →
    IsTrue test
not_said d true rule at e = refl
not_said d false rule at e = cc

pub has_first : (units : List KitUnits) (o : Option Declaration) → class_at units 5 ≡ o → not_runnable units o ≡ [] →
    HasFirst units
has_first units None there e = absurd cc
has_first units (Some d) there e =
    record { declared = d; there = there; runs = not_said d (is_runnable units d) 25 d.class.at e }

-- ---- of one unit of one kit

-- it is the class 0 of kit 1
pub record IsFirstOf (d : Declaration) : Type 0 where
  pub kit : d.kit ≡ 1
  pub number : d.number ≡ 0

first_declared : (cs : List Class) (d : Declaration) → slice_get ((text_declares 1 0 0 cs ++ []) ++ []) 0 ≡ Some d →
    IsFirstOf d
first_declared [] d e = absurd cc
first_declared (c ∷ cs) d e =
    let some : record { kit = 1; text = 0; number = 0; class = c } ≡ d = cc in
    record { kit = sym (ap (λ (x : Declaration). x.kit) some); number = sym (ap (λ (x : Declaration). x.number) some) }

pub is_first_of : (unit : TheUnit) (name : List ℕ) (d : Declaration) →
    class_at ((record { kit = name; depends = []; units = unit ∷ [] }) ∷ []) 5 ≡ Some d → IsFirstOf d
unfolding all_classes
is_first_of unit name d e = first_declared unit.classes d e

-- ---- in the schema

numbered_is : (o : Option ℕ) (k : ℕ) → option_and_then numbered o ≡ Some k → o ≡ Some k
numbered_is None k e = absurd cc
numbered_is (Some n) k e = by_test (nat_lt n (2 ^ 16)) e
  where
    by_test : (b : Bool) → (if b then Some n else None) ≡ Some k → Some n ≡ Some k
    by_test true g = g
    by_test false g = absurd cc

found_first : (units : List KitUnits) (program : Program) (d : Declaration) → IsOrdered units program →
    class_at units 5 ≡ Some d → IsFirstOf d → first_class program.schema ≡ Some (number units 5)
found_first units program d o there f =
    let at : type_at program.schema.classes 1 0 ≡ Some (number units 5) =
    sym (ap (λ k. type_at program.schema.classes k 0) f.kit)
    ∙ sym (ap (type_at program.schema.classes d.kit) f.number)
    ∙ o.type_at_is 5 d there in
    numbered_is (first_class program.schema) (number units 5) at

creatable : (units : List KitUnits) (program : Program) (d : Declaration) → IsOrdered units program →
    class_at units 5 ≡ Some d → IsTrue (is_runnable units d) →
    IsTrue (is_creatable (meaning_of program) (number units 5))
creatable units program d o there runs =
    let place = o.place_is 5 (slice_get_within (all_classes units) 5 d there) in
    ap (λ i. option_map_or (λ (c : ClassInfo). c.is_component && not c.is_abstract) i false)
    (o.info_at (number units 5) 5 d place there)
    ∙ runs

pub runnable : (units : List KitUnits) (program : Program) (d : Declaration) → IsOrdered units program →
    class_at units 5 ≡ Some d → IsFirstOf d → IsTrue (is_runnable units d) → IsRunnable program
runnable units program d o there f runs =
    subst
    (λ k. IsSomeAnd k (λ class. IsTrue (is_creatable (meaning_of program) class)))
    (sym (found_first units program d o there f))
    (creatable units program d o there runs)
