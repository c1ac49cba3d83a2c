-- One unit of one kit, as it is read and without a fault, breaks no rule on what it declares.
use Rattle.std.proofs.Common.{◌≡◌, ◌+◌, ℕ, true, List, [], ◌∷◌, ◌++◌, All, arith}
use Rattle.std.proofs.lemmas.List.Elements.{All-nil, All-cons, All-head, All-tail, All-append}
use Rattle.sed_units.specs.declared.classes.Class.{Class}
use Rattle.sed_units.specs.declared.classes.Unit.{Unit as TheUnit}
use Rattle.sed_classes.specs.declared.kit_units.KitUnits.{KitUnits}
use Rattle.sed_classes.specs.Declarations.{Declaration, declared_in, text_declares}
use Rattle.sed_classes.specs.Faults.{faults_of}
use Rattle.sed_outline.specs.Fits.{Spelled, Unbroken}
use Rattle.sed_first_fault.specs.Faults.{cycle_faults, declared_faults, spelled_faults_of}
use Rattle.sed_check.specs.Bodies.{body_faults}
use Rattle.sed_check.specs.Checked.{faults}
use Rattle.sed_check.specs.Read.{AreRead, IsReadClass, IsReadUnit}
use Rattle.sed_member_laws.proofs.Empty.{none_left, none_right}

-- ---- names

spelled : (number : ℕ) (c : Class) → IsReadClass c → Spelled (record { kit = 1; text = 0; number = number; class = c })
spelled number c r = record { class = r.name; members = λ j m q. (r.members j m q).name }

text_spelled : (number : ℕ) (cs : List Class) → All IsReadClass cs → All Spelled (text_declares 1 0 number cs)
text_spelled number [] h = All-nil Spelled
text_spelled number (c ∷ cs) h =
    All-cons
    Spelled
    (record { kit = 1; text = 0; number = number; class = c })
    (text_declares 1 0 (number + 1) cs)
    (spelled number c (All-head IsReadClass c cs h))
    (text_spelled (number + 1) cs (All-tail IsReadClass c cs h))

are_spelled : (unit : TheUnit) (name : List ℕ) →
    AreRead ((record { kit = name; depends = []; units = unit ∷ [] }) ∷ []) →
    All Spelled (declared_in ((record { kit = name; depends = []; units = unit ∷ [] }) ∷ []))
are_spelled unit name r =
    let kit : KitUnits = record { kit = name; depends = []; units = unit ∷ [] } in
    let in_kit = All-head (λ (k : KitUnits). All IsReadUnit k.units) kit [] r in
    let text = text_spelled 0 unit.classes (All-head IsReadUnit unit [] in_kit).classes in
    All-append
    Spelled
    (text_declares 1 0 0 unit.classes ++ [])
    []
    (All-append Spelled (text_declares 1 0 0 unit.classes) [] text (All-nil Spelled))
    (All-nil Spelled)

-- ---- faults

none_declared : (units : List KitUnits) → faults units true ≡ [] → faults_of units ≡ []
none_declared units e =
    none_left (faults_of units) (spelled_faults_of units)
    (none_left (declared_faults units) (body_faults units)
    (none_left (declared_faults units ++ body_faults units) (cycle_faults units true) e))

pub none_asked : (units : List KitUnits) → faults units true ≡ [] → cycle_faults units true ≡ []
none_asked units e = none_right (declared_faults units ++ body_faults units) (cycle_faults units true) e

pub unbroken : (unit : TheUnit) (name : List ℕ) →
    AreRead ((record { kit = name; depends = []; units = unit ∷ [] }) ∷ []) →
    faults ((record { kit = name; depends = []; units = unit ∷ [] }) ∷ []) true ≡ [] →
    Unbroken ((record { kit = name; depends = []; units = unit ∷ [] }) ∷ [])
unbroken unit name r e = record {
  kits = omega arith;
  spelled = are_spelled unit name r;
  faultless = none_declared ((record { kit = name; depends = []; units = unit ∷ [] }) ∷ []) e;
}
