-- What readers leave holds of each class that units declare.
use Rattle.std.proofs.Common.{◌+◌, ℕ, List, [], ◌∷◌, length, All}
use Rattle.std.proofs.lemmas.List.Elements.{All-nil, All-cons, All-head, All-tail, All-append}
use Rattle.sed_units.specs.declared.classes.Class.{Class}
use Rattle.sed_units.specs.declared.classes.Member.{Member}
use Rattle.sed_units.specs.declared.classes.Unit.{Unit as SourceUnit}
use Rattle.sed_body_laws.specs.NestedBodies.{IsShallowForm}
use Rattle.sed_classes.specs.declared.kit_units.KitUnits.{KitUnits}
use Rattle.sed_classes.specs.Declarations.{Declaration, declared_in, kit_declares, kits_declare, text_declares}
use Rattle.sed_outline.specs.Fits.{Spelled}
use Rattle.sed_check.specs.Read.{AreRead, IsReadClass}

-- a class as it is read
pub record FromText (c : Class) : Type 0 where
  pub read : IsReadClass c
  pub shallow : All (λ (m : Member). IsShallowForm m.form) c.members

-- ---- from the classes of texts to those of units

in_text : (P : Class → Type 0) (kit text number : ℕ) (cs : List Class) → All P cs →
    All (λ (d : Declaration). P d.class) (text_declares kit text number cs)
in_text P kit text number [] h = All-nil (λ (d : Declaration). P d.class)
in_text P kit text number (c ∷ cs) h =
    All-cons
    (λ (d : Declaration). P d.class)
    (record { kit = kit; text = text; number = number; class = c })
    (text_declares kit text (number + 1) cs)
    (All-head P c cs h)
    (in_text P kit text (number + 1) cs (All-tail P c cs h))

in_kit : (P : Class → Type 0) (kit text number : ℕ) (us : List SourceUnit) →
    All (λ (u : SourceUnit). All P u.classes) us →
    All (λ (d : Declaration). P d.class) (kit_declares kit text number us)
in_kit P kit text number [] h = All-nil (λ (d : Declaration). P d.class)
in_kit P kit text number (u ∷ us) h =
    All-append
    (λ (d : Declaration). P d.class)
    (text_declares kit text number u.classes)
    (kit_declares kit (text + 1) (number + length u.classes) us)
    (in_text P kit text number u.classes (All-head (λ (x : SourceUnit). All P x.classes) u us h))
    (in_kit P kit (text + 1) (number + length u.classes) us (All-tail (λ (x : SourceUnit). All P x.classes) u us h))

in_kits : (P : Class → Type 0) (kit : ℕ) (ks : List KitUnits) →
    All (λ (k : KitUnits). All (λ (u : SourceUnit). All P u.classes) k.units) ks →
    All (λ (d : Declaration). P d.class) (kits_declare kit ks)
in_kits P kit [] h = All-nil (λ (d : Declaration). P d.class)
in_kits P kit (k ∷ ks) h =
    All-append
    (λ (d : Declaration). P d.class)
    (kit_declares kit 0 0 k.units)
    (kits_declare (kit + 1) ks)
    (in_kit P kit 0 0 k.units (All-head (λ (x : KitUnits). All (λ (u : SourceUnit). All P u.classes) x.units) k ks h))
    (in_kits P (kit + 1) ks (All-tail (λ (x : KitUnits). All (λ (u : SourceUnit). All P u.classes) x.units) k ks h))

-- ---- of those that are read

pub classes_read : (units : List KitUnits) → AreRead units →
    All (λ (d : Declaration). FromText d.class) (declared_in units)
classes_read units r =
    in_kits
    FromText
    1
    units
    (λ i k h j u l n c q. record {
      read = (r i k h j u l).classes n c q;
      shallow = (r i k h j u l).shallow n c q;
    })

-- each name is an identifier
pub are_spelled : (units : List KitUnits) → AreRead units → All Spelled (declared_in units)
are_spelled units r i d h =
    let c = classes_read units r i d h in
    record { class = c.read.name; members = λ j m q. (c.read.members j m q).name }
