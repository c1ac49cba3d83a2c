-- What is spelled in rows of members and of classes.
use Rattle.std.proofs.Common.{◌≡◌, ◌<◌, ℕ, ◌+◌, List, [], ◌∷◌, ◌++◌, take, length, get_or, slice_get, Option, Some, sym, ap, ◌∙◌}
use Rattle.std.specs.List.{flat_map}
use Rattle.std.specs.Option.{option_map_or}
use Rattle.std.proofs.lemmas.Grind.{flat_map-append}
use Rattle.std.proofs.lemmas.List.{append-nil}
use Rattle.std.proofs.lemmas.Option.{get_or_from_slice_get}
use Rattle.sed_units.specs.declared.classes.Member.{Member}
use Rattle.sed_faults.specs.declared.fault.Fault.{Fault}
use Rattle.sed_faults.specs.Faults.{least, lesser}
use Rattle.sed_classes.specs.declared.kit_units.KitUnits.{KitUnits}
use Rattle.sed_classes.specs.Bodies.{texts_of}
use Rattle.sed_classes.specs.Declarations.{Declaration, all_classes}
use Rattle.sed_classes.specs.Members.{members_of}
use Rattle.sed_first_fault.specs.Nodes.{spelled_faults}
use Rattle.sed_first_fault.specs.Texts.{with_literals}
use Rattle.sed_first_fault.proofs.Walks.{literals_together, then_both}
use Rattle.sed_program.specs.Texts.{literals_of}
use Rattle.sed_program.proofs.Lists.{front_more}
use Rattle.sed_value.proofs.Lists.{item_there as there_is}

-- what is made of a row of items, with one item more
said_more : {X Y : Type 0} (said : X → List Y) (n : ℕ) (xs : List X) (x : X) → n < length xs → x ≡ get_or xs n x →
    flat_map said (take (n + 1) xs) ≡ flat_map said (take n xs) ++ said x
said_more said n xs x h e =
    ap (flat_map said) (front_more n xs x h e)
    ∙ flat_map-append said (take n xs) (x ∷ [])
    ∙ ap (λ ys. flat_map said (take n xs) ++ ys) (append-nil (said x))

pub texts_step : (n : ℕ) (ms : List Member) (m : Member) (start far new : List (List ℕ)) →
    n < length ms → m ≡ get_or ms n m → new ≡ with_literals far (texts_of m) →
    far ≡ with_literals start (flat_map texts_of (take n ms)) →
    new ≡ with_literals start (flat_map texts_of (take (n + 1) ms))
texts_step n ms m start far new h e p i =
    p
    ∙ ap (λ k. with_literals k (texts_of m)) i
    ∙ sym (literals_together start (flat_map texts_of (take n ms)) (texts_of m))
    ∙ sym (ap (with_literals start) (said_more texts_of n ms m h e))

pub first_step : (n : ℕ) (ms : List Member) (m : Member) (start far new : Option Fault) →
    n < length ms → m ≡ get_or ms n m → new ≡ lesser far (least (spelled_faults m)) →
    far ≡ lesser start (least (flat_map spelled_faults (take n ms))) →
    new ≡ lesser start (least (flat_map spelled_faults (take (n + 1) ms)))
first_step n ms m start far new h e p i =
    p
    ∙ ap (λ k. lesser k (least (spelled_faults m))) i
    ∙ then_both start (flat_map spelled_faults (take n ms)) (spelled_faults m)
    ∙ sym (ap (λ fs. lesser start (least fs)) (said_more spelled_faults n ms m h e))

class_texts : (units : List KitUnits) (class : ℕ) (d : Declaration) → slice_get (all_classes units) class ≡ Some d →
    literals_of d ≡ flat_map texts_of (members_of units class)
class_texts units class d e =
    sym (ap (λ o. flat_map texts_of (option_map_or (λ (k : Declaration). k.class.members) o [])) e)

pub class_step : (units : List KitUnits) (class : ℕ) (far new : List (List ℕ)) → class < length (all_classes units) →
    new ≡ with_literals far (flat_map texts_of (members_of units class)) →
    far ≡ with_literals [] (flat_map literals_of (take class (all_classes units))) →
    new ≡ with_literals [] (flat_map literals_of (take (class + 1) (all_classes units)))
class_step units class far new h p i =
    let d = there_is (all_classes units) class h in
    p
    ∙ ap (with_literals far) (sym (class_texts units class d.0 d.1))
    ∙ ap (λ k. with_literals k (literals_of d.0)) i
    ∙ sym (literals_together [] (flat_map literals_of (take class (all_classes units))) (literals_of d.0))
    ∙ sym (
    ap
    (with_literals [])
    (said_more
    literals_of
    class
    (all_classes units)
    d.0
    h
    (sym (get_or_from_slice_get (all_classes units) class d.0 d.0 d.1))))
