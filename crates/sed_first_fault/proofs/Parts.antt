-- The faults of a class in parts.
use Rattle.std.proofs.Common.{◌≡◌, ℕ, List, ◌++◌, Option, Some, None, sym, ap, ◌∙◌, append_assoc}
use Rattle.std.specs.List.{flat_map}
use Rattle.std.specs.Option.{option_map_or}
use Rattle.sed_faults.specs.declared.fault.Fault.{Fault}
use Rattle.sed_faults.specs.Faults.{least, lesser, said_from}
use Rattle.sed_faults.proofs.Least.{least_together}
use Rattle.sed_classes.specs.declared.kit_units.KitUnits.{KitUnits}
use Rattle.sed_classes.specs.Declarations.{Declaration, class_at}
use Rattle.sed_classes.specs.FieldRules.{object_not_fit, value_not_fit}
use Rattle.sed_classes.specs.LimitRules.{too_many_statics, too_much_data}
use Rattle.sed_classes.specs.Faults.{count_faults, declaration_faults, form_faults, value_faults}
use Rattle.sed_first_fault.specs.Counts.{size_faults}

both : (xs ys : List Fault) (a b far : Option Fault) → a ≡ least xs → b ≡ least ys → far ≡ lesser a b →
    far ≡ least (xs ++ ys)
both xs ys a b far p q e = e ∙ ap (λ o. lesser o b) p ∙ ap (lesser (least xs)) q ∙ sym (least_together xs ys)

-- what is said of the class that stands at a place
there : (units : List KitUnits) (class : ℕ) (d : Declaration) (said : Declaration → List Fault) (far : Option Fault) →
    class_at units class ≡ Some d → far ≡ option_map_or (λ x. least (said x)) (class_at units class) None →
    far ≡ least (said d)
there units class d said far at e = e ∙ ap (λ o. option_map_or (λ x. least (said x)) o None) at

pub values_together : (units : List KitUnits) (class : ℕ) (d : Declaration)
    (objects values sizes first far : Option Fault) →
    class_at units class ≡ Some d →
    objects ≡ least (flat_map (object_not_fit units d.kit) d.class.members) →
    values ≡ least (flat_map (value_not_fit units class d.kit) d.class.members) →
    sizes ≡ option_map_or (λ x. least (size_faults units class x)) (class_at units class) None →
    first ≡ lesser objects values → far ≡ lesser first sizes → far ≡ least (value_faults units class d)
values_together units class d objects values sizes first far at o v s f e =
    let listed : List Fault = flat_map (object_not_fit units d.kit) d.class.members
    ++ flat_map (value_not_fit units class d.kit) d.class.members in
    both
    listed
    (size_faults units class d)
    first
    sizes
    far
    (both
    (flat_map (object_not_fit units d.kit) d.class.members)
    (flat_map (value_not_fit units class d.kit) d.class.members)
    objects
    values
    first
    o
    v
    f)
    (there units class d (size_faults units class) sizes at s)
    e
    ∙ sym (ap least (
    append_assoc
    listed
    (said_from (too_much_data units class d) 0 d.class.members)
    (said_from (too_many_statics units class d) 0 d.class.members)))

pub all_together : (units : List KitUnits) (class : ℕ) (d : Declaration) (form count value first far : Option Fault) →
    class_at units class ≡ Some d →
    form ≡ option_map_or (λ x. least (form_faults units class x)) (class_at units class) None →
    count ≡ option_map_or (λ x. least (count_faults units class x)) (class_at units class) None →
    value ≡ least (value_faults units class d) → first ≡ lesser form count → far ≡ lesser first value →
    far ≡ option_map_or (λ x. least (declaration_faults units class x)) (class_at units class) None
all_together units class d form count value first far at fo co va f e =
    both
    (form_faults units class d ++ count_faults units class d)
    (value_faults units class d)
    first
    value
    far
    (both
    (form_faults units class d)
    (count_faults units class d)
    form
    count
    first
    (there units class d (form_faults units class) form at fo)
    (there units class d (count_faults units class) count at co)
    f)
    va
    e
    ∙ sym (ap (λ o. option_map_or (λ x. least (declaration_faults units class x)) o None) at)
