use Rattle.std.proofs.Common.{List, [], ◌∷◌, refl}
use Rattle.sed_classes.specs.declared.kit_units.KitUnits.{KitUnits}
use Rattle.sed_classes.specs.Declarations.{class_at}
use Rattle.sed_check.proofs.RunnableAsRead.{none_asked, unbroken}
use Rattle.sed_check.proofs.First.{has_first, is_first_of, runnable}
use Rattle.sed_check.proofs.runnable_laws.first_classes_run.Goals as goal

pub returns : goal.returns
returns c = λ unit name program read free spelled.
    let units : List KitUnits = (record { kit = name; depends = []; units = unit ∷ [] }) ∷ [] in
    let o =
    c.classes_stand_in_order.ensures
    units
    program
    (unbroken unit name read free)
    spelled.outlined.schema
    spelled.outlined.fields in
    let first = has_first units (class_at units 5) refl (none_asked units free) in
    runnable units program first.declared o first.there (is_first_of unit name first.declared first.there) first.runs
