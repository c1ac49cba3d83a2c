use Rattle.std.proofs.Common.{[], ◌++◌, refl}
use Rattle.sed_member_laws.proofs.Empty.{none_left, none_right}
use Rattle.sed_first_fault.specs.Faults.{cycle_faults, declared_faults}
use Rattle.sed_body_laws.specs.Bodies.{context_in}
use Rattle.sed_check.specs.Bodies.{body_faults}
use Rattle.sed_check.proofs.Faultless.{none_declared, unbroken}
use Rattle.sed_check.proofs.Keeping.{values_spelled}
use Rattle.sed_check.proofs.Naming.{means}
use Rattle.sed_check.proofs.Outlines.{outline}
use Rattle.sed_check.proofs.SpelledProgram.{spelled_program}
use Rattle.sed_check.proofs.program_laws.accepted_units_have_a_program.Goals as goal

pub returns : goal.returns
returns c = λ units cycles few named read short free.
    let declared = none_declared units cycles free in
    let u = unbroken units few read declared in
    let order = c.classes_stand_in_order.ensures units (outline units []) u refl refl in
    let f = c.no_class_breaks_a_rule.ensures units (outline units []) u order in
    let values = values_spelled units read declared in
    let found = spelled_program
    units
    (λ program schema fields. c.classes_stand_in_order.ensures units program u schema fields)
    f
    (λ program o p. c.methods_are_typed.ensures units program f o p)
    (λ program o p kit. means units program kit o (λ class is_static locals result.
    c.names_mean_what_a_program_has.ensures units (context_in program class is_static locals result) kit f values o p))
    c.faultless_bodies_have_trees.ensures
    short
    (none_right (declared_faults units) (body_faults units)
    (none_left (declared_faults units ++ body_faults units) (cycle_faults units cycles) free)) in
    (found.0, found.1, c.accepted_units_are_typed.ensures units cycles found.0 few named read free found.1)
