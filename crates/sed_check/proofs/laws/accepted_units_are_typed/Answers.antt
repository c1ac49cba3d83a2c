use Rattle.sed_program.specs.Methods.{methods_of}
use Rattle.sed_terms.specs.Faults.{all_faults}
use Rattle.sed_body_laws.specs.Bodies.{context_in}
use Rattle.sed_check.proofs.Bodying.{have_bodies}
use Rattle.sed_check.proofs.Emptying.{empty_stays}
use Rattle.sed_check.proofs.Faultless.{none_declared, unbroken}
use Rattle.sed_check.proofs.Keeping.{member_kept, values_spelled}
use Rattle.sed_check.proofs.Naming.{means}
use Rattle.sed_check.proofs.Spelling.{texts_spelled}
use Rattle.sed_check.proofs.Standing.{body_at}
use Rattle.sed_check.proofs.laws.accepted_units_are_typed.Goals as goal

pub returns : goal.returns
returns c = λ units cycles program few named read free spelled.
    let declared = none_declared units cycles free in
    let u = unbroken units few read declared in
    let o = c.classes_stand_in_order.ensures units program u spelled.outlined.schema spelled.outlined.fields in
    let f = c.no_class_breaks_a_rule.ensures units program u o in
    let values = values_spelled units read declared in
    let trees = body_at units (methods_of units) program.methods spelled.bodies in
    c.what_units_spell_is_typed.ensures
    units
    program
    u
    named
    values
    (texts_spelled units read declared)
    spelled.outlined
    (empty_stays units program trees)
    (have_bodies
    units
    program
    f
    (c.sound_bodies_are_bodies.ensures program)
    (c.sound_bodies_are_shallow.ensures.depth all_faults)
    (λ kit. means units program kit o (λ class is_static locals result.
    c.names_mean_what_a_program_has.ensures units (context_in program class is_static locals result) kit f values o
    spelled.outlined))
    spelled.outlined
    (c.methods_are_typed.ensures units program f o spelled.outlined)
    (member_kept units read declared)
    trees)
