use Rattle.std.proofs.Common.{None, sym, ap, ◌∙◌}
use Rattle.std.specs.Option.{option_map_or}
use Rattle.sed_faults.specs.Faults.{least}
use Rattle.sed_classes.specs.Declarations.{class_at}
use Rattle.sed_classes.specs.Entries.{declaration_of}
use Rattle.sed_classes.specs.Faults.{form_faults}
use Rattle.sed_first_fault.proofs.Parts.{all_together}
use Rattle.sed_first_fault.proofs.declared_faults.declaration_fault.Goals as goal

pub value_fault-requires-clause-entry : goal.value_fault-requires-clause-entry
value_fault-requires-clause-entry c =
    sym (c.in-Some.ensures ∙ ap (λ u. class_at u c.args.class) (c.classes-classes.ensures ∙ c.based-based.ensures))

pub returns : goal.returns
returns c =
    all_together
    c.args.measured.now
    c.args.class
    (declaration_of c.in-Some.entry.now)
    c.in_ok-form.form
    c.in_ok-count.count
    c.in_ok-value.value
    c.joined-first.result
    c.joined.result
    (sym (c.in-Some.ensures ∙ ap (λ u. class_at u c.args.class) (c.classes-classes.ensures ∙ c.based-based.ensures)))
    (c.in_ok-form.ensures
    ∙ ap (λ u. option_map_or (λ x. least (form_faults u c.args.class x))
    (class_at u c.args.class) None) c.based-based.ensures)
    c.in_ok-count.ensures
    c.in_ok-value.ensures
    c.joined-first.ensures.lesser
    c.joined.ensures.lesser
