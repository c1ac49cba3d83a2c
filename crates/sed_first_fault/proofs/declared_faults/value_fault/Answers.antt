use Rattle.std.proofs.Common.{ap, ◌∙◌}
use Rattle.std.specs.List.{flat_map}
use Rattle.sed_faults.specs.Faults.{least}
use Rattle.sed_classes.specs.Entries.{declaration_of}
use Rattle.sed_classes.specs.FieldRules.{object_not_fit, value_not_fit}
use Rattle.sed_first_fault.proofs.Parts.{values_together}
use Rattle.sed_first_fault.proofs.declared_faults.value_fault.Goals as goal

pub returns : goal.returns
returns c =
    let units = c.args.measured.now in
    let entry = c.args.entry.now in
    values_together
    units
    c.args.class
    (declaration_of entry)
    c.in_ok-objects.objects
    c.in_ok-values.values
    c.in_ok-sizes.sizes
    c.joined-first.result
    c.joined.result
    c.requires.entry
    (c.in_ok-objects.ensures ∙ ap (λ ms. least (flat_map
    (object_not_fit units entry.kit) ms)) c.as_slice-members.ensures)
    (c.in_ok-values.ensures
    ∙ ap (λ ms. least (flat_map (value_not_fit c.args.defines.now c.args.class entry.kit) ms)) c.as_slice-members.ensures
    ∙ ap (λ u. least (flat_map (value_not_fit u c.args.class entry.kit) entry.class.now.members)) c.requires.defines)
    c.in_ok-sizes.ensures
    c.joined-first.ensures.lesser
    c.joined.ensures.lesser
