use Rattle.std.proofs.Common.{◌≡◌, true, rules, refl, sym, ap, ◌∙◌}
use Rattle.sed_classes.specs.Declarations.{class_at}
use Rattle.sed_classes.specs.Entries.{declaration_of}
use Rattle.sed_first_fault.proofs.Runs.{asked}
use Rattle.sed_first_fault.proofs.runnable.cycle_fault.Goals as goal

pub returns-in-Some : goal.returns-in-Some
returns-in-Some c =
    let asks : c.args.cycles ≡ true = search rules in
    asked
    c.args.based.now
    c.args.cycles
    (declaration_of c.in-Some.entry.now)
    c.in_ok-is_component.is_component
    c.broken_at.result
    asks
    (sym (c.in-Some.ensures ∙ ap (λ u. class_at u 5) c.classes.ensures))
    c.in_ok-is_component.ensures
    (c.broken_at.ensures (declaration_of c.in-Some.entry.now) refl)
