use Rattle.std.proofs.Common.{◌≡◌, ◌≤◌, List, length, subst, ◌∙◌}
use Rattle.std.specs.Option.{IfNone, IfSome}
use Rattle.sed_classes.specs.declared.kit_units.KitUnits.{KitUnits}
use Rattle.sed_classes.specs.Bases.{lineage}
use Rattle.sed_classes.specs.Declarations.{all_classes}
use Rattle.sed_program.proofs.Rows.{seen_past, seen_there}
use Rattle.sed_program.proofs.ordered.Ordered.lineage.Goals as goal

pub returns-clause-there : goal.returns-clause-there
returns-clause-there c =
    let P : List KitUnits → Type 0 = λ u. IfSome c.row_at.result (λ s. s.now ≡ lineage u c.args.class) in
    subst
    P
    c.self.view_is
    (seen_there
    (λ s. s.now)
    c.self.inside.based.now
    (lineage c.self.inside.based.now)
    c.deref.result.now
    c.row_at.result
    c.args.class
    (c.deref.ensures.value ∙ c.self.invariant.lineages_are)
    c.row_at.ensures)

pub returns-clause-none : goal.returns-clause-none
returns-clause-none c =
    let P : List KitUnits → Type 0 = λ u. IfNone c.row_at.result (length (all_classes u) ≤ c.args.class) in
    subst
    P
    c.self.view_is
    (seen_past
    (λ s. s.now)
    c.self.inside.based.now
    (lineage c.self.inside.based.now)
    c.deref.result.now
    c.row_at.result
    c.args.class
    (c.deref.ensures.value ∙ c.self.invariant.lineages_are)
    c.row_at.ensures)
