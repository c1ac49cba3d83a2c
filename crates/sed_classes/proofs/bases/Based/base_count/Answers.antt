use Rattle.std.proofs.Common.{◌≡◌, List, length, subst, ap, ◌∙◌}
use Rattle.std.specs.Option.{IfSome}
use Rattle.sed_classes.specs.declared.kit_units.KitUnits.{KitUnits}
use Rattle.sed_classes.specs.Bases.{bases}
use Rattle.sed_classes.specs.Ends.{item_at}
use Rattle.sed_classes.proofs.Counts.{count_is_known}
use Rattle.sed_classes.proofs.bases.Based.base_count.Goals as goal

pub returns-clause-count : goal.returns-clause-count
returns-clause-count c =
    let known : IfSome c.item_at.result (λ n. n ≡ length (bases c.self.inside.classes c.args.class)) =
    count_is_known c.self.inside.classes c.self.inside.counts.items c.args.class c.item_at.result
    (c.item_at.ensures ∙ ap (λ row. item_at row c.args.class) c.deref.ensures.value) c.self.invariant.1 in
    subst (λ (units : List KitUnits). IfSome c.item_at.result (λ n. n ≡ length (bases units c.args.class)))
    c.self.view_is known
