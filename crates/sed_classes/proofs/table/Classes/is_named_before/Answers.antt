use Rattle.std.proofs.Common.{false, nat_lt, ap, ◌∙◌}
use Rattle.std.specs.Option.{option_map_or}
use Rattle.sed_classes.specs.Declarations.{all_classes}
use Rattle.sed_classes.specs.Names.{is_named}
use Rattle.sed_classes.proofs.FirstPlaces.{any_before}
use Rattle.sed_classes.proofs.table.Classes.is_named_before.Goals as goal

pub returns : goal.returns
returns c =
    c.is_before.ensures ∙ ap (λ first. option_map_or (λ at. nat_lt at c.args.class) first false) c.class_in.ensures
    ∙ any_before (is_named c.args.name.now c.args.kit) (all_classes c.args.self.now) c.args.class
