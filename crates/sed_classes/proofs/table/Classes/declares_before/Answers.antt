use Rattle.std.proofs.Common.{false, nat_lt, ap, ◌∙◌}
use Rattle.std.specs.Option.{option_map_or}
use Rattle.sed_classes.specs.Members.{has_name, members_of}
use Rattle.sed_classes.proofs.FirstPlaces.{any_before}
use Rattle.sed_classes.proofs.table.Classes.declares_before.Goals as goal

pub returns : goal.returns
returns c =
    c.is_before.ensures ∙ ap (λ first. option_map_or (λ at. nat_lt at c.args.number) first false) c.place_of_member.ensures
    ∙ any_before (has_name c.args.name.now) (members_of c.args.self.now c.args.class) c.args.number
