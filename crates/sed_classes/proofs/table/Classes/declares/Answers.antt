use Rattle.std.proofs.Common.{is_some, ap, ◌∙◌}
use Rattle.sed_classes.specs.Members.{has_name, members_of}
use Rattle.sed_classes.proofs.FirstPlaces.{any_found}
use Rattle.sed_classes.proofs.table.Classes.declares.Goals as goal

pub returns : goal.returns
returns c =
    c.is_some.ensures ∙ ap is_some c.place_of_member.ensures ∙ any_found (has_name c.args.name.now) (members_of c.args.self.now c.args.class)
