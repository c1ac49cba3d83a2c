use Rattle.std.proofs.Common.{◌∙◌}
use Rattle.sed_classes.specs.Members.{has_name}
use Rattle.sed_classes.proofs.FirstPlaces.{from_first}
use Rattle.sed_classes.proofs.name_places.names_among.Goals as goal

pub returns : goal.returns
returns c = λ name.
    c.backwards.invariant.found name ∙ from_first (has_name name) c.args.members.now c.backwards.left c.backwards-test.false
