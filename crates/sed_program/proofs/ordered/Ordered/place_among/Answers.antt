use Rattle.std.proofs.Common.{position, ap, ◌∙◌}
use Rattle.sed_classes.specs.Members.{has_name, members_of}
use Rattle.sed_program.proofs.Noted.{placed_found}
use Rattle.sed_program.proofs.ordered.Ordered.place_among.Goals as goal

pub returns : goal.returns
returns c =
    c.place_at.ensures
    ∙ placed_found
    c.args.part
    c.args.self.now
    c.places.result.now
    c.args.class
    c.args.name.now
    c.place_of_member-first.result
    c.places.ensures
    (c.place_of_member-first.ensures
    ∙ ap (λ u. position (has_name c.args.name.now) (members_of u c.args.class)) (c.classes.ensures ∙ c.based.ensures))
