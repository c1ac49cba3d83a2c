use Rattle.std.proofs.Common.{slice_get, option_and_then, sym, ap, ◌∙◌}
use Rattle.sed_classes.specs.Members.{has_name, members_of}
use Rattle.sed_classes.proofs.FirstPlaces.{find_there}
use Rattle.sed_classes.proofs.table.Classes.own_member.Goals as goal

pub returns-in-Some : goal.returns-in-Some
returns-in-Some c =
    let members = members_of c.args.self.now c.args.class in
    c.member_at.ensures ∙ ap (λ all. slice_get all c.in-Some.at) c.members.ensures
    ∙ ap (option_and_then (slice_get members)) (sym c.in-Some.is ∙ c.place_of_member.ensures)
    ∙ find_there (has_name c.args.name.now) members

pub returns-in-None : goal.returns-in-None
returns-in-None c =
    let members = members_of c.args.self.now c.args.class in
    ap (option_and_then (slice_get members)) (sym c.in-None.is ∙ c.place_of_member.ensures) ∙ find_there (has_name c.args.name.now) members
