use Rattle.std.proofs.Common.{◌≡◌, filter, map, subst, ap, ◌∙◌}
use Rattle.std.proofs.lemmas.List.{take_all}
use Rattle.sed_classes.specs.Members.{is_method, members_of}
use Rattle.sed_check.specs.Judgements.{Grows, method_at}
use Rattle.sed_check.proofs.bodies.methods.Goals as goal

pub returns : goal.returns
returns c =
    let units = c.args.tables.now in
    let members = c.members-members.result.now in
    let same : members ≡ members_of units c.args.class =
    c.members-members.ensures
    ∙ ap (λ kits. members_of kits c.args.class) (c.classes.ensures ∙ c.based.ensures ∙ c.ordered.ensures) in
    subst
    (λ ms. Grows units (map (method_at units c.args.number c.args.class) (filter is_method ms))
    c.args.bodies.now c.loop-member.bodies)
    (take_all c.loop-member.member-index members c.loop-member-test.false ∙ same)
    c.loop-member.invariant
