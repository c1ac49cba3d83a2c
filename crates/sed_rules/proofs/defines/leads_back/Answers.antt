use Rattle.std.proofs.Common.{◌-◌, option_map, sym, ap, ◌∙◌, arith}
use Rattle.sed_classes.specs.FoundMembers.{owned_of}
use Rattle.sed_classes.specs.Values.{comes_to_member, next_define}
use Rattle.sed_rules.proofs.Reading.{comes_more}
use Rattle.sed_rules.proofs.defines.leads_back.Goals as goal

pub follow-preserved : goal.follow-preserved
follow-preserved c =
    let units = c.args.based.now in
    let member = c.args.member.now in
    let o = owned_of c.in-Some-next.at in
    ap
    (comes_to_member units c.args.class member.at (c.follow.left - 1))
    (c.in_ok-next-2.ensures ∙ ap (next_define units o.class) c.value_of-in-follow.ensures)
    ∙ sym (comes_more
    units
    c.args.class
    member.at
    c.follow.left
    o
    (omega arith)
    (sym c.is_member.ensures ∙ c.if-is_member.false))
    ∙ ap (λ x. comes_to_member units c.args.class member.at c.follow.left (option_map owned_of x)) (sym c.in-Some-next.is)
    ∙ c.follow.invariant
