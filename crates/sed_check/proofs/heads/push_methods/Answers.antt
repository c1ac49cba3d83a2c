use Rattle.std.proofs.Common.{◌+◌, ◌∷◌, [], filter, map, take, ap, ◌∙◌}
use Rattle.std.specs.Vec.Iter.{into_iter_items}
use Rattle.sed_classes.specs.Members.{is_method, kit_of, members_of}
use Rattle.sed_program.specs.Methods.{methods_in}
use Rattle.sed_check.specs.Parts.{method_at}
use Rattle.sed_check.proofs.Made.{grows_more, grows_same, members_all, members_more}
use Rattle.sed_check.proofs.heads.push_methods.Goals as goal

pub loop-member-preserved : goal.loop-member-preserved
loop-member-preserved c =
    let units = c.args.ordered.now in
    let at = method_at c.args.number c.args.class (kit_of units c.args.class) in
    let all = members_of units c.args.class in
    let n = c.loop-member.member-index in
    let m = c.member-item.result in
    grows_same
    units
    _
    (map at (filter is_method (take (n + 1) all)))
    c.args.into.now.items
    (into_iter_items c.args.bodies.now)
    c.push_method.new.into.items
    (into_iter_items c.push_method.new.bodies)
    (members_more
    at
    n
    c.members-member-items.result.now
    all
    m
    (c.members-member-items.ensures ∙ ap (λ u. members_of u c.args.class) (c.classes.ensures ∙ c.based.ensures))
    c.loop-member-test.true
    c.member-item.is)
    (grows_more
    units
    (map at (filter is_method (take n all)))
    (map at (filter is_method (m ∷ [])))
    c.args.into.now.items
    (into_iter_items c.args.bodies.now)
    c.loop-member.into.items
    (into_iter_items c.loop-member.bodies)
    c.push_method.new.into.items
    (into_iter_items c.push_method.new.bodies)
    c.loop-member.invariant
    c.in_ok-push_method.ensures)

pub returns : goal.returns
returns c =
    let units = c.args.ordered.now in
    let at = method_at c.args.number c.args.class (kit_of units c.args.class) in
    let all = members_of units c.args.class in
    grows_same
    units
    (map at (filter is_method (take c.loop-member.member-index all)))
    (methods_in units (c.args.number, c.args.class))
    c.args.into.now.items
    (into_iter_items c.args.bodies.now)
    c.loop-member.into.items
    (into_iter_items c.loop-member.bodies)
    (members_all
    at
    c.loop-member.member-index
    c.members-member-items.result.now
    all
    (c.members-member-items.ensures ∙ ap (λ u. members_of u c.args.class) (c.classes.ensures ∙ c.based.ensures))
    c.loop-member-test.false)
    c.loop-member.invariant
