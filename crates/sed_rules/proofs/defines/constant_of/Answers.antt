use Rattle.std.proofs.Common.{◌∷◌, [], ◌++◌, option_map, sym, ap, ◌∙◌, arith}
use Rattle.sed_classes.specs.FoundMembers.{owned_of}
use Rattle.sed_classes.specs.Types.{type_of}
use Rattle.sed_classes.specs.Values.{next_define}
use Rattle.sed_rules.specs.Plains.{as_constant}
use Rattle.sed_rules.specs.Reading.{plain_value, reached, read_back}
use Rattle.sed_rules.proofs.Reading.{followed, over}
use Rattle.sed_rules.proofs.defines.constant_of.Goals as goal

pub follow-preserved : goal.follow-preserved
follow-preserved c =
    let units = c.args.based.now in
    let kinds = c.follow.kinds.items in
    let o = owned_of c.in-Some-next.at in
    followed
    units
    kinds
    c.push.new.self.items
    c.follow.left
    o
    (option_map owned_of c.in_ok-next-2.next)
    (as_constant c.plain_value-last-in-follow.result)
    _
    (omega arith)
    (c.in_ok-push.ensures.items
    ∙ ap
    (λ kind. kinds ++ kind ∷ [])
    (c.type_of.ensures ∙ ap (λ u. type_of u o.kit o.member.kind) c.classes-in-follow.ensures))
    (c.in_ok-next-2.ensures ∙ ap (next_define units o.class) c.value_of-value.ensures)
    (c.plain_value-last-in-follow.ensures ∙ ap plain_value c.value_of-value.ensures)
    (ap
    (λ x. read_back kinds (reached units c.follow.left (option_map owned_of x) (as_constant c.follow.last)))
    (sym c.in-Some-next.is)
    ∙ c.follow.invariant)

pub returns : goal.returns
returns c =
    c.read_back-2.ensures
    ∙ ap (λ kinds. read_back kinds (as_constant c.left_over.result)) c.as_slice-2.ensures.value
    ∙ ap
    (read_back c.follow.kinds.items)
    (c.left_over.ensures
    ∙ over
    c.args.based.now
    c.follow.left
    (option_map owned_of c.follow.next)
    (as_constant c.follow.last)
    (omega arith))
    ∙ c.follow.invariant
