use Rattle.std.proofs.Common.{◌+◌, refl, ap, ◌∙◌, arith}
use Rattle.sed_classes.specs.Types.{type_of}
use Rattle.sed_classes.specs.Values.{read_constant}
use Rattle.sed_rules.specs.Plains.{as_constant}
use Rattle.sed_rules.proofs.Chains.{settles}
use Rattle.sed_rules.proofs.settled.settled_with.Goals as goal

pub returns : goal.returns
returns c = λ last.
    let units = c.args.classes.now in
    settles
    units
    c.args.place
    c.args.member.now
    c.args.steps
    (c.args.steps + 1)
    (as_constant c.args.value)
    (as_constant c.read_value.result)
    last
    c.requires.there
    c.requires.comes
    (omega arith)
    refl
    (c.read_value.ensures
    ∙ ap
    (λ kind. read_constant kind (as_constant c.args.value))
    (c.type_of-kind.ensures ∙ ap (λ kit. type_of units kit c.args.member.now.kind) c.kit_of.ensures))
