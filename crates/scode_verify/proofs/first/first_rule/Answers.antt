use Rattle.std.proofs.Common.{ap, sym, ◌∙◌}
use Rattle.scode_image.specs.declared.image.Image.{Image}
use Rattle.scode_code.specs.CodeRules.{first_of, plain_rules}
use Rattle.scode_verify.proofs.Firsts.{broken_by_kinds, broken_plainly, broken_without_kinds}
use Rattle.scode_verify.proofs.first.first_rule.Goals as goal

pub returns-in-Some : goal.returns-in-Some
returns-in-Some c =
    let k = c.args.kinds.now in
    let m = c.args.places.now.method.now in
    sym (broken_plainly c.args.image.now m c.args.place c.args.wrong k.stands k.locals.items k.stack.items c.args.op
    c.in-Some.rule
    (ap (λ (i : Image). first_of (plain_rules i m c.args.place c.args.op)) (sym c.image.ensures) ∙ sym c.plain_rule.ensures
    ∙ c.in-Some.is))

pub returns-then-not-kinds : goal.returns-then-not-kinds
returns-then-not-kinds c =
    let k = c.args.kinds.now in
    let m = c.args.places.now.method.now in
    sym (broken_without_kinds c.args.image.now m c.args.place c.args.wrong k.stands k.locals.items k.stack.items c.args.op
    c.if-not-kinds.true
    (ap (λ (i : Image). first_of (plain_rules i m c.args.place c.args.op)) (sym c.image.ensures) ∙ sym c.plain_rule.ensures
    ∙ c.in-None.is))

pub returns-else-not-kinds : goal.returns-else-not-kinds
returns-else-not-kinds c =
    let k = c.args.kinds.now in
    let m = c.args.places.now.method.now in
    c.kind_rule.ensures
    ∙ sym (broken_by_kinds c.args.image.now m c.args.place c.args.wrong k.stands k.locals.items k.stack.items c.args.op
    c.if-not-kinds.false
    (ap (λ (i : Image). first_of (plain_rules i m c.args.place c.args.op)) (sym c.image.ensures) ∙ sym c.plain_rule.ensures
    ∙ c.in-None.is))
