use Rattle.std.proofs.Common.{ap, ◌∙◌}
use Rattle.scode_code.specs.declared.needs.Effect.{Effect}
use Rattle.scode_rules.specs.Words.{is_ordinary}
use Rattle.scode_rules.proofs.Tabled.{wants_are_ordinary}
use Rattle.scode_rules.proofs.effects.effect_of.Goals as goal

pub returns-clause-ordinary : goal.returns-clause-ordinary
returns-clause-ordinary c =
    ap (λ (e : Effect). is_ordinary e) c.table_effect.ensures
    ∙ wants_are_ordinary c.args.image.now c.args.locals.now c.args.op
