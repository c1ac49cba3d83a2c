use Rattle.std.proofs.Common.{ap, sym, ◌∙◌, Option}
use Rattle.scode_code.specs.CodeRules.{broken_by}
use Rattle.scode_code.specs.Kinds.{Shape}
use Rattle.scode_verify.proofs.Firsts.{arrived, room}
use Rattle.scode_verify.proofs.walk.at_instruction.Goals as goal

pub go_on-requires-clause-room : goal.go_on-requires-clause-room
go_on-requires-clause-room c = λ s is.
    let image = c.args.image.now in
    let m = c.args.places.now.method.now in
    room image m c.args.place c.in_ok-wrong.wrong s c.args.op
    (ap (λ (k : Option Shape). broken_by image m c.args.place c.in_ok-wrong.wrong k c.args.op) (sym is)
    ∙ sym c.first_rule.ensures ∙ c.in-None.is)

pub go_on-requires-clause-arrives : goal.go_on-requires-clause-arrives
go_on-requires-clause-arrives c = λ s is.
    let image = c.args.image.now in
    let m = c.args.places.now.method.now in
    arrived image m c.args.place c.in_ok-wrong.wrong s c.args.op
    (ap (λ (k : Option Shape). broken_by image m c.args.place c.in_ok-wrong.wrong k c.args.op) (sym is)
    ∙ sym c.first_rule.ensures ∙ c.in-None.is)
