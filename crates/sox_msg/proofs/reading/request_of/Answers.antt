use Rattle.std.proofs.Common.{not, sym, ◌∙◌, ap}
use Rattle.sox_msg.specs.View.{asked_of}
use Rattle.sox_msg.proofs.ReadingLemmas.{malformed-body, request_is}
use Rattle.sox_msg.proofs.reading.request_of.Goals as goal

pub returns-then-not-is_known : goal.returns-then-not-is_known
returns-then-not-is_known c = ap not (sym c.is_known.ensures ∙ c.if-not-is_known.true)

pub returns-in-Some : goal.returns-in-Some
returns-in-Some c =
    request_is c.args.letter c.args.number c.args.body.now (asked_of c.in-Some.command)
    (λ i. (c.type_inv.body i).fits) (sym c.in-Some.ensures)

pub returns-in-None : goal.returns-in-None
returns-in-None c =
    malformed-body c.args.letter c.args.number c.args.body.now (sym c.is_known.ensures ∙ c.if-not-is_known.false)
    (sym c.in-None.ensures)
