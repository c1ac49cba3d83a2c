use Rattle.std.proofs.Common.{sym}
use Rattle.sed_outline.proofs.Orders.{based_number}
use Rattle.sed_outline.proofs.info.base_number.Goals as goal

pub returns-in-Some : goal.returns-in-Some
returns-in-Some c =
    based_number
    c.args.based.now
    c.args.order.now
    c.args.class
    c.in-Some.base
    c.type_number.result
    c.requires.order
    (sym c.in-Some.ensures)
    c.type_number.ensures
