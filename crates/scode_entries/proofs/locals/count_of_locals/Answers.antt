use Rattle.std.proofs.Common.{arith}
use Rattle.scode_entries.proofs.Declared.{own_count}
use Rattle.scode_entries.proofs.locals.count_of_locals.Goals as goal

pub returns : goal.returns
returns c =
    omega (arith, own_count c.args.m.now, c.count_of_receiver.ensures, c.len.ensures, c.count_by_body.ensures, c.requires)
