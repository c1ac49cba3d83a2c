use Rattle.std.proofs.Common.{None, slice_index_or}
use Rattle.scode_verify.proofs.Numbers.{numbered}
use Rattle.scode_verify.proofs.entries.entry_number.Goals as goal

pub returns-then-place-numbers : goal.returns-then-place-numbers
returns-then-place-numbers c =
    numbered c.args.method.now.entries c.args.place (slice_index_or c.args.numbers.now c.args.place None)
    (c.requires.is c.args.place c.if-place-numbers.true)
