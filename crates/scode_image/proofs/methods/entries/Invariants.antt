use Rattle.std.proofs.Common.{◌-◌, ◌+◌}
use Rattle.sed_wire.specs.Row.{row}
use Rattle.scode_image.specs.Grammar.{entry}
use Rattle.sed_wire.proofs.Rows.{Left}
use Rattle.scode_image.proofs.methods.entries.Given as goal

-- what was read so far and what is still read make all of it
abbrev pub invariant-loop : goal.invariant-loop
invariant-loop l =
    Left (entry l.locals) (λ least e. e.place + 1) l.all.items (l.count - l.counter) l.least l.reader
    ((row (entry l.locals) (λ least e. e.place + 1) l.count 0).reads l.initial.reader)
