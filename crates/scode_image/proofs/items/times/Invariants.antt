use Rattle.std.proofs.Common.{◌-◌}
use Rattle.sed_wire.specs.Row.{times}
use Rattle.sed_wire.proofs.Rows.{Left}
use Rattle.scode_image.proofs.items.times.Given as goal

-- what was read so far and what is still read make all of it
abbrev pub invariant-loop : goal.invariant-loop
invariant-loop g l =
    Left (λ (s : Unit {0}). g.T.Item.form) (λ s a. s) l.items.items (l.count - l.counter) tt l.reader ((times l.count g.T.Item.form).reads l.initial.reader)
