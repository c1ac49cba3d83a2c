use Rattle.std.proofs.Common.{◌-◌}
use Rattle.sed_wire.specs.Row.{times}
use Rattle.sed_wire.proofs.Rows.{Left}
use Rattle.app_front.specs.Form as form
use Rattle.app_front.proofs.kits.so_many.Given as goal

-- what was read so far and what is still read make all of it
abbrev pub invariant-loop : goal.invariant-loop
invariant-loop l =
    Left (λ (s : Unit {0}). form.kit) (λ s a. s) l.items.items (l.count - l.counter) tt l.reader ((times l.count form.kit).reads l.initial.reader)
