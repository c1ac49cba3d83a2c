use Rattle.std.proofs.Common.{drop}
use Rattle.node_table.specs.Read.{types_in}
use Rattle.app_front.specs.ValueForm as form
use Rattle.app_front.proofs.ValueRows.{LeftOf}
use Rattle.app_front.proofs.values.values.Given as goal

-- what was read so far and what is still read make all of it
abbrev pub invariant-loop-place : goal.invariant-loop-place
invariant-loop-place l =
    LeftOf l.items.items (drop l.place l.slots) l.reader ((form.values (types_in l.slots)).reads l.initial.reader)
