use Rattle.std.proofs.Common.{◌-◌}
use Rattle.app_front.specs.RowForm as form
use Rattle.app_front.proofs.EndedRows.{LeftTo}
use Rattle.app_front.proofs.components.components.Given as goal

-- what was read so far and what is still read make all of it
abbrev pub invariant-loop : goal.invariant-loop
invariant-loop l =
    LeftTo (λ r. r.id.0) (form.row_behind l.schema.classes) (form.rows_begin l.schema.classes) l.items.items (l.most - l.counter) l.reader
    ((form.rows l.schema.classes l.most).reads l.initial.reader)
