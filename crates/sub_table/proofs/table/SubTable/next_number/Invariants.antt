use Rattle.std.proofs.Common.{◌≡◌, ◌<◌, ◌≤◌, ◌-◌, ℕ, false}
use Rattle.sub_table.specs.Table.{is_any}
use Rattle.sub_table.proofs.table.SubTable.next_number.Given as goal

abbrev pub invariant-loop-number : goal.invariant-loop-number
invariant-loop-number l = (l.from ≤ l.number) × ((n : ℕ) → l.from ≤ n → n < l.number → is_any l.self n ≡ false)

abbrev pub decreases-loop-number : goal.decreases-loop-number
decreases-loop-number l = l.end - l.number
