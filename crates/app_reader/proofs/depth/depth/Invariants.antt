use Rattle.std.proofs.Common.{◌≡◌, ◌+◌, ◌-◌, length}
use Rattle.sed_typed.specs.Classes.{reached}
use Rattle.row_tree.specs.TreeRows.{parent_in}
use Rattle.app_reader.proofs.depth.depth.Given as goal

-- as many stand above as were passed, and those that are reached from here
abbrev pub invariant-loop-depth : goal.invariant-loop-depth
invariant-loop-depth l =
    l.depth + length (reached (parent_in l.rows) (17 - l.depth) l.at) ≡ length (reached (parent_in l.rows) 17 l.initial.at)
