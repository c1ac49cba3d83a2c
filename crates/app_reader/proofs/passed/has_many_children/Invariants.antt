use Rattle.std.proofs.Common.{◌≡◌, ℕ, List, false, take, length}
use Rattle.std.specs.Prelude.{nat_lt}
use Rattle.std.specs.List.{list_any}
use Rattle.comp_tree.specs.Application.{most_children}
use Rattle.app_reader.proofs.passed.has_many_children.Given as goal

abbrev pub invariant-loop-list : goal.invariant-loop-list
invariant-loop-list l = list_any (λ (list : List ℕ). nat_lt most_children (length list)) (take l.list-index l.lists) ≡ false
