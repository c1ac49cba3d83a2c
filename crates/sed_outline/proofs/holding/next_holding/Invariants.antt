use Rattle.std.proofs.Common.{◌≡◌, map, take}
use Rattle.std.specs.List.{list_any}
use Rattle.sed_outline.specs.Rounds.{is_or_has}
use Rattle.sed_outline.proofs.holding.next_holding.Given as goal

-- the classes so far
abbrev pub invariant-loop-held : goal.invariant-loop-held
invariant-loop-held l = l.all.items ≡ map (list_any (is_or_has l.inner l.known)) (take l.held-index l.inside)
