use Rattle.node_table.proofs.PlaceLemmas.{TouchedTo}
use Rattle.node_table.proofs.marks.Marks.touch.Given as goal

-- the places before this one have these marks besides
abbrev pub invariant-loop-place : goal.invariant-loop-place
invariant-loop-place l = TouchedTo l.parts l.initial.self-inside.places l.self-inside.places l.place
