use Rattle.scode_fields.specs.Words as words
use Rattle.scode_fields.proofs.fields.take_bytes.Given as goal

-- those so far are taken
abbrev pub invariant-loop-at : goal.invariant-loop-at
invariant-loop-at l = words.AreTaken l.initial.taken.items l.taken.items l.from l.at
