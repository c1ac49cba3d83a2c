use Rattle.std.proofs.Common.{◌≡◌, ◌++◌, take, drop}
use Rattle.sed_engine.specs.Texts.{characters}
use Rattle.sed_engine.proofs.strs.characters.Given as goal

abbrev pub invariant-loop-at : goal.invariant-loop-at
invariant-loop-at l = take l.at l.bytes ++ characters (drop l.at l.bytes) ≡ characters l.bytes
