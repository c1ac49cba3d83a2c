use Rattle.std.proofs.Common.{◌≡◌, ◌++◌, false, drop}
use Rattle.sed_classes.specs.Literals.{characters_in}
use Rattle.sed_first_fault.proofs.texts.characters.Given as goal

-- what the bytes so far spell, and what is behind them
abbrev pub invariant-loop-byte : goal.invariant-loop-byte
invariant-loop-byte l = l.text.items ++ characters_in l.slashed (drop l.byte-index l.bytes)
    ≡ characters_in false l.bytes
