use Rattle.std.proofs.Common.{◌≡◌, ◌+◌, ◌≤◌, false, drop, length}
use Rattle.sed_classes.specs.Literals.{characters_in}
use Rattle.sed_rules.proofs.literals.character_count.Given as goal

-- with the characters of what is left it is all; no more are counted than bytes are read
abbrev pub invariant-loop-byte : goal.invariant-loop-byte
invariant-loop-byte l = record {
  within : l.count ≤ l.byte-index;
  so_far : l.count + length (characters_in l.slashed (drop l.byte-index l.bytes)) ≡ length (characters_in false l.bytes);
}
