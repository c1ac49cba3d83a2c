use Rattle.std.proofs.Common.{◌≡◌, ◌≤◌, true, take}
use Rattle.std.specs.List.{list_all}
use Rattle.sed_value.specs.Characters.{is_digit}
use Rattle.sed_value.specs.Decimal.{decimal_value}
use Rattle.sed_value.proofs.decimal.read_decimal.Given as goal

abbrev pub invariant-loop-byte : goal.invariant-loop-byte
invariant-loop-byte l = record {
  digits : list_all is_digit (take l.byte-index l.bytes) ≡ true;
  value : l.number ≡ decimal_value (take l.byte-index l.bytes);
  small : l.number ≤ l.most;
}
