use Rattle.std.proofs.Common.{◌≡◌, ◌<◌, ◌^◌, take}
use Rattle.sed_lexer.specs.Values as values
use Rattle.sed_lexer.proofs.numbers.digits_value.Given as goal

abbrev pub invariant-loop-b : goal.invariant-loop-b
invariant-loop-b l = record {
  fits : l.number < 2 ^ 64;
  so_far : l.number ≡ values.digits_value l.base (take l.b-index l.digits);
}
