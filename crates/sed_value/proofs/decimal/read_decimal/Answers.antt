use Rattle.std.proofs.Common.{◌<◌, ◌∙◌, get_or, take, arith}
use Rattle.sed_value.specs.Decimal.{with_digit, decimal_value}
use Rattle.sed_value.proofs.DecimalLemmas.{number_of-large}
use Rattle.sed_value.proofs.decimal.read_decimal.Goals as goal

pub returns-in_err-number : goal.returns-in_err-number
returns-in_err-number c =
    let large : c.args.most < with_digit (decimal_value (take c.loop-byte.byte-index c.args.bytes.now)) (get_or c.args.bytes.now c.loop-byte.byte-index 0) = grind (arith, c.with_digit.ensures, c.branch-number.ensures, c.in_err-number.ensures, c.loop-byte.invariant.value) in
    c.from_residual.ensures ∙ number_of-large _ _ c.loop-byte.byte-index c.loop-byte-test.true large
