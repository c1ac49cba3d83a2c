use Rattle.std.proofs.Common.{Some}
use Rattle.sed_lexer.proofs.ValueLemmas.{hex_only, decimal_only, one_within}
use Rattle.sed_lexer.proofs.numbers.integer_value.Goals as goal

pub returns-in-Some : goal.returns-in-Some
returns-in-Some c =
    let one = hex_only c.args.bytes.now c.in-Some.number c.in-Some.ensures in
    record { one = one; bounds = one_within c.args.bytes.now (Some c.in-Some.number) one }

pub returns : goal.returns
returns c =
    let one = decimal_only c.args.bytes.now c.decimal_value.result c.in_default.ensures c.decimal_value.ensures in
    record { one = one; bounds = one_within c.args.bytes.now c.decimal_value.result one }
