use Rattle.std.proofs.Common.{◌+◌, length, arith}
use Rattle.scode_ops.specs.Codes.{code_of}
use Rattle.scode_rules.proofs.Decoded.{decoded}
use Rattle.scode_rules.proofs.places.op_at.Goals as goal

pub returns-clause-found : goal.returns-clause-found
returns-clause-found c =
    decoded c.args.code.now c.args.place (λ op. c.args.place + length (code_of op)) c.decode.result
    (λ op stands. c.instructions_are_found.ensures.found c.args.code.now c.args.place op stands)
    (λ op is. c.instructions_are_found.ensures.stands c.args.code.now c.args.place op (λ i. omega (arith, c.type_inv.code i)) is)
    c.decode.ensures.found c.decode.ensures.none
