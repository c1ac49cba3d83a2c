use Rattle.std.proofs.Common.{◌≡◌, ◌+◌, ◌-◌, length, take, drop, ◌∙◌, ap, arith}
use Rattle.sed_wire.specs.Number.{number_of}
use Rattle.scode_mem.proofs.Bytes.{length_range}
use Rattle.scode_mem.proofs.number.number_at.Goals as goal

pub number_in-requires-clause-all : goal.number_in-requires-clause-all
number_in-requires-clause-all c =
    let bytes = c.args.bytes.now in
    let at = c.args.at in
    let width = c.args.width in
    let as_many : at + width - at ≡ width = omega arith in
    ap (λ n. length (take n (drop at bytes))) as_many ∙ length_range bytes at width c.requires.there

pub returns-clause-number : goal.returns-clause-number
returns-clause-number c =
    let as_many : c.args.at + c.args.width - c.args.at ≡ c.args.width = omega arith in
    c.number_in.ensures.number ∙ ap (λ n. number_of (take n (drop c.args.at c.args.bytes.now))) as_many
