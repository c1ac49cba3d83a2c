use Rattle.std.proofs.Common.{length, arith}
use Rattle.scode_fields.proofs.Counting.{counted_small}
use Rattle.scode_fields.proofs.limits.count_methods.Goals as goal

pub count_one-requires : goal.count_one-requires
count_one-requires c =
    let small = counted_small c.loop-number.counts.items c.as_slice-methods.result.now (length c.args.image.now.classes)
    c.loop-number.number c.from.result c.loop-number.invariant in
    omega (arith, small, c.loop-number-test.true, c.len.type_inv)
