use Rattle.std.proofs.Common.{arith}
use Rattle.scode_engine.proofs.Enough.{few_locals, one_more, stands_within}
use Rattle.scode_engine.proofs.rooms.most_of.Goals as goal

pub cells_of-requires : goal.cells_of-requires
cells_of-requires c =
    few_locals c.args.methods.now c.loop-method.method-index c.method-item.result c.loop-method-test.true
    c.method-item.is c.requires

pub loop-method-preserved : goal.loop-method-preserved
loop-method-preserved c =
    one_more c.args.methods.now c.loop-method.method-index c.method-item.result c.loop-method-test.true
    c.method-item.is c.loop-method.most _ c.loop-method.invariant (omega arith) (omega arith)

pub returns : goal.returns
returns c = λ n m at.
    c.loop-method.invariant n m (let within = stands_within c.args.methods.now n m at in omega (arith, within)) at
