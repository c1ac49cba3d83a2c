use Rattle.scode_engine.specs.Root.{rooted}
use Rattle.scode_engine.proofs.Here.{done, may}
use Rattle.scode_engine.proofs.groups.do_long.Goals as goal

pub long_instruction-requires-clause-may : goal.long_instruction-requires-clause-may
long_instruction-requires-clause-may c =
    may (rooted c.args.call.now) c.args.op c.args.cells.now c.args.pool.now c.args.left.now c.requires.next
    c.skip.new.cells c.skip.ensures

pub returns : goal.returns
returns c =
    done (rooted c.args.call.now) c.args.op c.args.cells.now c.args.pool.now c.args.left.now c.requires.next
    c.skip.new.cells c.skip.ensures c.going_on.result c.long_instruction.result c.long_instruction.new.cells c.going_on.ensures
    c.long_instruction.ensures
