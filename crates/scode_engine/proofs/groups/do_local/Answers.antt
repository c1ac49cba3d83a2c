use Rattle.scode_engine.specs.Root.{rooted}
use Rattle.scode_engine.proofs.Here.{done, may}
use Rattle.scode_engine.proofs.groups.do_local.Goals as goal

pub local_instruction-requires-clause-may : goal.local_instruction-requires-clause-may
local_instruction-requires-clause-may c =
    may (rooted c.args.call.now) c.args.op c.args.cells.now c.args.pool.now c.args.left.now c.requires.next
    c.skip.new.cells c.skip.ensures

pub returns : goal.returns
returns c =
    done (rooted c.args.call.now) c.args.op c.args.cells.now c.args.pool.now c.args.left.now c.requires.next
    c.skip.new.cells c.skip.ensures c.going_on.result c.local_instruction.result c.local_instruction.new.cells c.going_on.ensures
    c.local_instruction.ensures
