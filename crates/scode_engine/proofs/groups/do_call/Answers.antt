use Rattle.scode_engine.specs.Root.{rooted}
use Rattle.scode_engine.proofs.Here.{done_of, may_of}
use Rattle.scode_engine.proofs.groups.do_call.Goals as goal

pub call_instruction-requires-clause-may : goal.call_instruction-requires-clause-may
call_instruction-requires-clause-may c =
    may_of (rooted c.args.call.now) c.args.op c.args.cells.now c.args.pool.now c.args.left.now c.requires.next
    c.skip.new.cells c.skip.ensures

pub returns : goal.returns
returns c =
    done_of (rooted c.args.call.now) c.args.op c.args.cells.now c.args.pool.now c.args.left.now c.requires.next
    c.skip.new.cells c.skip.ensures c.call_instruction.result c.call_instruction.new.cells c.call_instruction.new.left (c.call_instruction.ensures c.args.call.now.moment)
