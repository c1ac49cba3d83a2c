use Rattle.scode_engine.specs.Root.{rooted}
use Rattle.scode_engine.proofs.Here.{done_in, may_in}
use Rattle.scode_engine.proofs.groups.do_field.Goals as goal

pub field_instruction-requires-clause-may : goal.field_instruction-requires-clause-may
field_instruction-requires-clause-may c =
    may_in (rooted c.args.call.now) c.args.op c.args.cells.now c.args.pool.now c.args.left.now c.requires.next
    c.skip.new.cells c.skip.ensures

pub returns : goal.returns
returns c =
    done_in (rooted c.args.call.now) c.args.op c.args.cells.now c.args.pool.now c.args.left.now c.requires.next
    c.skip.new.cells c.skip.ensures c.going_on.result c.field_instruction.result c.field_instruction.new.cells
    c.field_instruction.new.pool c.going_on.ensures c.field_instruction.ensures
