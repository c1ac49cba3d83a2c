use Rattle.scode_engine.specs.Root.{rooted}
use Rattle.scode_engine.proofs.Here.{done_in, may_in}
use Rattle.scode_engine.proofs.frequent.do_frequent_field.Goals as goal

pub frequent_field-requires-clause-may : goal.frequent_field-requires-clause-may
frequent_field-requires-clause-may c =
    may_in (rooted c.args.call.now) c.args.op c.args.cells.now c.args.pool.now c.args.left.now c.requires.next
    c.skip.new.cells c.skip.ensures

pub returns : goal.returns
returns c =
    done_in (rooted c.args.call.now) c.args.op c.args.cells.now c.args.pool.now c.args.left.now c.requires.next
    c.skip.new.cells c.skip.ensures c.going_on.result c.frequent_field.result
    c.frequent_field.new.cells c.frequent_field.new.pool c.going_on.ensures c.frequent_field.ensures
