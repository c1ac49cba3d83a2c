use Rattle.scode_engine.specs.Root.{rooted}
use Rattle.scode_engine.proofs.Here.{done, may}
use Rattle.scode_engine.proofs.frequent.do_frequent_local.Goals as goal

pub frequent_local-requires-clause-may : goal.frequent_local-requires-clause-may
frequent_local-requires-clause-may c =
    may (rooted c.args.call.now) c.args.op c.args.cells.now c.args.pool.now c.args.left.now c.requires.next
    c.skip.new.cells c.skip.ensures

pub returns : goal.returns
returns c =
    done (rooted c.args.call.now) c.args.op c.args.cells.now c.args.pool.now c.args.left.now c.requires.next
    c.skip.new.cells c.skip.ensures c.going_on.result _ c.frequent_local.new.cells c.going_on.ensures
    c.frequent_local.ensures
