use Rattle.std.proofs.Common.{arith}
use Rattle.scode_cells.specs.Frames.{running}
use Rattle.scode_engine.proofs.Decoded.{op_is, op_within, row_within}
use Rattle.scode_engine.proofs.stepping.fetch.Goals as goal

pub row_at-row-requires : goal.row_at-row-requires
row_at-row-requires c =
    let lt =
    row_within c.args.image.now c.args.rows.now c.requires.rows (running c.args.cells.now).method
    (running c.args.cells.now).place c.requires.stands in
    let same = c.method.ensures in
    omega (arith, lt, same)

pub op_in-requires : goal.op_in-requires
op_in-requires c =
    let lt =
    op_within c.args.image.now c.args.rows.now c.requires.rows (running c.args.cells.now).method
    (running c.args.cells.now).place c.requires.stands c.method.result c.method.ensures c.row_at-row.result.now
    c.row_at-row.ensures in
    let same = c.place.ensures in
    omega (arith, lt, same)

pub returns-clause-op : goal.returns-clause-op
returns-clause-op c =
    (op_is c.args.image.now c.args.rows.now c.requires.rows (running c.args.cells.now).method
    (running c.args.cells.now).place c.requires.stands c.method.result c.method.ensures c.row_at-row.result.now
    c.row_at-row.ensures c.place.result c.place.ensures c.op_in.result.now c.op_in.ensures).0

pub returns-clause-fits : goal.returns-clause-fits
returns-clause-fits c =
    (op_is c.args.image.now c.args.rows.now c.requires.rows (running c.args.cells.now).method
    (running c.args.cells.now).place c.requires.stands c.method.result c.method.ensures c.row_at-row.result.now
    c.row_at-row.ensures c.place.result c.place.ensures c.op_in.result.now c.op_in.ensures).1
