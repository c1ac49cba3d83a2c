use Rattle.std.proofs.Common.{sym}
use Rattle.app_reader.proofs.ReadyLemmas.{rows_alone, rows_found, rows_refused}
use Rattle.app_reader.proofs.ready.file_rows.Goals as goal

pub returns-clause-rows : goal.returns-clause-rows
returns-clause-rows g c =
    let m = g.E.Engine.meaning c.args.engine.now in
    rows_found m c.args.bytes.now c.read_rows.result (c.read_rows.ensures.outcome m (sym c.schema-schema.ensures.same))

pub returns-clause-only : goal.returns-clause-only
returns-clause-only g c =
    let m = g.E.Engine.meaning c.args.engine.now in
    rows_alone m c.args.bytes.now (λ limit a. c.bytes_that_stand_are_rows.ensures m limit c.args.bytes.now a c.schema-schema.ensures.whole.tables c.schema-schema.ensures.told) c.read_rows.result
    (λ f. c.read_rows.ensures.rows m f (sym c.schema-schema.ensures.same))

pub returns-clause-refused : goal.returns-clause-refused
returns-clause-refused g c =
    let m = g.E.Engine.meaning c.args.engine.now in
    rows_refused m c.args.bytes.now (λ limit a. c.bytes_that_stand_are_rows.ensures m limit c.args.bytes.now a c.schema-schema.ensures.whole.tables c.schema-schema.ensures.told) c.read_rows.result
    (c.read_rows.ensures.outcome m (sym c.schema-schema.ensures.same))
