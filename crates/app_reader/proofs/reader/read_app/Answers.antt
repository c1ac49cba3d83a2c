use Rattle.link_prop.specs.Linked.{application_of}
use Rattle.app_reader.proofs.OverLemmas.{over_of, read_of, refused_of, told_over}
use Rattle.app_reader.proofs.reader.read_app.Goals as goal

pub returns-in-Err-clause-over : goal.returns-in-Err-clause-over
returns-in-Err-clause-over g c =
    λ which over.
    let m = g.E.Engine.meaning c.args.engine in
    let limit = g.E.Engine.limit c.args.engine in
    told_over m limit c.args.bytes.now (λ one other. c.bytes_are_read_as_one.ensures m limit c.args.bytes.now one other c.schema-told.ensures.whole.tables c.schema-told.ensures.told) which over
    c.in-Err.refusal c.in-Err.ensures.refused

pub returns-in-Ok-clause-read : goal.returns-in-Ok-clause-read
returns-in-Ok-clause-read g c =
    let m = g.E.Engine.meaning c.args.engine in
    let limit = g.E.Engine.limit c.args.engine in
    read_of m limit c.args.bytes.now c.in-Ok.rows c.in-Ok.ensures.stands (application_of g.E.Engine) c.app_built.result c.app_built.ensures.built c.app_built.ensures.whole

pub returns-in-Ok-clause-refused : goal.returns-in-Ok-clause-refused
returns-in-Ok-clause-refused g c =
    let m = g.E.Engine.meaning c.args.engine in
    let limit = g.E.Engine.limit c.args.engine in
    refused_of m limit c.args.bytes.now c.in-Ok.rows c.in-Ok.ensures.stands c.app_built.result c.app_built.ensures.refused c.app_built.ensures.over

pub returns-in-Ok-clause-over : goal.returns-in-Ok-clause-over
returns-in-Ok-clause-over g c =
    λ which over.
    let m = g.E.Engine.meaning c.args.engine in
    let limit = g.E.Engine.limit c.args.engine in
    let bytes = c.args.bytes.now in
    let rows = c.in-Ok.rows in
    let stands = c.in-Ok.ensures.stands in
    let built = c.app_built.ensures in
    over_of m limit bytes (λ one other. c.bytes_are_read_as_one.ensures m limit bytes one other c.schema-told.ensures.whole.tables c.schema-told.ensures.told) which over
    (application_of g.E.Engine) c.app_built.result (read_of m limit bytes rows stands (application_of g.E.Engine) c.app_built.result built.built built.whole)
    (refused_of m limit bytes rows stands c.app_built.result built.refused built.over)
