use Rattle.std.proofs.Common.{Err, ap, ◌∙◌}
use Rattle.app_reader.specs.FormedFile.{tree_rows}
use Rattle.app_reader.specs.Ready.{application_told, children_told}
use Rattle.app_reader.specs.declared.ready.FormedRows.{FormedRows}
use Rattle.app_reader.proofs.ReadyLemmas.{no_file}
use Rattle.app_reader.proofs.ready.formed_rows.Goals as goal

pub returns-in-Err-clause-refused : goal.returns-in-Err-clause-refused
returns-in-Err-clause-refused g c = c.in-Err.ensures.refused (g.E.Engine.limit c.args.engine.now)

pub returns-in-Err-NoTree-clause-refused : goal.returns-in-Err-NoTree-clause-refused
returns-in-Err-NoTree-clause-refused g c =
    let m = g.E.Engine.meaning c.args.engine.now in
    let limit = g.E.Engine.limit c.args.engine.now in
    let bytes = c.args.bytes.now in
    no_file m bytes c.in-Ok.file c.in-Ok.ensures.rows limit (λ a stands. c.files_that_tell_are_formed.ensures.formed m limit bytes c.in-Ok.file a c.in-Ok.ensures.rows (c.in-Ok.ensures.only limit a stands))
    (c.in-Err-NoTree.ensures.none (ap Err c.in-Err-NoTree.field-0-is))

pub returns-clause-formed : goal.returns-clause-formed
returns-clause-formed g c =
    let m = g.E.Engine.meaning c.args.engine.now in
    let limit = g.E.Engine.limit c.args.engine.now in
    let rows : FormedRows = record { file = c.in-Ok.file; tree = c.in-Ok-tree_of.tree; lists = c.in-Ok-formed.lists } in
    let formed = c.in-Ok-formed.ensures.formed in
    record {
      told = c.in-Ok.ensures.rows.rows;
      formed = formed;
      tree = c.in-Ok-tree_of.ensures ∙ ap tree_rows c.as_slice.ensures;
      size = c.in-Ok-formed.ensures.size;
      within = c.in-Ok-formed.ensures.within;
      application = (c.formed_files_tell.ensures m limit c.args.bytes.now rows.file (children_told rows) c.schema-whole.ensures.whole c.in-Ok.ensures.rows formed).formed;
    }

pub returns-clause-stands : goal.returns-clause-stands
returns-clause-stands g c =
    let m = g.E.Engine.meaning c.args.engine.now in
    let limit = g.E.Engine.limit c.args.engine.now in
    let bytes = c.args.bytes.now in
    let rows : FormedRows = record { file = c.in-Ok.file; tree = c.in-Ok-tree_of.tree; lists = c.in-Ok-formed.lists } in
    let formed = c.in-Ok-formed.ensures.formed in
    c.rows_that_tell_stand.ensures m limit bytes rows.file (application_told m limit rows) c.in-Ok.ensures.rows
    (c.formed_files_tell.ensures m limit bytes rows.file (children_told rows) c.schema-whole.ensures.whole c.in-Ok.ensures.rows formed)
