use Rattle.std.proofs.Common.{◌≡◌, ◌<◌, Err, List, sym, ap, subst, ◌∙◌, arith}
use Rattle.comp_tree.specs.Application.{ById, data_size_of}
use Rattle.comp_tree.specs.Loads.{AreToLoad, loaded}
use Rattle.row_tree.specs.Reached.{StayWithin}
use Rattle.row_tree.specs.TreeRows.{Ascend}
use Rattle.app_front.specs.declared.rows.FileRow.{FileRow}
use Rattle.app_reader.specs.FormedFile.{tree_rows}
use Rattle.app_reader.specs.Entries.{entries_of}
use Rattle.app_reader.specs.Ready.{components_told, tree_with}
use Rattle.app_reader.proofs.BuildLemmas.{are_to_load}
use Rattle.app_reader.proofs.EntryLemmas.{loaded_are}
use Rattle.app_reader.proofs.LimitLemmas.{data_fits}
use Rattle.app_reader.proofs.building.tree_built.Goals as goal

pub entries-requires-clause-ascend : goal.entries-requires-clause-ascend
entries-requires-clause-ascend g c = subst (λ (each : List FileRow). Ascend (tree_rows each)) (sym c.as_slice.ensures) c.requires.held.formed.ascend

pub entries-requires-clause-within : goal.entries-requires-clause-within
entries-requires-clause-within g c = subst StayWithin (sym c.as_slice-2.ensures) c.requires.held.within

pub build-requires-clause-entries : goal.build-requires-clause-entries
build-requires-clause-entries g c =
    let m = g.E.Engine.meaning c.args.engine in
    let limit = g.E.Engine.limit c.args.engine in
    let rows = c.args.rows.now in
    let are : c.as_slice-3.result.now ≡ entries_of rows.file.rows rows.lists = c.as_slice-3.ensures ∙ c.in-Ok.ensures ∙ (λ i. entries_of (c.as_slice.ensures i) (c.as_slice-2.ensures i)) in
    subst (AreToLoad m) (sym are) (are_to_load m limit c.schema-whole.ensures.whole.tables rows c.requires.held c.requires.few (c.what_passes_no_limit_is_whole.ensures.tree m))

pub unreachable-requires : goal.unreachable-requires
unreachable-requires g c =
    let m = g.E.Engine.meaning c.args.engine in
    let limit = g.E.Engine.limit c.args.engine in
    let rows = c.args.rows.now in
    let are : c.as_slice-3.result.now ≡ entries_of rows.file.rows rows.lists = c.as_slice-3.ensures ∙ c.in-Ok.ensures ∙ (λ i. entries_of (c.as_slice.ensures i) (c.as_slice-2.ensures i)) in
    let all : loaded m c.as_slice-3.result.now ≡ components_told m rows = ap (loaded m) are ∙ loaded_are m rows.file.rows rows.lists c.requires.held.formed.ascend in
    let fits = data_fits m limit rows c.requires.few in
    let over : limit < data_size_of m (components_told m rows) = subst (λ (all : ById). limit < data_size_of m all) all (c.in-Err-DataFull.ensures.full.0 (ap Err c.in-Err-DataFull.field-0-is)) in
    omega (arith, fits, over)

pub returns-in-Ok-build-clause-built : goal.returns-in-Ok-build-clause-built
returns-in-Ok-build-clause-built g c =
    let m = g.E.Engine.meaning c.args.engine in
    let rows = c.args.rows.now in
    let are : c.as_slice-3.result.now ≡ entries_of rows.file.rows rows.lists = c.as_slice-3.ensures ∙ c.in-Ok.ensures ∙ (λ i. entries_of (c.as_slice.ensures i) (c.as_slice-2.ensures i)) in
    let all : loaded m c.as_slice-3.result.now ≡ components_told m rows = ap (loaded m) are ∙ loaded_are m rows.file.rows rows.lists c.requires.held.formed.ascend in
    c.in-Ok-build.ensures.built ∙ ap (tree_with (g.E.Engine.statics c.args.engine) (g.E.Engine.limit c.args.engine)) all
