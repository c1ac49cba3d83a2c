use Rattle.std.proofs.Common.{◌≡◌, ◌<◌, ◌≤◌, subst}
use Rattle.std.specs.Prelude.{IfOk}
use Rattle.scode_emit.specs.Method.{size_of}
use Rattle.scode_emit.specs.Rows.{layout_of}
use Rattle.scode_emit.specs.Site.{Layout}
use Rattle.scode_entries.specs.Method.{image_method}
use Rattle.scode_gen.proofs.ShortMethods.{layout_is, short_made}
use Rattle.scode_gen.proofs.methods.compiled.Goals as goal

pub returns-clause-made : goal.returns-clause-made
returns-clause-made c =
    let rows = c.args.rows.now in
    let program = rows.program.now in
    let m = c.args.method.now in
    let same = layout_is program rows.fields.now c.args.statics.now rows.tables.now c.requires.rows.fields c.requires.statics c.requires.rows.tables in
    subst (λ (l : Layout). IfOk c.emit_method.result (λ made. made ≡ image_method program l m)) same c.emit_method.ensures.made

pub returns-clause-short : goal.returns-clause-short
returns-clause-short c =
    let rows = c.args.rows.now in
    let program = rows.program.now in
    let m = c.args.method.now in
    let same = layout_is program rows.fields.now c.args.statics.now rows.tables.now c.requires.rows.fields c.requires.statics c.requires.rows.tables in
    let said = layout_of rows.fields.now c.args.statics.now rows.tables.now in
    subst (λ (l : Layout). IfOk c.emit_method.result (λ _. size_of program l m ≤ 65535)) same
    (short_made c.emit_method.result (size_of program said m) c.emit_method.ensures.too_long)

pub returns-clause-too_long : goal.returns-clause-too_long
returns-clause-too_long c =
    let rows = c.args.rows.now in
    let program = rows.program.now in
    let m = c.args.method.now in
    let same = layout_is program rows.fields.now c.args.statics.now rows.tables.now c.requires.rows.fields c.requires.statics c.requires.rows.tables in
    λ h. subst (λ (l : Layout). 65535 < size_of program l m) same (c.emit_method.ensures.too_long.0 h)
