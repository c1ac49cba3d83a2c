use Rattle.std.proofs.Common.{ap, sym, ◌∙◌, option_copied}
use Rattle.scode_code.specs.Tables.{is_field}
use Rattle.scode_rules.proofs.Found.{on_found}
use Rattle.scode_rules.proofs.fields.is_asked.Goals as goal

pub returns-in-Some : goal.returns-in-Some
returns-in-Some c =
    on_found (is_field c.args.need.form c.args.need.offset c.args.need.n) c.args.all.now c.args.number c.in-Some.field.now
    c.is_the_one.result (sym c.field_at.ensures ∙ ap option_copied c.in-Some.is) c.is_the_one.ensures
