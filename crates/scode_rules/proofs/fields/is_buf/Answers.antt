use Rattle.std.proofs.Common.{◌==◌, ◌&&◌, ap, sym, ◌∙◌, option_copied}
use Rattle.scode_rules.proofs.Found.{on_found}
use Rattle.scode_rules.proofs.fields.is_buf.Goals as goal

pub returns-in-Some : goal.returns-in-Some
returns-in-Some c =
    on_found (λ f. (f.form == 7) && (f.offset == c.args.offset)) c.args.all.now c.args.number c.in-Some.field.now
    c.is_buf_at.result (sym c.field_at.ensures ∙ ap option_copied c.in-Some.is) c.is_buf_at.ensures
