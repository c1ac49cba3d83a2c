use Rattle.std.proofs.Common.{◌≡◌, true, false, sym, ◌∙◌}
use Rattle.app_front.proofs.Answered.{front_refused, more_stands, none_stands, rows_read}
use Rattle.app_front.proofs.reading.rows_or_refusal.Goals as goal

pub returns-in-Err : goal.returns-in-Err
returns-in-Err c = front_refused c.args.schema.now c.args.bytes.now c.new-reader.result c.read_front.new.reader c.in-Err.refusal c.new-reader.ensures c.in-Err.ensures.outcome

pub returns-then-is_empty : goal.returns-then-is_empty
returns-then-is_empty c =
    rows_read c.args.schema.now _ _ _ _ c.in-Ok.version _ c.new-reader.ensures c.in-Ok.ensures.outcome c.in-Ok-body.ensures (c.is_empty.ensures.0 c.if-is_empty.true)

pub returns-else-is_empty : goal.returns-else-is_empty
returns-else-is_empty c =
    more_stands c.args.schema.now _ _ _ _ c.in-Ok.version _ _ c.new-reader.ensures c.in-Ok.ensures.outcome c.in-Ok-body.ensures
    (λ e. let yes = c.is_empty.ensures.1 e in let no : true ≡ false = sym yes ∙ c.if-is_empty.false in absurd cc) c.no_app.ensures

pub returns-in-Err-Fault : goal.returns-in-Err-Fault
returns-in-Err-Fault c =
    none_stands c.args.schema.now _ _ _ _ c.in-Ok.version _ c.new-reader.ensures c.in-Ok.ensures.outcome _ c.in-Err-Fault.field-0-is c.in-Err-Fault.ensures c.no_app-in-Err-Fault.ensures
