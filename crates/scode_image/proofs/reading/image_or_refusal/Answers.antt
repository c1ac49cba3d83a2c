use Rattle.std.proofs.lemmas.Bool.{both_ways}
use Rattle.scode_image.proofs.Images.{gives_stuck, whole_image, found_within, stuck_within, fault_behind, fault_here}
use Rattle.scode_image.proofs.reading.image_or_refusal.Goals as goal

pub returns-then-is_empty : goal.returns-then-is_empty
returns-then-is_empty c =
    whole_image _ _ _ _ c.new-reader.ensures c.in-Ok.ensures (c.is_empty.ensures.0 c.if-is_empty.true)

pub overflow_sub-result : goal.overflow_sub-result
overflow_sub-result c = found_within _ _ _ _ _ c.new-reader.ensures c.in-Ok.ensures c.remaining.ensures

pub overflow_sub-result-in-Err-Fault : goal.overflow_sub-result-in-Err-Fault
overflow_sub-result-in-Err-Fault c = stuck_within _ _ _ _ c.new-reader.ensures (gives_stuck _ _ _ c.in-Err-Fault.field-0-is c.in-Err-Fault.ensures) c.remaining-in-Err-Fault.ensures

pub returns-else-is_empty : goal.returns-else-is_empty
returns-else-is_empty c =
    fault_behind _ _ _ _ _ c.new-reader.ensures c.in-Ok.ensures c.remaining.ensures
    (λ none. both_ways c.is_empty.result c.if-is_empty.false (c.is_empty.ensures.1 none))

pub returns-in-Err-Fault : goal.returns-in-Err-Fault
returns-in-Err-Fault c = fault_here _ _ _ _ c.new-reader.ensures (gives_stuck _ _ _ c.in-Err-Fault.field-0-is c.in-Err-Fault.ensures) c.remaining-in-Err-Fault.ensures
