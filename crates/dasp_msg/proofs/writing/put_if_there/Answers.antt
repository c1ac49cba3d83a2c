use Rattle.dasp_msg.proofs.WritingLemmas.{field_alone, nothing-put}
use Rattle.dasp_msg.proofs.writing.put_if_there.Goals as goal

pub returns-in-Some : goal.returns-in-Some
returns-in-Some c = rw c.in-Some.is (field_alone _ _ _ c.put_field.ensures)

pub returns-in-None : goal.returns-in-None
returns-in-None c = rw c.in-None.is (nothing-put _)
