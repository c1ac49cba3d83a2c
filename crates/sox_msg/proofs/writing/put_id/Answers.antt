use Rattle.sox_msg.proofs.WritingLemmas.{u2-put}
use Rattle.sox_msg.proofs.writing.put_id.Goals as goal

pub returns : goal.returns
returns c = u2-put _ _ _ c.put_u2.ensures.spells
