use Rattle.dasp_msg.specs.View.{message_of}
use Rattle.dasp_msg.proofs.MessageLemmas.{outcome-malformed, outcome-only}
use Rattle.dasp_msg.proofs.reading.read_msg.Goals as goal

pub returns-clause-only : goal.returns-clause-only
returns-clause-only c = outcome-only message_of c.args.bytes.now _ c.message_or_none.ensures

pub returns-clause-malformed : goal.returns-clause-malformed
returns-clause-malformed c = outcome-malformed message_of c.args.bytes.now _ c.message_or_none.ensures
