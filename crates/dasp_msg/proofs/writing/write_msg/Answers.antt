use Rattle.dasp_msg.specs.Sending.{IsSentAs}
use Rattle.dasp_msg.specs.View.{message_of}
use Rattle.dasp_msg.proofs.WritingLemmas.{front-put}
use Rattle.dasp_msg.proofs.writing.write_msg.Goals as goal

pub returns : goal.returns
returns c =
    front-put IsSentAs (message_of c.args.msg.now) c.new-writer.result c.put_msg.new.writer _ _ _
    c.new-writer.ensures.written c.new-writer.ensures.untouched c.put_msg.ensures c.done.ensures.count
    c.done.ensures.slice
