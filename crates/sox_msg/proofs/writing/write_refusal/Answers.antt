use Rattle.std.proofs.Common.{[], ◌∷◌}
use Rattle.sed_wire.proofs.WritingLemmas.{appends-then, front-put}
use Rattle.sox_msg.specs.Answered.{answered_text, refused_for}
use Rattle.sox_msg.specs.Command.{str}
use Rattle.sox_msg.proofs.writing.write_refusal.Goals as goal

pub returns : goal.returns
returns c = λ which.
    let done = appends-then _ _ _ (33 ∷ c.args.number ∷ []) (str c.args.cause.now) c.put_bytes.ensures
    c.put_text.ensures in
    front-put (answered_text c.args.number (refused_for which c.args.cause.now)) c.new-writer.result
    c.put_text.new.writer _ _ _ c.new-writer.ensures.written c.new-writer.ensures.untouched done c.done.ensures.count
    c.done.ensures.slice
