use Rattle.std.proofs.Common.{ℕ, [], ◌∷◌, subst}
use Rattle.sed_wire.specs.Writing.{Appends}
use Rattle.sed_wire.proofs.WritingLemmas.{appends-then, front-put}
use Rattle.sox_msg.specs.Reply.{answer_of, capital_of, reply_text}
use Rattle.sox_msg.proofs.writing.write_reply.Goals as goal

pub returns : goal.returns
returns c =
    let reply = c.args.reply.now in
    let first = subst (λ (n : ℕ). Appends c.new-writer.result c.put_bytes.new.self (n ∷ reply.number ∷ []))
    c.capital_of.ensures c.put_bytes.ensures in
    let done = appends-then _ _ _ (capital_of reply.body ∷ reply.number ∷ []) (answer_of reply.body) first
    c.put_answer.ensures in
    front-put (reply_text reply) c.new-writer.result c.put_answer.new.writer _ _ _ c.new-writer.ensures.written
    c.new-writer.ensures.untouched done c.done.ensures.count c.done.ensures.slice
