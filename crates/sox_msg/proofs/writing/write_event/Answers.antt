use Rattle.std.proofs.Common.{[], ◌∷◌, ◌++◌}
use Rattle.sed_wire.proofs.WritingLemmas.{appends-then, front-put}
use Rattle.sox_msg.specs.Command.{u2}
use Rattle.sox_msg.specs.Reply.{event_text}
use Rattle.sox_msg.proofs.writing.write_event.Goals as goal

pub returns : goal.returns
returns c =
    let event = c.args.event.now in
    let done = appends-then _ _ _ (101 ∷ 255 ∷ []) (u2 event.id.0 ++ event.part ∷ event.bytes.now) c.put_bytes.ensures
    c.put_of_component.ensures in
    front-put (event_text event) c.new-writer.result c.put_of_component.new.writer _ _ _ c.new-writer.ensures.written
    c.new-writer.ensures.untouched done c.done.ensures.count c.done.ensures.slice
