use Rattle.sox_events.proofs.PartBytes.{put_bytes}
use Rattle.sox_events.proofs.next.put_part.Goals as goal

pub returns-clause-front : goal.returns-clause-front
returns-clause-front g c =
    put_bytes g.E.Engine c.args.app.now c.args.id.0 c.args.part c.letter_of.result c.write_part.result c.args.bytes.now c.write_part.new.into c.requires
    c.letter_of.ensures.same c.write_part.ensures.bytes
