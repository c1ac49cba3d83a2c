use Rattle.sed_wire.proofs.WritingLemmas.{contents-done}
use Rattle.sed_wire.proofs.writer.Writer.contents.Goals as goal

pub returns-clause-done : goal.returns-clause-done
returns-clause-done c =
    contents-done c.bytes.result c.args.contents.now c.args.self.now c.u2.new.self c.bytes.new.self
    c.in_ok-u2.ensures.done c.bytes.ensures.done
