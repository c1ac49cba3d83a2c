use Rattle.sed_wire.proofs.WritingLemmas.{text-done}
use Rattle.sed_wire.proofs.writer.Writer.str.Goals as goal

pub returns-clause-done : goal.returns-clause-done
returns-clause-done c =
    text-done c.u1.result c.args.bytes.now c.args.self.now c.bytes.new.self c.u1.new.self c.requires
    c.in_ok-bytes.ensures.done c.u1.ensures.done
