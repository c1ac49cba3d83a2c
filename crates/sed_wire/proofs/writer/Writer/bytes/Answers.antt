use Rattle.std.proofs.Common.{◌+◌, ◌≤◌, length, arith, refl}
use Rattle.std.proofs.lemmas.List.{length-drop}
use Rattle.sed_wire.proofs.WritingLemmas.{put-parts}
use Rattle.sed_wire.proofs.writer.Writer.bytes.Goals as goal

pub returns-clause-done : goal.returns-clause-done
returns-clause-done c =
    let writer = c.args.self.now in
    let left = length-drop writer.at writer.into.now in
    let fits : writer.at + length c.args.bytes.now ≤ length writer.into.now =
    omega (arith, left, c.room.ensures, c.if-room-bytes.false, writer.within) in
    let parts = put-parts writer.at c.args.bytes.now writer.into.now _ fits c.put_at.ensures in
    record { same_slice = refl; written = parts.0; untouched = parts.1 }
