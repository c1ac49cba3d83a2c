use Rattle.disk_model.proofs.Rooms.{steps_written}
use Rattle.disk_model.proofs.buffer.write_into.Goals as goal

pub returns : goal.returns
returns c =
    let done = steps_written c.args.all.now c.clear_part.new.all c.overwrite.new.all c.args.len c.min.result c.args.at c.max.result c.args.bytes.now c.requires.within c.requires.room c.min.ensures c.clear_part.ensures c.overwrite.ensures c.max.ensures in
    record { bytes = done.0; fits = done.1 }
