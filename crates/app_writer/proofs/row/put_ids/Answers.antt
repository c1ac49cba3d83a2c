use Rattle.std.proofs.Common.{arith}
use Rattle.app_writer.specs.Written.{id_or_none}
use Rattle.app_writer.proofs.Lengths.{room-left}
use Rattle.app_writer.proofs.row.put_ids.Goals as goal

pub put_id-requires-2 : goal.put_id-requires-2
put_id-requires-2 c =
    let start = c.requires in
    let first = room-left _ _ (id_or_none c.args.parent) c.put_id.ensures (omega (arith, start)) in
    omega (arith, start, first)

pub put_id-requires-3 : goal.put_id-requires-3
put_id-requires-3 c =
    let start = c.requires in
    let first = room-left _ _ (id_or_none c.args.parent) c.put_id.ensures (omega (arith, start)) in
    let second = room-left _ _ (id_or_none c.args.first_child) c.put_id-2.ensures (omega (arith, start, first)) in
    omega (arith, start, first, second)
