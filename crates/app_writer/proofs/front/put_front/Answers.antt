use Rattle.std.proofs.Common.{arith}
use Rattle.sed_wire.proofs.WritingLemmas.{appends-then}
use Rattle.sed_wire.specs.Number.{u4}
use Rattle.app_file.specs.Text.{file_mark, version}
use Rattle.app_parts.specs.Told.{kits_bytes}
use Rattle.app_writer.proofs.Lengths.{room-left}
use Rattle.app_writer.proofs.front.put_front.Goals as goal

pub put_u4-requires-2 : goal.put_u4-requires-2
put_u4-requires-2 c =
    let room = c.requires.room in
    let first = room-left _ _ (u4 file_mark) c.put_u4.ensures (omega (arith, room)) in
    omega (arith, first, room)

pub put_kits-requires-clause-room : goal.put_kits-requires-clause-room
put_kits-requires-clause-room c =
    let room = c.requires.room in
    let first = room-left _ _ (u4 file_mark) c.put_u4.ensures (omega (arith, room)) in
    let second = room-left _ _ (u4 version) c.put_u4-2.ensures (omega (arith, first, room)) in
    omega (arith, first, second, room)

pub returns : goal.returns
returns c =
    appends-then _ _ _ _ (kits_bytes c.args.schema.now.kits) (appends-then _ _ _ (u4 file_mark) (u4 version) c.put_u4.ensures c.put_u4-2.ensures) c.put_kits.ensures.bytes
