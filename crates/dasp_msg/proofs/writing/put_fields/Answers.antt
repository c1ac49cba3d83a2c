use Rattle.std.proofs.Common.{◌++◌, arith}
use Rattle.dasp_msg.specs.Writing.{listed}
use Rattle.dasp_msg.proofs.SendingLemmas.{fields-size}
use Rattle.sed_wire.proofs.WritingLemmas.{room-after}
use Rattle.dasp_msg.proofs.WritingLemmas.{fields-put, fields_size-append}
use Rattle.dasp_msg.proofs.writing.put_fields.Goals as goal

pub put_if_there-requires-3-clause-fits : goal.put_if_there-requires-3-clause-fits
put_if_there-requires-3-clause-fits c =
    let a = listed c.args.sent.now.first in
    let b = listed c.args.sent.now.second in
    let d = listed c.args.sent.now.third in
    let first = c.put_if_there.ensures in
    let second = c.put_if_there-2.ensures in
    omega (
      arith,
      fields_size-append a (b ++ d),
      fields_size-append b d,
      room-after _ _ _ first.appends,
      room-after _ _ _ second.appends,
      fields-size a first.spelling first.spelled,
      fields-size b second.spelling second.spelled,
      c.requires.fits,
    )

pub returns : goal.returns
returns c =
    fields-put _ _ _ _ _ c.put_if_there.ensures
    (fields-put _ _ _ _ _ c.put_if_there-2.ensures c.put_if_there-3.ensures)
