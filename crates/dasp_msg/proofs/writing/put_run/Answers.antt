use Rattle.std.proofs.Common.{refl, arith}
use Rattle.sed_wire.proofs.WritingLemmas.{room-after}
use Rattle.dasp_msg.proofs.WritingLemmas.{run-put}
use Rattle.dasp_msg.proofs.writing.put_run.Goals as goal

pub put_bytes-requires : goal.put_bytes-requires
put_bytes-requires c =
    let left = room-after _ _ _ c.put_u1.ensures.spells.appends in
    omega (arith, left, c.put_u1.ensures.spells.spelled.as_many, c.requires.fits)

pub returns : goal.returns
returns c = run-put _ _ _ _ _ refl c.requires.few c.put_u1.ensures.spells c.put_bytes.ensures
