use Rattle.std.proofs.Common.{arith}
use Rattle.sed_wire.proofs.WritingLemmas.{room-after}
use Rattle.dasp_msg.proofs.WritingLemmas.{field-put}
use Rattle.dasp_msg.proofs.writing.put_field.Goals as goal

pub put_value-requires : goal.put_value-requires
put_value-requires c =
    let left = room-after _ _ _ c.put_u1.ensures.spells.appends in
    record {
      can = c.requires.can.content;
      fits = omega (arith, left, c.put_u1.ensures.spells.spelled.as_many, c.requires.fits);
    }

pub returns : goal.returns
returns c = field-put _ _ _ _ c.requires.can c.put_u1.ensures.spells c.put_value.ensures
