use Rattle.sed_program.proofs.Spellings.{first_step, texts_step}
use Rattle.sed_program.proofs.spelled.note_members.Goals as goal

pub loop-member-preserved : goal.loop-member-preserved
loop-member-preserved c = record {
  texts = texts_step
      c.loop-member.member-index
      c.args.members.now
      c.member-item.result
      c.args.notes.now.texts
      c.loop-member.notes.texts
      c.note_body.new.notes.texts
      c.loop-member-test.true
      c.member-item.is
      c.in_ok-note_body.ensures.texts
      c.loop-member.invariant.texts;
  first = first_step
      c.loop-member.member-index
      c.args.members.now
      c.member-item.result
      c.args.notes.now.first
      c.loop-member.notes.first
      c.note_body.new.notes.first
      c.loop-member-test.true
      c.member-item.is
      c.in_ok-note_body.ensures.first
      c.loop-member.invariant.first;
}
