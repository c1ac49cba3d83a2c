use Rattle.sed_outside.proofs.Joining.{same_reads}
use Rattle.sedona_laws.proofs.Replying.{none_is_26}
use Rattle.sedona_laws.proofs.replies.no_reply_is_26.Goals as goal

pub returns-clause-events : goal.returns-clause-events
returns-clause-events g c = λ ran before now came. none_is_26 (record { sent = c.replies_are_sent.ensures; memory = c.replies_show_what_went_wrong.ensures.memory; follow = c.runs_follow_one_another.ensures }) ran before now came

pub returns-clause-replay : goal.returns-clause-replay
returns-clause-replay g c = λ asked file old new status does at.
    same_reads g.F.Files old.files new.files _ _ (λ reads held. (
      held.0,
      held.1,
      held.2,
      none_is_26 (record { sent = c.replies_are_sent.ensures; memory = c.replies_show_what_went_wrong.ensures.memory; follow = c.runs_follow_one_another.ensures }) held.2.ran _ _ held.2.store.comes,
    ))
    (c.replays_are_of_the_record.ensures.replayed asked file old new status does at)

pub returns-clause-run : goal.returns-clause-run
returns-clause-run g c = λ asked old new status does at.
    same_reads g.F.Files old.files new.files _ _ (λ reads held. (
      held.0,
      held.1,
      held.2,
      none_is_26 (record { sent = c.replies_are_sent.ensures; memory = c.replies_show_what_went_wrong.ensures.memory; follow = c.runs_follow_one_another.ensures }) held.2.ran _ _ held.2.store.comes,
    ))
    (c.runs_are_of_the_link_and_the_clock.ensures.ran asked old new status does at)
