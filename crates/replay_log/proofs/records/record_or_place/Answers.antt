use Rattle.std.proofs.Common.{refl, sym, subst}
use Rattle.replay_log.specs.Split.{IsSplit}
use Rattle.replay_log.proofs.RecordLemmas.{ends_wrong, mark_alone, opens, refuses}
use Rattle.replay_log.proofs.records.record_or_place.Goals as goal

pub returns-in-Some : goal.returns-in-Some
returns-in-Some c =
    let of_split = c.behind_entries-rest.ensures in
    refuses _ _ _ _ of_split (ends_wrong _ _ of_split.none (sym c.in-Some.ensures.is)) c.in-Some.ensures.within refl

pub returns-in-None : goal.returns-in-None
returns-in-None c =
    opens c.args.bytes.now
    (subst (IsSplit c.args.bytes.now) (mark_alone _ (sym c.in-None.ensures.is)) c.behind_entries-rest.ensures)
