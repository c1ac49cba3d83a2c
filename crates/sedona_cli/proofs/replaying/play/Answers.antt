use Rattle.std.proofs.Common.{ℕ, List, subst, sym}
use Rattle.replay_log.specs.Record.{IsRecord}
use Rattle.sedona_cli.proofs.Playing.{not_refused, plays_done, plays_stopped}
use Rattle.sedona_cli.proofs.replaying.play.Goals as goal

pub returns-in-Ok-replay : goal.returns-in-Ok-replay
returns-in-Ok-replay g c = λ asked inputs a same ready.
    plays_done g.E.Engine g.D.Disk asked inputs a c.args.node c.replay.new.node ready c.in-Ok.records (subst (λ (t : List ℕ). IsRecord t c.in-Ok.records) (sym same) c.in-Ok.ensures.found) c.args.disk.now c.replay.new.disk
    c.replay.ensures.time c.replay.ensures.attached c.requires.stores c.replay.ensures.stores _ _ _ _ c.replay.result c.in-Ok-replay.field-0 c.in-Ok-replay.is c.replay.ensures.cause
    (c.replay.ensures.replayed _ ready.stands)

pub returns-in-Err-replay : goal.returns-in-Err-replay
returns-in-Err-replay g c = λ asked inputs a same ready.
    plays_stopped g.E.Engine g.D.Disk asked inputs a c.args.node c.replay.new.node ready c.in-Ok.records (subst (λ (t : List ℕ). IsRecord t c.in-Ok.records) (sym same) c.in-Ok.ensures.found) c.args.disk.now c.replay.new.disk
    c.replay.ensures.time c.replay.ensures.attached c.requires.stores c.replay.ensures.stores _ _ _ _ c.replay.result c.in-Err-replay.field-0 c.in-Err-replay.is c.replay.ensures.cause
    (c.replay.ensures.stopped _ ready.stands)

pub unreachable-requires : goal.unreachable-requires
unreachable-requires g c = not_refused _ c.open.result c.in-Err.field-0 c.in-Err.is (c.open.ensures.only c.requires.entries.0 c.requires.entries.1)
