use Rattle.sedona_cli.proofs.LiveSteps.{runs_done, runs_stopped}
use Rattle.sedona_cli.proofs.living.run_ready.Goals as goal

pub returns-in-Ok-clause-ran : goal.returns-in-Ok-clause-ran
returns-in-Ok-clause-ran g c = λ moment turns code users secret a ready.
    runs_done g.E.Engine g.O.Sink g.D.Disk g.L.Link g.C.Clock moment turns code users secret a c.args.node c.live.new.node ready c.args.cycles c.args.link.now c.live.new.link c.args.clock.now c.args.out.now c.live.new.out
    c.args.disk.now c.live.new.disk c.live.ensures.time c.live.ensures.attached c.requires.stores c.live.ensures.stores c.live.result c.in-Ok.field-0 c.in-Ok.is (c.live.ensures.lived _ ready.stands)

pub returns-in-Err-clause-ran : goal.returns-in-Err-clause-ran
returns-in-Err-clause-ran g c = λ moment turns code users secret a ready.
    runs_stopped g.E.Engine g.O.Sink g.D.Disk g.L.Link g.C.Clock moment turns code users secret a c.args.node c.live.new.node ready c.args.cycles c.args.link.now c.live.new.link c.args.clock.now c.args.out.now c.live.new.out
    c.args.disk.now c.live.new.disk c.live.ensures.time c.live.ensures.attached c.requires.stores c.live.ensures.stores c.live.result c.in-Err.field-0 c.in-Err.is (c.live.ensures.lived _ ready.stands)
