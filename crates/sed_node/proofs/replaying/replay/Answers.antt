use Rattle.sed_node.proofs.Ends.{is_replayed, is_stopped}
use Rattle.sed_node.proofs.replaying.replay.Goals as goal

pub returns-clause-replayed : goal.returns-clause-replayed
returns-clause-replayed g c = λ n stands.
    is_replayed g.E.Engine g.O.Sink g.D.Disk.meaning _ _ _ c.run.new.self n _ c.in_ok-ended.ended
    c.args.out.now c.run.new.out c.put_end.new.out c.args.disk.now c.run.new.disk c.put_end.result
    (c.in_ok-ended.ensures.runs n stands) c.in_ok-ended.ensures.same.code c.put_end.ensures.puts

pub returns-clause-stopped : goal.returns-clause-stopped
returns-clause-stopped g c = λ n stands.
    is_stopped g.E.Engine g.O.Sink g.D.Disk.meaning _ _ _ c.run.new.self n _ c.in_ok-ended.ended
    c.args.out.now c.run.new.out c.put_end.new.out c.args.disk.now c.run.new.disk c.put_end.result
    (c.in_ok-ended.ensures.runs n stands) c.in_ok-ended.ensures.same.code c.put_end.ensures.puts
