use Rattle.sed_node.proofs.Ends.{put_behind}
use Rattle.sed_node.proofs.live_text.live.Goals as goal

pub returns-clause-lived : goal.returns-clause-lived
returns-clause-lived g c = λ n stands.
    let all = c.live-ended.ensures.lives n stands in
    record {
      entries = all.entries;
      rounds = all.rounds;
      rounds_are = all.rounds_are;
      events = all.events;
      sents = all.sents;
      texts = all.texts;
      runs = all.runs;
      offered_are = all.offered_are;
      puts = put_behind g.E.Engine g.O.Sink _ _ c.live-ended.new.self n all.events c.live-ended.result c.args.out.now
          c.put_end.new.out c.put_end.result all.runs.stands all.ends c.live-ended.ensures.same.code c.put_end.ensures.puts;
    }
