use Rattle.tiny_engine.proofs.CallerLemmas.{Leaves, mid_has, written_is, after_has, after_property, after_value, after_others}
use Rattle.tiny_engine.proofs.caller.make_with.Goals as goal

pub set-requires : goal.set-requires
set-requires g c =
    mid_has (g.E.Engine.meaning c.args.engine.now) (g.E.Engine.meaning c.add.new.self) (g.E.Engine.live c.args.engine.now) (g.E.Engine.live c.add.new.self) c.in-Ok.p.0 c.args.t.0 c.args.s.0 c.args.v.now
    c.in-Ok.ensures.meaning c.in-Ok.ensures.added c.requires.goes

pub get-requires : goal.get-requires
get-requires g c =
    let l : Leaves (g.E.Engine.meaning c.args.engine.now) (g.E.Engine.meaning c.add.new.self) (g.E.Engine.meaning c.set.new.self) (g.E.Engine.live c.args.engine.now) (g.E.Engine.live c.add.new.self) (g.E.Engine.live c.set.new.self) c.in-Ok.p.0 c.args.t.0 c.args.s.0 c.args.v.now = record {
      same1 = c.in-Ok.ensures.meaning;
      same2 = c.set.ensures.meaning;
      added = c.in-Ok.ensures.added;
      written = written_is (g.E.Engine.meaning c.args.engine.now) (g.E.Engine.meaning c.add.new.self) (g.E.Engine.live c.args.engine.now) (g.E.Engine.live c.add.new.self) (g.E.Engine.live c.set.new.self) c.in-Ok.p.0 c.args.t.0 c.args.s.0 c.args.v.now c.in-Ok.ensures.added c.set.ensures.written;
    } in
    after_property l c.requires.goes

pub returns-clause-made : goal.returns-clause-made
returns-clause-made g c =
    let l : Leaves (g.E.Engine.meaning c.args.engine.now) (g.E.Engine.meaning c.add.new.self) (g.E.Engine.meaning c.set.new.self) (g.E.Engine.live c.args.engine.now) (g.E.Engine.live c.add.new.self) (g.E.Engine.live c.set.new.self) c.in-Ok.p.0 c.args.t.0 c.args.s.0 c.args.v.now = record {
      same1 = c.in-Ok.ensures.meaning;
      same2 = c.set.ensures.meaning;
      added = c.in-Ok.ensures.added;
      written = written_is (g.E.Engine.meaning c.args.engine.now) (g.E.Engine.meaning c.add.new.self) (g.E.Engine.live c.args.engine.now) (g.E.Engine.live c.add.new.self) (g.E.Engine.live c.set.new.self) c.in-Ok.p.0 c.args.t.0 c.args.s.0 c.args.v.now c.in-Ok.ensures.added c.set.ensures.written;
    } in
    after_has l

pub returns-clause-read : goal.returns-clause-read
returns-clause-read g c =
    let l : Leaves (g.E.Engine.meaning c.args.engine.now) (g.E.Engine.meaning c.add.new.self) (g.E.Engine.meaning c.set.new.self) (g.E.Engine.live c.args.engine.now) (g.E.Engine.live c.add.new.self) (g.E.Engine.live c.set.new.self) c.in-Ok.p.0 c.args.t.0 c.args.s.0 c.args.v.now = record {
      same1 = c.in-Ok.ensures.meaning;
      same2 = c.set.ensures.meaning;
      added = c.in-Ok.ensures.added;
      written = written_is (g.E.Engine.meaning c.args.engine.now) (g.E.Engine.meaning c.add.new.self) (g.E.Engine.live c.args.engine.now) (g.E.Engine.live c.add.new.self) (g.E.Engine.live c.set.new.self) c.in-Ok.p.0 c.args.t.0 c.args.s.0 c.args.v.now c.in-Ok.ensures.added c.set.ensures.written;
    } in
    after_value l c.get.new.out c.get.ensures

pub returns-clause-others : goal.returns-clause-others
returns-clause-others g c =
    let l : Leaves (g.E.Engine.meaning c.args.engine.now) (g.E.Engine.meaning c.add.new.self) (g.E.Engine.meaning c.set.new.self) (g.E.Engine.live c.args.engine.now) (g.E.Engine.live c.add.new.self) (g.E.Engine.live c.set.new.self) c.in-Ok.p.0 c.args.t.0 c.args.s.0 c.args.v.now = record {
      same1 = c.in-Ok.ensures.meaning;
      same2 = c.set.ensures.meaning;
      added = c.in-Ok.ensures.added;
      written = written_is (g.E.Engine.meaning c.args.engine.now) (g.E.Engine.meaning c.add.new.self) (g.E.Engine.live c.args.engine.now) (g.E.Engine.live c.add.new.self) (g.E.Engine.live c.set.new.self) c.in-Ok.p.0 c.args.t.0 c.args.s.0 c.args.v.now c.in-Ok.ensures.added c.set.ensures.written;
    } in
    after_others l
