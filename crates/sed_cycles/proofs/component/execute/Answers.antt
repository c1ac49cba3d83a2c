use Rattle.std.proofs.Common.{refl, w64}
use Rattle.std.proofs.lemmas.Int.{to_z-of_z}
use mir.Val.{of_z, to_z}
use Rattle.sed_engine.specs.declared.call.Root.TheVariants.{Execute}
use Rattle.sed_engine.specs.Code.{root_of}
use Rattle.sed_cycles.proofs.Executing.{answered_at, stands_on, stays_live}
use Rattle.sed_cycles.proofs.component.execute.Goals as goal

pub returns-clause-executed : goal.returns-clause-executed
returns-clause-executed g c = λ a s.
    let m = g.E.Engine.meaning c.args.engine.now in
    let live = g.E.Engine.live c.args.engine.now in
    let statics = g.E.Engine.statics c.args.engine.now in
    let live2 = g.E.Engine.live c.call-end.new.self in
    let statics2 = g.E.Engine.statics c.call-end.new.self in
    stands_on m live live2 statics statics2 c.call-end.result c.args.turns c.args.moment c.args.component.now _ a s c.if-component-ne0.false
    (answered_at m live live2 statics statics2 c.call-end.result c.args.component.now.place.0 c.args.turns c.args.moment _ c.new-nothing.result a.object s.object
    (to_z-of_z w64 c.args.moment c.ranges.moment) c.new-nothing.ensures c.call-end.ensures.left c.call-end.ensures.statics c.call-end.ensures.end)
    refl refl c.fault_of-component.ensures

pub returns-clause-live : goal.returns-clause-live
returns-clause-live g c =
    stays_live (g.E.Engine.live c.args.engine.now) (g.E.Engine.live c.call-end.new.self) c.args.component.now.place.0 c.args.component.now.class.0
    (λ o. root_of (g.E.Engine.meaning c.args.engine.now) o (g.E.Engine.statics c.args.engine.now) Execute c.new-nothing.result c.args.turns (to_z w64 (of_z w64 c.args.moment))) c.requires.live c.call-end.ensures.left
