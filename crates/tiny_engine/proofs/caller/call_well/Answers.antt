use Rattle.std.proofs.Common.{◌≡◌, ℤ, subst, w64}
use Rattle.std.specs.Prelude.{IfSome}
use Rattle.std.specs.FinMap as finite
use Rattle.std.proofs.lemmas.Bool.{lt-ltb}
use Rattle.std.proofs.lemmas.Int.{to_z-of_z}
use Rattle.sed_engine.specs.Code.{root_of}
use Rattle.tiny_engine.proofs.CallerLemmas.{ends_well}
use Rattle.tiny_engine.proofs.caller.call_well.Goals as goal

pub returns-clause-well : goal.returns-clause-well
returns-clause-well g c =
    ends_well (g.E.Engine.meaning c.args.engine.now) c.schema-schema.ensures.whole (g.E.Engine.statics c.args.engine.now) c.schema-schema.ensures.statics c.args.r c.args.arg.now c.args.turns c.args.ticks
    c.requires.some_turns c.requires.most_turns (lt-ltb _ _ c.ranges.ticks.sfits) c.call.result (finite.get (g.E.Engine.live c.args.engine.now) c.args.p.0) (c.schema-schema.ensures.objects c.args.p.0)
    c.requires.live
    (subst (λ (n : ℤ). IfSome (finite.get (g.E.Engine.live c.args.engine.now) c.args.p.0) (λ o. c.call.result ≡ (root_of (g.E.Engine.meaning c.args.engine.now) o (g.E.Engine.statics c.args.engine.now) c.args.r c.args.arg.now c.args.turns n).end))
    (to_z-of_z w64 c.args.ticks c.ranges.ticks) c.call.ensures.end)
