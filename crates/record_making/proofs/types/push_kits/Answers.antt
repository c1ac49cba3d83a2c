use Rattle.std.proofs.Common.{◌∙◌}
use Rattle.record_making.proofs.TypeLemmas.{one_kit_more}
use Rattle.record_making.proofs.types.push_kits.Goals as goal

pub loop-kit-preserved : goal.loop-kit-preserved
loop-kit-preserved g c =
    let m = g.E.Engine.meaning c.args.engine.now in
    let n = g.E.Engine.meaning c.loop-kit.engine in
    let before = c.loop-kit.invariant in (
      one_kit_more m n c.args.types.now.items c.loop-kit.types.items _ c.loop-kit.kit before.2 before.0 c.in_ok-push_kit.ensures.types,
      c.in_ok-push_kit.ensures.bare,
      c.push_kit.ensures.meaning ∙ before.2,
      c.push_kit.ensures.limit ∙ before.3,
    )
