use Rattle.std.proofs.Common.{◌∙◌, arith}
use Rattle.record_making.proofs.TypeLemmas.{few_types, one_type_more}
use Rattle.record_making.proofs.types.push_kit.Goals as goal

pub overflow_cast-number : goal.overflow_cast-number
overflow_cast-number g c =
    let m = g.E.Engine.meaning c.args.engine.now in
    let few = few_types m _ _ c.args.kit _ _ c.schema.ensures.whole.tables c.schema.ensures.same c.as_slice.ensures c.type_count-count.ensures c.loop-number-test.true in
    omega (arith, few)

pub loop-number-preserved : goal.loop-number-preserved
loop-number-preserved g c =
    let m = g.E.Engine.meaning c.args.engine.now in
    let n = g.E.Engine.meaning c.loop-number.engine in
    let before = c.loop-number.invariant in (
      one_type_more m n c.args.kit c.args.types.now.items c.loop-number.types.items _ c.loop-number.number before.2 before.0 c.in_ok-push_drawn.ensures.types,
      c.in_ok-push_drawn.ensures.bare,
      c.push_drawn.ensures.meaning ∙ before.2,
      c.push_drawn.ensures.limit ∙ before.3,
    )
