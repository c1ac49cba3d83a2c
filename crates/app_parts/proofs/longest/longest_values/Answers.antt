use Rattle.std.proofs.Common.{◌+◌, List, min, sym, ◌∙◌, ap, subst}
use Rattle.sed_typed.specs.declared.schema.SlotInfo.{SlotInfo}
use Rattle.app_parts.specs.Longest.{values_size}
use Rattle.app_parts.proofs.Lengths.{IsLongest, longest-last, longest-next}
use Rattle.app_parts.proofs.longest.longest_values.Goals as goal

pub loop-class-preserved : goal.loop-class-preserved
loop-class-preserved c =
    let more = c.values_size.ensures ∙ ap (λ (ss : List SlotInfo). min 400 (values_size c.args.which ss)) c.as_slice.ensures in
    subst (IsLongest c.args.which c.args.classes.now (c.loop-class.class-index + 1)) (sym c.max-longest.ensures)
    (longest-next c.args.which c.args.classes.now c.loop-class.class-index c.loop-class.longest c.values_size.result c.class-item.result
    c.loop-class-test.true c.class-item.is more c.loop-class.invariant)

pub returns : goal.returns
returns c = longest-last c.args.which c.args.classes.now c.loop-class.class-index c.loop-class.longest c.loop-class-test.false c.loop-class.invariant
