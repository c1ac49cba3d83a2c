use Rattle.std.proofs.Common.{rules, ap, sym, ◌∙◌, Some}
use Rattle.std.specs.Prelude.{slice_get}
use Rattle.std.specs.List.{enumerate_from}
use Rattle.std.proofs.lemmas.Option.{slice_get-get_or}
use Rattle.printed_app.proofs.Sequence.{all_put, one_fails, one_more, placed, placed_all}
use Rattle.sed_cycles.specs.Alone as alone
use Rattle.sed_cycles.proofs.text.put_slot_lines.Goals as goal

pub put_slot_line-requires-clause-slot : goal.put_slot_line-requires-clause-slot
put_slot_line-requires-clause-slot g c =
    ap (λ l. slice_get l c.loop-number.number) (sym c.requires.slots) ∙ slice_get-get_or c.args.slots.now c.loop-number.number _ c.loop-number-test.true
    ∙ ap (λ s. Some s) (sym c.index-slots-number.is)

pub loop-number-preserved : goal.loop-number-preserved
loop-number-preserved g c = λ o at.
    one_more (alone.slot_line (g.E.Engine.meaning c.args.engine.now) o) (enumerate_from 0 c.args.slots.now)
    c.loop-number.number _
    (placed c.args.slots.now c.loop-number.number c.index-slots-number.result c.loop-number-test.true c.index-slots-number.is)
    (c.loop-number.invariant o at) (c.in_ok-put_slot_line.ensures o at)

pub returns-in_err-put_slot_line : goal.returns-in_err-put_slot_line
returns-in_err-put_slot_line g c = λ o at.
    one_fails (alone.slot_line (g.E.Engine.meaning c.args.engine.now) o) (enumerate_from 0 c.args.slots.now)
    c.loop-number.number _
    (placed c.args.slots.now c.loop-number.number c.index-slots-number.result c.loop-number-test.true c.index-slots-number.is)
    (c.loop-number.invariant o at) (c.in_err-put_slot_line.ensures o at) c.from_residual.ensures.0

pub returns : goal.returns
returns g c = λ o at.
    all_put (alone.slot_line (g.E.Engine.meaning c.args.engine.now) o) (enumerate_from 0 c.args.slots.now)
    c.loop-number.number (placed_all c.args.slots.now c.loop-number.number (search rules)) (c.loop-number.invariant o at)
