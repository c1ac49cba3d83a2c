use Rattle.scode_image.proofs.Putting.{row_begins, row_goes_on, row_ends, none_left, next_left}
use Rattle.scode_image.proofs.items.put_all.Goals as goal

pub loop-item-init : goal.loop-item-init
loop-item-init g c = λ count. row_begins (λ (s : Unit {0}). g.T.Item.form) (λ s a. s) count tt _ _

pub loop-item-preserved : goal.loop-item-preserved
loop-item-preserved g c = λ count.
    row_goes_on (λ (s : Unit {0}). g.T.Item.form) (λ s a. s) count tt _ _ _ _ c.loop-item.item-index _
    (next_left c.loop-item.item-index c.args.items.now _ c.loop-item-test.true c.item-item.is) (λ t. c.in_ok-put.ensures) (c.loop-item.invariant count)

pub returns : goal.returns
returns g c = λ count.
    row_ends (λ (s : Unit {0}). g.T.Item.form) (λ s a. s) count tt _ _ _ c.loop-item.item-index
    (none_left c.loop-item.item-index c.args.items.now c.loop-item-test.false) (c.loop-item.invariant count)
