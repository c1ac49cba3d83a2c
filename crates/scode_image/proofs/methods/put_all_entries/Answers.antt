use Rattle.std.proofs.Common.{◌+◌}
use Rattle.scode_image.specs.Grammar.{entry, entries}
use Rattle.scode_image.proofs.Putting.{row_begins, row_goes_on, row_ends, none_left, next_left}
use Rattle.scode_image.proofs.methods.put_all_entries.Goals as goal

pub loop-entry-init : goal.loop-entry-init
loop-entry-init c = λ locals count. row_begins (entry locals) (λ least e. e.place + 1) count 0 _ _

pub loop-entry-preserved : goal.loop-entry-preserved
loop-entry-preserved c = λ locals count.
    row_goes_on (entry locals) (λ least e. e.place + 1) count 0 _ _ _ _ c.loop-entry.entry-index _
    (next_left c.loop-entry.entry-index c.args.entries.now _ c.loop-entry-test.true c.entry-item.is) (λ least. c.in_ok-put_entry.ensures locals least) (c.loop-entry.invariant locals count)

pub returns : goal.returns
unfolding entries
returns c = λ locals count.
    row_ends (entry locals) (λ least e. e.place + 1) count 0 _ _ _ c.loop-entry.entry-index
    (none_left c.loop-entry.entry-index c.args.entries.now c.loop-entry-test.false) (c.loop-entry.invariant locals count)
