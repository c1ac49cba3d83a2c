use Rattle.std.proofs.Common.{◌∙◌, [], drop, sym, ap, arith}
use Rattle.std.proofs.lemmas.List.{at_drop_all}
use Rattle.scode_entries.specs.EntryLists.{with_entries}
use Rattle.scode_entries.proofs.Once.{entries_are}
use Rattle.scode_entries.proofs.entries.entries_of.Goals as goal

pub returns : goal.returns
returns c =
    let locals = c.args.locals.now in
    let marks = c.args.marks.now in
    sym (at_drop_all (λ ms. with_entries locals c.loop-mark.entries.items ms) marks c.loop-mark.mark-index (omega arith))
    ∙ c.loop-mark.invariant ∙ entries_are locals marks
