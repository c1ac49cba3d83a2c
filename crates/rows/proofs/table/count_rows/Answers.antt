use Rattle.std.proofs.Common.{rules, tests, ◌∙◌}
use Rattle.std.proofs.lemmas.Iterator.Consumers.{YieldsList-at, YieldsList-from_filter, count_from_yields_List}
use Rattle.std.proofs.lemmas.Iterator.Splits.{YieldsList-from_lines}
use Rattle.std.proofs.lemmas.List.Sums.{length-filter}
use Rattle.std.specs.Str.Lines.{lines}
use Rattle.rows.specs.Fields.{is_row}
use Rattle.rows.proofs.table.count_rows.Goals as goal

pub returns : goal.returns
returns c =
    count_from_yields_List c.filter.result c.count.result c.count.ensures.ran
    (YieldsList-from_filter _ is_row
    (YieldsList-at c.filter.ensures.source (YieldsList-from_lines c.args.text.now c.lines.ensures.rest))
    c.filter.ensures.closure (λ x r q k. search (rules, tests)))
    ∙ length-filter is_row (lines c.args.text.now)
