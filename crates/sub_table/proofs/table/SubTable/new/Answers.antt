use Rattle.sub_table.proofs.TableLemmas.{first_widths, nothing_at}
use Rattle.sub_table.proofs.table.SubTable.new.Goals as goal

pub returns-clause-none : goal.returns-clause-none
returns-clause-none c =
    nothing_at (record { tree = c.in_ok-tree.tree; config = c.in_ok-config.config; runtime = c.in_ok-runtime.runtime; links = c.in_ok-links.links })
    c.in_ok-tree.ensures.none c.in_ok-config.ensures.none c.in_ok-runtime.ensures.none c.in_ok-links.ensures.none

pub returns-clause-widths : goal.returns-clause-widths
returns-clause-widths c =
    first_widths (record { tree = c.in_ok-tree.tree; config = c.in_ok-config.config; runtime = c.in_ok-runtime.runtime; links = c.in_ok-links.links }) c.args.widths
    c.in_ok-tree.ensures.width c.in_ok-config.ensures.width c.in_ok-runtime.ensures.width c.in_ok-links.ensures.width
