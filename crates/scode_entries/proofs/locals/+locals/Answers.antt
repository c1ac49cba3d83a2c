use Rattle.std.proofs.Common.{sym, ap, ◌∙◌}
use Rattle.scode_entries.specs.LocalLists.{declared_kinds, block_kinds}
use Rattle.scode_entries.proofs.Declared.{block_kinds_hidden, put}
use Rattle.scode_entries.proofs.locals.+locals.Goals as goal

pub push_declared-returns-in-Switch : goal.push_declared-returns-in-Switch
push_declared-returns-in-Switch t c =
    put c.push_all_declared-in-Switch.result _ _ _ _ c.push_all_declared-in-Switch.ensures
    (ap declared_kinds c.in-Switch.is ∙ block_kinds_hidden c.in-Switch.all ∙ ap block_kinds (sym c.deref-in-Switch.ensures.value))
