use Rattle.std.proofs.Common.{sym, ap, ◌∙◌}
use Rattle.sed_typed.specs.Kinds as kinds
use Rattle.scode_emit.specs.Lists.{kind_behind}
use Rattle.scode_emit.proofs.RowLemmas.{kind_after_hidden}
use Rattle.scode_emit.proofs.kinds.+kinds.Goals as goal

pub kind_of-returns-in-Chain : goal.kind_of-returns-in-Chain
kind_of-returns-in-Chain t c =
    let head = kinds.kind_of c.in-Chain.head.value in
    c.kind_behind.ensures
    ∙ ap (λ k. kind_behind k c.deref-in-Chain-2.result.now) (c.kind_of-in-Chain.ensures ∙ ap kinds.kind_of c.deref-in-Chain.ensures)
    ∙ ap (kind_behind head) c.deref-in-Chain-2.ensures.value
    ∙ sym (kind_after_hidden head c.in-Chain.links)
    ∙ ap kinds.kind_of (sym c.in-Chain.is)
