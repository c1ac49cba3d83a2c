use Rattle.std.proofs.Common.{length, min, ap, ◌∙◌, arith}
use Rattle.scode_entries.specs.LocalLists.{declared_kinds, block_kinds}
use Rattle.scode_entries.proofs.Declared.{block_kinds_hidden}
use Rattle.scode_entries.proofs.locals.+counts.Goals as goal

pub count_declared-returns-in-Switch : goal.count_declared-returns-in-Switch
count_declared-returns-in-Switch t c =
    let a = ap (λ s. length (declared_kinds s)) c.in-Switch.is ∙ ap (λ ks. length ks) (block_kinds_hidden c.in-Switch.all) in
    let b = ap (λ ss. length (block_kinds ss)) c.deref-in-Switch.ensures.value in
    omega (arith, a, b, c.count_all_declared-in-Switch.ensures)
