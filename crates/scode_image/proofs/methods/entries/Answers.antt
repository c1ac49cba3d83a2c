use Rattle.std.proofs.Common.{◌+◌}
use Rattle.std.proofs.lemmas.Result.{err_from_is_err_and}
use Rattle.scode_image.specs.Grammar.{entry, entries}
use Rattle.sed_wire.proofs.Rows.{one_more, refused, last}
use Rattle.scode_image.proofs.methods.entries.Goals as goal

pub returns-in_err-next : goal.returns-in_err-next
unfolding entries
returns-in_err-next c =
    let p = err_from_is_err_and c.from_residual.result c.from_residual.ensures.1 in
    rw (p.1, p.2) (refused (entry c.args.locals) (λ least e. e.place + 1) c.in_err-next.field-0.0 _ _ _ _ _ _ _ c.loop-test.true c.in_err-next.ensures c.loop.invariant)

pub loop-preserved : goal.loop-preserved
unfolding entries
loop-preserved c =
    rw (c.in_ok-push.ensures.items, c.from-least.ensures) (one_more (entry c.args.locals) (λ least e. e.place + 1) _ _ _ _ _ _ _ _ c.loop-test.true c.in_ok-next.ensures c.loop.invariant)

pub returns : goal.returns
unfolding entries
returns c =
    rw c.new.ensures (last (entry c.args.locals) (λ least e. e.place + 1) _ _ _ _ _ _ c.loop-test.false c.loop.invariant)
