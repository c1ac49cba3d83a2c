use Rattle.std.proofs.Common.{List, subst, sym, ◌∙◌, arith}
use Rattle.scode_verify.specs.declared.changes.Cell.{Cell}
use Rattle.scode_verify.specs.Words.{GoBut}
use Rattle.scode_verify.proofs.Going.{goes_by}
use Rattle.scode_verify.proofs.changes.goes_again.Goals as goal

pub returns-else-cells-stack : goal.returns-else-cells-stack
returns-else-cells-stack c =
    let image = c.args.image.now in
    let e = c.args.entry.now in
    c.all_go_at.ensures
    ∙ goes_by image c.in-Some.cells.now c.args.locals.now c.args.stack.now e
    (omega (arith, c.len.ensures, c.if-locals-len.false))
    (omega (arith, c.len-else-locals-len.ensures, c.if-stack-len.false))
    (subst (λ (cells : List Cell). GoBut image cells c.args.locals.now c.args.stack.now e)
    (sym c.in-Some.ensures.cells) (c.requires.known c.in-Some.ensures.known))
