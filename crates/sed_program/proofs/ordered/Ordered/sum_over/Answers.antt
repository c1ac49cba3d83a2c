use Rattle.sed_program.proofs.Sums.{sum_over_is}
use Rattle.sed_program.proofs.ordered.Ordered.sum_over.Goals as goal

pub returns : goal.returns
returns c =
    sum_over_is
    c.args.part
    c.args.self.now
    c.counts.result.now
    c.args.classes.now
    c.sum_over.result
    c.counts.ensures
    c.sum_over.ensures
