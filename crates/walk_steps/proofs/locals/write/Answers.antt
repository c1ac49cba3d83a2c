use Rattle.std.proofs.Common.{◌<◌, ◌≤◌, length, arith}
use Rattle.walk_steps.specs.Seen.{seen}
use Rattle.walk_steps.proofs.Writes.{local-written, local-missing}
use Rattle.walk_steps.proofs.locals.write.Goals as goal

pub returns-then-number-locals-clause-end : goal.returns-then-number-locals-clause-end
returns-then-number-locals-clause-end c = λ plan class.
    let inside : c.args.number < length c.args.locals.now = omega arith in
    local-written (seen plan class) c.args.locals.now c.args.number c.args.value inside

pub returns-else-number-locals-clause-end : goal.returns-else-number-locals-clause-end
returns-else-number-locals-clause-end c = λ plan class.
    let past : length c.args.locals.now ≤ c.args.number = omega arith in
    local-missing (seen plan class) c.args.locals.now c.args.number (seen plan class c.args.value) past
