use Rattle.std.proofs.Common.{arith, sym}
use Rattle.sed_faults.proofs.Rows.{said_step}
use Rattle.sed_first_fault.specs.Counts.{count_as, passing}
use Rattle.sed_first_fault.proofs.Capped.{begun_step, passing_at}
use Rattle.sed_first_fault.proofs.passed.passed_fault.Goals as goal

pub loop-number-preserved : goal.loop-number-preserved
loop-number-preserved c =
    let count = count_as c.args.counted c.args.measured.now c.args.kit in
    record {
      sum = begun_step
          count
          c.args.start
          c.loop-number.number
          c.args.members.now
          c.index-members-number.result
          c.loop-number.before
          c.add-before.result
          c.count_of-more.result
          (omega arith)
          (sym c.index-members-number.is)
          c.count_of-more.ensures
          c.add-before.ensures
          c.loop-number.invariant.sum;
      so_far = said_step
          (passing c.args.most count c.args.start c.args.members.now)
          c.loop-number.number
          c.args.members.now
          c.index-members-number.result
          c.loop-number.first
          c.broken_if.result
          c.joined-first.result
          (omega arith)
          (sym c.index-members-number.is)
          (passing_at
          c.args.most
          c.args.start
          c.loop-number.number
          count
          c.args.members.now
          c.index-members-number.result
          c.loop-number.before
          c.count_of-more.result
          c.passes.result
          c.broken_if.result
          c.requires
          c.loop-number.invariant.sum
          c.count_of-more.ensures
          c.passes.ensures
          c.broken_if.ensures)
          c.joined-first.ensures.lesser
          c.loop-number.invariant.so_far;
    }
