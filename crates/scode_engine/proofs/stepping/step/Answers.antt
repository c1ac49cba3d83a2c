use Rattle.scode_engine.specs.AtWork.{Rooted, Running, running_on, setting_of, shared_by}
use Rattle.scode_engine.specs.Root.{rooted}
use Rattle.scode_engine.proofs.Steps.{may_here, stepped}
use Rattle.scode_engine.proofs.stepping.step.Goals as goal

pub fetch-op-requires-clause-stands : goal.fetch-op-requires-clause-stands
fetch-op-requires-clause-stands c =
    let q : Rooted = rooted c.args.call.now in
    let r : Running = running_on c.args.cells.now c.args.pool.now c.args.left.now in
    c.fine_frames_may_go_on.ensures.stands (setting_of q) c.requires.work.given q.place r.cells (shared_by q r)
    c.requires.work.verified c.requires.work.fine

pub do_instruction-requires-clause-next : goal.do_instruction-requires-clause-next
do_instruction-requires-clause-next c =
    let q : Rooted = rooted c.args.call.now in
    let r : Running = running_on c.args.cells.now c.args.pool.now c.args.left.now in
    let work = c.requires.work in
    record {
      runs = work.runs;
      fits = c.fetch-op.ensures.fits;
      may = may_here q r work c.fetch-op.result.now c.fetch-op.ensures.op
          (c.fine_frames_may_go_on.ensures.typed (setting_of q) work.given q.place r.cells (shared_by q r)
          c.fetch-op.result.now work.verified work.own work.fine c.fetch-op.ensures.op)
          (c.fine_frames_may_go_on.ensures.room (setting_of q) work.given q.place r.cells (shared_by q r)
          c.fetch-op.result.now work.verified work.own work.fine work.cells c.fetch-op.ensures.op)
          (c.fine_frames_may_go_on.ensures.room_for (setting_of q) work.given q.place r.cells (shared_by q r)
          c.fetch-op.result.now work.verified work.own work.fine work.cells c.fetch-op.ensures.op);
    }

pub returns : goal.returns
returns c =
    let q : Rooted = rooted c.args.call.now in
    let r : Running = running_on c.args.cells.now c.args.pool.now c.args.left.now in
    let new : Running =
    running_on c.do_instruction.new.cells c.do_instruction.new.pool c.do_instruction.new.left in
    stepped q r c.requires.work c.fetch-op.result.now c.fetch-op.ensures.op c.do_instruction.result new
    c.do_instruction.ensures
    c.fine_machines_go_on.ensures.goes_on
    (c.instructions_are_steps.ensures (setting_of q) q.place r.cells (shared_by q r) c.fetch-op.result.now
    c.fetch-op.ensures.op)
