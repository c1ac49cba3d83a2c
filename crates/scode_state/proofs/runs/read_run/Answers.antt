use Rattle.std.proofs.Common.{◌≡◌, ◌<◌, length, arith}
use Rattle.scode_mem.specs.Blocks.{bytes_of}
use Rattle.scode_state.proofs.Joined.{read_step}
use Rattle.scode_state.proofs.runs.read_run.Goals as goal

pub loop-i-preserved : goal.loop-i-preserved
loop-i-preserved c =
    let long : length c.loop-i.into ≡ length c.args.into.now = c.loop-i.auto.into in
    let within : c.loop-i.i < length c.args.into.now = c.loop-i-test.true in
    read_step (bytes_of c.args.pool.now c.args.b) c.loop-i.into c.args.at c.loop-i.i c.read.result (length c.args.into.now)
    c.requires.there within (omega (arith, long, within)) c.loop-i.invariant c.read.ensures.number
