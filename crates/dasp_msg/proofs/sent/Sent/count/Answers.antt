use Rattle.std.proofs.Common.{◌++◌, arith, length-append}
use Rattle.dasp_msg.specs.Writing.{listed}
use Rattle.dasp_msg.proofs.sent.Sent.count.Goals as goal

pub returns : goal.returns
returns c =
    let a = listed c.args.self.now.first in
    let b = listed c.args.self.now.second in
    let d = listed c.args.self.now.third in
    omega (
      arith,
      length-append a (b ++ d),
      length-append b d,
      c.one_if_there.ensures.count,
      c.one_if_there-2.ensures.count,
      c.one_if_there-3.ensures.count,
    )
