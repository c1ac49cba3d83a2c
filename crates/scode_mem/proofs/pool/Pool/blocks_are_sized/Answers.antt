use Rattle.scode_mem.proofs.Told.{sized_told}
use Rattle.scode_mem.proofs.pool.Pool.blocks_are_sized.Goals as goal

pub returns : goal.returns
returns c = λ place. sized_told c.self.inside c.self.invariant c.args.self.now c.self.view_is place
