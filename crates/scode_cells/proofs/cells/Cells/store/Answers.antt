use Rattle.std.proofs.Common.{arith}
use Rattle.scode_cells.proofs.Told.{on_locals, store_told}
use Rattle.scode_cells.proofs.cells.Cells.store.Goals as goal

pub returns : goal.returns
returns c =
    let lt = c.requires in
    let is_on = on_locals c.self.inside c.self.invariant c.args.self.now c.self.view_is (omega arith) in
    store_told c.self.inside c.self.invariant c.args.self.now c.self.view_is is_on c.args.i c.args.v c.requires
