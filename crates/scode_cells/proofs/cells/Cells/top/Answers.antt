use Rattle.std.proofs.Common.{arith}
use Rattle.scode_cells.proofs.Told.{end, on_stack, stack_told, top_told}
use Rattle.scode_cells.proofs.cells.Cells.top.Goals as goal

pub index-requires : goal.index-requires
index-requires c =
    let lt = c.requires in
    let is_on = on_stack c.self.inside c.self.invariant c.args.self.now c.self.view_is (omega arith) in
    let far = end c.self.inside c.self.invariant c.args.self.now c.self.view_is is_on in
    let long = stack_told c.self.inside c.self.invariant c.args.self.now c.self.view_is is_on in
    omega arith

pub returns : goal.returns
returns c =
    let lt = c.requires in
    let is_on = on_stack c.self.inside c.self.invariant c.args.self.now c.self.view_is (omega arith) in
    top_told c.self.inside c.self.invariant c.args.self.now c.self.view_is is_on c.args.n c.index.result.now c.requires c.index.ensures
