use Rattle.scode_cells.proofs.Told.{on, push_kept_told, push_told}
use Rattle.scode_cells.proofs.cells.Cells.push.Goals as goal

pub invariant_of-self : goal.invariant_of-self
invariant_of-self c =
    let is_on = on c.self.inside c.self.invariant c.args.self.now c.self.view_is c.requires.running in
    push_kept_told c.self.inside c.self.invariant c.args.self.now c.self.view_is is_on c.args.v c.requires.room

pub returns : goal.returns
returns c =
    let is_on = on c.self.inside c.self.invariant c.args.self.now c.self.view_is c.requires.running in
    push_told c.self.inside c.self.invariant c.args.self.now c.self.view_is is_on c.args.v c.requires.room
