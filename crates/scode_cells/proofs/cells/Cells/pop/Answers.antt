use Rattle.std.proofs.Common.{◌≡◌, ◌-◌, get_or, sym, ap, ◌∙◌, arith}
use Rattle.scode_cells.proofs.Told.{end, on_stack, pop_told, stack_told, top_told}
use Rattle.scode_cells.proofs.cells.Cells.pop.Goals as goal

pub index-requires : goal.index-requires
index-requires c =
    let is_on = on_stack c.self.inside c.self.invariant c.args.self.now c.self.view_is c.requires in
    let far = end c.self.inside c.self.invariant c.args.self.now c.self.view_is is_on in
    let long = stack_told c.self.inside c.self.invariant c.args.self.now c.self.view_is is_on in
    let some = c.requires in
    omega arith

pub returns-clause-top : goal.returns-clause-top
returns-clause-top c =
    let is_on = on_stack c.self.inside c.self.invariant c.args.self.now c.self.view_is c.requires in
    let at : c.self.inside.frame.top - 1 - 0 ≡ c.self.inside.frame.top - 1 = omega arith in
    top_told c.self.inside c.self.invariant c.args.self.now c.self.view_is is_on 0 c.index.result.now c.requires
    (c.index.ensures ∙ ap (λ k. get_or c.self.inside.row.items k c.index.result.now) (sym at))

pub returns-clause-rest : goal.returns-clause-rest
returns-clause-rest c =
    let is_on = on_stack c.self.inside c.self.invariant c.args.self.now c.self.view_is c.requires in
    pop_told c.self.inside c.self.invariant c.args.self.now c.self.view_is is_on c.requires
