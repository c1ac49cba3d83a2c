use Rattle.std.proofs.Common.{◌≡◌, rules}
use Rattle.sed_body_rules.specs.Scope.{Scope, cut}
use Rattle.sed_body_rules.proofs.Scopes.{left_row, left_cases}
use Rattle.sed_body_rules.proofs.locals.Locals.leave.Goals as goal

pub returns-clause-row : goal.returns-clause-row
returns-clause-row c n s t h at =
    let new : Scope = record { entries = c.truncate.new.self.items; next = c.self.inside.next; limit = c.self.inside.limit } in
    let e : new ≡ cut c.args.mark c.args.self.now = search rules in
    left_row n s c.args.self.now new c.args.mark t e h at

pub returns-clause-cases : goal.returns-clause-cases
returns-clause-cases c n s t h at =
    let new : Scope = record { entries = c.truncate.new.self.items; next = c.self.inside.next; limit = c.self.inside.limit } in
    let e : new ≡ cut c.args.mark c.args.self.now = search rules in
    left_cases n s c.args.self.now new c.args.mark t e h at
