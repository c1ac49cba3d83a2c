use Rattle.std.proofs.Common.{sym, ap, ◌∙◌}
use Rattle.sed_rules.specs.Plains.{as_constant}
use Rattle.sed_rules.specs.Settled.{named_at, owned_at}
use Rattle.sed_rules.proofs.Chains.{comes_known, known_at}
use Rattle.sed_rules.proofs.all_defines.constant_with.Goals as goal

pub returns-in-Some-settled_at : goal.returns-in-Some-settled_at
returns-in-Some-settled_at c =
    let units = c.args.based.now in
    let settled = c.in-Some-settled_at.settled in
    comes_known
    units
    c.args.class
    c.args.init.now
    (owned_at units c.in-Some.place)
    settled.steps
    (as_constant settled.value)
    (ap (named_at units) (sym c.in-Some.is) ∙ c.in_ok-place.ensures)
    (λ last. known_at
    units
    settled
    c.in-Some.place
    last
    c.in-Some-settled_at.ensures.place
    (c.in-Some-settled_at.ensures.known units c.requires))
