use Rattle.std.proofs.Common.{Option, sym, ap, subst, ◌∙◌}
use Rattle.sed_classes.specs.Members.{Owned, form_value}
use Rattle.sed_rules.specs.Plains.{as_constant}
use Rattle.sed_rules.specs.Reading.{plain_value}
use Rattle.sed_rules.specs.Settled.{ComesTo, named_at}
use Rattle.sed_rules.proofs.Chains.{known_at}
use Rattle.sed_rules.proofs.settled.settled_after.Goals as goal

pub settled_with-requires-clause-comes : goal.settled_with-requires-clause-comes
settled_with-requires-clause-comes c =
    let units = c.args.classes.now in
    let known = c.in-Some-settled_at.known in
    let last = plain_value (form_value c.args.member.now.form) in
    let P : Option Owned → Type 0 = λ o. ComesTo units o last known.steps (as_constant known.value) in
    subst
    P
    (ap (named_at units) (sym c.in-Some.is) ∙ c.requires.next)
    (known_at
    units
    known
    c.in-Some.inner
    last
    c.in-Some-settled_at.ensures.place
    (c.in-Some-settled_at.ensures.known units c.requires.settled))
