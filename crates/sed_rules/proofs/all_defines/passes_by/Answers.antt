use Rattle.std.proofs.Common.{◌<◌, ℕ, sym, ap, ◌∙◌, arith}
use Rattle.std.proofs.lemmas.Bool.Decides.{nat_tests}
use Rattle.sed_classes.specs.declared.source_type.Constant.TheVariants as constant
use Rattle.sed_rules.specs.Settled.{ends_in, named_at, owned_at, placed}
use Rattle.sed_rules.proofs.Chains.{known_at, never_comes, placed_there}
use Rattle.sed_rules.proofs.all_defines.passes_by.Goals as goal

pub returns : goal.returns
returns c = λ less most.
    let units = c.args.classes.now in
    let left = c.in-Some-settled_at.left in
    let own = c.in-Some-settled_standing.own in
    let few : left.steps < own.steps = grind (arith, nat_tests) in
    never_comes
    units
    c.args.class
    own.place.number
    c.args.at
    own.steps
    (c.requires.apart c.args.class (c.is_apart.ensures c.if-not-is_apart.false))
    c.in-Some-settled_standing.ensures.stands
    (ap
    (λ (k : ℕ). ends_in units own.steps (owned_at units (placed k own.place.number)))
    (sym c.in-Some-settled_standing.ensures.class)
    ∙ (c.in-Some-settled_standing.ensures.known units c.requires.settled constant.Unknown).ends)
    most
    left.steps
    (named_at units c.args.next)
    (placed_there units c.args.next)
    (ap (λ n. ends_in units left.steps (named_at units n)) c.in-Some.is
    ∙ (known_at
    units
    left
    c.in-Some.first
    constant.Unknown
    c.in-Some-settled_at.ensures.place
    (c.in-Some-settled_at.ensures.known units c.requires.settled)).ends)
    few
