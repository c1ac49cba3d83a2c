use Rattle.std.proofs.Common.{position, sym, ap, ◌∙◌}
use Rattle.std.specs.Option.{option_map}
use Rattle.sed_classes.specs.FoundMembers.{owned_of}
use Rattle.sed_classes.specs.Members.{has_name, members_of}
use Rattle.sed_rules.specs.Settled.{named_at, placed}
use Rattle.sed_rules.proofs.Chains.{named_placed}
use Rattle.sed_rules.proofs.define_places.place_named.Goals as goal

pub returns-in-Some : goal.returns-in-Some
returns-in-Some c =
    let units = c.args.based.now in
    let found = c.in-Some.found in
    ap
    (named_at units)
    (c.first_named.ensures
    ∙ ap
    (λ u. option_map (placed found.class) (position (has_name c.args.name.now) (members_of u found.class)))
    c.classes.ensures)
    ∙ named_placed
    units
    c.args.class
    c.args.name.now
    (owned_of found)
    (ap (option_map owned_of) (sym c.in-Some.is) ∙ c.in_ok-found.ensures)
