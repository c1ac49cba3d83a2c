use Rattle.std.proofs.Common.{◌≡◌, position, ap, ◌∙◌}
use Rattle.std.specs.Option.{option_and_then, option_copied, option_map}
use Rattle.sed_classes.specs.Members.{has_name, members_of, own_named}
use Rattle.sed_outline.specs.Rounds.{row_of}
use Rattle.sed_program.specs.Tables.{declared_in, declared_of, item_at}
use Rattle.sed_program.proofs.Found.{own_found}
use Rattle.sed_program.proofs.tables.Tables.own_named.Goals as goal

pub returns : goal.returns
returns c =
    let units = c.self.inside.ordered in
    let name = c.args.name.now in
    let first : c.place_of_member-first.result ≡ position (has_name name) (members_of units c.args.class) =
    c.place_of_member-first.ensures
    ∙ ap (λ u. position (has_name name) (members_of u c.args.class)) (c.classes.ensures ∙ c.based.ensures) in
    let found : option_copied c.placed_at.result ≡ option_map (declared_of units) (own_named units name c.args.class) =
    c.placed_at.ensures
    ∙ ap
    (λ rows. option_and_then (item_at rows c.args.class) c.place_of_member-first.result)
    (c.deref.ensures.value ∙ c.self.invariant.0)
    ∙ ap (option_and_then (item_at (row_of units (declared_in units)) c.args.class)) first
    ∙ own_found units c.args.class name in
    cc
