use Rattle.std.proofs.Common.{ap, sym, ◌∙◌, Option, ℕ}
use Rattle.std.specs.Option.{option_and_then}
use Rattle.sed_typed.specs.Schemas.{numbered}
use Rattle.scode_tables.proofs.Climbing.{type_at_is}
use Rattle.scode_tables.proofs.lookup.type_at.Goals as goal

pub returns : goal.returns
returns c =
    c.numbered.ensures ∙ ap (λ (o : Option ℕ). option_and_then numbered o) c.place_of.ensures
    ∙ sym (type_at_is c.args.image.now c.args.kit c.args.number)
