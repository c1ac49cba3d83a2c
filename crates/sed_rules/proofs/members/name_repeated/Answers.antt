use Rattle.std.proofs.Common.{[], take, ap, ◌∙◌}
use Rattle.std.specs.List.{list_any}
use Rattle.std.specs.Option.{option_map_or}
use Rattle.sed_faults.specs.Faults.{broken_if, least}
use Rattle.sed_classes.specs.Declarations.{class_at}
use Rattle.sed_classes.specs.Members.{has_name}
use Rattle.sed_rules.proofs.members.name_repeated.Goals as goal

pub returns : goal.returns
returns c =
    c.broken_if.ensures
    ∙ ap (λ taken. least (broken_if taken 4 c.args.member.now.at)) (
    c.declares_before-taken.ensures
    ∙ ap (λ bytes. list_any (has_name bytes) (take c.args.number (option_map_or (λ d. d.class.members) (class_at c.args.classes.now c.args.class) []))) c.as_slice.ensures
    ∙ ap (λ found. list_any (has_name c.args.member.now.name.bytes) (take c.args.number (option_map_or (λ d. d.class.members) found []))) c.requires
    )
