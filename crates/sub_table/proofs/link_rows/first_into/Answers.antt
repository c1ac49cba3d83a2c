use Rattle.std.proofs.Common.{◌==◌, rules, tests, ◌∙◌}
use Rattle.std.proofs.lemmas.Iterator.{YieldsList-from_slice}
use Rattle.std.proofs.lemmas.Iterator.Search.{find_from_yields_List}
use Rattle.sub_table.specs.Link.{Link}
use Rattle.sub_table.proofs.link_rows.first_into.Goals as goal

pub returns : goal.returns
returns c =
    c.copied.ensures
    ∙ find_from_yields_List (λ (l : Link). l.to_slot == c.args.slot) _ _ c.find.result c.find.ensures.ran (YieldsList-from_slice c.args.links.now cc) (λ x b q k. search (rules, tests))
