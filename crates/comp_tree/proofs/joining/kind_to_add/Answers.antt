use Rattle.std.proofs.Common.{sym, ap, ◌∙◌}
use Rattle.sed_typed.specs.Schemas.{type_at}
use Rattle.comp_tree.proofs.AllowedLemmas.{no_such_kind}
use Rattle.comp_tree.proofs.joining.kind_to_add.Goals as goal

pub returns-in_default : goal.returns-in_default
returns-in_default c = λ m same. no_such_kind m c.args.kit c.args.number (ap (λ s. type_at s.classes c.args.kit c.args.number) same ∙ sym c.in_default.ensures)
