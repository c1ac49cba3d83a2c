use Rattle.std.proofs.Common.{None, Some, sym, ap, ◌∙◌}
use Rattle.sed_classes.specs.Entries.{declaration_of}
use Rattle.sed_first_fault.proofs.Together.{placed_first}
use Rattle.sed_first_fault.proofs.firsts.placed.Goals as goal

pub returns-in-Some : goal.returns-in-Some
returns-in-Some c xs e =
    ap Some c.placed_in.ensures
    ∙ placed_first (declaration_of c.args.entry.now) xs (Some c.in-Some.fault) (sym c.in-Some.is ∙ e)

pub returns-in-None : goal.returns-in-None
returns-in-None c xs e = placed_first (declaration_of c.args.entry.now) xs None (sym c.in-None.is ∙ e)
