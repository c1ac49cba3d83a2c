use Rattle.std.proofs.Common.{sym, subst}
use Rattle.sed_classes.specs.Indexed.{IsSame}
use Rattle.sed_classes.proofs.Groups.{no_more}
use Rattle.sed_classes.proofs.index.push_group.Goals as goal

pub returns-clause-same : goal.returns-clause-same
returns-clause-same c = subst (IsSame c.args.groups.now.items) (sym c.in_ok-push.ensures.items) (no_more c.args.groups.now.items c.no_places.result c.no_places.ensures)
