use Rattle.std.proofs.Common.{sym}
use Rattle.sed_value.proofs.ShownLemmas.{shown-word}
use Rattle.sed_value.proofs.shown.show_name.Goals as goal

pub returns : goal.returns
returns g c = rw (sym (shown-word c.args.name.now c.requires)) c.show.ensures
