use Rattle.std.proofs.Common.{sym}
use Rattle.sed_classes.proofs.Counts.{leads_to_end}
use Rattle.sed_classes.proofs.bases.Based.leads_back.Goals as goal

pub returns-in-Some : goal.returns-in-Some
returns-in-Some c = sym (leads_to_end c.args.self.now c.in-Some.field-0 c.args.class c.in-Some.ensures.ends)
