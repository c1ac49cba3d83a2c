use Rattle.kit_sources.proofs.Whole.{kits_done, kits_stop}
use Rattle.kit_sources.proofs.kits.read_ordered.Goals as goal

pub returns-in-Ok-names_in-clause-read : goal.returns-in-Ok-names_in-clause-read
returns-in-Ok-names_in-clause-read g c =
    kits_done g.F.Files c.args.files.now c.read_each.new.files c.args.manifests.now c.args.order.now c.in-Ok.kits c.in-Ok-names_in.files c.in-Ok-names_in.ensures c.in-Ok.ensures.read

pub returns-in-Err-clause-read : goal.returns-in-Err-clause-read
returns-in-Err-clause-read g c =
    kits_stop g.F.Files c.args.files.now c.read_each.new.files c.args.manifests.now c.args.order.now c.in-Err.refusal c.in-Err.ensures.read
