use Rattle.scode_code.proofs.Parts.{ref_leads}
use Rattle.scode_code.proofs.laws.references_lead_to_their_places.Goals as goal

pub returns : goal.returns
returns c = ref_leads
