use Rattle.scode_whole.proofs.Rule.{agrees}
use Rattle.scode_state.proofs.Leading.{object_found, object_leads, str_found, str_leads}
use Rattle.scode_state.proofs.laws.cells_lead_to_parts.Goals as goal

pub returns-clause-object : goal.returns-clause-object
returns-clause-object c = object_leads

pub returns-clause-str : goal.returns-clause-str
returns-clause-str c = str_leads

pub returns-clause-object_found : goal.returns-clause-object_found
returns-clause-object_found c = λ image class place offset t spot tables e.
    object_found image (agrees image tables) class place offset t spot e

pub returns-clause-str_found : goal.returns-clause-str_found
returns-clause-str_found c = λ image class place offset n spot tables e.
    str_found image (agrees image tables) class place offset n spot e
