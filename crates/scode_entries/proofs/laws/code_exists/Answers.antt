use Rattle.scode_entries.proofs.Exists as exists
use Rattle.scode_entries.proofs.laws.code_exists.Goals as goal

pub returns : goal.returns
returns c program layout m small is cases fits = exists.code_exists program layout m small is cases fits
