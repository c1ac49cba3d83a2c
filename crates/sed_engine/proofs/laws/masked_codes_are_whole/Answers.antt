use Rattle.sed_engine.proofs.MaskedCodes.{masked_whole}
use Rattle.sed_engine.proofs.laws.masked_codes_are_whole.Goals as goal

pub returns : goal.returns
returns c m tables well = masked_whole m well tables
