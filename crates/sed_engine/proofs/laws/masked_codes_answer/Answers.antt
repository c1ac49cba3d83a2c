use Rattle.sed_engine.proofs.MaskedCodes.{answer_is}
use Rattle.sed_engine.proofs.laws.masked_codes_answer.Goals as goal

pub returns : goal.returns
returns c m q h = answer_is m q h
