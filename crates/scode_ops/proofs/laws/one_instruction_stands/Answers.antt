use Rattle.scode_ops.proofs.CodeLemmas.{one_stands}
use Rattle.scode_ops.proofs.laws.one_instruction_stands.Goals as goal

pub returns : goal.returns
returns c = λ bytes at op other stands stands'. one_stands bytes at op other stands.is.fits stands'.is.fits stands.begins stands'.begins
