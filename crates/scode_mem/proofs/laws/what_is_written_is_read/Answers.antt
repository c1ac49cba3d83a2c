use Rattle.scode_mem.proofs.BlockLaws.{read_back}
use Rattle.scode_mem.proofs.laws.what_is_written_is_read.Goals as goal

pub returns : goal.returns
returns c = λ h b at width number has fits. read_back h b at width number has fits
