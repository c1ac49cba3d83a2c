use Rattle.sed_layout.proofs.Data.{data_is_sum}
use Rattle.sed_layout.proofs.offset_laws.data_is_the_sum_of_fields.Goals as goal

pub returns : goal.returns
returns c = data_is_sum
