use Rattle.sed_wire.proofs.ValueLemmas.{one_value, some_value, read_value, written_value}
use Rattle.sed_wire.proofs.laws.values_are_read_one_way.Goals as goal

pub returns : goal.returns
returns c = record { one = one_value; some = some_value; read = read_value; written = written_value }
