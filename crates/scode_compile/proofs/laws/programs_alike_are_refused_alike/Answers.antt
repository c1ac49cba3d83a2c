use Rattle.scode_compile.proofs.Refused.{one_refused, none_refused}
use Rattle.scode_compile.proofs.laws.programs_alike_are_refused_alike.Goals as goal

pub returns : goal.returns
returns c = record { one = one_refused; none = none_refused }
