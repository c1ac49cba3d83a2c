use Rattle.app_reader.specs.Checks.{name_at}
use Rattle.app_reader.proofs.Apart.{IsBeside, first_names}
use Rattle.app_reader.proofs.names.are_apart.Given as goal

abbrev pub invariant-loop-n : goal.invariant-loop-n
invariant-loop-n l = IsBeside l.names (first_names (name_at l.rows) l.places l.n)
