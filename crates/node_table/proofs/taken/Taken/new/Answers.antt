use Rattle.std.specs.Prelude.{replicate}
use Rattle.std.proofs.Common.{refl}
use Rattle.node_table.proofs.TakenLemmas.{none_taken}
use Rattle.node_table.proofs.taken.Taken.new.Goals as goal

pub returns : goal.returns
returns c = none_taken (replicate 64 0) 64 refl
