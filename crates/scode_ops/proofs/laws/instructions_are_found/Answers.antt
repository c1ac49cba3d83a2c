use Rattle.scode_ops.proofs.DecodingLemmas.{stands-found, found-stands}
use Rattle.scode_ops.proofs.laws.instructions_are_found.Goals as goal

pub returns-clause-found : goal.returns-clause-found
returns-clause-found c = stands-found

pub returns-clause-stands : goal.returns-clause-stands
returns-clause-stands c = λ bytes at op are e. found-stands bytes at op are e
