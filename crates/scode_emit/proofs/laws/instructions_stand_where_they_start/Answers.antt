use Rattle.scode_emit.proofs.Stand.{stands_found, starts_are}
use Rattle.scode_emit.proofs.laws.instructions_stand_where_they_start.Goals as goal

pub returns-clause-stands : goal.returns-clause-stands
returns-clause-stands c before behind op is = stands_found c.instructions_are_found.ensures.found before behind op is

pub returns-clause-starts : goal.returns-clause-starts
returns-clause-starts c ops all = starts_are c.instructions_are_found.ensures.found ops all
