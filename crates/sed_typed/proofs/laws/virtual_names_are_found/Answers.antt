use Rattle.sed_typed.proofs.Nearest.{found_where, stands_once}
use Rattle.sed_typed.proofs.laws.virtual_names_are_found.Goals as goal

pub returns-clause-found : goal.returns-clause-found
returns-clause-found c = found_where

pub returns-clause-once : goal.returns-clause-once
returns-clause-once c = stands_once
