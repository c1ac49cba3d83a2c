use Rattle.node_events.proofs.Bounded.{run_offered}
use Rattle.node_events.proofs.FewSent.{delivered_few, nobody_few, place_few, place_keeps, run_keeps, ticked_few}
use Rattle.node_events.proofs.sendings.few_messages_are_sent.Goals as goal

pub returns-clause-datagram : goal.returns-clause-datagram
returns-clause-datagram c = λ m s n from heard mishap keeps. (delivered_few m s n from heard mishap keeps).0

pub returns-clause-place : goal.returns-clause-place
returns-clause-place c = place_few

pub returns-clause-place_keeps : goal.returns-clause-place_keeps
returns-clause-place_keeps c = place_keeps

pub returns-clause-tick : goal.returns-clause-tick
returns-clause-tick c = λ m s n moment keeps. (ticked_few m s n moment keeps).0

pub returns-clause-opened : goal.returns-clause-opened
returns-clause-opened c = λ m s a users secret moment. nobody_few 16

pub returns-clause-run : goal.returns-clause-run
returns-clause-run c = run_keeps

pub returns-clause-offered : goal.returns-clause-offered
returns-clause-offered c = run_offered
