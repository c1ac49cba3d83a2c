use Rattle.std.proofs.Common.{refl}
use Rattle.clap.proofs.OnLiterals.{clap_on_literals}
use Rattle.sedona_words.proofs.examples.run_is_read.Goals as goal

pub returns-clause-in_order : goal.returns-clause-in_order
unfolding clap_on_literals
returns-clause-in_order c = refl

pub returns-clause-port_first : goal.returns-clause-port_first
unfolding clap_on_literals
returns-clause-port_first c = refl

pub returns-clause-all_named : goal.returns-clause-all_named
unfolding clap_on_literals
returns-clause-all_named c = refl

pub returns-clause-dashes_last : goal.returns-clause-dashes_last
unfolding clap_on_literals
returns-clause-dashes_last c = refl

pub returns-clause-no_port : goal.returns-clause-no_port
unfolding clap_on_literals
returns-clause-no_port c = refl

pub returns-clause-port_twice : goal.returns-clause-port_twice
unfolding clap_on_literals
returns-clause-port_twice c = refl

pub returns-clause-port_zero : goal.returns-clause-port_zero
unfolding clap_on_literals
returns-clause-port_zero c = refl

pub returns-clause-a_word_more : goal.returns-clause-a_word_more
unfolding clap_on_literals
returns-clause-a_word_more c = refl
