use Rattle.std.proofs.Common.{refl}
use Rattle.clap.proofs.OnLiterals.{clap_on_literals}
use Rattle.sedona_words.proofs.laws.values_are_read.Goals as goal

pub returns-clause-in_order : goal.returns-clause-in_order
unfolding clap_on_literals
returns-clause-in_order c kits store users secret port cycles period turns limit = refl

pub returns-clause-others_first : goal.returns-clause-others_first
unfolding clap_on_literals
returns-clause-others_first c kits store users secret port cycles period turns limit = refl

pub returns-clause-left_out : goal.returns-clause-left_out
unfolding clap_on_literals
returns-clause-left_out c kits store users secret port cycles = refl

pub returns-clause-twice : goal.returns-clause-twice
unfolding clap_on_literals
returns-clause-twice c port other words = refl

pub returns-clause-help : goal.returns-clause-help
unfolding clap_on_literals
returns-clause-help c words = refl

pub returns-clause-no_value : goal.returns-clause-no_value
unfolding clap_on_literals
returns-clause-no_value c words = refl

pub returns-clause-shortened : goal.returns-clause-shortened
unfolding clap_on_literals
returns-clause-shortened c port words = refl
