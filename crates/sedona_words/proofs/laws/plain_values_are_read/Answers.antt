use Rattle.sedona_words.proofs.Pairs.{all_asked, needed_asked}
use Rattle.sedona_words.proofs.laws.plain_values_are_read.Goals as goal

pub returns-clause-in_order : goal.returns-clause-in_order
returns-clause-in_order c = all_asked

pub returns-clause-left_out : goal.returns-clause-left_out
returns-clause-left_out c = needed_asked
