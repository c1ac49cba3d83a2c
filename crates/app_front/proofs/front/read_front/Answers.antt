use Rattle.app_front.proofs.Answering.{is_none, is_outcome, is_version, is_wrong}
use Rattle.app_front.proofs.front.read_front.Goals as goal

pub returns-clause-outcome : goal.returns-clause-outcome
returns-clause-outcome c = is_outcome c.args.schema.now _ _ _ c.match_front.ensures

pub returns-clause-front : goal.returns-clause-front
returns-clause-front c = λ version rest is. is_version c.args.schema.now _ _ _ c.match_front.ensures version rest is

pub returns-clause-wrong : goal.returns-clause-wrong
returns-clause-wrong c = λ m place in_file in_kits same has. is_wrong c.args.schema.now _ _ _ c.match_front.ensures m place in_file in_kits same has

pub returns-clause-none : goal.returns-clause-none
returns-clause-none c = λ none. is_none c.args.schema.now _ _ _ c.match_front.ensures none
