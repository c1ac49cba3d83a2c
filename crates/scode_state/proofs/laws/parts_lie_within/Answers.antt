use Rattle.scode_whole.proofs.Rule.{agrees}
use Rattle.scode_state.proofs.Blocks.{block_lies, sizes_reach}
use Rattle.scode_state.proofs.Stored.{has_buf, has_bytes}
use Rattle.scode_state.proofs.laws.parts_lie_within.Goals as goal

pub returns-clause-within : goal.returns-clause-within
returns-clause-within c = λ image class base path part tables e. block_lies image (agrees image tables) class base path part e

pub returns-clause-reach : goal.returns-clause-reach
returns-clause-reach c = λ image class base tables. sizes_reach image (agrees image tables) class base

pub returns-clause-has : goal.returns-clause-has
returns-clause-has c = λ image class base path h b offset f at. has_bytes image class base path h b offset f at

pub returns-clause-buf : goal.returns-clause-buf
returns-clause-buf c = λ image class base path h b offset n at. has_buf image class base path h b offset n at
