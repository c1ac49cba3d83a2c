-- How far a loop over the kept messages has come.
use Rattle.std.proofs.Common.{ℕ, Bool, List, ◌++◌, take, drop}
use Rattle.dasp_msg.specs.declared.outgoing.Message.{Message}
use Rattle.dasp_msg.specs.Posted.{acknowledged_where}

-- the messages before a place are done, and those from there on still to be
abbrev pub done_to : (ℕ → Bool) → ℕ → List Message → List Message
done_to test place messages = take place messages ++ acknowledged_where test place (drop place messages)
