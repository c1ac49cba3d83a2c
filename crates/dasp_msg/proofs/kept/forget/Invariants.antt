use Rattle.std.proofs.Common.{◌≡◌, ◌+◌, ◌≤◌, length, deque_len, deque_capacity}
use Rattle.dasp_msg.specs.Posted.{first_open, open_part}
use Rattle.dasp_msg.proofs.kept.forget.Given as goal

abbrev pub invariant-loop-messages : goal.invariant-loop-messages
invariant-loop-messages l = record {
  rest : open_part l.messages.items ≡ open_part l.fn.messages.items;
  count : l.gone + first_open l.messages.items ≡ first_open l.fn.messages.items;
  few : l.gone + length l.messages.items ≤ 31;
  capacity : deque_capacity l.messages ≡ deque_capacity l.fn.messages;
}

abbrev pub decreases-loop-messages : goal.decreases-loop-messages
decreases-loop-messages l = deque_len l.messages
