use Rattle.std.proofs.Common.{◌≡◌, deque_len, deque_capacity}
use Rattle.dasp_msg.specs.Posted.{acknowledged_where, is_for}
use Rattle.dasp_msg.proofs.DoneTo.{done_to}
use Rattle.dasp_msg.proofs.kept.mark.Given as goal

abbrev pub invariant-loop-place : goal.invariant-loop-place
invariant-loop-place l = record {
  done : done_to (is_for l.count l.more) l.place l.messages.items ≡ acknowledged_where (is_for l.count l.more) 0 l.fn.messages.items;
  len : deque_len l.messages ≡ l.place-end;
  capacity : deque_capacity l.messages ≡ deque_capacity l.fn.messages;
}
