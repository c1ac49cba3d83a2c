use Rattle.std.proofs.Common.{◌≡◌, ◌≤◌, length, take}
use Rattle.sed_outside.specs.Sink.{with_text}
use Rattle.sed_node.specs.Running.{lines_of}
use Rattle.sed_node.proofs.running.put_lines.Given as goal

-- the lines before this place were put
abbrev pub invariant-lines : goal.invariant-lines
invariant-lines g l = record {
  within : l.place ≤ length l.fn.outbox;
  text : g.S.Sink.text l.out ≡ with_text (g.S.Sink.text l.fn.out) (lines_of (take l.place l.fn.outbox));
  faults : g.S.Sink.faults l.out ≡ g.S.Sink.faults l.fn.out;
}
