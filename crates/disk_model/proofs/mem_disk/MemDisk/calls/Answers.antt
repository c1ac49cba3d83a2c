use Rattle.std.proofs.Common.{sym, ap, sum_by, ◌∙◌}
use Rattle.disk_model.specs.Replay.{calls_by}
use Rattle.disk_model.proofs.Entries.{counted_calls}
use Rattle.disk_model.proofs.mem_disk.MemDisk.calls.Goals as goal

pub returns : goal.returns
returns c = c.calls.ensures ∙ sym (counted_calls c.self.inside.log.bytes c.self.inside.journal.entries) ∙ ap (λ h. sum_by calls_by h.history.calls) c.self.view_is
