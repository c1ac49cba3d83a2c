use Rattle.std.proofs.Common.{refl}
use Rattle.disk_model.specs.Replay.{InMemory, replayed}
use Rattle.disk_model.proofs.Entries.{marked_record}
use Rattle.disk_model.proofs.Recording.{disk, has, Has, Marks, mark_added, marks_made}
use Rattle.disk_model.proofs.mem_disk.MemDiskDisk.acknowledge.Goals as goal

was : (c : goal.After-mark) → Has c.self.inside.first.items c.self.inside.log c.self.inside.journal c.self.inside.calls c.args.self.now
was c = has _ _ _ _ c.self.view_is

abbrev now : goal.After-mark → InMemory
now c = disk c.self.inside.first.items c.self.inside.log c.mark.new.self c.self.inside.calls
    (record { count = c.self.inside.attaches; name = c.self.inside.name.bytes; at = c.self.inside.attached_at }) c.self.inside.faults c.saturating_add-self-inside.result

made : (c : goal.After-mark) → Marks (replayed c.args.self.now.history) (replayed (now c).history) c.args.self.now.history.is_marked
made c = marks_made (was c) (has _ _ c.mark.new.self c.self.inside.calls refl) c.mark.ensures.again c.mark.ensures.first

pub invariant_of-self : goal.invariant_of-self
invariant_of-self c = marked_record _ _ _ _ c.self.inside.journal c.mark.new.self c.mark.ensures.again c.mark.ensures.first c.self.invariant

pub returns-clause-keeps : goal.returns-clause-keeps
returns-clause-keeps c = (made c).keeps

pub returns-clause-time : goal.returns-clause-time
returns-clause-time c = (made c).time

pub returns-clause-marks : goal.returns-clause-marks
returns-clause-marks c = (made c).marks

pub returns-clause-syncs : goal.returns-clause-syncs
returns-clause-syncs c = (made c).syncs

pub returns-clause-records : goal.returns-clause-records
returns-clause-records c = mark_added (was c) (has _ _ c.mark.new.self c.self.inside.calls refl) c.mark.ensures.again c.mark.ensures.first
