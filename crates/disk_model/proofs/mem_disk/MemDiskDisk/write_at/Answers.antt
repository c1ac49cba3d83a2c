use Rattle.std.proofs.Common.{refl, rules, subst, ◌∙◌}
use Rattle.sed_outside.specs.Failing.{FailsNow}
use Rattle.disk_model.specs.declared.journal.Entry.TheVariants.{Wrote}
use Rattle.disk_model.proofs.Recording.{has, Has, Enters, log_same, counts_write, failed_of, free_of, goes_written, is_call, recorded_write, unmarked_write, writes, written_fits, written_past, written_records, written_undone}
use Rattle.disk_model.proofs.mem_disk.MemDiskDisk.write_at.Goals as goal

was : (c : goal.After-answer) → Has c.self.inside.first.items c.self.inside.log c.self.inside.journal c.self.inside.calls c.args.self.now
was c = has _ _ _ _ c.self.view_is

enters : (c : goal.After-answer) → Enters c.args.at c.args.bytes.now c.self.inside.log c.record_write-written.new.log c.self.inside.journal c.record_write-written.new.journal c.record_write-written.result
enters c = let said = c.record_write-written.ensures in record {
  added = said.journal;
  logged = said.log;
  failed = said.failed;
  same = log_same c.self.inside.file c.record_write-written.new.file _ _ _ said.same;
  fits = said.fits;
  past = said.past;
  full = said.full;
  size = c.self.invariant.logged;
}

pub invariant_of-self : goal.invariant_of-self
invariant_of-self c = let said = c.record_write-written.ensures in
    recorded_write _ c.self.inside.file c.self.inside.log _ _ _ c.self.inside.journal _ c.args.at c.args.bytes.now _ said.journal said.file said.log said.failed said.same c.self.invariant

pub returns-clause-call : goal.returns-clause-call
returns-clause-call c =
    is_call (was c) (has _ c.record_write-written.new.log c.record_write-written.new.journal c.fails_now-fails.new.self refl)
    (goes_written (was c) (has _ c.record_write-written.new.log c.record_write-written.new.journal c.fails_now-fails.new.self refl) c.args.at c.args.bytes.now _ (enters c))
    (counts_write _ _ c.fails_now-fails.ensures.next c.record_write-written.ensures.room c.record_write-written.ensures.limit c.fails_now-fails.ensures.fails.1 c.record_write-written.ensures.full)
    (failed_of _ (c.answer.ensures.done ∙ c.is_done.ensures)) (search rules) (search rules)

pub returns-clause-writes : goal.returns-clause-writes
returns-clause-writes c = writes (was c) (has _ c.record_write-written.new.log c.record_write-written.new.journal c.fails_now-fails.new.self refl) c.args.at c.args.bytes.now _ _ c.answer.result (c.answer.ensures.done ∙ c.is_done.ensures) (enters c)

pub returns-clause-unmarked : goal.returns-clause-unmarked
returns-clause-unmarked c = unmarked_write c.self.inside.journal c.record_write-written.new.journal (Wrote c.args.at _) _ _ c.answer.result (c.answer.ensures.done ∙ c.is_done.ensures) (enters c).added

pub returns-clause-fits : goal.returns-clause-fits
returns-clause-fits c free room bytes = c.answer.ensures.done ∙ c.is_done.ensures ∙ written_fits (was c) c.args.at c.args.bytes.now _ _ (enters c) (free_of _ c.fails_now-fails.ensures.fails.0 (subst (λ p. FailsNow p → ⊥) (was c).plan_is free)) room bytes

pub returns-clause-past : goal.returns-clause-past
returns-clause-past c none = failed_of c.answer.result (c.answer.ensures.done ∙ c.is_done.ensures) (written_past (was c) c.args.at c.args.bytes.now _ _ (enters c) none)

pub returns-clause-records : goal.returns-clause-records
returns-clause-records c = written_records (was c) (has _ c.record_write-written.new.log c.record_write-written.new.journal c.fails_now-fails.new.self refl) c.args.at c.args.bytes.now _ (enters c)

pub returns-clause-undone : goal.returns-clause-undone
returns-clause-undone c = written_undone (was c) (has _ c.record_write-written.new.log c.record_write-written.new.journal c.fails_now-fails.new.self refl) c.args.at c.args.bytes.now _ (enters c)
