use Rattle.std.proofs.Common.{refl, rules, ◌∙◌}
use Rattle.disk_model.specs.declared.journal.Entry.TheVariants.{Synced}
use Rattle.disk_model.proofs.Recording.{has, Has, Adds, fits, goes_synced, is_call, counts_call, failed_of, recorded_sync, synced_durable, synced_records, synced_undone, unmarked}
use Rattle.disk_model.proofs.mem_disk.MemDiskDisk.sync.Goals as goal

was : (c : goal.After-answer) → Has c.self.inside.first.items c.self.inside.log c.self.inside.journal c.self.inside.calls c.args.self.now
was c = has _ _ _ _ c.self.view_is

adds : (c : goal.After-answer) → Adds Synced c.self.inside.calls c.self.inside.journal c.record_call-done.new.journal c.record_call-done.result
adds c = let said = c.record_call-done.ensures in record { added = said.done; failed = said.failed; planned = said.planned; fits = said.fits; full = said.full }

pub invariant_of-self : goal.invariant_of-self
invariant_of-self c = recorded_sync _ (adds c) c.self.invariant

pub returns-clause-call : goal.returns-clause-call
returns-clause-call c = is_call (was c) (has _ _ c.record_call-done.new.journal c.record_call-done.new.calls refl) (goes_synced (was c) (has _ _ c.record_call-done.new.journal c.record_call-done.new.calls refl) _ c.answer.result c.answer.ensures.done (adds c))
    (counts_call (adds c) c.record_call-done.ensures.calls c.record_call-done.ensures.limit) (failed_of _ c.answer.ensures.done) (search rules) (search rules)

pub returns-clause-durable : goal.returns-clause-durable
returns-clause-durable c = synced_durable (was c) (has _ _ c.record_call-done.new.journal c.record_call-done.new.calls refl) _ c.answer.result c.answer.ensures.done (adds c)

pub returns-clause-unmarked : goal.returns-clause-unmarked
returns-clause-unmarked c = unmarked c.self.inside.journal c.record_call-done.new.journal Synced _ c.answer.result c.answer.ensures.done c.record_call-done.ensures.done

pub returns-clause-fits : goal.returns-clause-fits
returns-clause-fits c free room = c.answer.ensures.done ∙ fits (was c) (adds c) free room

pub returns-clause-records : goal.returns-clause-records
returns-clause-records c = synced_records (was c) (has _ _ c.record_call-done.new.journal c.record_call-done.new.calls refl) _ (adds c)

pub returns-clause-undone : goal.returns-clause-undone
returns-clause-undone c = synced_undone (was c) (has _ _ c.record_call-done.new.journal c.record_call-done.new.calls refl) _ (adds c)
