use Rattle.std.proofs.Common.{refl, rules, ◌∙◌}
use Rattle.disk_model.specs.declared.journal.Entry.TheVariants.{Other}
use Rattle.disk_model.proofs.Entries.{tried_record}
use Rattle.disk_model.proofs.Recording.{has, Has, Adds, asked, asked_records, fits, goes_idle, is_call, counts_call, failed_of, tried_other, unmarked}
use Rattle.disk_model.proofs.mem_disk.MemDisk.ask.Goals as goal

was : (c : goal.After-answer) → Has c.self.inside.first.items c.self.inside.log c.self.inside.journal c.self.inside.calls c.args.self.now
was c = has _ _ _ _ c.self.view_is

adds : (c : goal.After-answer) → Adds Other c.self.inside.calls c.self.inside.journal c.record_call-done.new.journal c.record_call-done.result
adds c = let said = c.record_call-done.ensures in record { added = said.done; failed = said.failed; planned = said.planned; fits = said.fits; full = said.full }

pub invariant_of-self : goal.invariant_of-self
invariant_of-self c = tried_record _ _ _ _ c.self.inside.journal c.record_call-done.new.journal (tried_other _ (adds c)) c.self.invariant

pub returns-clause-call : goal.returns-clause-call
returns-clause-call c = is_call (was c) (has _ _ c.record_call-done.new.journal c.record_call-done.new.calls refl) (goes_idle (asked (was c) (has _ _ c.record_call-done.new.journal c.record_call-done.new.calls refl) _ (adds c)))
    (counts_call (adds c) c.record_call-done.ensures.calls c.record_call-done.ensures.limit) (failed_of _ c.answer.ensures.done) (search rules) (search rules)

pub returns-clause-keeps : goal.returns-clause-keeps
returns-clause-keeps c = (asked (was c) (has _ _ c.record_call-done.new.journal c.record_call-done.new.calls refl) _ (adds c)).keeps

pub returns-clause-unmarked : goal.returns-clause-unmarked
returns-clause-unmarked c = unmarked c.self.inside.journal c.record_call-done.new.journal Other _ c.answer.result c.answer.ensures.done c.record_call-done.ensures.done

pub returns-clause-fits : goal.returns-clause-fits
returns-clause-fits c free room = c.answer.ensures.done ∙ fits (was c) (adds c) free room

pub returns-clause-records : goal.returns-clause-records
returns-clause-records c = asked_records (was c) (has _ _ c.record_call-done.new.journal c.record_call-done.new.calls refl) _ (adds c)
