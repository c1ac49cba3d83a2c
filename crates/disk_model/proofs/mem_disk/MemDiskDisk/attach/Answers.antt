use Rattle.disk_model.proofs.Entries.{renamed}
use Rattle.disk_model.proofs.Recording.{named_call, named_keeps, named_records}
use Rattle.disk_model.proofs.mem_disk.MemDiskDisk.attach.Goals as goal

pub invariant_of-self : goal.invariant_of-self
invariant_of-self c = renamed _ _ _ _ _ _ _ c.set.ensures c.self.invariant

pub returns-clause-call : goal.returns-clause-call
returns-clause-call c = named_call _ c.self.inside.log c.self.inside.journal _ _ _ _ _ c.self.view_is c.ask.ensures.call

pub returns-clause-keeps : goal.returns-clause-keeps
returns-clause-keeps c = named_keeps _ c.self.inside.log c.self.inside.journal _ _ _ _ _ c.self.view_is c.ask.ensures.keeps

pub returns-clause-records : goal.returns-clause-records
returns-clause-records c = named_records _ c.self.inside.log c.self.inside.journal _ _ _ _ _ c.self.view_is c.ask.ensures.records
