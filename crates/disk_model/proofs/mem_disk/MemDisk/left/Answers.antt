use Rattle.std.proofs.Common.{rules}
use Rattle.disk_model.proofs.LeftSteps.{images_are_left}
use Rattle.disk_model.proofs.mem_disk.MemDisk.left.Goals as goal

pub returns-clause-left : goal.returns-clause-left
returns-clause-left c = images_are_left c.args.fill c.args.self.now.history c.args.call c.requires c.image_of.result (search rules)
