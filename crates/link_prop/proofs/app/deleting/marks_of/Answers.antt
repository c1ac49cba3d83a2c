use Rattle.std.proofs.Common.{refl}
use Rattle.link_prop.proofs.DeletedLinks.{none_marked}
use Rattle.link_prop.proofs.app.deleting.marks_of.Goals as goal

pub loop-id-init : goal.loop-id-init
loop-id-init c = record { size = refl; marked = λ q. none_marked 4096 q }
