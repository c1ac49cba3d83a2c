use Rattle.sed_node.proofs.Handled.{saved_go_on}
use Rattle.sed_node.proofs.handling.saves_go_on.Goals as goal

pub returns : goal.returns
returns g c = λ m slot start opened earlier saves old new are told told_marks run.
    saved_go_on g.D.Disk.meaning m slot start opened saves old new earlier are told told_marks run
