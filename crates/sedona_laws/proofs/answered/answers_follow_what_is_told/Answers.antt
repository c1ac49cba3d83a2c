use Rattle.sedona_laws.proofs.Doing.{comes_so}
use Rattle.sedona_laws.proofs.answered.answers_follow_what_is_told.Goals as goal

pub returns-clause-answered : goal.returns-clause-answered
returns-clause-answered g c = λ command old new status does. does.answered

pub returns-clause-leaves : goal.returns-clause-leaves
returns-clause-leaves g c = λ command old new status does at. does.leaves at

pub returns-clause-comes : goal.returns-clause-comes
returns-clause-comes g c = λ command old new status does told end known told_disk comes unfailed unwritten attached taken. comes_so g.F.Files g.L.Link g.C.Clock g.D.Disk g.O.Sink command old new status does (c.one_end.ensures command)
    (record { slot = c.stores_open_to_one.ensures.slot; payload = c.stores_open_to_one.ensures.payload }) told end known told_disk comes unfailed unwritten attached taken
