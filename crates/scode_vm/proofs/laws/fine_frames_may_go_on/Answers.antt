use Rattle.scode_vm.specs.Seen.{machine_seen}
use Rattle.scode_vm.proofs.Fine.{at_place, may_do, room_for_here, room_left_here, typed_on}
use Rattle.scode_vm.proofs.laws.fine_frames_may_go_on.Goals as goal

pub returns-clause-stands : goal.returns-clause-stands
returns-clause-stands c = λ w given place s shared verified fine.
    at_place w given (machine_seen w place s shared)
    ((c.images_without_fault_are_verified.ensures w.image).0 verified).0.each fine

pub returns-clause-typed : goal.returns-clause-typed
returns-clause-typed c = λ w given place s shared i verified concrete fine here.
    typed_on w place s shared i here c.fine_machines_go_on.ensures.goes_on given verified concrete fine
    c.stacks_keep_their_maximum.ensures

pub returns-clause-may : goal.returns-clause-may
returns-clause-may c = λ w given place s shared i verified concrete fine many here.
    may_do w place s shared i here c.fine_machines_go_on.ensures.goes_on given verified concrete fine
    c.stacks_keep_their_maximum.ensures many

pub returns-clause-room : goal.returns-clause-room
returns-clause-room c = λ w given place s shared i verified concrete fine many here.
    room_left_here w place s shared i here c.fine_machines_go_on.ensures.goes_on given verified concrete fine
    c.stacks_keep_their_maximum.ensures many

pub returns-clause-room_for : goal.returns-clause-room_for
returns-clause-room_for c = λ w given place s shared i verified concrete fine many here.
    room_for_here w place s shared i here c.fine_machines_go_on.ensures.goes_on given verified concrete fine
    c.stacks_keep_their_maximum.ensures many
