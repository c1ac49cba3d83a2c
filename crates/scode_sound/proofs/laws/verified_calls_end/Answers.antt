use Rattle.scode_sound.proofs.Answering.{answers_well}
use Rattle.scode_sound.proofs.laws.verified_calls_end.Goals as goal

pub returns : goal.returns
returns c image q h may =
    answers_well image h _ ((c.images_without_fault_are_verified.ensures image).0 h).0 q may
