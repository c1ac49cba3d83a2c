use Rattle.scode_sound.proofs.Answering.{over_in_time}
use Rattle.scode_sound.proofs.laws.verified_calls_are_over.Goals as goal

pub returns : goal.returns
returns c image q number value h may method_is value_is =
    over_in_time image h _ ((c.images_without_fault_are_verified.ensures image).0 h).0 q may number value method_is value_is
