use Rattle.scode_sound.proofs.laws.verified_images_are_whole.Goals as goal

pub returns : goal.returns
returns c image h =
    c.verified_images_that_answer_are_whole.ensures image h
    (λ q may. c.verified_calls_end.ensures image q h may)
