use Rattle.sed_engine.specs.Carries.{Carries}
use Rattle.sed_engine.specs.Code.{Meaning}
use Rattle.sed_engine.specs.Program as language
use Rattle.scode_code.specs.Image as machine
use Rattle.scode_gen.specs.Generated.{image_of}
use Rattle.scode_made.proofs.MaskedCarry.{masked_carry}
use Rattle.scode_made.proofs.laws.images_mean_their_programs.Goals as goal

pub returns : goal.returns
returns c program typed spelled cases short verified =
    let own : Meaning = machine.code_of (image_of program) in
    let other : Meaning = language.code_of program in
    let carries : Carries own other = c.verified_images_carry_their_programs.ensures program typed spelled cases short verified in
    c.carried_codes_are_one.ensures (machine.meaning_of (image_of program)) (language.meaning_of program)
    (c.verified_images_are_whole.ensures (image_of program) verified)
    (c.typed_programs_are_whole.ensures program typed)
    (masked_carry own other c.masked_codes_answer.ensures (c.images_tell_the_data.ensures.asked program typed) carries)
