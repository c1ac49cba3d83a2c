use Rattle.scode_gen.specs.Generated.{image_layout, image_of}
use Rattle.scode_made.proofs.laws.compiled_roots_are_the_programs.Goals as goal

pub returns : goal.returns
returns c program q typed spelled cases short may over =
    c.compiled_roots_are_the_same.ensures program (image_layout program) (image_of program) q typed
    (c.images_are_made.ensures program typed spelled cases short) may (c.roots_run_the_same_methods.ensures program q typed may) over
