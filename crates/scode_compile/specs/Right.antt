-- What is wanted of the image that is made of a program.
use Rattle.std.specs.Prelude.{◌≡◌}
use Rattle.sed_typed.specs.declared.program.Program.{Program}
use Rattle.sed_engine.specs.Carries.{Carries}
use Rattle.sed_engine.specs.Program.{code_of, meaning_of}
use Rattle.scode_image.specs.Grammar.{HasText}
use Rattle.scode_code.specs.Faults.{IsVerified}
use Rattle.scode_code.specs.Image as made
use Rattle.scode_gen.specs.Generated.{image_of}

-- it breaks no rule, has a text, carries the program and means the same
pub record HasRightImage (program : Program) : Type 0 where
  pub verified : IsVerified (image_of program)
  pub text : HasText (image_of program)
  pub carries : Carries (made.code_of (image_of program)) (code_of program)
  pub means : made.meaning_of (image_of program) ≡ meaning_of program
