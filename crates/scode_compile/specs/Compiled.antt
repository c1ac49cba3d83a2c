-- What a program and the image that is kept with it are to each other.
use Rattle.std.specs.Prelude.{◌≡◌, ℕ, List, All}
use Rattle.sed_typed.specs.declared.program.Program.{Program}
use Rattle.sed_typed.specs.Typed.{Typed}
use Rattle.sed_engine.specs.Carries.{Carries}
use Rattle.sed_engine.specs.Program as source
use Rattle.scode_image.specs.declared.image.Image.{Image}
use Rattle.scode_image.specs.Grammar.{IsImage}
use Rattle.scode_code.specs.Faults.{IsVerified}
use Rattle.scode_code.specs.Image as made
use Rattle.scode_gen.specs.Generated.{IsShort, image_of}

-- The program is typed and its methods are short, the image is the one that the compiler makes of it, and both mean the
-- same.
pub record IsCompiled (program : Program) (image : Image) : Type 0 where
  pub typed : Typed program
  pub short : All (IsShort program) program.methods
  pub image_is : image ≡ image_of program
  pub means : made.meaning_of image ≡ source.meaning_of program

-- The text is that of a verified image that carries the program, and means what the program means.
pub record IsImageOf (program : Program) (text : List ℕ) : Type 0 where
  pub image : Image
  pub is_text : IsImage text image
  pub verified : IsVerified image
  pub carries : Carries (made.code_of image) (source.code_of program)
  pub means : made.meaning_of image ≡ source.meaning_of program
