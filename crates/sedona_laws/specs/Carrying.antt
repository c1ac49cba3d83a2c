-- The images of a program.
use Rattle.std.specs.Prelude.{◌≡◌, ℕ, List, All}
use Rattle.sed_typed.specs.declared.program.Method.{Method}
use Rattle.sed_typed.specs.declared.program.Program.{Program}
use Rattle.sed_typed.specs.Spelled.{IsSpelledOut}
use Rattle.sed_typed.specs.Typed.{Typed}
use Rattle.scode_image.specs.declared.image.Image.{Image}
use Rattle.scode_image.specs.Grammar.{IsImage}
use Rattle.scode_entries.specs.Cases.{EachCaseOf, Has32Bits}
use Rattle.scode_gen.specs.Generated.{IsShort, image_of}
use Rattle.scode_compile.specs.Compiled.{IsImageOf}

-- A program that the compiler takes: it is typed, and its methods are short. What it has in memory it has by the types
-- of its parts: names and numbers that fit, and case labels of 32 bits.
pub record MayBeCompiled (program : Program) : Type 0 where
  pub typed : Typed program
  pub short : All (IsShort program) program.methods
  pub spelled : IsSpelledOut program
  pub cases : All (λ (m : Method). EachCaseOf Has32Bits m.body) program.methods

-- An image of a program: the one that the compiler makes of it, or whatever a text of such an image is read as.
pub data IsOf (program : Program) (image : Image) : Type 0 where
  made : MayBeCompiled program → image ≡ image_of program → IsOf program image
  read : (text : List ℕ) → IsImageOf program text → IsImage text image → IsOf program image
