-- An image of a program means what the program means.
use Rattle.std.proofs.Common.{◌≡◌, ℕ, true, List, sym, subst}
use Rattle.std.specs.Prelude.{All}
use Rattle.sed_typed.specs.declared.program.Method.{Method}
use Rattle.sed_typed.specs.declared.program.Program.{Program}
use Rattle.sed_typed.specs.Spelled.{IsSpelledOut}
use Rattle.sed_typed.specs.Typed.{Typed}
use Rattle.sed_engine.specs.Program.{meaning_of}
use Rattle.scode_image.specs.declared.image.Image.{Image}
use Rattle.scode_image.specs.Grammar.{IsImage}
use Rattle.scode_code.specs.Faults.{IsVerified}
use Rattle.scode_code.specs.Image as code
use Rattle.scode_code.specs.TableRules.{tables_agree}
use Rattle.scode_entries.specs.Cases.{EachCaseOf, Has32Bits}
use Rattle.scode_gen.specs.Generated.{IsShort, image_of}
use Rattle.scode_compile.specs.Compiled.{IsImageOf}
use Rattle.sedona_laws.specs.Carrying.{IsOf, MayBeCompiled, made, read}

-- what the laws of compiled code say of programs that may be compiled, and of texts
abbrev OfCompiled : (Program → Type 0) → Type 0
OfCompiled P =
    (program : Program) → Typed program → IsSpelledOut program → All (λ (m : Method). EachCaseOf Has32Bits m.body) program.methods
    → All (IsShort program) program.methods → P program

pub record CodeLaws : Type 0 where
  pub agree : OfCompiled (λ program. tables_agree (image_of program) ≡ true)
  pub fine : OfCompiled (λ program. tables_agree (image_of program) ≡ true → IsVerified (image_of program))
  pub means : OfCompiled (λ program. IsVerified (image_of program) → code.meaning_of (image_of program) ≡ meaning_of program)
  pub read_back : (program : Program) (text : List ℕ) (image : Image) → IsImageOf program text → IsImage text image → IsVerified image × (code.meaning_of image ≡ meaning_of program)

pub of_program : CodeLaws → (program : Program) (image : Image) → IsOf program image → IsVerified image × (code.meaning_of image ≡ meaning_of program)
of_program laws program image (made may same) =
    let verified : IsVerified (image_of program) = laws.fine program may.typed may.spelled may.cases may.short (laws.agree program may.typed may.spelled may.cases may.short) in
    let means : code.meaning_of (image_of program) ≡ meaning_of program = laws.means program may.typed may.spelled may.cases may.short verified in
    (subst IsVerified (sym same) verified, subst (λ (i : Image). code.meaning_of i ≡ meaning_of program) (sym same) means)
of_program laws program image (read text of is) = laws.read_back program text image of is
