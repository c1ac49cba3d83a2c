-- The image of a typed program with short methods has a spelling.
use Rattle.std.proofs.Common.{◌≤◌, length, arith}
use Rattle.std.specs.Prelude.{All}
use Rattle.std.proofs.lemmas.List.Elements.{All-weaker}
use Rattle.sed_typed.specs.declared.program.Method.{Method}
use Rattle.sed_typed.specs.declared.program.Program.{Program}
use Rattle.sed_typed.specs.Spelled.{IsSpelledOut}
use Rattle.sed_typed.specs.Typed.{IsText, Typed}
use Rattle.sed_wire.specs.Leaves.{u2}
use Rattle.sed_wire.specs.Row.{counted}
use Rattle.scode_emit.specs.Method.{size_of}
use Rattle.scode_image.specs.Grammar.{HasText, literal}
use Rattle.scode_gen.specs.Generated.{IsShort, image_layout, image_of}
use Rattle.scode_text.proofs.Classes.{classes_told, kits_told, statics_told}
use Rattle.scode_text.proofs.Counted.{IsCounted}
use Rattle.scode_text.proofs.Forms.{HasBytes, counted_bytes, u2_bytes}
use Rattle.scode_text.proofs.Methods.{IsCompiled, methods_told}
use Rattle.scode_text.proofs.Parts.{image_told, literal_told}

texts_told : (program : Program) → Typed program → HasBytes (counted u2 literal) program.texts
texts_told program typed =
    counted_bytes u2 literal program.texts (u2_bytes (length program.texts) (omega (arith, typed.texts_most)))
    (All-weaker IsText (HasBytes literal) (λ t is. literal_told t is.1) program.texts typed.texts)

pub has_text : (program : Program) → Typed program → IsSpelledOut program → IsCounted program →
    ((m : Method) → size_of program (image_layout program) m ≤ 65535 → IsCompiled program (image_layout program) m) → All (IsShort program) program.methods →
    HasText (image_of program)
has_text program typed spelled counts made short =
    image_told (image_of program) (kits_told program typed.kits spelled.schema) (classes_told program typed spelled counts) (statics_told program typed spelled counts)
    (texts_told program typed) (methods_told program (image_layout program) typed counts.few_classes counts.few_methods made short)
