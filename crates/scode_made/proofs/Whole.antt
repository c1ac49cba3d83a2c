-- The image of a typed program with short methods is made of it.
use Rattle.std.proofs.Common.{refl}
use Rattle.std.specs.Prelude.{All}
use Rattle.sed_typed.specs.declared.program.Program.{Program}
use Rattle.sed_typed.specs.Typed.{Typed}
use Rattle.scode_ops.specs.Codes.{IsOp}
use Rattle.scode_emit.specs.Method.{code_of}
use Rattle.scode_gen.specs.Generated.{image_layout, image_of}
use Rattle.scode_sim.specs.Made.{IsMade}
use Rattle.scode_made.specs.Laid.{IsLaid, IsTabled}
use Rattle.scode_made.proofs.MadeClasses.{classes_have, inherited_stay}
use Rattle.scode_made.proofs.MadeMethods.{methods_made}
use Rattle.scode_made.proofs.MadeStatics.{statics_have}
use Rattle.scode_made.proofs.MadeTables.{tables_keep}

pub whole_made : (program : Program) → Typed program → IsLaid program → IsTabled program → All (λ m. All IsOp (code_of program (image_layout program) m)) program.methods →
    IsMade program (image_layout program) (image_of program)
whole_made program typed laid tabled exist = record {
  methods = methods_made program typed exist;
  texts = refl;
  fields_of = classes_have program typed laid;
  statics = statics_have program laid.statics_wide laid.statics_apart;
  inherited = inherited_stay program typed laid;
  places = tables_keep program typed tabled;
}
