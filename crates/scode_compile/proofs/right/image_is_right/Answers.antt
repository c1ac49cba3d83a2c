use Rattle.std.proofs.Common.{List, subst}
use Rattle.std.specs.Prelude.{All}
use Rattle.sed_typed.specs.declared.program.Method.{Method}
use Rattle.sed_typed.specs.declared.program.Program.{Program}
use Rattle.sed_typed.specs.Spelled.{IsSpelledOut}
use Rattle.scode_code.specs.Faults.{IsVerified}
use Rattle.scode_entries.specs.Cases.{EachCaseOf, Has32Bits}
use Rattle.scode_gen.specs.Generated.{image_of}
use Rattle.scode_compile.proofs.right.image_is_right.Goals as goal

pub returns : goal.returns
returns c short =
    let program : Program = c.args.program.now in
    let spelled : IsSpelledOut program = c.program_is_spelled_out.ensures in
    let cases : All (λ (m : Method). EachCaseOf Has32Bits m.body) program.methods =
    subst (λ (all : List Method). All (λ (m : Method). EachCaseOf Has32Bits m.body) all) c.as_slice.ensures c.all_cases_have_32_bits.ensures in
    let verified : IsVerified (image_of program) =
    c.generated_code_breaks_no_rule.ensures program c.requires spelled cases short (c.image_tables_agree.ensures program c.requires spelled cases short) in
    record {
      verified = verified;
      text = c.images_have_a_text.ensures program c.requires spelled short;
      carries = c.verified_images_carry_their_programs.ensures program c.requires spelled cases short verified;
      means = c.images_mean_their_programs.ensures program c.requires spelled cases short verified;
    }
