use Rattle.std.proofs.Common.{◌≡◌, subst}
use Rattle.sed_engine.specs.Program.{meaning_of}
use Rattle.scode_image.specs.declared.image.Image.{Image}
use Rattle.scode_code.specs.Faults.{IsVerified}
use Rattle.scode_code.specs.Image as made
use Rattle.scode_compile.proofs.laws.images_are_read_as_their_programs.Goals as goal

pub returns : goal.returns
returns c program text image of is =
    let same : of.image ≡ image = c.images_have_one_text.ensures.image text of.image image of.is_text is in
    (subst IsVerified same of.verified, subst (λ (i : Image). made.meaning_of i ≡ meaning_of program) same of.means)
