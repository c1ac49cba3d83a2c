use Rattle.std.proofs.Common.{subst, sym}
use Rattle.sed_outside.specs.Reads.{HasReads}
use Rattle.sed_outside.specs.Steps.{UnlessFree}
use Rattle.scode_code.specs.Image.{meaning_of}
use Rattle.sedona_words.specs.declared.node_words.CodeWords.{CodeWords}
use Rattle.sedona_words.specs.Asked.{asked_code}
use Rattle.sedona_cli.specs.Given.{ended_as}
use Rattle.sedona_cli.specs.Outside.{of_reads}
use Rattle.sedona_cli.specs.Refusals.{is_want}
use Rattle.sedona_cli.specs.Steps.{AfterCode, AfterImage}
use Rattle.sedona_cli.proofs.ReplaySteps.{code_ended}
use Rattle.sedona_cli.proofs.inputs.node_code.Goals as goal

pub returns-in-Kits : goal.returns-in-Kits
returns-in-Kits g c =
    subst (λ (words : CodeWords). HasReads g.F.Files c.args.files.now c.kits_code.new.files (λ reads. UnlessFree is_want (AfterCode (asked_code words) (of_reads reads)) (ended_as meaning_of c.kits_code.result)))
    (sym c.in-Kits.is) c.kits_code.ensures

pub returns-in-Image : goal.returns-in-Image
returns-in-Image g c =
    subst (λ (words : CodeWords). HasReads g.F.Files c.args.files.now c.node_image.new.files (λ reads. UnlessFree is_want (AfterCode (asked_code words) (of_reads reads)) (ended_as meaning_of c.node_image.result)))
    (sym c.in-Image.is) (code_ended g.F.Files c.args.files.now c.node_image.new.files (AfterImage c.in-Image.name.now) meaning_of c.node_image.result c.node_image.ensures)
