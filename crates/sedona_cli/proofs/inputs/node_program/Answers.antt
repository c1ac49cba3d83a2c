use Rattle.std.proofs.Common.{ℕ, List, Err, ap, subst, ◌∙◌}
use Rattle.sed_outside.specs.Steps.{UnlessFree}
use Rattle.sed_outside.specs.Reads.{HasReads}
use Rattle.sed_outside.proofs.Joining.{no_reads}
use Rattle.sedona_cli.specs.declared.refusal.Refusal.TheVariants.{Memory}
use Rattle.sedona_words.specs.Command.{names_within, texts}
use Rattle.sedona_cli.specs.Outside.{of_reads}
use Rattle.sedona_cli.specs.Refusals.{is_want}
use Rattle.sedona_cli.specs.Steps.{AfterKits, KitsGenerated}
use Rattle.sedona_cli.proofs.ReplaySteps.{as_read}
use Rattle.sedona_cli.proofs.inputs.node_program.Goals as goal

pub returns-in-Err : goal.returns-in-Err
returns-in-Err g c = no_reads g.F.Files c.args.files.now (λ reads. UnlessFree is_want (AfterKits (names_within c.args.kits.now) (of_reads reads)) (Err Memory)) tt

pub returns : goal.returns
returns g c =
    subst (λ (ns : List (List ℕ)). HasReads g.F.Files c.args.files.now c.kits_program.new.files (λ reads. UnlessFree is_want (AfterKits ns (of_reads reads)) c.kits_program.result))
    (ap texts c.deref.ensures.value ∙ c.in-Ok.ensures)
    (as_read g.F.Files c.args.files.now c.kits_program.new.files (KitsGenerated (texts c.deref.result.now)) c.kits_program.result c.kits_program.ensures)
