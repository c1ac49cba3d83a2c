use Rattle.std.proofs.Common.{ℕ, List, Result, Err, Some, ap, subst, ◌∙◌}
use Rattle.sed_outside.specs.Steps.{UnlessFree}
use Rattle.sed_outside.specs.Reads.{HasReads}
use Rattle.sed_typed.specs.declared.program.Program.{Program}
use Rattle.sedona_cli.specs.declared.refusal.Refusal.{Refusal}
use Rattle.sedona_words.specs.Command.{Show, texts}
use Rattle.sedona_cli.specs.Show.{ShowOf}
use Rattle.sedona_cli.specs.Outside.{HasAsks, Spares}
use Rattle.sedona_cli.specs.Program.{ComesOrWants}
use Rattle.sedona_cli.specs.Refusals.{is_want}
use Rattle.sedona_cli.specs.Steps.{KitsGenerated}
use Rattle.sedona_cli.proofs.Asking.{only_reads}
use Rattle.sedona_cli.proofs.Building.{comes_refused, no_asks, nothing_spared}
use Rattle.sedona_cli.proofs.ShowSteps.{show_goes}
use Rattle.sedona_cli.proofs.showing.shown.Goals as goal

pub returns-in-Ok-kits_program : goal.returns-in-Ok-kits_program
returns-in-Ok-kits_program g c =
    let names = texts c.deref.result.now in
    subst (λ (ns : List (List ℕ)). HasAsks g.F.Files g.D.Disk c.args.files.now c.kits_program.new.files c.args.disk.now c.shown_of.new.disk (λ asks. ComesOrWants (Show ns c.args.store.now c.args.limit) asks c.shown_of.result))
    (ap texts c.deref.ensures.value ∙ c.in-Ok.ensures)
    (show_goes g.F.Files g.D.Disk c.args.files.now c.kits_program.new.files c.args.disk.now c.shown_of.new.disk names c.args.store.now c.args.limit c.in-Ok-kits_program.program c.shown_of.result
    (subst (λ (r : Result Program Refusal). HasReads g.F.Files c.args.files.now c.kits_program.new.files (λ reads. UnlessFree is_want (KitsGenerated names reads) r)) c.in-Ok-kits_program.is c.kits_program.ensures)
    c.shown_of.ensures)

pub returns : goal.returns
returns g c =
    let names = texts c.deref.result.now in
    subst (λ (ns : List (List ℕ)). HasAsks g.F.Files g.D.Disk c.args.files.now c.kits_program.new.files c.args.disk.now c.args.disk.now (λ asks. ComesOrWants (Show ns c.args.store.now c.args.limit) asks (Err c.in-Err-kits_program.refusal)))
    (ap texts c.deref.ensures.value ∙ c.in-Ok.ensures)
    (only_reads g.F.Files g.D.Disk c.args.files.now c.kits_program.new.files c.args.disk.now (λ asks. ComesOrWants (Show names c.args.store.now c.args.limit) asks (Err c.in-Err-kits_program.refusal))
    (comes_refused g.F.Files c.args.files.now c.kits_program.new.files (Some c.args.store.now) (KitsGenerated names) (ShowOf c.args.store.now c.args.limit) c.kits_program.result c.in-Err-kits_program.refusal
    c.in-Err-kits_program.is c.kits_program.ensures))

pub returns-in-Err : goal.returns-in-Err
returns-in-Err g c =
    no_asks g.F.Files g.D.Disk c.args.files.now c.args.disk.now (λ asks. Spares (Some c.args.store.now) asks) (nothing_spared (Some c.args.store.now))
