use Rattle.std.proofs.Common.{ℕ, List, Result, Err, Some, OnOk, ap, subst, ◌∙◌}
use Rattle.sed_outside.specs.Steps.{UnlessFree}
use Rattle.sed_outside.specs.Reads.{HasReads}
use Rattle.sed_typed.specs.declared.program.Program.{Program}
use Rattle.sedona_cli.specs.declared.refusal.Refusal.{Refusal}
use Rattle.sedona_words.specs.Command.{New, texts}
use Rattle.sedona_cli.specs.New.{LeavesNew, NewOf}
use Rattle.sedona_cli.specs.Outside.{HasAsks}
use Rattle.sedona_cli.specs.Program.{ComesOrWants}
use Rattle.sedona_cli.specs.Refusals.{is_want}
use Rattle.sedona_cli.specs.Steps.{KitsGenerated}
use Rattle.sedona_cli.proofs.Asking.{only_reads}
use Rattle.sedona_cli.proofs.Building.{comes_refused, new_goes, new_leaves}
use Rattle.sedona_cli.proofs.making.made.Goals as goal

pub returns-in-Ok-kits_program-clause-asks : goal.returns-in-Ok-kits_program-clause-asks
returns-in-Ok-kits_program-clause-asks g c =
    let names = texts c.deref.result.now in
    subst (λ (ns : List (List ℕ)). HasAsks g.F.Files g.D.Disk c.args.files.now c.kits_program.new.files c.args.disk.now c.made_of.new.disk (λ asks. ComesOrWants (New ns c.args.store.now c.args.slot) asks c.made_of.result))
    (ap texts c.deref.ensures.value ∙ c.in-Ok.ensures)
    (new_goes g.F.Files g.D.Disk c.args.files.now c.kits_program.new.files c.args.disk.now c.made_of.new.disk names c.args.store.now c.args.slot c.in-Ok-kits_program.program c.made_of.result
    (subst (λ (r : Result Program Refusal). HasReads g.F.Files c.args.files.now c.kits_program.new.files (λ reads. UnlessFree is_want (KitsGenerated names reads) r)) c.in-Ok-kits_program.is c.kits_program.ensures)
    c.made_of.ensures.asks)

pub returns-clause-asks : goal.returns-clause-asks
returns-clause-asks g c =
    let names = texts c.deref.result.now in
    subst (λ (ns : List (List ℕ)). HasAsks g.F.Files g.D.Disk c.args.files.now c.kits_program.new.files c.args.disk.now c.args.disk.now (λ asks. ComesOrWants (New ns c.args.store.now c.args.slot) asks (Err c.in-Err-kits_program.refusal)))
    (ap texts c.deref.ensures.value ∙ c.in-Ok.ensures)
    (only_reads g.F.Files g.D.Disk c.args.files.now c.kits_program.new.files c.args.disk.now (λ asks. ComesOrWants (New names c.args.store.now c.args.slot) asks (Err c.in-Err-kits_program.refusal))
    (comes_refused g.F.Files c.args.files.now c.kits_program.new.files (Some c.args.store.now) (KitsGenerated names) (NewOf c.args.store.now c.args.slot) c.kits_program.result c.in-Err-kits_program.refusal
    c.in-Err-kits_program.is c.kits_program.ensures))

pub returns-in-Ok-kits_program-clause-leaves : goal.returns-in-Ok-kits_program-clause-leaves
returns-in-Ok-kits_program-clause-leaves g c =
    let names = texts c.deref.result.now in
    subst (λ (ns : List (List ℕ)). OnOk c.made_of.result (LeavesNew g.F.Files ns c.args.slot c.args.files.now c.kits_program.new.files (g.D.Disk.meaning c.args.disk.now) (g.D.Disk.meaning c.made_of.new.disk)))
    (ap texts c.deref.ensures.value ∙ c.in-Ok.ensures)
    (new_leaves g.F.Files c.args.files.now c.kits_program.new.files (g.D.Disk.meaning c.args.disk.now) (g.D.Disk.meaning c.made_of.new.disk) names c.args.slot c.in-Ok-kits_program.program c.made_of.result
    (subst (λ (r : Result Program Refusal). HasReads g.F.Files c.args.files.now c.kits_program.new.files (λ reads. UnlessFree is_want (KitsGenerated names reads) r)) c.in-Ok-kits_program.is c.kits_program.ensures)
    c.made_of.ensures.mark c.made_of.ensures.opens)
