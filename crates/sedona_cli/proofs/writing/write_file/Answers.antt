use Rattle.std.proofs.Common.{ℕ, List, None, Err, ap, subst, sym, ◌∙◌}
use Rattle.sedona_cli.specs.declared.refusal.Refusal.{Refusal}
use Rattle.sedona_cli.specs.Program.{OrWants}
use Rattle.sedona_cli.specs.Refusals.{of_write}
use Rattle.sedona_cli.specs.Steps.{FileWritten}
use Rattle.sedona_cli.specs.Writing.{HasWrite}
use Rattle.std.proofs.Common.{Ok}
use Rattle.sedona_cli.proofs.WriteSteps.{write_call}
use Rattle.sedona_cli.proofs.writing.write_file.Goals as goal

pub returns-in-Ok-clause-asks : goal.returns-in-Ok-clause-asks
returns-in-Ok-clause-asks g c =
    write_call g.F.Files c.args.files.now c.write.new.self c.args.name.now c.args.bytes.now c.args.text (Ok tt) c.requires.text
    c.in-Ok.ensures.ok c.in-Ok.ensures.others c.in-Ok.ensures.cause c.in-Ok.ensures.counts c.in-Ok.ensures.reads

pub returns-in-Err-clause-asks : goal.returns-in-Err-clause-asks
returns-in-Err-clause-asks g c =
    subst (λ (r : Refusal). HasWrite g.F.Files c.args.name.now c.args.files.now c.write.new.self (λ asks. OrWants None (FileWritten c.args.name.now c.args.bytes.now) asks (Err r)))
    (sym (c.write_refusal.ensures ∙ ap (λ (n : List ℕ). of_write n c.in-Err.fault) c.requires.file))
    (write_call g.F.Files c.args.files.now c.write.new.self c.args.name.now c.args.bytes.now c.args.text (Err c.in-Err.fault) c.requires.text
    c.in-Err.ensures.ok c.in-Err.ensures.others c.in-Err.ensures.cause c.in-Err.ensures.counts c.in-Err.ensures.reads)
