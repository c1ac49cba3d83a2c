use Rattle.std.proofs.Common.{Err, ap, subst, sym, ◌∙◌}
use Rattle.sed_typed.specs.declared.program.Program.{Program}
use Rattle.sed_typed.specs.Spelled.{CanBeTold}
use Rattle.sed_engine.specs.Code.{Meaning}
use Rattle.sed_engine.specs.Program.{meaning_of}
use Rattle.scode_engine.specs.contracts.machine.MachineEngine.TheImpl as machine
use Rattle.sedona_cli.specs.declared.refusal.Refusal.{Refusal}
use Rattle.sedona_cli.specs.Show.{PrintedOrWants}
use Rattle.sedona_cli.proofs.Payloads.{is_printed, unprinted}
use Rattle.sedona_cli.proofs.showing.printed.Goals as goal

pub read_app-requires-clause-statics : goal.read_app-requires-clause-statics
read_app-requires-clause-statics c = c.in-Ok.ensures.statics ∙ ap (λ (m : Meaning). m.initial_statics) (sym c.in-Ok.ensures.meaning)

pub returns-in-Err-read_app : goal.returns-in-Err-read_app
returns-in-Err-read_app c =
    subst (λ (r : Refusal). PrintedOrWants (meaning_of c.args.program) c.args.limit c.args.payload.now (Err r)) (sym c.of_app.ensures)
    (unprinted (meaning_of c.args.program) c.args.limit c.args.payload.now (c.typed_programs_are_whole.ensures c.args.program c.program.ensures.typed).tables
    (subst (λ (p : Program). CanBeTold p.schema) c.program.ensures.same c.schema_is_spelled_out.ensures.told)
    (machine.ghosts.meaning c.in-Ok.engine) (machine.ghosts.limit c.in-Ok.engine) c.in-Err-read_app.refusal c.in-Ok.ensures.meaning c.in-Ok.ensures.limit c.in-Err-read_app.ensures.refused)

pub returns-in-Ok-application_text : goal.returns-in-Ok-application_text
returns-in-Ok-application_text c =
    is_printed (meaning_of c.args.program) c.args.limit c.args.payload.now (c.typed_programs_are_whole.ensures c.args.program c.program.ensures.typed).tables
    (subst (λ (p : Program). CanBeTold p.schema) c.program.ensures.same c.schema_is_spelled_out.ensures.told)
    (machine.ghosts.meaning c.in-Ok.engine) (machine.ghosts.limit c.in-Ok.engine) (machine.ghosts.meaning c.in-Ok-read_app.app.tree.engine) _ c.in-Ok-application_text.text c.in-Ok.ensures.meaning c.in-Ok.ensures.limit
    c.in-Ok-read_app.ensures.same.meaning c.in-Ok-read_app.ensures.read c.in-Ok-application_text.ensures
