use Rattle.std.proofs.Common.{Err, ap, subst, sym, ◌∙◌}
use Rattle.sed_typed.specs.Spelled.{CanBeTold}
use Rattle.sed_engine.specs.Code.{Meaning}
use Rattle.sed_engine.specs.Whole.{HasTables}
use Rattle.scode_code.specs.Image.{meaning_of}
use Rattle.scode_engine.specs.contracts.machine.MachineEngine.TheImpl as machine
use Rattle.sedona_cli.specs.declared.refusal.Refusal.{Refusal}
use Rattle.sedona_cli.specs.Refusals.{is_want}
use Rattle.sedona_cli.specs.Show.{PrintedOrWants}
use Rattle.sedona_cli.specs.Store.{IsRead}
use Rattle.sedona_cli.proofs.Payloads.{unprinted}
use Rattle.sedona_cli.proofs.ReplaySteps.{certainly, is_read_as}
use Rattle.sedona_cli.proofs.nodes.app_of.Goals as goal

pub returns-in-Ok-read_app-clause-read : goal.returns-in-Ok-read_app-clause-read
returns-in-Ok-read_app-clause-read c =
    let same = ap meaning_of c.in-Ok.ensures.image in
    is_read_as (meaning_of c.args.code) c.args.limit c.args.payload.now (subst HasTables same c.schema-told.ensures.whole.tables)
    (subst CanBeTold (ap (λ (m : Meaning). m.schema) same) c.schema-told.ensures.told)
    (machine.ghosts.meaning c.in-Ok.engine) (machine.ghosts.limit c.in-Ok.engine) _ same c.in-Ok.ensures.limit c.in-Ok-read_app.ensures.read

pub returns-in-Ok-read_app-clause-meaning : goal.returns-in-Ok-read_app-clause-meaning
returns-in-Ok-read_app-clause-meaning c = c.in-Ok-read_app.ensures.same.meaning ∙ ap meaning_of c.in-Ok.ensures.image

pub returns-in-Err-read_app-clause-refused : goal.returns-in-Err-read_app-clause-refused
returns-in-Err-read_app-clause-refused c = λ certain.
    let same = ap meaning_of c.in-Ok.ensures.image in
    certainly (is_want c.of_app.result) (Unit {0}) (IsRead (meaning_of c.args.code) c.args.limit c.args.payload.now (Err c.of_app.result))
    (subst (λ (r : Refusal). PrintedOrWants (meaning_of c.args.code) c.args.limit c.args.payload.now (Err r)) (sym c.of_app.ensures)
    (unprinted (meaning_of c.args.code) c.args.limit c.args.payload.now (subst HasTables same c.schema-told.ensures.whole.tables)
    (subst CanBeTold (ap (λ (m : Meaning). m.schema) same) c.schema-told.ensures.told)
    (machine.ghosts.meaning c.in-Ok.engine) (machine.ghosts.limit c.in-Ok.engine) c.in-Err-read_app.refusal same c.in-Ok.ensures.limit c.in-Err-read_app.ensures.refused)) certain
