use Rattle.std.proofs.Common.{◌≤◌, ℕ, List, Result, subst, ◌∙◌, arith}
use Rattle.app_save.specs.Store.{Opens}
use Rattle.sed_outside.specs.Steps.{AndThen}
use Rattle.sed_engine.specs.Program.{meaning_of}
use Rattle.app_writer.specs.Alone.{data_alone}
use Rattle.sedona_cli.specs.declared.refusal.Refusal.{Refusal}
use Rattle.sedona_cli.specs.New.{most_data}
use Rattle.sedona_cli.specs.Outside.{AsksDisk}
use Rattle.sedona_cli.specs.Store.{StoreAttached, StoreMade}
use Rattle.sedona_cli.proofs.Building.{all_made, made_marks, made_opens, unmade, unmeasured}
use Rattle.sedona_cli.proofs.making.made_of.Goals as goal

pub returns-in-Err-clause-asks : goal.returns-in-Err-clause-asks
returns-in-Err-clause-asks g c = unmeasured g.D.Disk c.args.disk.now c.args.store.now c.args.slot c.args.program c.in-Err.refusal c.in-Err.ensures.refused

pub returns-in-Ok-attach_and_make-clause-asks : goal.returns-in-Ok-attach_and_make-clause-asks
returns-in-Ok-attach_and_make-clause-asks g c =
    all_made g.D.Disk c.args.disk.now c.attach_and_make.new.disk c.args.store.now c.args.slot c.deref.result.now c.in-Ok-done_text.done c.args.program
    (c.deref.ensures.value ∙ c.in-Ok.ensures.text) c.in-Ok.ensures.fits c.in-Ok-done_text.ensures
    (subst (λ (r : Result (Unit {0}) Refusal). AsksDisk g.D.Disk c.args.disk.now c.attach_and_make.new.disk (λ asks. AndThen (StoreAttached c.args.store.now) (λ (attached : Unit {0}). StoreMade c.args.slot c.deref.result.now) asks r))
    c.in-Ok-attach_and_make.is c.attach_and_make.ensures)

pub returns-in-Ok-attach_and_make-clause-opens : goal.returns-in-Ok-attach_and_make-clause-opens
returns-in-Ok-attach_and_make-clause-opens g c = λ told image left.
    let m = meaning_of c.args.program in
    let whole = c.typed_programs_are_whole.ensures c.args.program c.program-typed.ensures.typed in
    let small = c.the_app_is_small.ensures m whole in
    let fits : data_alone m ≤ most_data = omega (arith, small) in
    c.new_stores_open_to_the_app.ensures m most_data c.args.slot image whole fits (omega arith) (omega arith)
    (subst (λ (text : List ℕ). Opens c.args.slot image text) (c.deref.ensures.value ∙ c.in-Ok.ensures.text)
    (made_opens g.D.Disk c.args.disk.now c.attach_and_make.new.disk c.args.store.now c.args.slot c.deref.result.now
    (subst (λ (r : Result (Unit {0}) Refusal). AsksDisk g.D.Disk c.args.disk.now c.attach_and_make.new.disk (λ asks. AndThen (StoreAttached c.args.store.now) (λ (attached : Unit {0}). StoreMade c.args.slot c.deref.result.now) asks r))
    c.in-Ok-attach_and_make.is c.attach_and_make.ensures) told image left))

pub returns-clause-asks : goal.returns-clause-asks
returns-clause-asks g c =
    unmade g.D.Disk c.args.disk.now c.attach_and_make.new.disk c.args.store.now c.args.slot c.deref.result.now c.args.program c.in-Err-attach_and_make.refusal
    (c.deref.ensures.value ∙ c.in-Ok.ensures.text) c.in-Ok.ensures.fits
    (subst (λ (r : Result (Unit {0}) Refusal). AsksDisk g.D.Disk c.args.disk.now c.attach_and_make.new.disk (λ asks. AndThen (StoreAttached c.args.store.now) (λ (attached : Unit {0}). StoreMade c.args.slot c.deref.result.now) asks r))
    c.in-Err-attach_and_make.is c.attach_and_make.ensures)

pub returns-in-Ok-attach_and_make-clause-mark : goal.returns-in-Ok-attach_and_make-clause-mark
returns-in-Ok-attach_and_make-clause-mark g c =
    made_marks g.D.Disk c.args.disk.now c.attach_and_make.new.disk c.args.store.now c.args.slot c.deref.result.now
    (subst (λ (r : Result (Unit {0}) Refusal). AsksDisk g.D.Disk c.args.disk.now c.attach_and_make.new.disk (λ asks. AndThen (StoreAttached c.args.store.now) (λ (attached : Unit {0}). StoreMade c.args.slot c.deref.result.now) asks r))
    c.in-Ok-attach_and_make.is c.attach_and_make.ensures)
