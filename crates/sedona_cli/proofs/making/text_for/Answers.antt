use Rattle.std.proofs.Common.{◌≡◌, ◌≤◌, ◌<◌, ℕ, List, length, ap, subst, ◌∙◌, Err}
use Rattle.sed_typed.specs.declared.program.Program.{Program}
use Rattle.sed_engine.specs.Code.{Meaning}
use Rattle.sed_engine.specs.Program.{meaning_of}
use Rattle.scode_engine.specs.contracts.machine.MachineEngine.TheImpl as machine
use Rattle.app_writer.specs.Alone.{text_alone}
use Rattle.sedona_cli.specs.declared.refusal.Refusal.{Refusal}
use Rattle.sedona_cli.specs.declared.refusal.Refusal.TheVariants.{SlotTooSmall}
use Rattle.sedona_cli.specs.New.{most_data, text_of}
use Rattle.sedona_cli.proofs.making.text_for.Goals as goal

-- the engine is of the program and has the most data
same_text : (m : Meaning) (q : Program) (limit : ℕ) → m ≡ meaning_of q → limit ≡ most_data → text_alone m limit ≡ text_of q
same_text m q limit same most = λ i. text_alone (same i) (most i)

-- so many bytes are needed, and a slot has fewer
refused : (slot needs : ℕ) (found text : List ℕ) → found ≡ text → (needs ≡ length found) × (slot < needs)
    → (◌≡◌ {A = Refusal} (SlotTooSmall needs slot) (SlotTooSmall (length text) slot)) × (slot < length text)
refused slot needs found text same told =
    let all : needs ≡ length text = told.0 ∙ ap (λ (t : List ℕ). length t) same in
    (ap (λ (n : ℕ). SlotTooSmall n slot) all, subst (λ (n : ℕ). slot < n) all told.1)

pub returns-in-Ok-text_of_alone-clause-text : goal.returns-in-Ok-text_of_alone-clause-text
returns-in-Ok-text_of_alone-clause-text c =
    c.in-Ok-text_of_alone.ensures.text ∙ same_text (machine.ghosts.meaning c.in-Ok.engine) c.args.program (machine.ghosts.limit c.in-Ok.engine) c.in-Ok.ensures.meaning c.in-Ok.ensures.limit

pub returns-in-Ok-text_of_alone-clause-fits : goal.returns-in-Ok-text_of_alone-clause-fits
returns-in-Ok-text_of_alone-clause-fits c =
    subst (λ (text : List ℕ). length text ≤ c.args.slot)
    (same_text (machine.ghosts.meaning c.in-Ok.engine) c.args.program (machine.ghosts.limit c.in-Ok.engine) c.in-Ok.ensures.meaning c.in-Ok.ensures.limit)
    c.in-Ok-text_of_alone.ensures.small

pub returns-in-Err-SlotTooSmall-clause-refused : goal.returns-in-Err-SlotTooSmall-clause-refused
returns-in-Err-SlotTooSmall-clause-refused c = λ unwanted.
    refused c.args.slot c.in-Err-SlotTooSmall.needs
    (text_alone (machine.ghosts.meaning c.in-Ok.engine) (machine.ghosts.limit c.in-Ok.engine)) (text_of c.args.program)
    (same_text (machine.ghosts.meaning c.in-Ok.engine) c.args.program (machine.ghosts.limit c.in-Ok.engine) c.in-Ok.ensures.meaning c.in-Ok.ensures.limit)
    (c.in-Err-SlotTooSmall.ensures.needs c.in-Err-SlotTooSmall.needs (ap Err c.in-Err-SlotTooSmall.field-0-is))
