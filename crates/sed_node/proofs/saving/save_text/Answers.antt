use Rattle.std.proofs.Common.{◌<◌, ℕ, List, length, subst}
use Rattle.std.specs.Prelude.{◌↔◌, IsErrOf}
use Rattle.app_save.specs.declared.refusal.SaveRefusal.TheVariants.{Full}
use Rattle.sed_node.specs.Saving.{SavesText}
use Rattle.sed_node.proofs.Saved.{text_saved}
use Rattle.sed_wire.proofs.WritingLemmas.{puts-taken}
use Rattle.sed_node.proofs.saving.save_text.Goals as goal

pub returns-in-Ok-clause-full : goal.returns-in-Ok-clause-full
returns-in-Ok-clause-full g c =
    subst (λ (text : List ℕ). IsErrOf c.save.result Full ↔ (c.args.store.now < length text))
    (puts-taken _ _ _ _ c.in-Ok.ensures.written) c.save.ensures.full

pub returns-in-Ok-clause-saves : goal.returns-in-Ok-clause-saves
returns-in-Ok-clause-saves g c =
    subst (λ (text : List ℕ). SavesText g.D.Disk.meaning c.args.store.now text c.save.result c.args.disk.now
    c.save.new.disk) (puts-taken _ _ _ _ c.in-Ok.ensures.written)
    (text_saved g.D.Disk.meaning c.args.store.now _ c.args.disk.now c.save.new.disk c.save.result c.save.ensures.full
    c.save.ensures.mark c.save.ensures.no_mark
    c.save.ensures.moments c.save.ensures.saved c.save.ensures.attached c.save.ensures.cause c.save.ensures.answers
    c.save.ensures.run c.save.ensures.untouched)
