use Rattle.std.proofs.Common.{ℕ, subst}
use Rattle.link_prop.specs.Linked.{application_of}
use Rattle.app_file.specs.Text.{app_text}
use Rattle.sed_node.specs.Saving.{SavesText}
use Rattle.sed_node.proofs.Saved.{on_disk}
use Rattle.sed_node.proofs.saving.Saver.save.Goals as goal

pub returns-clause-disk : goal.returns-clause-disk
returns-clause-disk g c = λ code whole.
    let m = g.E.Engine.meaning c.args.app.now.tree.engine in
    let a = application_of g.E.Engine c.args.app.now in
    on_disk c.stores_open_to_one.ensures.slot c.stores_open_to_one.ensures.payload g.D.Disk.meaning m c.args.self.now a
    c.args.disk.now c.save_text.new.disk
    (c.texts_are_files_of_what_is_kept.ensures.file m a code whole)
    (c.texts_are_files_of_what_is_kept.ensures.text m a code whole) c.save_text.result
    (subst (λ (slot : ℕ). SavesText g.D.Disk.meaning slot (app_text m a) c.save_text.result c.args.disk.now
    c.save_text.new.disk) c.self.view_is c.save_text.ensures.saves)
