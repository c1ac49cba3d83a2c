use Rattle.app_writer.specs.Alone.{app_alone}
use Rattle.app_writer.proofs.NewStores.{new_image}
use Rattle.app_writer.proofs.laws.new_stores_open_to_the_app.Goals as goal

pub returns : goal.returns
returns c = λ m limit S image code fits least most opens.
    let whole = c.the_app_alone_is_whole.ensures m m.initial_statics limit code code.tables.first_statics fits least most in
    new_image S m limit image (c.texts_are_files_of_what_is_kept.ensures.file m (app_alone m limit) code whole) opens
