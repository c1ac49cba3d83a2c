use Rattle.sed_value.proofs.ShownLemmas.{name_words}
use Rattle.sed_value.proofs.name.NameDebug.fmt.Goals as goal

pub show_name-requires : goal.show_name-requires
show_name-requires g c = name_words c.as_bytes.result.now (rw c.as_bytes.ensures.same c.as_bytes.ensures.form)
