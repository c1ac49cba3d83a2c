use Rattle.std.proofs.Common.{sym, ◌∙◌}
use Rattle.sedona_words.proofs.Names.{texts_are_names}
use Rattle.sedona_words.proofs.words.are_file_names.Goals as goal

pub returns : goal.returns
returns c = c.all_named.ensures ∙ sym (texts_are_names c.args.names.now)
