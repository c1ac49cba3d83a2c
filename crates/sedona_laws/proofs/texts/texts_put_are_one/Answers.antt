use Rattle.std.proofs.Common.{List}
use Rattle.sedona_words.specs.Command.{output_of}
use Rattle.sedona_cli.specs.Outside.{Ask}
use Rattle.sedona_laws.proofs.TextsPut.{asks_so, put_one}
use Rattle.sedona_laws.proofs.texts.texts_put_are_one.Goals as goal

pub returns-clause-answers : goal.returns-clause-answers
returns-clause-answers g c = put_one c.one_text.ensures

pub returns-clause-worlds : goal.returns-clause-worlds
returns-clause-worlds g c = λ command old new other last does done.
    asks_so g.F.Files g.D.Disk (output_of command) old.files new.files old.disk new.disk _ _
    (λ (asks : List Ask) answer. asks_so g.F.Files g.D.Disk (output_of command) other.files last.files other.disk last.disk _ _
    (λ (others : List Ask) told. (answer, told, λ agree. put_one c.one_text.ensures command asks others _ _ _ _ _ _ _ _ agree answer told)) done.answered) does.answered
