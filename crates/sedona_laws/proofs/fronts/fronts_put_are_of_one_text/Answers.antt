use Rattle.std.proofs.Common.{List}
use Rattle.sedona_words.specs.Command.{output_of}
use Rattle.sedona_cli.specs.Outside.{Ask}
use Rattle.sedona_laws.proofs.FrontsPut.{fronts_one, puts_text}
use Rattle.sedona_laws.proofs.TextsPut.{asks_so}
use Rattle.sedona_laws.proofs.fronts.fronts_put_are_of_one_text.Goals as goal

pub returns-clause-text : goal.returns-clause-text
returns-clause-text g c = puts_text

pub returns-clause-answers : goal.returns-clause-answers
returns-clause-answers g c = fronts_one c.one_text_so_far.ensures

pub returns-clause-worlds : goal.returns-clause-worlds
returns-clause-worlds g c = λ command old new other last status number does done no_want none_wanted.
    asks_so g.F.Files g.D.Disk (output_of command) old.files new.files old.disk new.disk _ _
    (λ (asks : List Ask) answer. asks_so g.F.Files g.D.Disk (output_of command) other.files last.files other.disk last.disk _ _
    (λ (others : List Ask) told. (answer, told, λ agree. fronts_one c.one_text_so_far.ensures command asks others _ _ _ _ _ _ _ _ _ _ agree answer told no_want none_wanted)) done.answered) does.answered
