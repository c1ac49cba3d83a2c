use Rattle.std.proofs.Common.{◌++◌, ◌∷◌, [], refl}
use Rattle.sed_wire.specs.OneSpelling.{one_text}
use Rattle.sed_wire.proofs.TextLemmas.{read_text}
use Rattle.sed_wire.proofs.laws.texts_are_read_one_way.Goals as goal

pub returns : goal.returns
returns c = record {
  one = one_text;
  some = λ text characters. (text ++ 0 ∷ [], record { characters = characters; ended = refl });
  read = read_text;
}
