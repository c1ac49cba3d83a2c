use denote.Shadow.{shadow}
use denote.Text.{Utf8}
use Rattle.std.proofs.Common.{◌≡◌, ◌++◌, length}
use Rattle.sedona_words.specs.Command.{names_within, texts}
use Rattle.sedona_words.proofs.words.names_in.Given as goal

abbrev pub invariant-names : goal.invariant-names
invariant-names l = record {
  same : names_within l.word ≡ texts l.names.items ++ names_within l.left;
  utf8 : shadow (Utf8 l.left);
}

abbrev pub decreases-names : goal.decreases-names
decreases-names l = length l.left
