use denote.Shadow.{shadow}
use denote.Text.{Utf8}
use Rattle.std.proofs.Common.{◌≡◌, ◌≤◌, ◌-◌, length}
use Rattle.sedona_words.specs.Command.{are_manifests, names_within}
use Rattle.sedona_words.proofs.Commas.{are_names}
use Rattle.sedona_words.proofs.words.is_manifests.Given as goal

abbrev pub invariant-names : goal.invariant-names
invariant-names l = record {
  some : 1 ≤ l.count;
  most : l.count ≤ 15;
  same : are_manifests (names_within l.word) ≡ are_names (l.count - 1) (names_within l.left);
  utf8 : shadow (Utf8 l.left);
}

abbrev pub decreases-names : goal.decreases-names
decreases-names l = length l.left
