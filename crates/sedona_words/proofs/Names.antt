-- Names of files among words.
use Rattle.std.proofs.Common.{◌≡◌, List, String, Global}
use Rattle.std.specs.Prelude.{string_bytes}
use Rattle.std.specs.List.{list_all}
use Rattle.std.proofs.lemmas.List.Folds.{list_all-map}
use Rattle.sedona_words.specs.Command.{is_file_name, texts}

pub texts_are_names : (words : List (String Global)) → list_all is_file_name (texts words) ≡ list_all (λ word. is_file_name (string_bytes word)) words
texts_are_names words = list_all-map is_file_name (λ (word : String Global). string_bytes word) words
