-- A text at the front of an array of zeros is padded.
use Rattle.std.proofs.Common.{ℕ, ◌≤◌, List, ◌++◌, length, drop, replicate, ◌∙◌, arith}
use Rattle.std.proofs.lemmas.List.{length-append, length-drop, length-replicate, drop-replicate}
use Rattle.std.proofs.Math.Seq.{drop-append_seam}
use Rattle.sed_value.specs.InPlace.{IsPadded}

pub IsPadded-text : (most : ℕ) (text : List ℕ) → length text ≤ most → IsPadded most (length text) (text ++ drop (length text) (replicate most 0))
IsPadded-text most text fits = record {
  whole = simp (length-append, length-drop, length-replicate) (omega arith);
  fits = fits;
  blank = drop-append_seam text (drop (length text) (replicate most 0)) ∙ drop-replicate (length text) most 0;
}
