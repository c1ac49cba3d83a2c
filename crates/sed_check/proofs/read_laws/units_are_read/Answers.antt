use Rattle.std.proofs.Common.{[]}
use Rattle.sed_check.specs.Read.{IsReadClass}
use Rattle.sed_check.proofs.Kept.{all_of}
use Rattle.sed_check.proofs.Texts.{are_spelled}
use Rattle.sed_check.proofs.Units.{classes_kept}
use Rattle.sed_check.proofs.read_laws.units_are_read.Goals as goal

pub returns : goal.returns
returns c = λ text tokens u bytes lexes derives.
    let spelled = are_spelled text tokens bytes (c.tokens_are_in_order.ensures text tokens lexes)
    (c.tokens_are_pieces.ensures text tokens lexes) in
    record {
      classes = all_of IsReadClass u.classes (classes_kept.keeps tokens [] u.classes spelled derives).0;
      shallow = c.derived_bodies_are_shallow.ensures tokens u derives;
    }
