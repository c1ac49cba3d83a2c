use Rattle.std.proofs.Common.{refl}
use Rattle.sed_terms.specs.Faults.{told}
use Rattle.sed_terms.proofs.Told.{after_told, joined_told}
use Rattle.sed_terms.proofs.laws.rules_keep_the_least.Goals as goal

pub returns : goal.returns
returns g c = record {
  one = λ x all least same. after_told x (told x) all least refl same;
  two = λ x y all least same. joined_told x y (told x) (told y) all least refl refl same;
}
