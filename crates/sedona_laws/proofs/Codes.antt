-- The code of a node has one end.
use Rattle.std.proofs.Common.{◌≡◌, ℕ, List, refl, subst}
use Rattle.sed_check.specs.Refusals.{AreAlike}
use Rattle.sed_typed.specs.declared.program.Program.{Program}
use Rattle.scode_image.specs.declared.image.Image.{Image}
use Rattle.input_files.specs.Inputs.{CodeRead}
use Rattle.sedona_cli.specs.Refusals.{of_inputs}
use Rattle.sedona_cli.specs.Steps.{KitsGenerated}
use Rattle.sedona_words.specs.Command.{CodeAsked, OfImage, OfKits}
use Rattle.sedona_laws.proofs.Alike.{files_alike, gives_alike, reads_alike, then_alike}
use Rattle.sedona_laws.proofs.AlikeFiles.{MeanAlike, programs_mean_alike}
use Rattle.sedona_laws.proofs.InputsOnce.{InputOne, LoadsOne, input_one}
use Rattle.sedona_laws.proofs.ReplayEnds.{CodeOne}
use Rattle.sed_engine.specs.Program as source
use Rattle.scode_code.specs.Image as made

-- one image means one code
same_code : (a b : Image) → a ≡ b → MeanAlike (made.meaning_of a) (made.meaning_of b)
same_code a b same = subst (λ (i : Image). MeanAlike (made.meaning_of a) (made.meaning_of i)) same refl

pub code_one : ((names : List (List ℕ)) → LoadsOne (KitsGenerated names)) → ((file : List ℕ) → InputOne {X = Image} (CodeRead file)) → (code : CodeAsked) → CodeOne code
code_one kits image (OfKits names) =
    then_alike _ _ AreAlike _ _ MeanAlike (reads_alike (KitsGenerated names) AreAlike (kits names))
    (λ (p q : Program) same. gives_alike MeanAlike (source.meaning_of p) (source.meaning_of q) (programs_mean_alike p q same))
code_one kits image (OfImage file) =
    then_alike _ _ (λ (a b : Image). a ≡ b) _ _ MeanAlike (files_alike of_inputs (CodeRead file) (λ (a b : Image). a ≡ b) (input_one (CodeRead file) (image file)))
    (λ (a b : Image) same. gives_alike MeanAlike (made.meaning_of a) (made.meaning_of b) (same_code a b same))
