-- The eighth byte of a text tells its kind.
use Rattle.std.proofs.Common.{◌≡◌, ℕ, List, refl, ap, sym, ◌∙◌, arith}
use Rattle.std.specs.Prelude.{slice_index_or}
use Rattle.sed_engine.specs.Code.{Meaning}
use Rattle.comp_tree.specs.Application.{Application}
use Rattle.app_file.specs.Text.{AppText, OldText, app_text, old_text}

eighth_of_new : (m : Meaning) (a : Application) → slice_index_or (app_text m a) 7 0 ≡ 4
eighth_of_new m a = refl

eighth_of_old : (m : Meaning) (a : Application) → slice_index_or (old_text m a) 7 0 ≡ 3
eighth_of_old m a = refl

pub of_one_kind : (m n : Meaning) (a b : Application) (bytes : List ℕ) → AppText m a bytes → OldText n b bytes → ⊥
of_one_kind m n a b bytes new old =
    let four_is_three : ◌≡◌ {A = ℕ} 4 3 =
    sym (eighth_of_new m a) ∙ ap (λ (xs : List ℕ). slice_index_or xs 7 0) (sym new ∙ old.text) ∙ eighth_of_old n b in
    absurd (omega (arith, four_is_three))
