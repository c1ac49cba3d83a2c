-- A payload is read and printed.
use Rattle.std.proofs.Common.{◌≡◌, ℕ, List, Ok, Err, refl, ap, subst, ◌∙◌}
use Rattle.sed_typed.specs.Spelled.{CanBeTold}
use Rattle.sed_engine.specs.Code.{Meaning}
use Rattle.sed_engine.specs.Whole.{HasTables}
use Rattle.comp_tree.specs.Application.{Application}
use Rattle.app_file.specs.Reading.{IsFile, IsRefusedFor, file, no_file, over_limit, wrong_kits}
use Rattle.app_file.specs.declared.refusal.AppRefusal.{AppRefusal}
use Rattle.app_file.specs.declared.refusal.AppRefusal.TheVariants as app
use Rattle.printed_app.specs.Application.{application_text}
use Rattle.sedona_cli.specs.Refusals.{of_app}
use Rattle.sedona_cli.specs.Show.{PrintedOrWants}

-- over an engine of the code, with that limit
module _ (code : Meaning) (limit : ℕ) (payload : List ℕ) (tables : HasTables code) (told : CanBeTold code.schema) where
  unprinted_here : (refusal : AppRefusal) → IsRefusedFor code limit payload refusal → PrintedOrWants code limit payload (Err (of_app refusal))
  unprinted_here (app.NotAnApp at) is = record { tables = tables; told = told; reading = no_file; is_read = is; end_is = refl }
  unprinted_here (app.WrongKits place in_file in_kits) is = record { tables = tables; told = told; reading = wrong_kits place in_file in_kits; is_read = is; end_is = refl }
  unprinted_here (app.OverLimit which) is = record { tables = tables; told = told; reading = over_limit which; is_read = is; end_is = refl }
  unprinted_here app.Memory is = tt

  pub unprinted : (m : Meaning) (most : ℕ) (refusal : AppRefusal) → m ≡ code → most ≡ limit → IsRefusedFor m most payload refusal → PrintedOrWants code limit payload (Err (of_app refusal))
  unprinted m most refusal same is_most is =
      unprinted_here refusal (subst (λ (n : Meaning). IsRefusedFor n limit payload refusal) same (subst (λ (n : ℕ). IsRefusedFor m n payload refusal) is_most is))

  pub is_printed : (m : Meaning) (most : ℕ) (n : Meaning) (a : Application) (text : List ℕ) → m ≡ code → most ≡ limit → n ≡ m → IsFile m most payload a → text ≡ application_text n a
      → PrintedOrWants code limit payload (Ok text)
  is_printed m most n a text same is_most is_of is print = (
    a,
    record {
      tables = tables;
      told = told;
      reading = file a;
      is_read = subst (λ (o : Meaning). IsFile o limit payload a) same (subst (λ (k : ℕ). IsFile m k payload a) is_most is);
      end_is = refl;
    },
    print ∙ ap (λ (o : Meaning). application_text o a) (is_of ∙ same),
  )
