-- Bytes that are a file whose application passes a limit are read as nothing else.
use Rattle.std.proofs.Common.{◌≡◌, ℕ, List, inl, inr, refl, sym, subst, ap}
use Rattle.std.specs.Prelude.{◌⊎◌, ◌↔◌, IfErr, IfOk, Result, Ok, Err, Some}
use Rattle.sed_engine.specs.Code.{Meaning}
use Rattle.comp_tree.specs.Application.{Application}
use Rattle.comp_tree.specs.Whole.{Whole}
use Rattle.app_file.specs.Reading.{IsFile, IsOverLimit, IsReadAs, IsRefusedFor, Reading, StandsFor, file, no_file, over_limit, wrong_kits}
use Rattle.app_file.specs.declared.refusal.AppRefusal.{AppRefusal}
use Rattle.app_file.specs.declared.refusal.AppRefusal.TheVariants.{NotAnApp, WrongKits, OverLimit, Memory}
use Rattle.app_reader.specs.Ready.{IsLimitOrMemory, application_told, limit_told}
use Rattle.app_reader.specs.declared.ready.FormedRows.{FormedRows}

module _ (m : Meaning) (limit : ℕ) (bytes : List ℕ) (once : (one other : Reading) → IsReadAs m limit bytes one → IsReadAs m limit bytes other → one ≡ other)
    (which : ℕ) (over : IsOverLimit m limit bytes which) where
  pub no_application : (a : Application) → IsFile m limit bytes a → ⊥
  no_application a is = let same : over_limit which ≡ file a = once (over_limit which) (file a) over is in cc

  pub told_over : {A : Type 0} (refusal : AppRefusal) → IsRefusedFor m limit bytes refusal
      → (◌≡◌ {A = Result A AppRefusal} (Err refusal) (Err (OverLimit which))) ⊎ (◌≡◌ {A = Result A AppRefusal} (Err refusal) (Err Memory))
  told_over (NotAnApp at) is = absurd (let same : over_limit which ≡ no_file = once (over_limit which) no_file over is in cc)
  told_over (WrongKits place in_file in_kits) is =
      absurd (let same : over_limit which ≡ wrong_kits place in_file in_kits = once (over_limit which) (wrong_kits place in_file in_kits) over is in cc)
  told_over (OverLimit other) is =
      let same : over_limit which ≡ over_limit other = once (over_limit which) (over_limit other) over is in
      let number : other ≡ which = cc in
      inl (ap (λ (n : ℕ). Err (OverLimit n)) number)
  told_over Memory is = inr refl

  -- so this limit is answered, or want of memory
  pub over_of : {A : Type 0} (application : A → Application) (r : Result A AppRefusal) → IfOk r (λ a. IsFile m limit bytes (application a))
      → IfErr r (λ refusal. IsRefusedFor m limit bytes refusal)
      → (r ≡ Err (OverLimit which)) ⊎ (r ≡ Err Memory)
  over_of application (Ok a) read refused = absurd (no_application (application a) read)
  over_of application (Err refusal) read refused = told_over refusal refused

-- ---- what is answered to bytes whose rows hold together

module _ (m : Meaning) (limit : ℕ) (bytes : List ℕ) (rows : FormedRows) (stands : StandsFor m limit bytes (application_told m limit rows)) where
  file_of : (a : Application) → a ≡ application_told m limit rows → Whole m a → IsFile m limit bytes a
  file_of a same = subst (λ (b : Application). Whole m b → IsFile m limit bytes b) (sym same) (λ whole. record { whole = whole; kept = stands.kept; under = stands.under; text = stands.text })

  pub read_of : {A : Type 0} (application : A → Application) (r : Result A AppRefusal) → IfOk r (λ a. application a ≡ application_told m limit rows)
      → IfOk r (λ a. Whole m (application a)) → IfOk r (λ a. IsFile m limit bytes (application a))
  read_of application (Ok a) same whole = file_of (application a) same whole
  read_of application (Err refusal) same whole = tt

  pub refused_of : {A : Type 0} (r : Result A AppRefusal) → IfErr r IsLimitOrMemory
      → ((which : ℕ) → (r ≡ Err (OverLimit which)) ↔ (limit_told m limit rows ≡ Some which))
      → IfErr r (λ refusal. IsRefusedFor m limit bytes refusal)
  refused_of (Ok a) is over = tt
  refused_of (Err (NotAnApp at)) is over = absurd is
  refused_of (Err (WrongKits place in_file in_kits)) is over = absurd is
  refused_of (Err (OverLimit which)) is over = record { application = application_told m limit rows; stands = stands; first = (over which).0 refl }
  refused_of (Err Memory) is over = tt
