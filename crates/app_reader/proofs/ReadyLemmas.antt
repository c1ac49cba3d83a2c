-- What bytes are read as, by the rows that they are.
use Rattle.std.proofs.Common.{ℕ, List, inl, inr, sym, subst}
use Rattle.std.specs.Prelude.{Result, Ok, Err, IfOk, IfErr}
use Rattle.sed_engine.specs.Code.{Meaning}
use Rattle.comp_tree.specs.Application.{Application, children_of}
use Rattle.app_file.specs.Reading.{IsNoFile, IsRefusedFor, StandsFor}
use Rattle.app_file.specs.declared.refusal.AppRefusal.{AppRefusal}
use Rattle.app_file.specs.declared.refusal.AppRefusal.TheVariants.{NotAnApp, WrongKits, OverLimit, Memory}
use Rattle.app_front.specs.Rows.{AreRows, HasNoRows, IsRowsAnswer, IsRowsOutcome}
use Rattle.app_front.specs.declared.rows.FileRows.{FileRows}
use Rattle.app_reader.specs.FormedFile.{IsFormedFile}
use Rattle.app_reader.specs.Tells.{AreToldBy, Tells}

module _ (m : Meaning) (bytes : List ℕ) where
  pub rows_found : (r : Result FileRows AppRefusal) → IsRowsOutcome m bytes r → IfOk r (λ f. AreRows m bytes f)
  rows_found (Ok f) is = is
  rows_found (Err refusal) is = tt

  module _ (stood : (limit : ℕ) (a : Application) → StandsFor m limit bytes a → AreToldBy m limit bytes a) where
    no_body : (limit : ℕ) → HasNoRows m bytes → IsNoFile m limit bytes
    no_body limit none =
        inr (record { version = none.version; rest = none.rest; front = none.front; none = λ a stands. let told = stood limit a stands in none.none told.file told.are })

    refused_for : (limit : ℕ) (refusal : AppRefusal) → IsRowsOutcome m bytes (Err refusal) → IsRefusedFor m limit bytes refusal
    refused_for limit (NotAnApp at) (inl none) = inl none
    refused_for limit (NotAnApp at) (inr none) = no_body limit none
    refused_for limit (WrongKits place in_file in_kits) is = is
    refused_for limit (OverLimit which) is = absurd is
    refused_for limit Memory is = tt

    pub rows_refused : (r : Result FileRows AppRefusal) → IsRowsOutcome m bytes r → IfErr r (λ refusal. (limit : ℕ) → IsRefusedFor m limit bytes refusal)
    rows_refused (Ok f) is = tt
    rows_refused (Err refusal) is = λ limit. refused_for limit refusal is

    pub rows_alone : (r : Result FileRows AppRefusal) → ((f : FileRows) → AreRows m bytes f → IsRowsAnswer f r) → IfOk r (λ f. (limit : ℕ) (a : Application) → StandsFor m limit bytes a → Tells m limit f a)
    rows_alone (Ok f) answers =
        λ limit a stands.
        let told = stood limit a stands in
        subst (λ (g : FileRows). Tells m limit g a) (sym (answers told.file told.are)) told.tells
    rows_alone (Err refusal) answers = tt

  -- rows that hold together with no children are no file
  pub no_file : (f : FileRows) → AreRows m bytes f → (limit : ℕ) → ((a : Application) → StandsFor m limit bytes a → IsFormedFile m f (children_of a.components.by_id))
      → ((others : ℕ → List ℕ) → IsFormedFile m f others → ⊥) → IsNoFile m limit bytes
  no_file f are limit formed none =
      inr (record { version = f.version; rest = _; front = are.front; none = λ a stands. none (children_of a.components.by_id) (formed a stands) })
