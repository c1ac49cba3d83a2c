-- What is loaded is accepted, and what is accepted is loaded.
use Rattle.std.proofs.Common.{◌≡◌, ◌≤◌, ℕ, Bool, List, [], ◌++◌, Result, Ok, Err, refl, sym, ap, subst, ◌∙◌}
use Rattle.std.specs.Prelude.{length}
use Rattle.std.proofs.lemmas.List.{append-nil}
use Rattle.sed_outside.specs.Steps.{Read, Decides, AndThen, stops, goes_on}
use Rattle.sed_typed.specs.declared.program.Program.{Program}
use Rattle.kit_sources.specs.declared.refusal.SourcesRefusal.{SourcesRefusal}
use Rattle.kit_sources.specs.declared.sources.Sources.{Sources}
use Rattle.sed_check.specs.Checked.{faults, IsSpelled}
use Rattle.sed_check.specs.declared.refusal.KitsRefusal.{KitsRefusal}
use Rattle.sed_check.specs.Refusals.{of_sources}
use Rattle.sed_check.specs.Loading.{Told, IsChecked}

-- what a program is loaded from: a value of the first step, whose sources have no fault
pub record IsLoadedOf {X : Type 0} (first : List Read → Result X SourcesRefusal → Type 0) (sources : X → Sources) (cycles : Bool) (reads : List Read) : Type 0 where
  pub value : X
  pub read : first reads (Ok value)
  pub faultless : faults (sources value).kits cycles ≡ []

pub loaded_of : {X : Type 0} (first : List Read → Result X SourcesRefusal → Type 0) (sources : X → Sources) (cycles : Bool) (reads : List Read) (program : Program)
    → AndThen (Told of_sources first) (λ x. Decides (IsChecked cycles (sources x))) reads (Ok program) → IsLoadedOf first sources cycles reads
loaded_of first sources cycles reads program (stops refusal stopped is) =
    let e : ◌≡◌ {A = Result Program KitsRefusal} (Ok program) (Err refusal) = is in absurd (cc)
loaded_of first sources cycles reads program (goes_on front back value split read decided) = record {
  value = value;
  read = subst (λ (rs : List Read). first rs (Ok value)) (sym (split ∙ ap (λ (rs : List Read). front ++ rs) decided.none ∙ append-nil front)) read;
  faultless = decided.holds.0;
}

pub loads : {X : Type 0} (first : List Read → Result X SourcesRefusal → Type 0) (sources : X → Sources) (cycles : Bool) (reads : List Read) (value : X) (program : Program)
    → first reads (Ok value) → faults (sources value).kits cycles ≡ [] → IsSpelled (sources value).kits program
    → AndThen (Told of_sources first) (λ x. Decides (IsChecked cycles (sources x))) reads (Ok program)
loads first sources cycles reads value program read faultless spelled =
    goes_on reads [] value (sym (append-nil reads)) read (record { none = refl; holds = (faultless, spelled) })
