-- A component that is asked for, without where its bytes lie in memory.
use Rattle.std.specs.Prelude.{ℕ, ℤ, Bool, List}
use Rattle.sed_value.specs.declared.refusal.Refusal.{Refusal}
use Rattle.sed_engine.specs.Code.{Meaning}
use Rattle.comp_tree.specs.Allowed.{MayAdd}
use Rattle.comp_tree.specs.Application.{Components}
use Rattle.comp_tree.specs.Calls.{Ran}
use Rattle.comp_tree.specs.Edit.{class_or_none}
use Rattle.comp_tree.specs.Edits.{after_add}
use Rattle.comp_tree.specs.Refusals.{refusals_of_add}
use Rattle.comp_tree.specs.declared.new_component.NewComponent.{NewComponent}

abbrev pub refusals_of_new : Meaning → Components → NewComponent → List (Bool × Refusal)
refusals_of_new m a asked =
    refusals_of_add m a asked.parent.0 asked.kit asked.number asked.name.now asked.config.now

abbrev pub after_new : Meaning → Components → NewComponent → ℕ → ℤ → Ran
after_new m a asked turns moment =
    after_add m a asked.parent.0 (class_or_none m asked.kit asked.number) asked.name.now asked.config.now turns moment

-- only the data limit may still refuse it
abbrev pub MayAddNew : Meaning → Components → NewComponent → ℕ → List ℕ → Type 0
MayAddNew m a asked class name =
    MayAdd m a asked.parent.0 asked.kit asked.number asked.name.now asked.config.now class name
