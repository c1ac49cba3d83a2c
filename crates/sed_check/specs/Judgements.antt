-- Which bodies are known, and what the methods that are judged so far come to.
use Rattle.std.specs.Prelude.{◌≡◌, ℕ, Bool, true, false, List, ◌++◌, map, Option, Some, None}
use Rattle.std.specs.List.{flat_map, list_all}
use Rattle.sed_units.specs.Tree.{Tree}
use Rattle.sed_units.specs.declared.classes.Member.{Member}
use Rattle.sed_typed.specs.declared.statement.Stmt.{Stmt}
use Rattle.sed_typed.specs.Flat.{IsFlatStmt}
use Rattle.sed_faults.specs.declared.fault.Fault.{Fault}
use Rattle.sed_faults.specs.Faults.{least}
use Rattle.sed_terms.specs.declared.judged.Judged.{Judged}
use Rattle.sed_terms.specs.declared.judged.Judged.TheVariants.{Sound, Unknown}
use Rattle.sed_terms.specs.Seen.{stmt_term}
use Rattle.sed_terms.specs.Term.{Term}
use Rattle.sed_classes.specs.declared.kit_units.KitUnits.{KitUnits}
use Rattle.sed_classes.specs.Faults.{first_of}
use Rattle.sed_classes.specs.Members.{form_body, kit_of, owned}
use Rattle.sed_program.specs.Methods.{MethodAt}
use Rattle.sed_check.specs.declared.bodies.Bodies.{Bodies}
use Rattle.sed_check.specs.Bodies.{AreBodies, faults_in, faults_of_form, judged_body, method_faults}

-- ---- which bodies are known

abbrev pub is_sound : {A F : Type 0} → Judged A F → Bool
is_sound (Sound a) = true
is_sound (Unknown faults) = false

-- a method without a body has none that is unknown
abbrev pub has_known : List KitUnits → MethodAt → Option (List Tree) → Bool
has_known units e None = true
has_known units e (Some all) = is_sound (judged_body units e all)

abbrev pub has_known_body : List KitUnits → MethodAt → Bool
has_known_body units e = has_known units e (form_body e.owned.member.form)

abbrev pub have_known_bodies : List KitUnits → List MethodAt → Bool
have_known_bodies units es = list_all (has_known_body units) es

-- ---- one method

-- the fault that is kept
abbrev pub fault_in : {A : Type 0} → Judged A (Option Fault) → Option Fault
fault_in (Sound a) = None
fault_in (Unknown fault) = fault

-- the least of all that are found
abbrev pub least_in : {A : Type 0} → Judged A (List Fault) → Option Fault
least_in judged = least (faults_in judged)

-- a tree is what is found, and flat
abbrev pub IsTreeOf : Judged Term (List Fault) → Option Stmt → Type 0
IsTreeOf judged (Some body) = (judged ≡ Sound (stmt_term body)) × IsFlatStmt body
IsTreeOf judged None = ⊥

-- a member of the class at a place, which has this number
abbrev pub method_at : List KitUnits → ℕ → ℕ → Member → MethodAt
method_at units number class m = record { class = number; owned = owned class (kit_of units class) m }

abbrev pub least_fault_at : List KitUnits → MethodAt → Option Fault
least_fault_at units e = least (faults_of_form units e (form_body e.owned.member.form))

-- ---- methods one after another

-- what is kept is what a row of methods comes to
pub record AreJudged (units : List KitUnits) (es : List MethodAt) (b : Bodies) : Type 0 where
  pub fault : b.first ≡ first_of (flat_map (method_faults units) es)
  pub known : b.are_known ≡ have_known_bodies units es
  pub bodies : b.are_known ≡ true → AreBodies units es b.trees.items

-- with these behind those that were judged before
abbrev pub Grows : List KitUnits → List MethodAt → Bodies → Bodies → Type 0
Grows units es old new = (before : List MethodAt) → AreJudged units before old → AreJudged units (before ++ es) new
