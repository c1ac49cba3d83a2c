-- What the parts of a program come to before it is put together.
use Rattle.std.specs.Prelude.{ℕ, ◌≡◌, Bool, List, [], ◌∷◌, ◌++◌, map, Option, Some}
use Rattle.sed_units.specs.declared.classes.Member.{Member}
use Rattle.sed_typed.specs.declared.program.Method.{Method}
use Rattle.sed_typed.specs.declared.statement.Stmt.{Stmt}
use Rattle.sed_classes.specs.declared.kit_units.KitUnits.{KitUnits}
use Rattle.sed_classes.specs.Members.{form_params, is_static, owned}
use Rattle.sed_program.specs.Methods.{MethodAt, is_virtual, methods_of}
use Rattle.sed_program.specs.Types.{param_kind, result_kind, type_no}
use Rattle.sed_check.specs.Checked.{IsSpelled, faults, first_fault}
use Rattle.sed_check.specs.declared.outcomes.Outcome.{Outcome}
use Rattle.sed_check.specs.declared.outcomes.Outcome.TheVariants.{Broken, Program}

-- ---- methods

-- a member of the class with a number at a place, whose kit has this number
abbrev pub method_at : ℕ → ℕ → ℕ → Member → MethodAt
method_at number class kit m = record { class = number; owned = owned class kit m }

-- what a member declares of a method, whatever its body
pub record IsDeclared (units : List KitUnits) (e : MethodAt) (m : Method) : Type 0 where
  pub class : m.class ≡ type_no e.class
  pub name : m.name ≡ e.owned.member.name.bytes
  pub static : m.is_static ≡ is_static e.owned.member
  pub virtual : m.is_virtual ≡ is_virtual e.owned.member
  pub params : map (λ k. Some k) m.params ≡ map (param_kind units e.owned.kit) (form_params e.owned.member.form)
  pub result : Some m.result ≡ result_kind units e.owned.kit e.owned.member

abbrev pub AreDeclared : List KitUnits → List MethodAt → List Method → Type 0
AreDeclared units [] [] = Unit {0}
AreDeclared units (e ∷ es) (m ∷ ms) = IsDeclared units e m × AreDeclared units es ms
AreDeclared units es ms = ⊥

-- Methods that are made of the first of some bodies, of which these are left.
pub record AreMade (units : List KitUnits) (es : List MethodAt) (bodies : List (Option Stmt)) (ms : List Method)
    (left : List (Option Stmt)) : Type 0 where
  pub declared : AreDeclared units es ms
  pub bodied : map (λ (m : Method). m.body) ms ++ left ≡ bodies

-- those of all methods of a program
abbrev pub AreMethods : List KitUnits → List (Option Stmt) → List Method → Type 0
AreMethods units bodies ms = (left : List (Option Stmt)) × AreMade units (methods_of units) bodies ms left

-- with these methods more
abbrev pub Grows : List KitUnits → List MethodAt → List Method → List (Option Stmt) → List Method →
    List (Option Stmt) → Type 0
Grows units more ms left new_ms new_left =
    (es : List MethodAt) (bodies : List (Option Stmt)) → AreMade units es bodies ms left →
    AreMade units (es ++ more) bodies new_ms new_left

-- ---- all together

-- the program of units without a fault, or the first fault
abbrev pub IsOutcome : List KitUnits → Bool → Outcome → Type 0
IsOutcome units cycles (Program p) = (faults units cycles ≡ []) × IsSpelled units p
IsOutcome units cycles (Broken f) = first_fault units cycles ≡ Some f
