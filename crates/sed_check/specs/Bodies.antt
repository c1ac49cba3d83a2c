-- What the bodies of a program's methods come to, and the faults inside.
use Rattle.std.specs.Prelude.{ℕ, ◌≡◌, List, [], ◌∷◌, map, Option, Some, None}
use Rattle.std.specs.List.{flat_map}
use Rattle.std.specs.Option.{option_map_or}
use Rattle.sed_units.specs.Tree.{Tree}
use Rattle.sed_typed.specs.declared.statement.Stmt.{Stmt}
use Rattle.sed_typed.specs.Flat.{IsFlatStmt}
use Rattle.sed_faults.specs.declared.fault.Fault.{Fault}
use Rattle.sed_terms.specs.declared.judged.Judged.{Judged}
use Rattle.sed_terms.specs.declared.judged.Judged.TheVariants.{Sound, Unknown}
use Rattle.sed_terms.specs.Faults.{all_faults}
use Rattle.sed_terms.specs.Seen.{stmt_term}
use Rattle.sed_terms.specs.Term.{Term}
use Rattle.sed_classes.specs.declared.kit_units.KitUnits.{KitUnits}
use Rattle.sed_classes.specs.declared.source_type.PlacedFault.{PlacedFault}
use Rattle.sed_classes.specs.Declarations.{class_at}
use Rattle.sed_classes.specs.Faults.{placed_in}
use Rattle.sed_classes.specs.Members.{form_body, form_params, is_static}
use Rattle.sed_program.specs.Meaning.{names_of}
use Rattle.sed_program.specs.Methods.{MethodAt, methods_of}
use Rattle.sed_program.specs.Types.{type_no, used_result}
use Rattle.sed_statements.specs.declared.enclosing.Enclosing.{Enclosing}
use Rattle.sed_statements.specs.Methods.{judge_method, judge_params}

-- ---- what a method comes to

-- what its statements stand in
abbrev pub enclosing_of : List KitUnits → MethodAt → Enclosing
enclosing_of units e = record {
  body = record { class = type_no e.class; is_static = is_static e.owned.member };
  result = used_result units e.owned.kit e.owned.member;
}

-- with a body
abbrev pub judged_body : List KitUnits → MethodAt → List Tree → Judged Term (List Fault)
judged_body units e all =
    judge_method all_faults (names_of units e.owned.kit) (enclosing_of units e) (form_params e.owned.member.form) all

-- ---- faults

abbrev pub faults_in : {A : Type 0} → Judged A (List Fault) → List Fault
faults_in (Sound a) = []
faults_in (Unknown faults) = faults

-- a method without a body has parameters all the same
abbrev pub faults_of_form : List KitUnits → MethodAt → Option (List Tree) → List Fault
faults_of_form units e None = faults_in (judge_params all_faults (names_of units e.owned.kit) (enclosing_of units e)
    (form_params e.owned.member.form))
faults_of_form units e (Some all) = faults_in (judged_body units e all)

-- faults in the text of the class at a place
abbrev pub placed_at : List KitUnits → ℕ → List Fault → List PlacedFault
placed_at units class faults = option_map_or (λ d. map (placed_in d) faults) (class_at units class) []

abbrev pub method_faults : List KitUnits → MethodAt → List PlacedFault
method_faults units e =
    placed_at units e.owned.class (faults_of_form units e (form_body e.owned.member.form))

-- those of all methods of the program; those of kit `sys` have none
abbrev pub body_faults : List KitUnits → List PlacedFault
body_faults units = flat_map (method_faults units) (methods_of units)

-- ---- bodies

-- A tree is that of a method's body: flat, so that there is only one, wherever it lies.
-- A method without a body has none.
abbrev pub HasTree : List KitUnits → MethodAt → Option (List Tree) → Option Stmt → Type 0
HasTree units e None None = Unit {0}
HasTree units e (Some all) (Some body) = (judged_body units e all ≡ Sound (stmt_term body)) × IsFlatStmt body
HasTree units e all body = ⊥

abbrev pub IsBodyOf : List KitUnits → MethodAt → Option Stmt → Type 0
IsBodyOf units e body = HasTree units e (form_body e.owned.member.form) body

-- those of a row of methods
abbrev pub AreBodies : List KitUnits → List MethodAt → List (Option Stmt) → Type 0
AreBodies units [] [] = Unit {0}
AreBodies units (e ∷ es) (b ∷ bs) = IsBodyOf units e b × AreBodies units es bs
AreBodies units es bs = ⊥
