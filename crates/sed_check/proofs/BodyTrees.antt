-- The bodies of methods without a fault: each has a tree.
use Rattle.std.proofs.Common.{◌≡◌, ℕ, zero, suc, List, [], ◌∷◌, map, codes, Option, Some, None, All, IfSome, refl, sym, ap, subst, ◌∙◌, arith}
use Rattle.std.specs.Option.{option_map_or}
use Rattle.std.proofs.lemmas.List.Elements.{All-nil, All-append}
use Rattle.sed_units.specs.Tree.{Tree}
use Rattle.sed_units.specs.declared.classes.Member.{Member}
use Rattle.sed_units.specs.declared.classes.MemberForm.{MemberForm}
use Rattle.sed_units.specs.declared.classes.MemberForm.TheVariants as form
use Rattle.sed_units.specs.declared.leaves.ModifierWord.{ModifierWord}
use Rattle.sed_units.specs.declared.leaves.ModifierWord.TheVariants as word
use Rattle.sed_units.specs.declared.leaves.Param.{Param}
use Rattle.sed_typed.specs.declared.program.Method.{Method}
use Rattle.sed_typed.specs.declared.program.Program.{Program}
use Rattle.sed_typed.specs.declared.statement.Stmt.{Stmt}
use Rattle.sed_typed.specs.declared.statement.Stmt.TheVariants as stmt
use Rattle.sed_typed.specs.Flat.{IsFlatStmt}
use Rattle.sed_faults.specs.declared.fault.Fault.{Fault}
use Rattle.sed_names.specs.Names.{Names}
use Rattle.sed_terms.specs.declared.judged.Judged.{Judged}
use Rattle.sed_terms.specs.declared.judged.Judged.TheVariants.{Sound, Unknown}
use Rattle.sed_terms.specs.Faults.{all_faults, Right}
use Rattle.sed_terms.specs.Seen.{stmt_term}
use Rattle.sed_terms.specs.Term.{Term}
use Rattle.sed_body_laws.specs.Bodies.{IsHeadOf, Means}
use Rattle.sed_body_laws.specs.Trees.{HasTree as TermHasTree, IsShort}
use Rattle.sed_classes.specs.declared.kit_units.KitUnits.{KitUnits}
use Rattle.sed_classes.specs.Declarations.{Declaration, all_classes, declared_in, sys_declares}
use Rattle.sed_classes.specs.Faults.{placed_in}
use Rattle.sed_classes.specs.Members.{form_body, form_params}
use Rattle.sed_classes.specs.SysSource.{component_members, empty_method, slot_param}
use Rattle.sed_outline.proofs.Infos.{all_at}
use Rattle.sed_program.specs.Meaning.{names_of}
use Rattle.sed_program.specs.Methods.{MethodAt}
use Rattle.sed_program.specs.Outlined.{is_there}
use Rattle.sed_statements.specs.declared.enclosing.Enclosing.{Enclosing}
use Rattle.sed_statements.specs.Methods.{judge_method}
use Rattle.sed_member_laws.proofs.Own.{declared}
use Rattle.sed_check.specs.Bodies.{HasTree, IsBodyOf, enclosing_of, faults_in, faults_of_form, judged_body, method_faults}
use Rattle.sed_check.specs.Short.{AreShort, IsShortForm}
use Rattle.sed_check.proofs.Outlines.{Bodied}
use Rattle.sed_check.proofs.Standing.{IsMemberAt}

-- ---- a memory holds the bodies of all classes

abbrev AreAllShort : List Member → Type 0
AreAllShort ms = All (λ (m : Member). IsShortForm m.form) ms

empty_short : (w : ModifierWord) (name : List ℕ) (ps : List Param) → IsShortForm (form.Method ps (Some []))
empty_short w name ps = omega arith

component_short : AreAllShort component_members
component_short zero d h = tt
component_short (suc zero) d h = empty_short word.Virtual (codes "execute") []
component_short (suc (suc zero)) d h = empty_short word.Virtual (codes "start") []
component_short (suc (suc (suc zero))) d h = empty_short word.Virtual (codes "stop") []
component_short (suc (suc (suc (suc zero)))) d h = empty_short word.Virtual (codes "changed") (slot_param ∷ [])
component_short (suc (suc (suc (suc (suc i))))) d h = absurd (omega (arith, h))

app_short : AreAllShort (empty_method word.Action (codes "save") [] ∷ [])
app_short zero d h = empty_short word.Action (codes "save") []
app_short (suc i) d h = absurd (omega (arith, h))

no_members : AreAllShort []
no_members = All-nil (λ (m : Member). IsShortForm m.form)

sys_short : All (λ (d : Declaration). AreAllShort d.class.members) sys_declares
sys_short zero d h = no_members
sys_short (suc zero) d h = no_members
sys_short (suc (suc zero)) d h = component_short
sys_short (suc (suc (suc zero))) d h = app_short
sys_short (suc (suc (suc (suc zero)))) d h = no_members
sys_short (suc (suc (suc (suc (suc i))))) d h = absurd (omega (arith, h))

all_short : (units : List KitUnits) → AreShort units →
    All (λ (d : Declaration). AreAllShort d.class.members) (all_classes units)
unfolding all_classes
all_short units h =
    All-append (λ (d : Declaration). AreAllShort d.class.members) sys_declares (declared_in units) sys_short h

short_form : (units : List KitUnits) → AreShort units → (e : MethodAt) → IsMemberAt units e →
    IsShortForm e.owned.member.form
short_form units short e own =
    let d = declared units e.owned.class own.0 e.owned.member own.1 in
    all_at (λ (m : Member). IsShortForm m.form) d.0.class.members own.0 e.owned.member d.2
    (all_at (λ (x : Declaration). AreAllShort x.class.members) (all_classes units) e.owned.class d.0 d.1
    (all_short units short))

short_body : (f : MemberForm) (all : List Tree) → IsShortForm f → form_body f ≡ Some all → IsShort all
short_body (form.Field value) all s e = cc
short_body (form.Method params body) all s e = subst (λ b. IfSome b IsShort) e s

-- ---- no fault stands in a body

none_mapped : {X Y : Type 0} (f : X → Y) (xs : List X) → map f xs ≡ [] → xs ≡ []
none_mapped f [] e = refl
none_mapped f (x ∷ xs) e = cc

none_in : (units : List KitUnits) (e : MethodAt) → IsMemberAt units e → method_faults units e ≡ [] →
    faults_of_form units e (form_body e.owned.member.form) ≡ []
none_in units e own none =
    let d = declared units e.owned.class own.0 e.owned.member own.1 in
    none_mapped (placed_in d.0) (faults_of_form units e (form_body e.owned.member.form))
    (subst (λ (o : Option Declaration). option_map_or
    (λ (x : Declaration). map (placed_in x) (faults_of_form units e (form_body e.owned.member.form))) o [] ≡ []) d.1
    none)

-- ---- trees

known_tree : (x : Judged Term (List Fault)) → Right TermHasTree x → faults_in x ≡ [] →
    (body : Stmt) × (x ≡ Sound (stmt_term body)) × IsFlatStmt body
known_tree (Sound t) h e = (h.0, ap (λ u. Sound u) (sym h.1.term), h.1.flat)
known_tree (Unknown fs) h e = absurd (h e)

-- what is said elsewhere of bodies of methods of a program
abbrev pub HaveTrees : Program → Type 0
HaveTrees program =
    (n : Names) (e : Enclosing) (params : List Param) (m : Method) → Means program n → IsHeadOf program n e params m →
    (all : List Tree) → IsShort all → Right TermHasTree (judge_method all_faults n e params all)

pub body_made : (units : List KitUnits) (program : Program) → HaveTrees program → AreShort units →
    (e : MethodAt) (m : Method) → IsMemberAt units e → Means program (names_of units e.owned.kit) →
    IsHeadOf program (names_of units e.owned.kit) (enclosing_of units e) (form_params e.owned.member.form) m →
    method_faults units e ≡ [] → Bodied (IsBodyOf units) e
body_made units program trees short e m own means head none =
    by_form (form_body e.owned.member.form) refl (none_in units e own none)
  where
    made : (b : Option Stmt) (all : Option (List Tree)) → form_body e.owned.member.form ≡ all →
        is_there b ≡ is_there all → HasTree units e all b → Bodied (IsBodyOf units) e
    made b all from there has =
        (b, there ∙ ap is_there (sym from), subst (λ x. HasTree units e x b) (sym from) has)

    by_form : (all : Option (List Tree)) → form_body e.owned.member.form ≡ all → faults_of_form units e all ≡ [] →
        Bodied (IsBodyOf units) e
    by_form None from free = made None None from refl tt
    by_form (Some all) from free =
        let tree = known_tree (judged_body units e all)
        (trees (names_of units e.owned.kit) (enclosing_of units e) (form_params e.owned.member.form) m means head all
        (short_body e.owned.member.form all (short_form units short e own) from)) free in
        made (Some tree.0) (Some all) from refl (tree.1, tree.2)

-- an empty statement where there is a body, so that a program may be looked at before its bodies are there
pub dummy_made : (e : MethodAt) → Bodied (λ x b. Unit {0}) e
dummy_made e = by_form (form_body e.owned.member.form) refl
  where
    by_form : (all : Option (List Tree)) → form_body e.owned.member.form ≡ all → Bodied (λ x b. Unit {0}) e
    by_form None from = (None, ap is_there (sym from), tt)
    by_form (Some all) from = (Some stmt.Empty, ap is_there (sym from), tt)
