-- Each body of the program is a body of its method.
use Rattle.std.proofs.Common.{◌≡◌, ◌≤◌, ℕ, List, get_or, length, slice_get, Option, Some, None, All, IfSome, refl, sym, ap, ◌∙◌, subst, arith}
use Rattle.std.proofs.lemmas.Option.{slice_get-get_or}
use Rattle.sed_units.specs.Tree.{Tree}
use Rattle.sed_units.specs.declared.leaves.Param.{Param}
use Rattle.sed_units.specs.declared.classes.Member.{Member}
use Rattle.sed_units.specs.declared.classes.MemberForm.{MemberForm}
use Rattle.sed_units.specs.declared.classes.MemberForm.TheVariants as form
use Rattle.sed_typed.specs.Depth.{body_depth}
use Rattle.sed_typed.specs.Typed.{IsBody}
use Rattle.sed_typed.specs.declared.program.Method.{Method}
use Rattle.sed_typed.specs.declared.program.Program.{Program}
use Rattle.sed_typed.specs.declared.statement.Stmt.{Stmt}
use Rattle.sed_names.specs.Names.{Names}
use Rattle.sed_terms.specs.declared.judged.Judged.TheVariants.{Sound}
use Rattle.sed_terms.specs.Faults.{all_faults}
use Rattle.sed_terms.specs.Seen.{stmt_term}
use Rattle.sed_body_laws.specs.NestedBodies.{IsShallow, IsShallowForm}
use Rattle.sed_classes.specs.declared.kit_units.KitUnits.{KitUnits}
use Rattle.sed_classes.specs.Members.{form_body, form_params, kit_of, members_of}
use Rattle.sed_program.specs.Meaning.{names_of}
use Rattle.sed_program.specs.Methods.{MethodAt, methods_of}
use Rattle.sed_program.specs.Outlined.{IsHead, IsOutlined}
use Rattle.sed_program.specs.Types.{result_kind, used_result}
use Rattle.sed_statements.specs.declared.enclosing.Enclosing.{Enclosing}
use Rattle.sed_statements.specs.Methods.{judge_method}
use Rattle.sed_member_laws.proofs.Heads.{headed}
use Rattle.sed_member_laws.specs.Faultless.{AreFree}
use Rattle.sed_member_laws.specs.TypedHeads.{IsTypedHead}
use Rattle.sed_body_laws.specs.Bodies.{IsHeadOf, IsTypedBody, Means}
use Rattle.sed_check.specs.Bodies.{HasTree, IsBodyOf, enclosing_of}
use Rattle.sed_check.proofs.Keeping.{IsKept}
use Rattle.sed_check.proofs.Naming.{param_same}
use Rattle.sed_check.proofs.Standing.{IsMemberAt, member_at}
use Rattle.sed_check.proofs.Used.{used_is}

-- ---- what is said elsewhere of a body without a fault: it is typed, and nests no deeper than its source may

abbrev pub AreTyped : Program → Type 0
AreTyped program =
    (n : Names) (e : Enclosing) (params : List Param) (m : Method) → Means program n → IsHeadOf program n e params m →
    (all : List Tree) (body : Stmt) → m.body ≡ Some body →
    judge_method all_faults n e params all ≡ Sound (stmt_term body) → IsTypedBody program m body

abbrev pub NestFew : Type 0
NestFew =
    (n : Names) (e : Enclosing) (params : List Param) (all : List Tree) (body : Stmt) →
    judge_method all_faults n e params all ≡ Sound (stmt_term body) → IsShallow all → body_depth body ≤ 64

-- ---- heads

-- what a body may return is what its method answers
result_used : (units : List KitUnits) → AreFree units → (e : MethodAt) → IsMemberAt units e →
    used_result units e.owned.kit e.owned.member ≡ result_kind units e.owned.kit e.owned.member
result_used units f e is =
    ap (λ kit. used_result units kit e.owned.member) is.2
    ∙ used_is units f e.owned.class is.0 e.owned.member is.1
    (result_kind units (kit_of units e.owned.class) e.owned.member)
    ∙ sym (ap (λ kit. result_kind units kit e.owned.member) is.2)

pub head_of : (units : List KitUnits) (program : Program) → AreFree units → (e : MethodAt) (m : Method) →
    IsMemberAt units e → IsHead units e m → IsTypedHead program m →
    IsHeadOf program (names_of units e.owned.kit) (enclosing_of units e) (form_params e.owned.member.form) m
head_of units program f e m at h t = record {
  class = sym h.class;
  static = sym h.static;
  result = result_used units f e at ∙ sym h.result;
  params = h.params ∙ param_same units e.owned.kit (form_params e.owned.member.form);
  class_there = t.class;
  result_there = t.result;
  params_most = let few : length m.params ≤ 8 = t.params_most in omega (arith, few);
}

-- ---- bodies

shallow_body : (f : MemberForm) (all : List Tree) → IsShallowForm f → form_body f ≡ Some all → IsShallow all
shallow_body (form.Field value) all s e = cc
shallow_body (form.Method params body) all s e = subst (λ b. IfSome b IsShallow) e s

body_is : (units : List KitUnits) (program : Program) → AreFree units → AreTyped program → NestFew →
    (e : MethodAt) (m : Method) → Means program (names_of units e.owned.kit) → IsMemberAt units e →
    IsHead units e m → IsTypedHead program m → IsKept e.owned.member →
    (all : List Tree) (body : Stmt) → form_body e.owned.member.form ≡ Some all → m.body ≡ Some body →
    HasTree units e (Some all) (Some body) → IsBody program m body
body_is units program f typed few e m means at h t kept all body from is tree =
    let b : IsTypedBody program m body = typed (names_of units e.owned.kit) (enclosing_of units e)
    (form_params e.owned.member.form) m means (head_of units program f e m at h t) all body is tree.0 in
    record {
      storable = b.storable;
      numbered = b.numbered;
      most_locals = b.most_locals;
      typed = b.typed;
      depth = few (names_of units e.owned.kit) (enclosing_of units e) (form_params e.owned.member.form) all body
          tree.0 (shallow_body e.owned.member.form all kept.shallow from);
    }

has_body : (units : List KitUnits) (program : Program) → AreFree units → AreTyped program → NestFew →
    (e : MethodAt) (m : Method) → Means program (names_of units e.owned.kit) → IsMemberAt units e →
    IsHead units e m → IsTypedHead program m → IsKept e.owned.member →
    IsBodyOf units e m.body → IfSome m.body (IsBody program m)
has_body units program f typed few e m means at h t kept tree =
    by_parts (form_body e.owned.member.form) m.body refl refl tree
  where
    by_parts : (all : Option (List Tree)) (body : Option Stmt) → form_body e.owned.member.form ≡ all → m.body ≡ body →
        HasTree units e all body → IfSome body (IsBody program m)
    by_parts all None from is has = tt
    by_parts None (Some body) from is has = absurd has
    by_parts (Some all) (Some body) from is has =
        body_is units program f typed few e m means at h t kept all body from is has

pub have_bodies : (units : List KitUnits) (program : Program) → AreFree units → AreTyped program → NestFew →
    ((kit : ℕ) → Means program (names_of units kit)) → IsOutlined units program →
    All (IsTypedHead program) program.methods →
    ((class i : ℕ) (x : Member) → slice_get (members_of units class) i ≡ Some x → IsKept x) →
    ((i : ℕ) (e : MethodAt) (m : Method) → slice_get (methods_of units) i ≡ Some e →
    slice_get program.methods i ≡ Some m → IsBodyOf units e m.body) →
    All (λ (m : Method). IfSome m.body (IsBody program m)) program.methods
have_bodies units program f typed few means p heads kept bodies i d lt =
    let at : slice_get program.methods i ≡ Some (get_or program.methods i d) =
    slice_get-get_or program.methods i d lt in
    let h = headed units (methods_of units) program.methods p.methods i (get_or program.methods i d) at in
    let member = member_at units i h.0 h.1 in
    has_body
    units
    program
    f
    typed
    few
    h.0
    (get_or program.methods i d)
    (means h.0.owned.kit)
    member
    h.2
    (heads i d lt)
    (kept h.0.owned.class member.0 h.0.owned.member member.1)
    (bodies i h.0 (get_or program.methods i d) h.1 at)
