-- The program that units outline, once each of their methods has kinds and a body.
use Rattle.std.proofs.Common.{◌≡◌, ℕ, zero, suc, List, [], ◌∷◌, map, slice_get, Option, Some, refl, sym, ap, subst, ◌∙◌}
use Rattle.sed_units.specs.declared.leaves.Param.{Param}
use Rattle.sed_typed.specs.declared.kind.Kind.{Kind}
use Rattle.sed_typed.specs.declared.program.Method.{Method}
use Rattle.sed_typed.specs.declared.program.Program.{Program}
use Rattle.sed_typed.specs.declared.statement.Stmt.{Stmt}
use Rattle.sed_classes.specs.declared.kit_units.KitUnits.{KitUnits}
use Rattle.sed_classes.specs.Faults.{param_faults}
use Rattle.sed_classes.specs.Members.{form_body, form_params, is_static}
use Rattle.sed_classes.specs.Schema.{schema_of}
use Rattle.sed_program.specs.Fields.{fields_of, statics_of}
use Rattle.sed_program.specs.Methods.{MethodAt, is_virtual, methods_of}
use Rattle.sed_program.specs.Ordered.{IsOrdered}
use Rattle.sed_program.specs.Outlined.{AreHeads, IsHead, IsOutlined, is_there}
use Rattle.sed_program.specs.Texts.{program_texts}
use Rattle.sed_program.specs.Types.{param_kind, result_kind, type_no}
use Rattle.sed_member_laws.specs.Faultless.{AreFree, Keeps}
use Rattle.sed_member_laws.proofs.Empty.{none_said_first}
use Rattle.sed_member_laws.proofs.Fit.{param_stored, result_some}
use Rattle.sed_member_laws.proofs.Own.{member_kept}
use Rattle.sed_check.specs.Bodies.{AreBodies, IsBodyOf}
use Rattle.sed_check.proofs.Standing.{IsMemberAt}

-- ---- the kinds of a method

pub record HasKinds (units : List KitUnits) (e : MethodAt) : Type 0 where
  pub params : List Kind
  pub result : Kind
  pub params_are : map (λ k. Some k) params ≡ map (param_kind units e.owned.kit) (form_params e.owned.member.form)
  pub result_is : Some result ≡ result_kind units e.owned.kit e.owned.member

params_of : (kind : Param → Option Kind) (ps : List Param) →
    ((j : ℕ) (p : Param) → slice_get ps j ≡ Some p → (k : Kind) × (kind p ≡ Some k)) →
    (ks : List Kind) × (map (λ k. Some k) ks ≡ map kind ps)
params_of kind [] each = ([], refl)
params_of kind (p ∷ ps) each =
    let one = each zero p refl in
    let rest = params_of kind ps (λ j q h. each (suc j) q h) in
    (one.0 ∷ rest.0, ap (λ ks. Some one.0 ∷ ks) rest.1 ∙ ap (λ k. k ∷ map kind ps) (sym one.1))

pub has_kinds : (units : List KitUnits) (program : Program) → AreFree units → IsOrdered units program →
    (e : MethodAt) → IsMemberAt units e → HasKinds units e
has_kinds units program f o e own =
    let kept = member_kept units f e.owned.class own.0 e.owned.member own.1 in
    let keeps : Keeps units e.owned.class kept.0 own.0 e.owned.member = kept.3 in
    let kit : kept.0.kit ≡ e.owned.kit = sym kept.2 ∙ sym own.2 in
    let answer = result_some units program o e.owned.class kept.0 own.0 e.owned.member keeps own.3 in
    let params = params_of (param_kind units kept.0.kit) (form_params e.owned.member.form) (λ j p h.
    let stored = param_stored units program o kept.0.kit j p (none_said_first (param_faults units kept.0.kit)
    (form_params e.owned.member.form) j p keeps.params h) in (stored.0, stored.1)) in
    record {
      params = params.0;
      result = answer.0;
      params_are = params.1 ∙ ap (λ x. map (param_kind units x) (form_params e.owned.member.form)) kit;
      result_is = sym answer.1 ∙ ap (λ x. result_kind units x e.owned.member) kit;
    }

-- ---- methods

-- a body of a method of which this holds
abbrev pub Bodied : (MethodAt → Option Stmt → Type 0) → MethodAt → Type 0
Bodied Q e = (b : Option Stmt) × (is_there b ≡ is_there (form_body e.owned.member.form)) × Q e b

abbrev pub Each : (MethodAt → Option Stmt → Type 0) → List MethodAt → List (Option Stmt) → Type 0
Each Q [] [] = Unit {0}
Each Q (e ∷ es) (b ∷ bs) = Q e b × Each Q es bs
Each Q es bs = ⊥

with_body : (units : List KitUnits) (e : MethodAt) → HasKinds units e → (b : Option Stmt) →
    is_there b ≡ is_there (form_body e.owned.member.form) → (m : Method) × (m.body ≡ b) × IsHead units e m
with_body units e k b there = (
  record {
    class = type_no e.class;
    name = e.owned.member.name.bytes;
    is_static = is_static e.owned.member;
    is_virtual = is_virtual e.owned.member;
    params = k.params;
    result = k.result;
    body = b;
  },
  refl,
  record {
    class = refl;
    name = refl;
    static = refl;
    virtual = refl;
    params = k.params_are;
    result = k.result_is;
    bodied = there;
  },
)

abbrev pub Heads : List KitUnits → (MethodAt → Option Stmt → Type 0) → List MethodAt → Type 0
Heads units Q es = (ms : List Method) × AreHeads units es ms × Each Q es (map (λ (m : Method). m.body) ms)

more_heads : (units : List KitUnits) (Q : MethodAt → Option Stmt → Type 0) (e : MethodAt) (es : List MethodAt) →
    HasKinds units e → Bodied Q e → Heads units Q es → Heads units Q (e ∷ es)
more_heads units Q e es k body rest =
    let m = with_body units e k body.0 body.1 in
    (m.0 ∷ rest.0, (m.2, rest.1), (subst (Q e) (sym m.1) body.2, rest.2))

pub heads_of : (units : List KitUnits) (Q : MethodAt → Option Stmt → Type 0) (es : List MethodAt) →
    ((i : ℕ) (e : MethodAt) → slice_get es i ≡ Some e → HasKinds units e) →
    ((i : ℕ) (e : MethodAt) → slice_get es i ≡ Some e → Bodied Q e) → Heads units Q es
heads_of units Q [] kinds bodies = ([], tt, tt)
heads_of units Q (e ∷ es) kinds bodies =
    more_heads units Q e es (kinds zero e refl) (bodies zero e refl)
    (heads_of units Q es (λ i x h. kinds (suc i) x h) (λ i x h. bodies (suc i) x h))

pub bodies_are : (units : List KitUnits) (es : List MethodAt) (bs : List (Option Stmt)) → Each (IsBodyOf units) es bs →
    AreBodies units es bs
bodies_are units [] [] h = tt
bodies_are units (e ∷ es) (b ∷ bs) h = (h.0, bodies_are units es bs h.1)
bodies_are units [] (b ∷ bs) h = absurd h
bodies_are units (e ∷ es) [] h = absurd h

-- ---- the program

abbrev pub outline : List KitUnits → List Method → Program
outline units ms = record {
  schema = schema_of units;
  methods = ms;
  fields = fields_of units;
  statics = statics_of units;
  texts = program_texts units;
}

pub is_outlined : (units : List KitUnits) (ms : List Method) → AreHeads units (methods_of units) ms →
    IsOutlined units (outline units ms)
is_outlined units ms heads = record {
  schema = refl;
  fields = refl;
  statics = refl;
  texts = refl;
  methods = heads;
}
