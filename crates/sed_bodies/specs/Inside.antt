-- Where a body stands, once its program is there: what its names mean is what the program has. And what is found of an
-- expression in it.
use Rattle.std.specs.Prelude.{◌≡◌, ◌≢◌, ℕ, ◌<◌, ◌≤◌, Bool, true, false, IsTrue, IfSome, IsSomeAnd, List, length, map}
use Rattle.std.specs.Prelude.{slice_get, Some, None}
use Rattle.std.specs.Int.{w32, w64}
use Rattle.std.specs.Option.{option_map, option_and_then}
use Rattle.sed_value.specs.Value.{is_signed}
use Rattle.sed_typed.specs.declared.kind.Kind.{Kind}
use Rattle.sed_typed.specs.declared.kind.Kind.TheVariants as kind
use Rattle.sed_typed.specs.declared.number.TypeNo.{TypeNo}
use Rattle.sed_typed.specs.declared.program.FieldForm.{FieldForm}
use Rattle.sed_typed.specs.declared.program.FieldForm.TheVariants as form
use Rattle.sed_typed.specs.declared.program.Method.{Method}
use Rattle.sed_typed.specs.Classes.{base_of, find, method_name}
use Rattle.sed_typed.specs.TypedExpr.{Context, IsKindOf, GoesTo, IsNoReceiver, field_form, static_form, part_kind}
use Rattle.sed_typed.specs.TypedExpr.{IsBuf}
use Rattle.sed_typed.specs.TypedSchema.{is_below}
use Rattle.sed_names.specs.declared.member.Constant.{Constant}
use Rattle.sed_names.specs.declared.member.Constant.TheVariants as constant
use Rattle.sed_names.specs.declared.member.Member.{Member}
use Rattle.sed_names.specs.declared.member.Member.TheVariants as member
use Rattle.sed_names.specs.declared.signature.Signature.{Signature}
use Rattle.sed_names.specs.Names.{Names}
use Rattle.sed_terms.specs.declared.sign.Sign.TheVariants as sign
use Rattle.sed_terms.specs.Sorts.{term_kind, is_place}
use Rattle.sed_terms.specs.Term.{Term, Node}
use Rattle.sed_terms.specs.TypedTerm.{IsTerm, IsTermPlace}
use Rattle.sed_bodies.specs.declared.context.Body.{Body}
use Rattle.sed_body_rules.specs.Scope.{Scope, local_named}

-- the kinds that stand in a program are its kinds
pub record HasKinds (c : Context) : Type 0 where
  pub class : c.class < length c.program.schema.classes
  pub locals : (i : ℕ) (k : Kind) → slice_get c.locals i ≡ Some k → IsKindOf c.program k
  pub results : (m : ℕ) → IfSome (slice_get c.program.methods m) (λ x. IsKindOf c.program x.result)
  pub fields : (x : Kind) (i : ℕ) (k : Kind) → option_and_then part_kind (field_form c.program x i) ≡ Some k
      → IsKindOf c.program k
  pub statics : (i : ℕ) (k : Kind) → option_and_then part_kind (static_form c.program i) ≡ Some k → IsKindOf c.program k

-- a define's value is one of its type
abbrev pub IsConstant : Constant → Type 0
IsConstant (constant.Bool t) = t ≤ 2
IsConstant (constant.Int n) = IsTrue (is_signed w32 n)
IsConstant (constant.Long n) = IsTrue (is_signed w64 n)

abbrev pub IsNoBuf : FieldForm → Type 0
IsNoBuf (form.Buf n) = ⊥
IsNoBuf f = Unit {0}

-- a member of a class is the program's
abbrev pub IsMember : Context → ℕ → Member → Type 0
IsMember c class (member.Field f i) = (t : TypeNo) → t.0 ≡ class
    → IsSomeAnd f (λ x. field_form c.program (kind.Object t) i ≡ Some x)
IsMember c class (member.Static f i) = IsSomeAnd f (λ x. (static_form c.program i ≡ Some x) × IsNoBuf x)
IsMember c class (member.Define v) = IsSomeAnd v IsConstant
IsMember c class member.Method = Unit {0}

-- and so is a method that is found in a class
pub record IsMethod (c : Context) (class : ℕ) (s : Signature) (x : Method) : Type 0 where
  pub static : x.is_static ≡ s.is_static
  pub result : s.result ≡ Some x.result
  pub params : s.params ≡ map (λ k. Some k) x.params
  pub there : (i : ℕ) (k : Kind) → slice_get x.params i ≡ Some k → IsKindOf c.program k
  pub nearest : find c.program class (method_name c.program s.number) ≡ Some s.number
  pub body : s.is_abstract ≡ false → x.body ≢ None

-- a class is below another where the program says so
abbrev pub AreBelow : Context → (ℕ → ℕ → Bool) → Type 0
AreBelow c below = (above class : ℕ) → below above class ≡ is_below c.program.schema.classes above class

-- a body, its locals and its names stand in this context of the program
pub record IsIn (c : Context) (n : Names) (b : Body) (s : Scope) : Type 0 where
  pub kinds : HasKinds c
  pub class : b.class.0 ≡ c.class
  pub static : b.is_static ≡ c.is_static
  pub below : AreBelow c n.below
  pub base : (class : ℕ) → option_map (λ t. t.0) (n.base class) ≡ base_of c.program.schema.classes class
  pub locals : (name : List ℕ) →
      IfSome (local_named s.entries name) (λ l.
      IsSomeAnd l.kind (λ k. (slice_get c.locals l.number ≡ Some k) × IsNoReceiver c l.number))
  pub members : (class : ℕ) (name : List ℕ) → IfSome (n.member class name) (IsMember c class)
  pub methods : (class : ℕ) (name : List ℕ) →
      IfSome (n.method class name) (λ s. IsSomeAnd (slice_get c.program.methods s.number) (IsMethod c class s))
  pub texts : (literal : List ℕ) → IfSome (n.text literal) (λ i. i < length c.program.texts)

-- ---- what is found

-- typed where it is a value, and a place where it may be one
abbrev pub IsReady : Context → Term → Type 0
IsReady c (Node sign.Nothing a b) = Unit {0}
IsReady c (Node (sign.Array p n i) x b) = IsTerm c x × (field_form c.program (term_kind x) i ≡ Some (form.Array p n))
IsReady c (Node (sign.StaticArray p n i) a b) = static_form c.program i ≡ Some (form.Array p n)
IsReady c (Node (sign.Buf i) x b) = IsTerm c x × IsBuf (field_form c.program (term_kind x) i)
IsReady c (Node (sign.Bytes i) x b) = IsTerm c x × IsBuf (field_form c.program (term_kind x) i)
IsReady c (Node sign.After x t) = IsTerm c x × IsReady c t
IsReady c t = IsTerm c t × (is_place t ≡ true → IsTermPlace c t)

-- a typed term of a kind
abbrev pub HasKind : Context → Kind → Term → Type 0
HasKind c k t = IsTerm c t × (term_kind t ≡ k)

-- a typed term that goes to a place of a kind
abbrev pub Goes : Context → Kind → Term → Type 0
Goes c to t = IsTerm c t × GoesTo c.program (term_kind t) to
