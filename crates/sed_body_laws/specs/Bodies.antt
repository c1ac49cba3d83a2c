-- What a method body without a fault is, in a program in which its names mean what they say.
use Rattle.std.specs.Prelude.{◌≡◌, ◌≤◌, ◌<◌, ◌+◌, ℕ, Bool, false, All, IfSome, IsSomeAnd, List, ◌++◌, length, map}
use Rattle.std.specs.Prelude.{slice_get, Some}
use Rattle.std.specs.Option.{option_map, option_and_then}
use Rattle.sed_units.specs.Tree.{Tree, row}
use Rattle.sed_units.specs.declared.leaves.Param.{Param}
use Rattle.sed_typed.specs.declared.kind.Kind.{Kind}
use Rattle.sed_typed.specs.declared.program.Method.{Method}
use Rattle.sed_typed.specs.declared.program.Program.{Program}
use Rattle.sed_typed.specs.declared.statement.Stmt.{Stmt}
use Rattle.sed_typed.specs.Classes.{base_of}
use Rattle.sed_typed.specs.Locals.{AreNumbered}
use Rattle.sed_typed.specs.Typed.{IsStorable, receiver_of, declared_by, locals_of}
use Rattle.sed_typed.specs.TypedExpr.{Context, IsKindOf, field_form, static_form, part_kind}
use Rattle.sed_typed.specs.TypedStmt.{Around, IsStmt}
use Rattle.sed_names.specs.Names.{Names}
use Rattle.sed_terms.specs.Term.{Term}
use Rattle.sed_terms.specs.TermDepth.{declared_term}
use Rattle.sed_terms.specs.TypedStmtTerm.{IsStmtTerm}
use Rattle.sed_body_rules.specs.LocalTypes.{local_kind}
use Rattle.sed_bodies.specs.Inside.{AreBelow, IsMember, IsMethod}
use Rattle.sed_statements.specs.declared.enclosing.Enclosing.{Enclosing}
use Rattle.sed_body_laws.specs.Declared.{kinds_in}

-- ---- what is asked

-- a body of a program: its class, whether its method is static, the kinds of its locals, and its result
abbrev pub context_in : Program → ℕ → Bool → List Kind → Kind → Context
context_in program class is_static locals result =
    record { program = program; class = class; is_static = is_static; locals = locals; result = result }

-- what names mean in a body is what its program has
pub record HasNames (c : Context) (n : Names) : Type 0 where
  pub below : AreBelow c n.below
  pub base : (class : ℕ) → option_map (λ t. t.0) (n.base class) ≡ base_of c.program.schema.classes class
  pub classes : (name : List ℕ) → IfSome (n.class name) (λ t. t.0 < length c.program.schema.classes)
  pub classes_in : (kit name : List ℕ) → IfSome (n.class_in kit name) (λ t. t.0 < length c.program.schema.classes)
  pub members : (class : ℕ) (name : List ℕ) → IfSome (n.member class name) (IsMember c class)
  pub methods : (class : ℕ) (name : List ℕ) →
      IfSome (n.method class name) (λ s. IsSomeAnd (slice_get c.program.methods s.number) (IsMethod c class s))
  pub texts : (literal : List ℕ) → IfSome (n.text literal) (λ i. i < length c.program.texts)
  pub results : (m : ℕ) → IfSome (slice_get c.program.methods m) (λ x. IsKindOf c.program x.result)
  pub fields : (x : Kind) (i : ℕ) (k : Kind) → option_and_then part_kind (field_form c.program x i) ≡ Some k →
      IsKindOf c.program k
  pub statics : (i : ℕ) (k : Kind) → option_and_then part_kind (static_form c.program i) ≡ Some k → IsKindOf c.program k

-- in each body
abbrev pub Means : Program → Names → Type 0
Means program n =
    (class : ℕ) (is_static : Bool) (locals : List Kind) (result : Kind) →
    HasNames (context_in program class is_static locals result) n

-- A method is what its declaration says but for its body: its parameters and its result have kinds, and its class is
-- there.
pub record IsHeadOf (program : Program) (n : Names) (e : Enclosing) (ps : List Param) (m : Method) : Type 0 where
  pub class : e.body.class ≡ m.class
  pub static : e.body.is_static ≡ m.is_static
  pub result : e.result ≡ Some m.result
  pub params : map (λ k. Some k) m.params ≡ map (λ p. local_kind n p.kind) ps
  pub class_there : m.class.0 < length program.schema.classes
  pub result_there : IsKindOf program m.result
  pub params_most : length m.params ≤ 64

-- ---- what is said

-- where a method's body stands, with these locals behind its parameters
abbrev pub context_of : Program → Method → List Kind → Context
context_of program m locals = context_in program m.class.0 m.is_static (receiver_of m ++ m.params ++ locals) m.result

-- what is directly in a body is in no loop
abbrev pub outermost : Around
outermost = record { breaks = false; continues = false }

-- The term of a body: its locals are numbered on from the receiver and the parameters, they have the kinds that the
-- source declares, there are at most 64 with the parameters, and each statement is typed.
pub record IsBodyTerm (program : Program) (m : Method) (n : Names) (all : List Tree) (t : Term) : Type 0 where
  pub kinds : map (λ d. Some d.kind) (declared_term t) ≡ kinds_in n (row all)
  pub storable : All (IsStorable program) (receiver_of m ++ m.params ++ map (λ d. d.kind) (declared_term t))
  pub numbered : AreNumbered (length (receiver_of m ++ m.params)) (declared_term t)
  pub most_locals : length m.params + length (declared_term t) ≤ 64
  pub typed : IsStmtTerm (context_of program m (map (λ d. d.kind) (declared_term t))) outermost t

-- A body of a method, but for how deep it nests and how high its tree is.
pub record IsTypedBody (program : Program) (m : Method) (body : Stmt) : Type 0 where
  pub storable : All (IsStorable program) (locals_of m)
  pub numbered : AreNumbered (length (receiver_of m ++ m.params)) (declared_by m)
  pub most_locals : length m.params + length (declared_by m) ≤ 64
  pub typed : IsStmt (context_in program m.class.0 m.is_static (locals_of m) m.result) outermost body
