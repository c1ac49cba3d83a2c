-- Typed programs.
use Rattle.std.specs.Prelude.{ℕ, ◌≡◌, ◌≤◌, ◌<◌, ◌+◌, true, false, IsTrue, All, IfSome, IsSomeAnd, if◌then◌else◌, List}
use Rattle.std.specs.Prelude.{[], ◌∷◌, ◌++◌, count_by, length, map, nat_lt, slice_get, sum_by, None}
use Rattle.std.specs.List.{flat_map, list_all, range_with_len}
use Rattle.std.specs.Option.{option_map_or}
use Rattle.std.specs.Str.{bytes_eq}
use Rattle.sed_typed.specs.declared.kind.Kind.{Kind}
use Rattle.sed_typed.specs.declared.kind.Kind.TheVariants as kind
use Rattle.sed_typed.specs.declared.program.Method.{Method}
use Rattle.sed_typed.specs.declared.program.Program.{Program}
use Rattle.sed_typed.specs.declared.statement.Stmt.{Stmt}
use Rattle.sed_typed.specs.Classes.{declared_fields, fields as fields_of, find, method_name}
use Rattle.sed_typed.specs.Sizes.{form_size, data_size}
use Rattle.sed_typed.specs.TypedSchema.{HasKits, IsClass, HasSlots, IsField, LiesDeeper, HasMembers, is_abstract}
use Rattle.sed_typed.specs.TypedSchema.{is_below_sys}
use Rattle.sed_typed.specs.SysTypes.{virtual_type}
use Rattle.sed_typed.specs.SysMembers.{HasSysMembers}
use Rattle.sed_typed.specs.TypedExpr.{IsKindOf}
use Rattle.sed_typed.specs.TypedStmt.{IsStmt}
use Rattle.sed_typed.specs.Depth.{body_depth}
use Rattle.sed_typed.specs.Locals.{Declared, AreNumbered, declared_in}

-- what a parameter or a local may be; a result may be void too
abbrev pub IsStorable : Program → Kind → Type 0
IsStorable program kind.Void = ⊥
IsStorable program k = IsKindOf program k

-- a method's receiver, if it has one
abbrev pub receiver_of : Method → List Kind
receiver_of m = if m.is_static then [] else kind.Object m.class ∷ []

-- the locals that a method's body declares
abbrev pub declared_by : Method → List Declared
declared_by m = option_map_or declared_in m.body []

-- the kinds of a method's locals: the receiver's, those of the parameters, and then of what the body declares
abbrev pub locals_of : Method → List Kind
locals_of m = receiver_of m ++ m.params ++ map (λ d. d.kind) (declared_by m)

-- A body of a method. Its declarations are numbered on from the receiver and the parameters, and there are at most 64
-- locals with the parameters. At most 64 constructs are open at a place.
pub record IsBody (program : Program) (m : Method) (body : Stmt) : Type 0 where
  pub storable : All (IsStorable program) (locals_of m)
  pub numbered : AreNumbered (length (receiver_of m ++ m.params)) (declared_by m)
  pub most_locals : length m.params + length (declared_by m) ≤ 64
  pub typed : IsStmt (record {
    program = program;
    class = m.class.0;
    is_static = m.is_static;
    locals = locals_of m;
    result = m.result;
  }) (record { breaks = false; continues = false }) body
  pub depth : body_depth body ≤ 64

-- a method of a class; only an instance method of a class at or below `Virtual` is virtual, and one without a body is
pub record IsMethod (program : Program) (m : Method) : Type 0 where
  pub class : m.class.0 < length program.schema.classes
  pub params : All (IsStorable program) m.params
  pub params_most : length m.params ≤ 8
  pub result : IsKindOf program m.result
  pub virtual : m.is_virtual ≡ true → (m.is_static ≡ false)
      × IsTrue (is_below_sys program.schema.classes virtual_type m.class.0)
  pub no_body : m.body ≡ None → (m.is_virtual ≡ true) × (is_abstract program.schema.classes m.class.0 ≡ true)
  pub body : IfSome m.body (IsBody program m)

-- a class that is not abstract has a body for each method
abbrev pub HasBodies : Program → ℕ → Type 0
HasBodies program class =
    is_abstract program.schema.classes class ≡ false → (m : ℕ) →
    IfSome (find program class (method_name program m)) (λ n.
    IsSomeAnd (slice_get program.methods n) (λ x. x.body ≡ None → ⊥))

-- the bytes of a text literal
abbrev pub IsText : List ℕ → Type 0
IsText text = IsTrue (list_all (λ b. nat_lt b 256) text) × (length text ≤ 255)

-- the statics together
abbrev pub statics_size : Program → ℕ
statics_size program = sum_by (λ f. form_size (data_size program) f.form) program.statics

pub record Typed (program : Program) : Type 0 where
  pub kits : HasKits program.schema
  pub classes : (class : ℕ) → IfSome (slice_get program.schema.classes class) (IsClass program class)
  pub slots : (class : ℕ) → IfSome (slice_get program.schema.classes class) (HasSlots program class)
  pub members : (class : ℕ) → class < length program.schema.classes → HasMembers program class
  pub sys : (class : ℕ) → IfSome (slice_get program.schema.classes class) (λ info. info.kit ≡ 0
      → HasSysMembers program class info)
  pub fields : All (IsField program) program.fields
  -- those of a class stand together, in the order of the classes
  pub fields_by_class : flat_map (declared_fields program.fields) (range_with_len 0 (length program.schema.classes))
      ≡ program.fields
  pub statics : All (IsField program) program.statics
  pub statics_apart : All (λ f. f.slot ≡ None) program.statics
  -- texts with the same characters are one
  pub texts_once : (text : List ℕ) → count_by (λ t. bytes_eq t text) program.texts ≤ 1
  -- objects lie inside one another to a depth, so none holds itself
  pub depth : ℕ → ℕ
  pub deeper : (class : ℕ) → All (λ f. LiesDeeper depth class f.form) (fields_of program class)
  pub methods : All (IsMethod program) program.methods
  pub bodies : (class : ℕ) → class < length program.schema.classes → HasBodies program class
  pub statics_most : statics_size program < 65536
  pub texts : All IsText program.texts
  pub texts_most : length program.texts ≤ 4096
