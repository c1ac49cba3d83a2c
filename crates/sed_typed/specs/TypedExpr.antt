-- What typed expressions keep: each has the kind that the rules give for its form.
use Rattle.std.specs.Prelude.{ℕ, pos, ◌≡◌, ◌≢◌, ◌<◌, ◌≤◌, Bool, true, false, IsTrue, IsSomeAnd, List, [], ◌∷◌, length}
use Rattle.std.specs.Prelude.{slice_get, Option, Some, None}
use Rattle.std.specs.Int.{w32, w64}
use Rattle.std.specs.Option.{option_map, option_and_then}
use Rattle.sed_value.specs.Value.{is_signed}
use Rattle.sed_typed.specs.declared.kind.Kind.{Kind}
use Rattle.sed_typed.specs.declared.kind.Kind.TheVariants as kind
use Rattle.sed_typed.specs.declared.operators.Arithmetic.{Arithmetic}
use Rattle.sed_typed.specs.declared.operators.Arithmetic.TheVariants.{Add, Subtract, ShiftLeft, ShiftRight}
use Rattle.sed_typed.specs.declared.operators.Binary.{Binary}
use Rattle.sed_typed.specs.declared.operators.Binary.TheVariants as binary
use Rattle.sed_typed.specs.declared.operators.Gives.{Gives}
use Rattle.sed_typed.specs.declared.operators.Gives.TheVariants.{Old, New}
use Rattle.sed_typed.specs.declared.operators.TextCall.{TextCall}
use Rattle.sed_typed.specs.declared.operators.TextCall.TheVariants as text
use Rattle.sed_typed.specs.declared.operators.Unary.{Unary}
use Rattle.sed_typed.specs.declared.operators.Unary.TheVariants as unary
use Rattle.sed_typed.specs.declared.operators.Width.{Width}
use Rattle.sed_typed.specs.declared.operators.Width.TheVariants as width
use Rattle.sed_typed.specs.declared.program.FieldForm.{FieldForm}
use Rattle.sed_typed.specs.declared.program.FieldForm.TheVariants as form
use Rattle.sed_typed.specs.declared.program.Method.{Method}
use Rattle.sed_typed.specs.declared.program.Program.{Program}
use Rattle.sed_typed.specs.declared.tree.Place.{Place}
use Rattle.sed_typed.specs.declared.tree.Place.TheVariants as place
use Rattle.sed_typed.specs.declared.tree.Expr.{Expr, Row_of-Expr, end_of-Expr, more_of-Expr, Row_of-Link, end_of-Link}
use Rattle.sed_typed.specs.declared.tree.Expr.{more_of-Link}
use Rattle.sed_typed.specs.declared.tree.Expr.TheVariants as expr
use Rattle.sed_typed.specs.declared.tree.Link.{Link}
use Rattle.sed_typed.specs.declared.tree.Link.TheVariants as link
use Rattle.sed_typed.specs.Classes.{base_of, fields, find, method_name}
use Rattle.sed_typed.specs.Kinds.{width_kind, place_kind, kind_of, link_kind}
use Rattle.sed_typed.specs.TypedSchema.{is_below}

-- where an expression stands: the program, its class, whether its method is static, and the kinds of the method's
-- locals, the receiver's first where there is one
pub record Context : Type 0 where
  pub program : Program
  pub class : ℕ
  pub is_static : Bool
  pub locals : List Kind
  pub result : Kind

-- ---- kinds

-- a kind of a program: if it is that of objects, their class is there
abbrev pub IsKindOf : Program → Kind → Type 0
IsKindOf program (kind.Object class) = class.0 < length program.schema.classes
IsKindOf program k = Unit {0}

abbrev pub IsReference : Kind → Type 0
IsReference kind.Void = ⊥
IsReference kind.Bool = ⊥
IsReference kind.Int = ⊥
IsReference kind.Long = ⊥
IsReference kind.Text = Unit {0}
IsReference (kind.Object class) = Unit {0}

-- the class of an object's kind
abbrev pub object_class : Kind → Option ℕ
object_class (kind.Object class) = Some class.0
object_class k = None

-- a kind goes to a place of another: they are equal, or a class to one above it
abbrev pub GoesTo : Program → Kind → Kind → Type 0
GoesTo program (kind.Object c) (kind.Object d) = IsTrue (is_below program.schema.classes d.0 c.0)
GoesTo program from to = from ≡ to

-- arguments go to the parameters, one to each
abbrev pub AllGoTo : Program → List Kind → List Kind → Type 0
AllGoTo program [] [] = Unit {0}
AllGoTo program [] (q ∷ qs) = ⊥
AllGoTo program (k ∷ ks) [] = ⊥
AllGoTo program (k ∷ ks) (q ∷ qs) = GoesTo program k q × AllGoTo program ks qs

-- the kind of an inline object or Str; an array or a Buf is no value
abbrev pub part_kind : FieldForm → Option Kind
part_kind (form.Object t) = Some (kind.Object t)
part_kind (form.Str n) = Some kind.Text
part_kind f = None

-- what a field of an object is, and what a static is
abbrev pub field_form : Program → Kind → ℕ → Option FieldForm
field_form program k i =
    option_and_then (λ class. option_map (λ f. f.form) (slice_get (fields program class) i)) (object_class k)

abbrev pub static_form : Program → ℕ → Option FieldForm
static_form program i = option_map (λ f. f.form) (slice_get program.statics i)

-- a field that is a Buf
abbrev pub IsBuf : Option FieldForm → Type 0
IsBuf f = (n : ℕ) × (f ≡ Some (form.Buf n))

-- ---- operands

abbrev pub operand_kind : Unary → Kind
operand_kind unary.Not = kind.Bool
operand_kind (unary.Negate w) = width_kind w
operand_kind (unary.Flip w) = width_kind w
operand_kind unary.ToLong = kind.Int
operand_kind unary.ToInt = kind.Long
operand_kind (unary.LowByte w) = width_kind w
operand_kind (unary.LowShort w) = width_kind w

-- a shift count is an int
abbrev pub right_kind : Arithmetic → Width → Kind
right_kind ShiftLeft w = kind.Int
right_kind ShiftRight w = kind.Int
right_kind op w = width_kind w

-- the 1 of a width
abbrev pub one_of : Width → Expr
one_of width.Int = expr.Int (pos 1)
one_of width.Long = expr.Long (pos 1)

-- an assignment that computes gives the value before only as `x++` and `x--` do, which add 1 or take it off
abbrev pub MayGive : Gives → Arithmetic → Width → Expr → Type 0
MayGive New op w e = Unit {0}
MayGive Old Add w e = e ≡ one_of w
MayGive Old Subtract w e = e ≡ one_of w
MayGive Old op w e = ⊥

abbrev pub AreOperands : Binary → Kind → Kind → Type 0
AreOperands (binary.Arithmetic op w) a b = (a ≡ width_kind w) × (b ≡ right_kind op w)
AreOperands (binary.Compare op w) a b = (a ≡ width_kind w) × (b ≡ width_kind w)
AreOperands binary.SameTruth a b = (a ≡ kind.Bool) × (b ≡ kind.Bool)
AreOperands binary.OtherTruth a b = (a ≡ kind.Bool) × (b ≡ kind.Bool)
AreOperands binary.SameReference a b = IsReference a × IsReference b
AreOperands binary.OtherReference a b = IsReference a × IsReference b

abbrev pub text_kinds : TextCall → List Kind
text_kinds text.Length = []
text_kinds text.Get = kind.Int ∷ []
text_kinds text.Set = kind.Int ∷ kind.Int ∷ []
text_kinds text.Equals = kind.Text ∷ []
text_kinds text.Copy = kind.Text ∷ []

-- ---- calls

-- a call of this method has this kind, and its arguments these
pub record IsCallOf (program : Program) (m : Method) (result : Kind) (args : List Kind) : Type 0 where
  pub gives : m.result ≡ result
  pub takes : AllGoTo program args m.params

abbrev pub IsStaticCall : Program → ℕ → Kind → List Kind → Type 0
IsStaticCall program m result args =
    IsSomeAnd (slice_get program.methods m) (λ x. (x.is_static ≡ true) × IsCallOf program x result args)

-- the nearest method of its name at or above a class, and no static one
abbrev pub IsInvocation : Program → Option ℕ → ℕ → Kind → List Kind → Type 0
IsInvocation program class m result args =
    (option_and_then (λ c. find program c (method_name program m)) class ≡ Some m)
    × IsSomeAnd (slice_get program.methods m) (λ x. (x.is_static ≡ false) × IsCallOf program x result args)

-- `super` names no abstract method
abbrev pub IsSuperCall : Program → ℕ → ℕ → Kind → List Kind → Type 0
IsSuperCall program class m result args =
    IsInvocation program (base_of program.schema.classes class) m result args
    × IsSomeAnd (slice_get program.methods m) (λ x. x.body ≢ None)

-- a local that may be stored in: the receiver stays
abbrev pub IsNoReceiver : Context → ℕ → Type 0
IsNoReceiver c i = c.is_static ≡ false → i ≢ 0

-- ---- trees

abbrev pub kinds_of : {n : _} → Row_of-Expr n → List Kind
kinds_of end_of-Expr = []
kinds_of (more_of-Expr e es) = kind_of e ∷ kinds_of es

abbrev mutual
  pub IsExpr : Context → Expr → Type 0
  IsExpr c (expr.Int n) = IsTrue (is_signed w32 n)
  IsExpr c (expr.Long n) = IsTrue (is_signed w64 n)
  IsExpr c (expr.Bool t) = t ≤ 2
  IsExpr c (expr.Null k) = IsReference k × IsKindOf c.program k
  IsExpr c (expr.Text n) = n < length c.program.texts
  IsExpr c (expr.This class) = (c.is_static ≡ false) × (class.0 ≡ c.class)
  IsExpr c (expr.Local k i) = slice_get c.locals i ≡ Some k
  IsExpr c (expr.Static p i) = static_form c.program i ≡ Some (form.Prim p)
  IsExpr c (expr.StaticPart k i) = option_and_then part_kind (static_form c.program i) ≡ Some k
  IsExpr c (expr.StaticElement' p n i q e) = (static_form c.program i ≡ Some (form.Array p n))
      × IsExpr c e × (kind_of e ≡ kind.Int)
  IsExpr c expr.Ticks = Unit {0}
  IsExpr c (expr.Unary' op p e) = IsExpr c e × (kind_of e ≡ operand_kind op)
  IsExpr c (expr.Choose' p t q a r b) = IsExpr c t × IsExpr c a × IsExpr c b
      × (kind_of t ≡ kind.Bool) × (kind_of a ≡ kind_of b)
  IsExpr c (expr.Set' target p e) = IsPlace c target × IsExpr c e × GoesTo c.program (kind_of e) (place_kind target)
  IsExpr c (expr.Update' u target p e) = IsPlace c target × IsExpr c e × (place_kind target ≡ width_kind u.width)
      × (kind_of e ≡ right_kind u.arithmetic u.width) × MayGive u.gives u.arithmetic u.width e
  IsExpr c (expr.Call' k m shape args) = AreExprs c args × IsStaticCall c.program m k (kinds_of args)
  IsExpr c (expr.Super' k m shape args) = AreExprs c args × (c.is_static ≡ false)
      × IsSuperCall c.program c.class m k (kinds_of args)
  IsExpr c (expr.Chain' p e shape links) = IsExpr c e × AreLinks c (kind_of e) links

  pub IsPlace : Context → Place → Type 0
  IsPlace c (place.Local k i) = (slice_get c.locals i ≡ Some k) × IsNoReceiver c i
  IsPlace c (place.Static p i) = static_form c.program i ≡ Some (form.Prim p)
  IsPlace c (place.Field' p q e i) = IsExpr c e × (field_form c.program (kind_of e) i ≡ Some (form.Prim p))
  IsPlace c (place.Element' p n q e f r i) = IsExpr c e × (field_form c.program (kind_of e) f ≡ Some (form.Array p n))
      × IsExpr c i × (kind_of i ≡ kind.Int)
  IsPlace c (place.StaticElement' p n i q e) = (static_form c.program i ≡ Some (form.Array p n))
      × IsExpr c e × (kind_of e ≡ kind.Int)

  -- a link with the kind on its left
  pub IsLink : Context → Kind → Link → Type 0
  IsLink c k (link.Binary op e) = IsExpr c e × AreOperands op k (kind_of e)
  IsLink c k (link.And e) = IsExpr c e × (k ≡ kind.Bool) × (kind_of e ≡ kind.Bool)
  IsLink c k (link.Or e) = IsExpr c e × (k ≡ kind.Bool) × (kind_of e ≡ kind.Bool)
  IsLink c k (link.Field p i) = field_form c.program k i ≡ Some (form.Prim p)
  IsLink c k (link.Part part i) = option_and_then part_kind (field_form c.program k i) ≡ Some part
  IsLink c k (link.Element p n i e) = (field_form c.program k i ≡ Some (form.Array p n))
      × IsExpr c e × (kind_of e ≡ kind.Int)
  IsLink c k (link.Size i) = IsBuf (field_form c.program k i)
  IsLink c k (link.Byte i e) = IsBuf (field_form c.program k i) × IsExpr c e × (kind_of e ≡ kind.Int)
  IsLink c k (link.Invoke' result m shape args) = AreExprs c args
      × IsInvocation c.program (object_class k) m result (kinds_of args)
  IsLink c k (link.TextCall' op shape args) = AreExprs c args × (k ≡ kind.Text) × (kinds_of args ≡ text_kinds op)
  IsLink c k (link.After e) = IsExpr c e

  pub AreExprs : {n : _} → Context → Row_of-Expr n → Type 0
  AreExprs c end_of-Expr = Unit {0}
  AreExprs c (more_of-Expr e es) = IsExpr c e × AreExprs c es

  pub AreLinks : {n : _} → Context → Kind → Row_of-Link n → Type 0
  AreLinks c k end_of-Link = Unit {0}
  AreLinks c k (more_of-Link l ls) = IsLink c k l × AreLinks c (link_kind l) ls
