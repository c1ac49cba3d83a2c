-- What typed terms keep: what the typed trees keep that they are terms of.
use Rattle.std.specs.Prelude.{◌≡◌, ◌<◌, ◌≤◌, false, IsTrue, Some, length, slice_get}
use Rattle.std.specs.Int.{w32, w64}
use Rattle.std.specs.Option.{option_and_then}
use Rattle.sed_value.specs.Value.{is_signed}
use Rattle.sed_typed.specs.declared.kind.Kind.TheVariants as kind
use Rattle.sed_typed.specs.declared.operators.Arithmetic.{Arithmetic}
use Rattle.sed_typed.specs.declared.operators.Arithmetic.TheVariants.{Add, Subtract}
use Rattle.sed_typed.specs.declared.operators.Gives.{Gives}
use Rattle.sed_typed.specs.declared.operators.Gives.TheVariants.{Old, New}
use Rattle.sed_typed.specs.declared.operators.Width.{Width}
use Rattle.sed_typed.specs.declared.program.FieldForm.TheVariants as form
use Rattle.sed_typed.specs.Kinds.{width_kind}
use Rattle.sed_typed.specs.TypedExpr.{Context, IsKindOf, IsReference, GoesTo, object_class, part_kind, field_form}
use Rattle.sed_typed.specs.TypedExpr.{static_form, IsBuf, operand_kind, right_kind, AreOperands, text_kinds}
use Rattle.sed_typed.specs.TypedExpr.{IsStaticCall, IsInvocation, IsSuperCall, IsNoReceiver}
use Rattle.sed_terms.specs.declared.sign.Sign.TheVariants as sign
use Rattle.sed_terms.specs.Term.{Term, Absent, Node}
use Rattle.sed_terms.specs.Ones.{one_in}
use Rattle.sed_terms.specs.Sorts.{term_kind, term_kinds}

-- an assignment that computes gives the value before only as `x++` and `x--` do, which add 1 or take it off
abbrev pub TermMayGive : Gives → Arithmetic → Width → Term → Type 0
TermMayGive New op w t = Unit {0}
TermMayGive Old Add w t = t ≡ one_in w
TermMayGive Old Subtract w t = t ≡ one_in w
TermMayGive Old op w t = ⊥

abbrev mutual
  pub IsTerm : Context → Term → Type 0
  IsTerm c (Node (sign.Int n) a b) = IsTrue (is_signed w32 n)
  IsTerm c (Node (sign.Long n) a b) = IsTrue (is_signed w64 n)
  IsTerm c (Node (sign.Bool t) a b) = t ≤ 2
  IsTerm c (Node (sign.Null k) a b) = IsReference k × IsKindOf c.program k
  IsTerm c (Node (sign.Text n) a b) = n < length c.program.texts
  IsTerm c (Node (sign.This class) a b) = (c.is_static ≡ false) × (class.0 ≡ c.class)
  IsTerm c (Node (sign.Local k i) a b) = slice_get c.locals i ≡ Some k
  IsTerm c (Node (sign.Static p i) a b) = static_form c.program i ≡ Some (form.Prim p)
  IsTerm c (Node (sign.StaticPart k i) a b) = option_and_then part_kind (static_form c.program i) ≡ Some k
  IsTerm c (Node (sign.StaticElement p n i) e b) = (static_form c.program i ≡ Some (form.Array p n))
      × IsTerm c e × (term_kind e ≡ kind.Int)
  IsTerm c (Node sign.Ticks a b) = Unit {0}
  IsTerm c (Node (sign.Unary op) e b) = IsTerm c e × (term_kind e ≡ operand_kind op)
  IsTerm c (Node sign.Choose t (Node sign.Pair a b)) = IsTerm c t × IsTerm c a
      × IsTerm c b × (term_kind t ≡ kind.Bool) × (term_kind a ≡ term_kind b)
  IsTerm c (Node sign.Set target e) = IsTermPlace c target × IsTerm c e
      × GoesTo c.program (term_kind e) (term_kind target)
  IsTerm c (Node (sign.Update u) target e) =
      IsTermPlace c target × IsTerm c e × (term_kind target ≡ width_kind u.width)
      × (term_kind e ≡ right_kind u.arithmetic u.width)
      × TermMayGive u.gives u.arithmetic u.width e
  IsTerm c (Node (sign.Call k m) args b) = AreTerms c args × IsStaticCall c.program m k (term_kinds args)
  IsTerm c (Node (sign.Super k m) args b) = AreTerms c args × (c.is_static ≡ false)
      × IsSuperCall c.program c.class m k (term_kinds args)
  -- what follows an operand
  IsTerm c (Node (sign.Binary op) x y) = IsTerm c x × IsTerm c y × AreOperands op (term_kind x) (term_kind y)
  IsTerm c (Node sign.And x y) = IsTerm c x × IsTerm c y × (term_kind x ≡ kind.Bool) × (term_kind y ≡ kind.Bool)
  IsTerm c (Node sign.Or x y) = IsTerm c x × IsTerm c y × (term_kind x ≡ kind.Bool) × (term_kind y ≡ kind.Bool)
  IsTerm c (Node (sign.Field p i) x b) = IsTerm c x × (field_form c.program (term_kind x) i ≡ Some (form.Prim p))
  IsTerm c (Node (sign.Part k i) x b) =
      IsTerm c x × (option_and_then part_kind (field_form c.program (term_kind x) i) ≡ Some k)
  IsTerm c (Node (sign.Element p n i) x y) =
      IsTerm c x × (field_form c.program (term_kind x) i ≡ Some (form.Array p n))
      × IsTerm c y × (term_kind y ≡ kind.Int)
  IsTerm c (Node (sign.Size i) x b) = IsTerm c x × IsBuf (field_form c.program (term_kind x) i)
  IsTerm c (Node (sign.Byte i) x y) = IsTerm c x × IsBuf (field_form c.program (term_kind x) i)
      × IsTerm c y × (term_kind y ≡ kind.Int)
  IsTerm c (Node (sign.Invoke k m) x args) =
      IsTerm c x × AreTerms c args × IsInvocation c.program (object_class (term_kind x)) m k (term_kinds args)
  IsTerm c (Node (sign.TextCall op) x args) = IsTerm c x × AreTerms c args
      × (term_kind x ≡ kind.Text) × (term_kinds args ≡ text_kinds op)
  IsTerm c (Node sign.After x y) = IsTerm c x × IsTerm c y
  IsTerm c t = ⊥

  -- a place, seen as the expression that reads it
  pub IsTermPlace : Context → Term → Type 0
  IsTermPlace c (Node (sign.Local k i) a b) = (slice_get c.locals i ≡ Some k) × IsNoReceiver c i
  IsTermPlace c (Node (sign.Static p i) a b) = static_form c.program i ≡ Some (form.Prim p)
  IsTermPlace c (Node (sign.StaticElement p n i) e b) = (static_form c.program i ≡ Some (form.Array p n))
      × IsTerm c e × (term_kind e ≡ kind.Int)
  IsTermPlace c (Node (sign.Field p i) x b) = IsTerm c x × (field_form c.program (term_kind x) i ≡ Some (form.Prim p))
  IsTermPlace c (Node (sign.Element p n i) x y) =
      IsTerm c x × (field_form c.program (term_kind x) i ≡ Some (form.Array p n))
      × IsTerm c y × (term_kind y ≡ kind.Int)
  IsTermPlace c t = ⊥

  -- a row of arguments
  pub AreTerms : Context → Term → Type 0
  AreTerms c Absent = Unit {0}
  AreTerms c (Node sign.More t rest) = IsTerm c t × AreTerms c rest
  AreTerms c t = ⊥
