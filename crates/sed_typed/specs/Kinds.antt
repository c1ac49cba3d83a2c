-- The kinds of expressions.
use Rattle.sed_value.specs.declared.slot_type.Primitive.{Primitive}
use Rattle.sed_value.specs.declared.slot_type.Primitive.TheVariants as prim
use Rattle.sed_typed.specs.declared.kind.Kind.{Kind}
use Rattle.sed_typed.specs.declared.kind.Kind.TheVariants.{Void, Bool, Int, Long, Text, Object}
use Rattle.sed_typed.specs.declared.operators.Width.{Width}
use Rattle.sed_typed.specs.declared.operators.Width.TheVariants as width
use Rattle.sed_typed.specs.declared.operators.Unary.{Unary}
use Rattle.sed_typed.specs.declared.operators.Unary.TheVariants.{Not, Negate, Flip, ToLong, ToInt, LowByte, LowShort}
use Rattle.sed_typed.specs.declared.operators.Binary.{Binary}
use Rattle.sed_typed.specs.declared.operators.Binary.TheVariants.{Arithmetic, Compare, SameTruth, OtherTruth}
use Rattle.sed_typed.specs.declared.operators.Binary.TheVariants.{SameReference, OtherReference}
use Rattle.sed_typed.specs.declared.operators.TextCall.{TextCall as TextCall-type}
use Rattle.sed_typed.specs.declared.operators.TextCall.TheVariants.{Length, Get, Set, Equals, Copy}
use Rattle.sed_typed.specs.declared.tree.Place.{Place}
use Rattle.sed_typed.specs.declared.tree.Place.TheVariants.{Local as LocalPlace, Static as StaticPlace}
use Rattle.sed_typed.specs.declared.tree.Place.TheVariants.{Field' as FieldPlace, Element' as ElementPlace}
use Rattle.sed_typed.specs.declared.tree.Place.TheVariants.{StaticElement' as StaticElementPlace}
use Rattle.sed_typed.specs.declared.tree.Expr.{Expr, Row_of-Link, end_of-Link, more_of-Link}
use Rattle.sed_typed.specs.declared.tree.Expr.TheVariants as expr
use Rattle.sed_typed.specs.declared.tree.Link.{Link}
use Rattle.sed_typed.specs.declared.tree.Link.TheVariants as link

-- what a primitive comes to when it is read: byte and short widen to int
abbrev pub read_kind : Primitive → Kind
read_kind prim.Bool = Bool
read_kind prim.Byte = Int
read_kind prim.Short = Int
read_kind prim.Int = Int
read_kind prim.Long = Long

abbrev pub width_kind : Width → Kind
width_kind width.Int = Int
width_kind width.Long = Long

abbrev pub unary_kind : Unary → Kind
unary_kind Not = Bool
unary_kind (Negate w) = width_kind w
unary_kind (Flip w) = width_kind w
unary_kind ToLong = Long
unary_kind ToInt = Int
unary_kind (LowByte w) = Int
unary_kind (LowShort w) = Int

abbrev pub binary_kind : Binary → Kind
binary_kind (Arithmetic op w) = width_kind w
binary_kind (Compare op w) = Bool
binary_kind SameTruth = Bool
binary_kind OtherTruth = Bool
binary_kind SameReference = Bool
binary_kind OtherReference = Bool

abbrev pub text_kind : TextCall-type → Kind
text_kind Length = Int
text_kind Get = Int
text_kind Set = Void
text_kind Equals = Bool
text_kind Copy = Void

-- the kind of a value that is read from a place
abbrev pub place_kind : Place → Kind
place_kind (LocalPlace kind i) = kind
place_kind (StaticPlace p i) = read_kind p
place_kind (FieldPlace p q e i) = read_kind p
place_kind (ElementPlace p n q e f r i) = read_kind p
place_kind (StaticElementPlace p n i q e) = read_kind p

-- the kind of an expression; that of a chain is the kind of its last link
abbrev mutual
  pub kind_of : Expr → Kind
  kind_of (expr.Int n) = Int
  kind_of (expr.Long n) = Long
  kind_of (expr.Bool t) = Bool
  kind_of (expr.Null kind) = kind
  kind_of (expr.Text n) = Text
  kind_of (expr.This class) = Object class
  kind_of (expr.Local kind i) = kind
  kind_of (expr.Static p i) = read_kind p
  kind_of (expr.StaticPart kind i) = kind
  kind_of (expr.StaticElement' p n i q e) = read_kind p
  kind_of expr.Ticks = Long
  kind_of (expr.Unary' op p e) = unary_kind op
  kind_of (expr.Choose' p c q a r b) = kind_of a
  kind_of (expr.Set' place p e) = place_kind place
  kind_of (expr.Update' op place p e) = place_kind place
  kind_of (expr.Call' kind m shape args) = kind
  kind_of (expr.Super' kind m shape args) = kind
  kind_of (expr.Chain' p e shape links) = kind_after (kind_of e) links

  pub link_kind : Link → Kind
  link_kind (link.Binary op e) = binary_kind op
  link_kind (link.And e) = Bool
  link_kind (link.Or e) = Bool
  link_kind (link.Field p i) = read_kind p
  link_kind (link.Part kind i) = kind
  link_kind (link.Element p n i e) = read_kind p
  link_kind (link.Size i) = Int
  link_kind (link.Byte i e) = Int
  link_kind (link.Invoke' kind m shape args) = kind
  link_kind (link.TextCall' op shape args) = text_kind op
  link_kind (link.After e) = kind_of e

  pub kind_after : {n : _} → Kind → Row_of-Link n → Kind
  kind_after kind end_of-Link = kind
  kind_after kind (more_of-Link l ls) = kind_after (link_kind l) ls
