-- Each class number in the kinds of a typed body's expressions is that of a class: the kinds of locals, parameters, results
-- and `null` are of the program by definition, and those of fields and statics because their objects are.
use Rattle.std.proofs.Common.{◌≡◌, ◌<◌, ℕ, List, length, Option, Some, None, refl, sym, subst}
use Rattle.std.specs.Prelude.{All, slice_get}
use Rattle.std.specs.Option.{option_and_then, option_map}
use Rattle.std.proofs.lemmas.Option.{same_Some}
use Rattle.sed_value.specs.declared.slot_type.Primitive.{Primitive}
use Rattle.sed_value.specs.declared.slot_type.Primitive.TheVariants as prim
use Rattle.sed_typed.specs.declared.kind.Kind.{Kind}
use Rattle.sed_typed.specs.declared.kind.Kind.TheVariants as kind
use Rattle.sed_typed.specs.declared.operators.Binary.{Binary}
use Rattle.sed_typed.specs.declared.operators.Binary.TheVariants as binary
use Rattle.sed_typed.specs.declared.operators.TextCall.{TextCall}
use Rattle.sed_typed.specs.declared.operators.TextCall.TheVariants as text
use Rattle.sed_typed.specs.declared.operators.Unary.{Unary}
use Rattle.sed_typed.specs.declared.operators.Unary.TheVariants as unary
use Rattle.sed_typed.specs.declared.operators.Width.{Width}
use Rattle.sed_typed.specs.declared.operators.Width.TheVariants as width
use Rattle.sed_typed.specs.declared.program.Field.{Field}
use Rattle.sed_typed.specs.declared.program.FieldForm.{FieldForm}
use Rattle.sed_typed.specs.declared.program.FieldForm.TheVariants as form
use Rattle.sed_typed.specs.declared.program.Method.{Method}
use Rattle.sed_typed.specs.declared.program.Program.{Program}
use Rattle.sed_typed.specs.declared.tree.Place.{Place}
use Rattle.sed_typed.specs.declared.tree.Place.TheVariants as place
use Rattle.sed_typed.specs.declared.tree.Expr.{Expr, Row_of-Link, end_of-Link, more_of-Link}
use Rattle.sed_typed.specs.declared.tree.Expr.TheVariants as expr
use Rattle.sed_typed.specs.declared.tree.Link.{Link}
use Rattle.sed_typed.specs.declared.tree.Link.TheVariants as link
use Rattle.sed_typed.specs.Classes.{fields}
use Rattle.sed_typed.specs.Kinds.{read_kind, width_kind, unary_kind, binary_kind, text_kind, place_kind, kind_of, link_kind, kind_after}
use Rattle.sed_typed.specs.Typed.{Typed, IsMethod}
use Rattle.sed_typed.specs.TypedExpr.{Context, IsKindOf, IsExpr, IsPlace, IsLink, AreLinks, IsCallOf, IsStaticCall, IsInvocation, part_kind, field_form}
use Rattle.sed_typed.specs.TypedSchema.{IsField, IsForm}
use Rattle.sed_engine.proofs.Below.{absent, at_place, of_some}
use Rattle.sed_engine.proofs.FieldLists.{of_fields}

module _ (program : Program) where
  abbrev There : Kind → Type 0
  There k = IsKindOf program k

  of_read : (p : Primitive) → There (read_kind p)
  of_read prim.Bool = tt
  of_read prim.Byte = tt
  of_read prim.Short = tt
  of_read prim.Int = tt
  of_read prim.Long = tt

  of_width : (w : Width) → There (width_kind w)
  of_width width.Int = tt
  of_width width.Long = tt

  of_unary : (op : Unary) → There (unary_kind op)
  of_unary unary.Not = tt
  of_unary (unary.Negate w) = of_width w
  of_unary (unary.Flip w) = of_width w
  of_unary unary.ToLong = tt
  of_unary unary.ToInt = tt
  of_unary (unary.LowByte w) = tt
  of_unary (unary.LowShort w) = tt

  of_binary : (op : Binary) → There (binary_kind op)
  of_binary (binary.Arithmetic op w) = of_width w
  of_binary (binary.Compare op w) = tt
  of_binary binary.SameTruth = tt
  of_binary binary.OtherTruth = tt
  of_binary binary.SameReference = tt
  of_binary binary.OtherReference = tt

  of_text : (op : TextCall) → There (text_kind op)
  of_text text.Length = tt
  of_text text.Get = tt
  of_text text.Set = tt
  of_text text.Equals = tt
  of_text text.Copy = tt

  -- the kind of an inline object or Str among fields that a typed program has
  part_of_form : (x : Field) (f : FieldForm) (k : Kind) → IsForm program x f → part_kind f ≡ Some k → There k
  part_of_form x (form.Object t) k is e = subst There (same_Some (kind.Object t) k e) is.0
  part_of_form x (form.Str n) k is e = subst There (same_Some kind.Text k e) tt
  part_of_form x (form.Prim p) k is e = absent k e
  part_of_form x (form.Buf n) k is e = absent k e
  part_of_form x (form.Array p n) k is e = absent k e

  of_part : (all : List Field) (i : ℕ) (k : Kind) → All (IsField program) all → option_and_then part_kind (option_map (λ f. f.form) (slice_get all i)) ≡ Some k → There k
  of_part all i k known e = go (slice_get all i) refl e
    where
      go : (o : Option Field) → slice_get all i ≡ o → option_and_then part_kind (option_map (λ f. f.form) o) ≡ Some k → There k
      go None is e = absent k e
      go (Some x) is e = part_of_form x x.form k (at_place (IsField program) all i x known is).form e

-- in a typed program, a class of it, and with locals of its kinds
module _ (c : Context) (typed : Typed c.program) (known : c.class < length c.program.schema.classes) (locals : All (IsKindOf c.program) c.locals) where
  of_call : (m : ℕ) (x : Method) (k : Kind) (args : List Kind) → slice_get c.program.methods m ≡ Some x → IsCallOf c.program x k args → There c.program k
  of_call m x k args is call = subst (There c.program) call.gives (at_place (IsMethod c.program) c.program.methods m x typed.methods is).result

  of_static : (m : ℕ) (k : Kind) (args : List Kind) → IsStaticCall c.program m k args → There c.program k
  of_static m k args is = let x = of_some (slice_get c.program.methods m) is in of_call m x.0 k args x.1 x.2.1

  of_invocation : (class : Option ℕ) (m : ℕ) (k : Kind) (args : List Kind) → IsInvocation c.program class m k args → There c.program k
  of_invocation class m k args is = let x = of_some (slice_get c.program.methods m) is.1 in of_call m x.0 k args x.1 x.2.1

  of_field_part : (k : Kind) (i : ℕ) (part : Kind) → option_and_then part_kind (field_form c.program k i) ≡ Some part → There c.program part
  of_field_part (kind.Object d) i part e = of_part c.program (fields c.program d.0) i part (of_fields (IsField c.program) c.program typed.fields d.0) e
  of_field_part k i part e = absent part e

  pub of_place : (t : Place) → IsPlace c t → There c.program (place_kind t)
  of_place (place.Local k i) t = at_place (IsKindOf c.program) c.locals i k locals t.0
  of_place (place.Static p i) t = of_read c.program p
  of_place (place.Field' p q e i) t = of_read c.program p
  of_place (place.Element' p n q e f r i) t = of_read c.program p
  of_place (place.StaticElement' p n i q e) t = of_read c.program p

  mutual
    pub kind_is_there : (e : Expr) → IsExpr c e → There c.program (kind_of e)
    kind_is_there (expr.Int n) t = tt
    kind_is_there (expr.Long n) t = tt
    kind_is_there (expr.Bool b) t = tt
    kind_is_there (expr.Null k) t = t.1
    kind_is_there (expr.Text n) t = tt
    kind_is_there (expr.This d) t = subst (λ (n : ℕ). n < length c.program.schema.classes) (sym t.1) known
    kind_is_there (expr.Local k i) t = at_place (IsKindOf c.program) c.locals i k locals t
    kind_is_there (expr.Static p i) t = of_read c.program p
    kind_is_there (expr.StaticPart k i) t = of_part c.program c.program.statics i k typed.statics t
    kind_is_there (expr.StaticElement' p n i q e) t = of_read c.program p
    kind_is_there expr.Ticks t = tt
    kind_is_there (expr.Unary' op p e) t = of_unary c.program op
    kind_is_there (expr.Choose' p x q a r b) t = kind_is_there a t.1
    kind_is_there (expr.Set' target p e) t = of_place target t.0
    kind_is_there (expr.Update' u target p e) t = of_place target t.0
    kind_is_there (expr.Call' k m shape args) t = of_static m k _ t.1
    kind_is_there (expr.Super' k m shape args) t = of_invocation _ m k _ t.2.0
    kind_is_there (expr.Chain' p e shape links) t = kind_after_is_there links (kind_of e) t.1 (kind_is_there e t.0)

    pub of_link : (l : Link) (k : Kind) → IsLink c k l → There c.program (link_kind l)
    of_link (link.Binary op e) k t = of_binary c.program op
    of_link (link.And e) k t = tt
    of_link (link.Or e) k t = tt
    of_link (link.Field p i) k t = of_read c.program p
    of_link (link.Part part i) k t = of_field_part k i part t
    of_link (link.Element p n i e) k t = of_read c.program p
    of_link (link.Size i) k t = tt
    of_link (link.Byte i e) k t = tt
    of_link (link.Invoke' r m shape args) k t = of_invocation _ m r _ t.1
    of_link (link.TextCall' op shape args) k t = of_text c.program op
    of_link (link.After e) k t = kind_is_there e t

    kind_after_is_there : {n : _} (ls : Row_of-Link n) (k : Kind) → AreLinks c k ls → There c.program k → There c.program (kind_after k ls)
    kind_after_is_there end_of-Link k t h = h
    kind_after_is_there (more_of-Link l ls) k t h = kind_after_is_there ls (link_kind l) t.1 (of_link l k t.0)
