-- What is evaluated of expressions whose values are not used.
use Rattle.std.proofs.Common.{◌≡◌, true, false, Option, Some, None, refl, ap, ◌∙◌}
use Rattle.std.specs.Global.{Box}
use mathlib.Core.Former.{Count}
use Rattle.sed_typed.specs.declared.tree.Expr.{Expr, Row_of-Link, end_of-Link, more_of-Link}
use Rattle.sed_typed.specs.declared.tree.Expr.TheVariants as expr
use Rattle.sed_typed.specs.declared.tree.Link.{Link}
use Rattle.sed_typed.specs.declared.tree.Link.TheVariants as link
use Rattle.sed_terms.specs.declared.open.Open.{Open}
use Rattle.sed_terms.specs.declared.open.Open.TheVariants as held
use Rattle.sed_terms.specs.declared.sign.Sign.TheVariants as sign
use Rattle.sed_terms.specs.Term.{Term, Absent, Node}
use Rattle.sed_terms.specs.Forms.{discarded, evaluated_after, evaluating}
use Rattle.sed_terms.specs.OpenTerm.{open_term, behind, evaluated_behind}
use Rattle.sed_terms.specs.Seen.{term_of, link_term, term_after}
use Rattle.sed_terms.specs.Sorts.{is_value}
use Rattle.sed_terms.proofs.StmtAgain.{IsNode, is_node}

after_part : (e t : Term) → IsNode t → evaluated_after e t ≡ Node sign.After e t
after_part e Absent h = absurd h
after_part e (Node s a b) h = refl

-- an expression is evaluated whole
mutual
  pub whole : (e : Expr) → discarded (term_of e) ≡ term_of e
  whole (expr.Int n) = refl
  whole (expr.Long n) = refl
  whole (expr.Bool t) = refl
  whole (expr.Null k) = refl
  whole (expr.Text n) = refl
  whole (expr.This class) = refl
  whole (expr.Local k i) = refl
  whole (expr.Static p i) = refl
  whole (expr.StaticPart k i) = refl
  whole (expr.StaticElement' p n i q e) = refl
  whole expr.Ticks = refl
  whole (expr.Unary' op p e) = refl
  whole (expr.Choose' p t q a r b) = refl
  whole (expr.Set' target p e) = refl
  whole (expr.Update' u target p e) = refl
  whole (expr.Call' k m shape args) = refl
  whole (expr.Super' k m shape args) = refl
  whole (expr.Chain' p e shape links) = whole_after (term_of e) links (whole e)

  whole_link : (t : Term) (l : Link) → discarded (link_term t l) ≡ link_term t l
  whole_link t (link.Binary op e) = refl
  whole_link t (link.And e) = refl
  whole_link t (link.Or e) = refl
  whole_link t (link.Field p i) = refl
  whole_link t (link.Part k i) = refl
  whole_link t (link.Element p n i e) = refl
  whole_link t (link.Size i) = refl
  whole_link t (link.Byte i e) = refl
  whole_link t (link.Invoke' k m shape args) = refl
  whole_link t (link.TextCall' op shape args) = refl
  whole_link t (link.After e) = ap (evaluated_after t) (whole e) ∙ after_part t (term_of e) (is_node e)

  whole_after : {n : Count} (t : Term) (ls : Row_of-Link n) → discarded t ≡ t → discarded (term_after t ls) ≡ term_after t ls
  whole_after t end_of-Link h = h
  whole_after t (more_of-Link l ls) h = whole_after (link_term t l) ls (whole_link t l)

pub value_whole : (o : Open) → is_value (open_term o) ≡ true → discarded (open_term o) ≡ open_term o
value_whole (held.Value e) h = whole e.value
value_whole (held.Local k i) h = refl
value_whole (held.Static p i) h = refl
value_whole (held.StaticElement p n i e) h = refl
value_whole (held.Field p e i) h = refl
value_whole (held.Element p n e i x) h = refl
value_whole held.Nothing h = absurd (let k : false ≡ true = h in cc)
value_whole (held.Array p n e i) h = absurd (let k : false ≡ true = h in cc)
value_whole (held.StaticArray p n i) h = absurd (let k : false ≡ true = h in cc)
value_whole (held.Buf e i) h = absurd (let k : false ≡ true = h in cc)
value_whole (held.Bytes e i) h = absurd (let k : false ≡ true = h in cc)

evaluating_node : (t : Term) → IsNode t → evaluating t ≡ Node sign.Do t Absent
evaluating_node Absent h = absurd h
evaluating_node (Node s a b) h = refl

pub evaluating_is : (e : Expr) → evaluating (term_of e) ≡ Node sign.Do (term_of e) Absent
evaluating_is e = evaluating_node (term_of e) (is_node e)

pub after_is : (t : Term) (e : Expr) → evaluated_after t (term_of e) ≡ Node sign.After t (term_of e)
after_is t e = after_part t (term_of e) (is_node e)

pub discarded_behind : (b : Option (Box Expr)) (t : Term) → discarded (behind b t) ≡ evaluated_behind b (discarded t)
discarded_behind None t = refl
discarded_behind (Some e) t = refl
