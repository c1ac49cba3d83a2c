-- The term of a typed expression is typed.
use Rattle.std.proofs.Common.{◌≡◌, refl, ap, sym, ◌∙◌, subst}
use Rattle.std.specs.Option.{option_and_then}
use mathlib.Core.Former.{Count}
use Rattle.sed_typed.specs.declared.kind.Kind.{Kind}
use Rattle.sed_typed.specs.declared.operators.Arithmetic.{Arithmetic}
use Rattle.sed_typed.specs.declared.operators.Arithmetic.TheVariants as arithmetic
use Rattle.sed_typed.specs.declared.operators.Gives.{Gives}
use Rattle.sed_typed.specs.declared.operators.Gives.TheVariants.{Old, New}
use Rattle.sed_typed.specs.declared.operators.Width.{Width}
use Rattle.sed_typed.specs.declared.operators.Width.TheVariants as width
use Rattle.sed_typed.specs.declared.tree.Expr.{Expr, Row_of-Expr, end_of-Expr, more_of-Expr, Row_of-Link, end_of-Link, more_of-Link}
use Rattle.sed_typed.specs.declared.tree.Expr.TheVariants as expr
use Rattle.sed_typed.specs.declared.tree.Link.{Link}
use Rattle.sed_typed.specs.declared.tree.Link.TheVariants as link
use Rattle.sed_typed.specs.declared.tree.Place.{Place}
use Rattle.sed_typed.specs.declared.tree.Place.TheVariants as place
use Rattle.sed_typed.specs.Kinds.{kind_of, link_kind}
use Rattle.sed_typed.specs.TypedExpr.{Context, IsExpr, IsPlace, IsLink, AreLinks, AreExprs, MayGive, one_of, field_form, part_kind}
use Rattle.sed_terms.specs.Term.{Term}
use Rattle.sed_terms.specs.Ones.{one_in}
use Rattle.sed_terms.specs.Sorts.{term_kind}
use Rattle.sed_terms.specs.Seen.{term_of, place_term, operand_term, link_term, term_after, args_term}
use Rattle.sed_terms.specs.TypedTerm.{IsTerm, IsTermPlace, AreTerms, TermMayGive}
use Rattle.sed_terms.proofs.Again.{kind_again, place_kind_again, link_kind_again, kinds_again, operand_kind_again, goes_again, operands_again, buf_again, static_again, super_again, invocation_again}

-- the operand of what gives the value before is the 1 of its width, so it is seen as it is
one_term : (w : Width) → operand_term Old (one_of w) (term_of (one_of w)) ≡ one_in w
one_term width.Int = refl
one_term width.Long = refl

one_back : (c : Context) (w : Width) → IsTerm c (one_in w)
one_back c width.Int = refl
one_back c width.Long = refl

-- the operand, and that it may be what it is
operand_back : (c : Context) (g : Gives) (op : Arithmetic) (w : Width) (e : Expr) → IsTerm c (term_of e) → MayGive g op w e →
    IsTerm c (operand_term g e (term_of e)) × TermMayGive g op w (operand_term g e (term_of e))
operand_back c New op w e h m = (h, tt)
operand_back c Old arithmetic.Add w e h m =
    let same : operand_term Old e (term_of e) ≡ one_in w = ap (λ (x : Expr). operand_term Old x (term_of x)) m ∙ one_term w in
    (subst (λ (t : Term). IsTerm c t) (sym same) (one_back c w), same)
operand_back c Old arithmetic.Subtract w e h m =
    let same : operand_term Old e (term_of e) ≡ one_in w = ap (λ (x : Expr). operand_term Old x (term_of x)) m ∙ one_term w in
    (subst (λ (t : Term). IsTerm c t) (sym same) (one_back c w), same)
operand_back c Old op w e h m = absurd m

mutual
  pub expr_back : (c : Context) (e : Expr) → IsExpr c e → IsTerm c (term_of e)
  expr_back c (expr.Int n) h = h
  expr_back c (expr.Long n) h = h
  expr_back c (expr.Bool t) h = h
  expr_back c (expr.Null k) h = h
  expr_back c (expr.Text n) h = h
  expr_back c (expr.This class) h = h
  expr_back c (expr.Local k i) h = h
  expr_back c (expr.Static p i) h = h
  expr_back c (expr.StaticPart k i) h = h
  expr_back c (expr.StaticElement' p n i q e) h = (h.0, expr_back c e h.1, kind_again e ∙ h.2)
  expr_back c expr.Ticks h = tt
  expr_back c (expr.Unary' op p e) h = (expr_back c e h.0, kind_again e ∙ h.1)
  expr_back c (expr.Choose' p t q a r b) h =
      (expr_back c t h.0, expr_back c a h.1, expr_back c b h.2, kind_again t ∙ h.3, kind_again a ∙ h.4 ∙ sym (kind_again b))
  expr_back c (expr.Set' target p e) h =
      (place_back c target h.0, expr_back c e h.1, goes_again c.program (sym (kind_again e)) (sym (place_kind_again target)) h.2)
  expr_back c (expr.Update' u target p e) h =
      let o = operand_back c u.gives u.arithmetic u.width e (expr_back c e h.1) h.4 in (
        place_back c target h.0,
        o.0,
        place_kind_again target ∙ h.2,
        operand_kind_again u.gives e (term_of e) ∙ kind_again e ∙ h.3,
        o.1,
      )
  expr_back c (expr.Call' k m shape args) h = (exprs_back c args h.0, static_again c.program m k (sym (kinds_again args)) h.1)
  expr_back c (expr.Super' k m shape args) h = (exprs_back c args h.0, h.1, super_again c.program c.class m k (sym (kinds_again args)) h.2)
  expr_back c (expr.Chain' p e shape links) h = links_back c (term_of e) (kind_of e) links (kind_again e) (expr_back c e h.0) h.1

  pub place_back : (c : Context) (p : Place) → IsPlace c p → IsTermPlace c (place_term p)
  place_back c (place.Local k i) h = h
  place_back c (place.Static p i) h = h
  place_back c (place.Field' p q e i) h = (expr_back c e h.0, ap (λ k. field_form c.program k i) (kind_again e) ∙ h.1)
  place_back c (place.Element' p n q e f r i) h =
      (expr_back c e h.0, ap (λ k. field_form c.program k f) (kind_again e) ∙ h.1, expr_back c i h.2, kind_again i ∙ h.3)
  place_back c (place.StaticElement' p n i q e) h = (h.0, expr_back c e h.1, kind_again e ∙ h.2)

  link_back : (c : Context) (t : Term) (k : Kind) (l : Link) → term_kind t ≡ k → IsTerm c t → IsLink c k l → IsTerm c (link_term t l)
  link_back c t k (link.Binary op e) q g h = (g, expr_back c e h.0, operands_again op (sym q) (sym (kind_again e)) h.1)
  link_back c t k (link.And e) q g h = (g, expr_back c e h.0, q ∙ h.1, kind_again e ∙ h.2)
  link_back c t k (link.Or e) q g h = (g, expr_back c e h.0, q ∙ h.1, kind_again e ∙ h.2)
  link_back c t k (link.Field p i) q g h = (g, ap (λ k. field_form c.program k i) q ∙ h)
  link_back c t k (link.Part part i) q g h = (g, ap (λ k. option_and_then part_kind (field_form c.program k i)) q ∙ h)
  link_back c t k (link.Element p n i e) q g h = (g, ap (λ k. field_form c.program k i) q ∙ h.0, expr_back c e h.1, kind_again e ∙ h.2)
  link_back c t k (link.Size i) q g h = (g, buf_again c.program i (sym q) h)
  link_back c t k (link.Byte i e) q g h = (g, buf_again c.program i (sym q) h.0, expr_back c e h.1, kind_again e ∙ h.2)
  link_back c t k (link.Invoke' result m shape args) q g h =
      (g, exprs_back c args h.0, invocation_again c.program m result (sym q) (sym (kinds_again args)) h.1)
  link_back c t k (link.TextCall' op shape args) q g h = (g, exprs_back c args h.0, q ∙ h.1, kinds_again args ∙ h.2)
  link_back c t k (link.After e) q g h = (g, expr_back c e h)

  exprs_back : (c : Context) {n : Count} (es : Row_of-Expr n) → AreExprs c es → AreTerms c (args_term es)
  exprs_back c end_of-Expr h = tt
  exprs_back c (more_of-Expr e es) h = (expr_back c e h.0, exprs_back c es h.1)

  links_back : (c : Context) {n : Count} (t : Term) (k : Kind) (ls : Row_of-Link n) → term_kind t ≡ k → IsTerm c t → AreLinks c k ls →
      IsTerm c (term_after t ls)
  links_back c t k end_of-Link q g h = g
  links_back c t k (more_of-Link l ls) q g h =
      links_back c (link_term t l) (link_kind l) ls (link_kind_again t l) (link_back c t k l q g h.0) h.1
