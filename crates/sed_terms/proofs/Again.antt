-- An expression is typed where its term is.
use Rattle.std.proofs.Common.{◌≡◌, ℕ, ℤ, pos, List, ◌∷◌, refl, ap, sym, ◌∙◌, subst}
use Rattle.std.specs.Option.{option_and_then}
use mathlib.Core.Former.{Count}
use Rattle.sed_typed.specs.declared.kind.Kind.{Kind}
use Rattle.sed_typed.specs.declared.operators.Arithmetic.{Arithmetic}
use Rattle.sed_typed.specs.declared.operators.Arithmetic.TheVariants as arithmetic
use Rattle.sed_typed.specs.declared.operators.Binary.{Binary}
use Rattle.sed_typed.specs.declared.operators.Gives.{Gives}
use Rattle.sed_typed.specs.declared.operators.Gives.TheVariants.{Old, New}
use Rattle.sed_typed.specs.declared.operators.Width.{Width}
use Rattle.sed_typed.specs.declared.operators.Width.TheVariants as width
use Rattle.sed_typed.specs.declared.program.Program.{Program}
use Rattle.sed_typed.specs.declared.tree.Expr.{Expr, Row_of-Expr, end_of-Expr, more_of-Expr, Row_of-Link, end_of-Link, more_of-Link}
use Rattle.sed_typed.specs.declared.tree.Expr.TheVariants as expr
use Rattle.sed_typed.specs.declared.tree.Link.{Link}
use Rattle.sed_typed.specs.declared.tree.Link.TheVariants as link
use Rattle.sed_typed.specs.declared.tree.Place.{Place}
use Rattle.sed_typed.specs.declared.tree.Place.TheVariants as place
use Rattle.sed_typed.specs.Kinds.{kind_of, place_kind, link_kind, kind_after}
use Rattle.sed_typed.specs.TypedExpr.{Context, GoesTo, IsExpr, IsPlace, IsLink, AreLinks, AreExprs, AreOperands, IsBuf, IsStaticCall, IsInvocation, IsSuperCall, MayGive, one_of, field_form, part_kind, object_class, kinds_of}
use Rattle.sed_terms.specs.Term.{Term, Node}
use Rattle.sed_terms.specs.declared.sign.Sign.TheVariants as sign
use Rattle.sed_terms.specs.Ones.{one_in}
use Rattle.sed_terms.specs.Sorts.{term_kind, term_kinds}
use Rattle.sed_terms.specs.Seen.{term_of, place_term, literal_operand, operand_term, link_term, term_after, args_term}
use Rattle.sed_terms.specs.TypedTerm.{IsTerm, IsTermPlace, AreTerms, TermMayGive}

-- ---- the operand of an assignment that computes

pub operand_kind_again : (g : Gives) (e : Expr) (t : Term) → term_kind (operand_term g e t) ≡ term_kind t
operand_kind_again New e t = refl
operand_kind_again Old (expr.Int n) t = refl
operand_kind_again Old (expr.Long n) t = refl
operand_kind_again Old e t = refl

operand_front : (c : Context) (g : Gives) (e : Expr) (t : Term) → IsTerm c (operand_term g e t) → IsTerm c t
operand_front c New e t h = h
operand_front c Old (expr.Int n) t h = h
operand_front c Old (expr.Long n) t h = h
operand_front c Old e t h = absurd h

-- what it gives

abbrev int_in : Term → ℤ
int_in (Node (sign.Int n) a b) = n
int_in (Node (sign.Long n) a b) = n
int_in t = pos 0

abbrev IsInt : Term → Type 0
IsInt (Node (sign.Int n) a b) = Unit {0}
IsInt t = ⊥

abbrev IsLong : Term → Type 0
IsLong (Node (sign.Long n) a b) = Unit {0}
IsLong t = ⊥

is_int : (t : Term) → t ≡ one_in width.Int → IsInt t
is_int t h = let u : IsInt (one_in width.Int) = tt in subst (λ (x : Term). IsInt x) (sym h) u

is_long : (t : Term) → t ≡ one_in width.Long → IsLong t
is_long t h = let u : IsLong (one_in width.Long) = tt in subst (λ (x : Term). IsLong x) (sym h) u

one_again : (w : Width) (e : Expr) → literal_operand e (term_of e) ≡ one_in w → e ≡ one_of w
one_again width.Int (expr.Int n) h = let q : n ≡ pos 1 = ap int_in h in ap expr.Int q
one_again width.Int e h = absurd (is_int (literal_operand e (term_of e)) h)
one_again width.Long (expr.Long n) h = let q : n ≡ pos 1 = ap int_in h in ap expr.Long q
one_again width.Long e h = absurd (is_long (literal_operand e (term_of e)) h)

gives_again : (g : Gives) (op : Arithmetic) (w : Width) (e : Expr) → TermMayGive g op w (operand_term g e (term_of e)) → MayGive g op w e
gives_again New op w e h = tt
gives_again Old arithmetic.Add w e h = one_again w e h
gives_again Old arithmetic.Subtract w e h = one_again w e h
gives_again Old op w e h = absurd h

-- ---- what stands before a link

link_front : (c : Context) (t : Term) (l : Link) → IsTerm c (link_term t l) → IsTerm c t
link_front c t (link.Binary op e) h = h.0
link_front c t (link.And e) h = h.0
link_front c t (link.Or e) h = h.0
link_front c t (link.Field p i) h = h.0
link_front c t (link.Part k i) h = h.0
link_front c t (link.Element p n i e) h = h.0
link_front c t (link.Size i) h = h.0
link_front c t (link.Byte i e) h = h.0
link_front c t (link.Invoke' k m shape args) h = h.0
link_front c t (link.TextCall' op shape args) h = h.0
link_front c t (link.After e) h = h.0

front : (c : Context) {n : Count} (t : Term) (ls : Row_of-Link n) → IsTerm c (term_after t ls) → IsTerm c t
front c t end_of-Link h = h
front c t (more_of-Link l ls) h = link_front c t l (front c (link_term t l) ls h)

-- ---- kinds

pub place_kind_again : (p : Place) → term_kind (place_term p) ≡ place_kind p
place_kind_again (place.Local k i) = refl
place_kind_again (place.Static p i) = refl
place_kind_again (place.Field' p q e i) = refl
place_kind_again (place.Element' p n q e f r i) = refl
place_kind_again (place.StaticElement' p n i q e) = refl

mutual
  pub kind_again : (e : Expr) → term_kind (term_of e) ≡ kind_of e
  kind_again (expr.Int n) = refl
  kind_again (expr.Long n) = refl
  kind_again (expr.Bool t) = refl
  kind_again (expr.Null k) = refl
  kind_again (expr.Text n) = refl
  kind_again (expr.This class) = refl
  kind_again (expr.Local k i) = refl
  kind_again (expr.Static p i) = refl
  kind_again (expr.StaticPart k i) = refl
  kind_again (expr.StaticElement' p n i q e) = refl
  kind_again expr.Ticks = refl
  kind_again (expr.Unary' op p e) = refl
  kind_again (expr.Choose' p t q a r b) = kind_again a
  kind_again (expr.Set' target p e) = place_kind_again target
  kind_again (expr.Update' u target p e) = place_kind_again target
  kind_again (expr.Call' k m shape args) = refl
  kind_again (expr.Super' k m shape args) = refl
  kind_again (expr.Chain' p e shape links) = kind_after_again (term_of e) (kind_of e) links (kind_again e)

  pub link_kind_again : (t : Term) (l : Link) → term_kind (link_term t l) ≡ link_kind l
  link_kind_again t (link.Binary op e) = refl
  link_kind_again t (link.And e) = refl
  link_kind_again t (link.Or e) = refl
  link_kind_again t (link.Field p i) = refl
  link_kind_again t (link.Part k i) = refl
  link_kind_again t (link.Element p n i e) = refl
  link_kind_again t (link.Size i) = refl
  link_kind_again t (link.Byte i e) = refl
  link_kind_again t (link.Invoke' k m shape args) = refl
  link_kind_again t (link.TextCall' op shape args) = refl
  link_kind_again t (link.After e) = kind_again e

  pub kind_after_again : {n : Count} (t : Term) (k : Kind) (ls : Row_of-Link n) → term_kind t ≡ k → term_kind (term_after t ls) ≡ kind_after k ls
  kind_after_again t k end_of-Link q = q
  kind_after_again t k (more_of-Link l ls) q = kind_after_again (link_term t l) (link_kind l) ls (link_kind_again t l)

pub kinds_again : {n : Count} (es : Row_of-Expr n) → term_kinds (args_term es) ≡ kinds_of es
kinds_again end_of-Expr = refl
kinds_again (more_of-Expr e es) = ap (λ k. k ∷ term_kinds (args_term es)) (kind_again e) ∙ ap (λ ks. kind_of e ∷ ks) (kinds_again es)

-- ---- the same at equal kinds

pub goes_again : (p : Program) {a b x y : Kind} → a ≡ x → b ≡ y → GoesTo p a b → GoesTo p x y
goes_again p {a} {b} {x} {y} e f h = subst (λ (k : Kind). GoesTo p k y) e (subst (λ (k : Kind). GoesTo p a k) f h)

pub operands_again : (op : Binary) {a b x y : Kind} → a ≡ x → b ≡ y → AreOperands op a b → AreOperands op x y
operands_again op {a} {b} {x} {y} e f h = subst (λ (k : Kind). AreOperands op k y) e (subst (λ (k : Kind). AreOperands op a k) f h)

pub buf_again : (p : Program) (i : ℕ) {a x : Kind} → a ≡ x → IsBuf (field_form p a i) → IsBuf (field_form p x i)
buf_again p i {a} {x} e h = subst (λ (k : Kind). IsBuf (field_form p k i)) e h

pub static_again : (p : Program) (m : ℕ) (k : Kind) {a x : List Kind} → a ≡ x → IsStaticCall p m k a → IsStaticCall p m k x
static_again p m k {a} {x} e h = subst (λ (ks : List Kind). IsStaticCall p m k ks) e h

pub super_again : (p : Program) (class m : ℕ) (k : Kind) {a x : List Kind} → a ≡ x → IsSuperCall p class m k a → IsSuperCall p class m k x
super_again p class m k {a} {x} e h = subst (λ (ks : List Kind). IsSuperCall p class m k ks) e h

pub invocation_again : (p : Program) (m : ℕ) (k : Kind) {a x : Kind} {ks xs : List Kind} → a ≡ x → ks ≡ xs →
    IsInvocation p (object_class a) m k ks → IsInvocation p (object_class x) m k xs
invocation_again p m k {a} {x} {ks} {xs} e f h =
    subst (λ (q : Kind). IsInvocation p (object_class q) m k xs) e (subst (λ (qs : List Kind). IsInvocation p (object_class a) m k qs) f h)

-- ---- trees

mutual
  pub expr_again : (c : Context) (e : Expr) → IsTerm c (term_of e) → IsExpr c e
  expr_again c (expr.Int n) h = h
  expr_again c (expr.Long n) h = h
  expr_again c (expr.Bool t) h = h
  expr_again c (expr.Null k) h = h
  expr_again c (expr.Text n) h = h
  expr_again c (expr.This class) h = h
  expr_again c (expr.Local k i) h = h
  expr_again c (expr.Static p i) h = h
  expr_again c (expr.StaticPart k i) h = h
  expr_again c (expr.StaticElement' p n i q e) h = (h.0, expr_again c e h.1, sym (kind_again e) ∙ h.2)
  expr_again c expr.Ticks h = tt
  expr_again c (expr.Unary' op p e) h = (expr_again c e h.0, sym (kind_again e) ∙ h.1)
  expr_again c (expr.Choose' p t q a r b) h =
      (expr_again c t h.0, expr_again c a h.1, expr_again c b h.2, sym (kind_again t) ∙ h.3, sym (kind_again a) ∙ h.4 ∙ kind_again b)
  expr_again c (expr.Set' target p e) h =
      (place_again c target h.0, expr_again c e h.1, goes_again c.program (kind_again e) (place_kind_again target) h.2)
  expr_again c (expr.Update' u target p e) h = (
    place_again c target h.0,
    expr_again c e (operand_front c u.gives e (term_of e) h.1),
    sym (place_kind_again target) ∙ h.2,
    sym (operand_kind_again u.gives e (term_of e) ∙ kind_again e) ∙ h.3,
    gives_again u.gives u.arithmetic u.width e h.4,
  )
  expr_again c (expr.Call' k m shape args) h = (exprs_again c args h.0, static_again c.program m k (kinds_again args) h.1)
  expr_again c (expr.Super' k m shape args) h = (exprs_again c args h.0, h.1, super_again c.program c.class m k (kinds_again args) h.2)
  expr_again c (expr.Chain' p e shape links) h =
      (expr_again c e (front c (term_of e) links h), links_again c (term_of e) (kind_of e) links (kind_again e) h)

  pub place_again : (c : Context) (p : Place) → IsTermPlace c (place_term p) → IsPlace c p
  place_again c (place.Local k i) h = h
  place_again c (place.Static p i) h = h
  place_again c (place.Field' p q e i) h = (expr_again c e h.0, ap (λ k. field_form c.program k i) (sym (kind_again e)) ∙ h.1)
  place_again c (place.Element' p n q e f r i) h =
      (expr_again c e h.0, ap (λ k. field_form c.program k f) (sym (kind_again e)) ∙ h.1, expr_again c i h.2, sym (kind_again i) ∙ h.3)
  place_again c (place.StaticElement' p n i q e) h = (h.0, expr_again c e h.1, sym (kind_again e) ∙ h.2)

  link_again : (c : Context) (t : Term) (k : Kind) (l : Link) → term_kind t ≡ k → IsTerm c (link_term t l) → IsLink c k l
  link_again c t k (link.Binary op e) q h = (expr_again c e h.1, operands_again op q (kind_again e) h.2)
  link_again c t k (link.And e) q h = (expr_again c e h.1, sym q ∙ h.2, sym (kind_again e) ∙ h.3)
  link_again c t k (link.Or e) q h = (expr_again c e h.1, sym q ∙ h.2, sym (kind_again e) ∙ h.3)
  link_again c t k (link.Field p i) q h = ap (λ k. field_form c.program k i) (sym q) ∙ h.1
  link_again c t k (link.Part part i) q h = ap (λ k. option_and_then part_kind (field_form c.program k i)) (sym q) ∙ h.1
  link_again c t k (link.Element p n i e) q h = (ap (λ k. field_form c.program k i) (sym q) ∙ h.1, expr_again c e h.2, sym (kind_again e) ∙ h.3)
  link_again c t k (link.Size i) q h = buf_again c.program i q h.1
  link_again c t k (link.Byte i e) q h = (buf_again c.program i q h.1, expr_again c e h.2, sym (kind_again e) ∙ h.3)
  link_again c t k (link.Invoke' result m shape args) q h =
      (exprs_again c args h.1, invocation_again c.program m result q (kinds_again args) h.2)
  link_again c t k (link.TextCall' op shape args) q h = (exprs_again c args h.1, sym q ∙ h.2, sym (kinds_again args) ∙ h.3)
  link_again c t k (link.After e) q h = expr_again c e h.1

  exprs_again : (c : Context) {n : Count} (es : Row_of-Expr n) → AreTerms c (args_term es) → AreExprs c es
  exprs_again c end_of-Expr h = tt
  exprs_again c (more_of-Expr e es) h = (expr_again c e h.0, exprs_again c es h.1)

  links_again : (c : Context) {n : Count} (t : Term) (k : Kind) (ls : Row_of-Link n) → term_kind t ≡ k → IsTerm c (term_after t ls) → AreLinks c k ls
  links_again c t k end_of-Link q h = tt
  links_again c t k (more_of-Link l ls) q h =
      (link_again c t k l q (front c (link_term t l) ls h), links_again c (link_term t l) (link_kind l) ls (link_kind_again t l) h)
