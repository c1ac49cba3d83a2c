-- The tree of the term of a typed expression.
use Rattle.std.proofs.Common.{◌≡◌, ◌<◌, ◌^◌, ℕ, [], ◌∷◌, map, pos, refl, sym, ap, subst, ◌∙◌, arith}
use Rattle.sed_value.specs.declared.slot_type.Primitive.{Primitive}
use Rattle.sed_typed.specs.declared.kind.Kind.{Kind}
use Rattle.sed_typed.specs.declared.operators.Arithmetic.{Arithmetic}
use Rattle.sed_typed.specs.declared.operators.Arithmetic.TheVariants.{Add, Subtract}
use Rattle.sed_typed.specs.declared.operators.Gives.{Gives}
use Rattle.sed_typed.specs.declared.operators.Gives.TheVariants.{Old, New}
use Rattle.sed_typed.specs.declared.operators.Unary.{Unary}
use Rattle.sed_typed.specs.declared.operators.Update.{Update}
use Rattle.sed_typed.specs.declared.operators.Width.{Width}
use Rattle.sed_typed.specs.declared.operators.Width.TheVariants as width
use Rattle.sed_typed.specs.Flat.{IsFlat, IsFlatPlace}
use Rattle.sed_typed.specs.TypedExpr.{Context}
use Rattle.sed_typed.specs.declared.tree.Expr.{Expr}
use Rattle.sed_typed.specs.declared.tree.Expr.TheBlock.{hidden-the_row-Expr-0}
use Rattle.sed_typed.specs.declared.tree.Expr.TheVariants as expr
use Rattle.sed_typed.specs.declared.tree.Link.TheVariants as link
use Rattle.sed_typed.specs.declared.tree.Place.{Place}
use Rattle.sed_typed.specs.declared.tree.Place.TheVariants as place
use Rattle.sed_terms.specs.declared.sign.Sign.{Sign}
use Rattle.sed_terms.specs.declared.sign.Sign.TheVariants as sign
use Rattle.sed_terms.specs.Ones.{one_in}
use Rattle.sed_terms.specs.Term.{Term, Absent, Node, leaf, row}
use Rattle.sed_terms.specs.Seen.{term_of, place_term, operand_term, args_term}
use Rattle.sed_terms.specs.TypedTerm.{TermMayGive, IsTerm, IsTermPlace, AreTerms}
use Rattle.sed_terms.proofs.FlatRows.{args_flat}
use Rattle.sed_body_laws.specs.Neat.{IsNeat, term_size}
use Rattle.sed_body_laws.proofs.Vectors.{box_of}
use Rattle.sed_body_laws.proofs.Chains.{count_of, Tree, Trees, plain_link, operand_link, args_link, args_of}

-- a term that is neat and not too large for a memory
pub record Sized (t : Term) : Type 0 where
  pub neat : IsNeat t
  pub small : term_size t < 2 ^ 63

pub left : (s : Sign) (a b : Term) → Sized (Node s a b) → Sized a
left s a b z = record { neat = z.neat.2; small = omega (arith, z.small) }

pub right : (s : Sign) (a b : Term) → Sized (Node s a b) → Sized b
right s a b z = record { neat = z.neat.3; small = omega (arith, z.small) }

-- ---- forms without links

leaf_tree : (s : Sign) (a b : Term) → a ≡ Absent → b ≡ Absent → Tree (leaf s) → Tree (Node s a b)
leaf_tree s a b p q t = subst (λ x. Tree (Node s x b)) (sym p) (subst (λ y. Tree (Node s Absent y)) (sym q) t)

-- a tree that is no chain
plain : (t : Term) (e : Expr) → term_of e ≡ t → IsFlat e → count_of e ≡ 0 → Tree t
plain t e is flat none = (e, record { term = is; flat = flat; count = omega (arith, none) })

-- nodes of equal parts
pub nodes : (s : Sign) (a b x y : Term) → a ≡ x → b ≡ y → Node s a b ≡ Node s x y
nodes s a b x y p q = ap (λ z. Node s z b) p ∙ ap (Node s x) q

static_element_tree : (p : Primitive) (n i : ℕ) (a b : Term) → b ≡ Absent → Tree a →
    Tree (Node (sign.StaticElement p n i) a b)
static_element_tree p n i a b none f =
    plain (Node (sign.StaticElement p n i) a b) (expr.StaticElement p n i (box_of f.0))
    (nodes (sign.StaticElement p n i) (term_of f.0) Absent a b f.1.term (sym none)) f.1.flat refl

unary_tree : (op : Unary) (a b : Term) → b ≡ Absent → Tree a → Tree (Node (sign.Unary op) a b)
unary_tree op a b none f =
    plain (Node (sign.Unary op) a b) (expr.Unary op (box_of f.0))
    (nodes (sign.Unary op) (term_of f.0) Absent a b f.1.term (sym none)) f.1.flat refl

choose_tree : (t a b : Term) → Tree t → Tree a → Tree b → Tree (Node sign.Choose t (Node sign.Pair a b))
choose_tree t a b f g h =
    plain (Node sign.Choose t (Node sign.Pair a b)) (expr.Choose (box_of f.0) (box_of g.0) (box_of h.0))
    (nodes sign.Choose (term_of f.0) (Node sign.Pair (term_of g.0) (term_of h.0)) t (Node sign.Pair a b) f.1.term
    (nodes sign.Pair (term_of g.0) (term_of h.0) a b g.1.term h.1.term)) (f.1.flat, g.1.flat, h.1.flat) refl

call_tree : (k : Kind) (m : ℕ) (a b : Term) → b ≡ Absent → Trees a → term_size a < 2 ^ 63 →
    Tree (Node (sign.Call k m) a b)
call_tree k m a b none f few =
    let v = args_of a f few in
    plain (Node (sign.Call k m) a b) (expr.Call k m v.0)
    (nodes (sign.Call k m) (args_term (hidden-the_row-Expr-0 v.0)) Absent a b v.1.term (sym none))
    (args_flat v.0 v.1.flat) refl

super_tree : (k : Kind) (m : ℕ) (a b : Term) → b ≡ Absent → Trees a → term_size a < 2 ^ 63 →
    Tree (Node (sign.Super k m) a b)
super_tree k m a b none f few =
    let v = args_of a f few in
    plain (Node (sign.Super k m) a b) (expr.Super k m v.0)
    (nodes (sign.Super k m) (args_term (hidden-the_row-Expr-0 v.0)) Absent a b v.1.term (sym none))
    (args_flat v.0 v.1.flat) refl

-- ---- places

pub record IsPlaceOf (t : Term) (p : Place) : Type 0 where
  pub term : place_term p ≡ t
  pub flat : IsFlatPlace p

abbrev pub PlaceTree : Term → Type 0
PlaceTree t = (p : Place) × IsPlaceOf t p

leaf_place : (s : Sign) (a b : Term) → a ≡ Absent → b ≡ Absent → PlaceTree (leaf s) → PlaceTree (Node s a b)
leaf_place s a b p q t =
    subst (λ x. PlaceTree (Node s x b)) (sym p) (subst (λ y. PlaceTree (Node s Absent y)) (sym q) t)

static_element_place : (p : Primitive) (n i : ℕ) (a b : Term) → b ≡ Absent → Tree a →
    PlaceTree (Node (sign.StaticElement p n i) a b)
static_element_place p n i a b none f = (
  place.StaticElement p n i (box_of f.0),
  record {
    term = nodes (sign.StaticElement p n i) (term_of f.0) Absent a b f.1.term (sym none);
    flat = f.1.flat;
  },
)

field_place : (p : Primitive) (i : ℕ) (a b : Term) → b ≡ Absent → Tree a → PlaceTree (Node (sign.Field p i) a b)
field_place p i a b none f = (
  place.Field p (box_of f.0) i,
  record { term = nodes (sign.Field p i) (term_of f.0) Absent a b f.1.term (sym none); flat = f.1.flat },
)

element_place : (p : Primitive) (n i : ℕ) (a b : Term) → Tree a → Tree b → PlaceTree (Node (sign.Element p n i) a b)
element_place p n i a b f g = (
  place.Element p n (box_of f.0) i (box_of g.0),
  record {
    term = nodes (sign.Element p n i) (term_of f.0) (term_of g.0) a b f.1.term g.1.term;
    flat = (f.1.flat, g.1.flat);
  },
)

set_tree : (a b : Term) → PlaceTree a → Tree b → Tree (Node sign.Set a b)
set_tree a b f g =
    plain (Node sign.Set a b) (expr.Set f.0 (box_of g.0))
    (nodes sign.Set (place_term f.0) (term_of g.0) a b f.1.term g.1.term) (f.1.flat, g.1.flat) refl

-- what an assignment that computes adds, takes off, and so on
pub record IsOperand (g : Gives) (t : Term) (e : Expr) : Type 0 where
  pub term : operand_term g e (term_of e) ≡ t
  pub flat : IsFlat e

one_operand : (w : Width) (t : Term) → t ≡ one_in w → (e : Expr) × IsOperand Old t e
one_operand width.Int t is = (expr.Int (pos 1), record { term = sym is; flat = tt })
one_operand width.Long t is = (expr.Long (pos 1), record { term = sym is; flat = tt })

operand : (g : Gives) (a : Arithmetic) (w : Width) (t : Term) → TermMayGive g a w t → Tree t →
    (e : Expr) × IsOperand g t e
operand New a w t may f = (f.0, record { term = f.1.term; flat = f.1.flat })
operand Old Add w t may f = one_operand w t may
operand Old Subtract w t may f = one_operand w t may
operand Old a w t may f = absurd may

update_tree : (u : Update) (a b : Term) → PlaceTree a → (e : Expr) × IsOperand u.gives b e →
    Tree (Node (sign.Update u) a b)
update_tree u a b f g =
    plain (Node (sign.Update u) a b) (expr.Update u f.0 (box_of g.0))
    (nodes (sign.Update u) (place_term f.0) (operand_term u.gives g.0 (term_of g.0)) a b f.1.term g.1.term)
    (f.1.flat, g.1.flat) refl

-- ---- all forms

no_args : Trees Absent
no_args = ([], record { term = refl; flat = tt; count = omega arith })

more_args : (t rest : Term) → Tree t → Trees rest → Trees (Node sign.More t rest)
more_args t rest f g = (
  f.0 ∷ g.0,
  record {
    term = nodes sign.More (term_of f.0) (row (map term_of g.0)) t rest f.1.term g.1.term;
    flat = (f.1.flat, g.1.flat);
    count = omega (arith, g.1.count);
  },
)

mutual
  pub expr_tree : (c : Context) (t : Term) → IsTerm c t → Sized t → Tree t
  expr_tree c (Node (sign.Int n) a b) h z =
      leaf_tree (sign.Int n) a b z.neat.0 z.neat.1 (plain (leaf (sign.Int n)) (expr.Int n) refl tt refl)
  expr_tree c (Node (sign.Long n) a b) h z =
      leaf_tree (sign.Long n) a b z.neat.0 z.neat.1 (plain (leaf (sign.Long n)) (expr.Long n) refl tt refl)
  expr_tree c (Node (sign.Bool t) a b) h z =
      leaf_tree (sign.Bool t) a b z.neat.0 z.neat.1 (plain (leaf (sign.Bool t)) (expr.Bool t) refl tt refl)
  expr_tree c (Node (sign.Null k) a b) h z =
      leaf_tree (sign.Null k) a b z.neat.0 z.neat.1 (plain (leaf (sign.Null k)) (expr.Null k) refl tt refl)
  expr_tree c (Node (sign.Text n) a b) h z =
      leaf_tree (sign.Text n) a b z.neat.0 z.neat.1 (plain (leaf (sign.Text n)) (expr.Text n) refl tt refl)
  expr_tree c (Node (sign.This class) a b) h z =
      leaf_tree (sign.This class) a b z.neat.0 z.neat.1
      (plain (leaf (sign.This class)) (expr.This class) refl tt refl)
  expr_tree c (Node (sign.Local k i) a b) h z =
      leaf_tree (sign.Local k i) a b z.neat.0 z.neat.1 (plain (leaf (sign.Local k i)) (expr.Local k i) refl tt refl)
  expr_tree c (Node (sign.Static p i) a b) h z =
      leaf_tree (sign.Static p i) a b z.neat.0 z.neat.1
      (plain (leaf (sign.Static p i)) (expr.Static p i) refl tt refl)
  expr_tree c (Node (sign.StaticPart k i) a b) h z =
      leaf_tree (sign.StaticPart k i) a b z.neat.0 z.neat.1
      (plain (leaf (sign.StaticPart k i)) (expr.StaticPart k i) refl tt refl)
  expr_tree c (Node (sign.StaticElement p n i) a b) h z =
      static_element_tree p n i a b z.neat.1 (expr_tree c a h.1 (left (sign.StaticElement p n i) a b z))
  expr_tree c (Node sign.Ticks a b) h z =
      leaf_tree sign.Ticks a b z.neat.0 z.neat.1 (plain (leaf sign.Ticks) expr.Ticks refl tt refl)
  expr_tree c (Node (sign.Unary op) a b) h z =
      unary_tree op a b z.neat.1 (expr_tree c a h.0 (left (sign.Unary op) a b z))
  expr_tree c (Node sign.Choose t (Node sign.Pair a b)) h z =
      let y = right sign.Choose t (Node sign.Pair a b) z in
      choose_tree t a b (expr_tree c t h.0 (left sign.Choose t (Node sign.Pair a b) z))
      (expr_tree c a h.1 (left sign.Pair a b y)) (expr_tree c b h.2 (right sign.Pair a b y))
  expr_tree c (Node sign.Set a b) h z =
      set_tree a b (place_tree c a h.0 (left sign.Set a b z)) (expr_tree c b h.1 (right sign.Set a b z))
  expr_tree c (Node (sign.Update u) a b) h z =
      update_tree u a b (place_tree c a h.0 (left (sign.Update u) a b z))
      (operand u.gives u.arithmetic u.width b h.4 (expr_tree c b h.1 (right (sign.Update u) a b z)))
  expr_tree c (Node (sign.Call k m) a b) h z =
      let y = left (sign.Call k m) a b z in
      call_tree k m a b z.neat.1 (args_tree c a h.0 y) y.small
  expr_tree c (Node (sign.Super k m) a b) h z =
      let y = left (sign.Super k m) a b z in
      super_tree k m a b z.neat.1 (args_tree c a h.0 y) y.small
  expr_tree c (Node (sign.Binary op) a b) h z =
      operand_link (sign.Binary op) (link.Binary op) a b (λ e f. f) (λ u e. refl)
      (expr_tree c a h.0 (left (sign.Binary op) a b z)) (expr_tree c b h.1 (right (sign.Binary op) a b z)) z.small
  expr_tree c (Node sign.And a b) h z =
      operand_link sign.And link.And a b (λ e f. f) (λ u e. refl) (expr_tree c a h.0 (left sign.And a b z))
      (expr_tree c b h.1 (right sign.And a b z)) z.small
  expr_tree c (Node sign.Or a b) h z =
      operand_link sign.Or link.Or a b (λ e f. f) (λ u e. refl) (expr_tree c a h.0 (left sign.Or a b z))
      (expr_tree c b h.1 (right sign.Or a b z)) z.small
  expr_tree c (Node (sign.Field p i) a b) h z =
      plain_link (sign.Field p i) (link.Field p i) a b tt (λ u. refl) z.neat.1
      (expr_tree c a h.0 (left (sign.Field p i) a b z)) z.small
  expr_tree c (Node (sign.Part k i) a b) h z =
      plain_link (sign.Part k i) (link.Part k i) a b tt (λ u. refl) z.neat.1
      (expr_tree c a h.0 (left (sign.Part k i) a b z)) z.small
  expr_tree c (Node (sign.Element p n i) a b) h z =
      operand_link (sign.Element p n i) (link.Element p n i) a b (λ e f. f) (λ u e. refl)
      (expr_tree c a h.0 (left (sign.Element p n i) a b z)) (expr_tree c b h.2 (right (sign.Element p n i) a b z))
      z.small
  expr_tree c (Node (sign.Size i) a b) h z =
      plain_link (sign.Size i) (link.Size i) a b tt (λ u. refl) z.neat.1
      (expr_tree c a h.0 (left (sign.Size i) a b z)) z.small
  expr_tree c (Node (sign.Byte i) a b) h z =
      operand_link (sign.Byte i) (link.Byte i) a b (λ e f. f) (λ u e. refl)
      (expr_tree c a h.0 (left (sign.Byte i) a b z)) (expr_tree c b h.2 (right (sign.Byte i) a b z)) z.small
  expr_tree c (Node (sign.Invoke k m) a b) h z =
      args_link (sign.Invoke k m) (link.Invoke k m) a b (λ v f. args_flat v f) (λ u v. refl)
      (expr_tree c a h.0 (left (sign.Invoke k m) a b z)) (args_tree c b h.1 (right (sign.Invoke k m) a b z)) z.small
  expr_tree c (Node (sign.TextCall op) a b) h z =
      args_link (sign.TextCall op) (link.TextCall op) a b (λ v f. args_flat v f) (λ u v. refl)
      (expr_tree c a h.0 (left (sign.TextCall op) a b z)) (args_tree c b h.1 (right (sign.TextCall op) a b z)) z.small
  expr_tree c (Node sign.After a b) h z =
      operand_link sign.After link.After a b (λ e f. f) (λ u e. refl) (expr_tree c a h.0 (left sign.After a b z))
      (expr_tree c b h.1 (right sign.After a b z)) z.small
  expr_tree c t h z = absurd h

  place_tree : (c : Context) (t : Term) → IsTermPlace c t → Sized t → PlaceTree t
  place_tree c (Node (sign.Local k i) a b) h z =
      leaf_place (sign.Local k i) a b z.neat.0 z.neat.1 (place.Local k i, record { term = refl; flat = tt })
  place_tree c (Node (sign.Static p i) a b) h z =
      leaf_place (sign.Static p i) a b z.neat.0 z.neat.1 (place.Static p i, record { term = refl; flat = tt })
  place_tree c (Node (sign.StaticElement p n i) a b) h z =
      static_element_place p n i a b z.neat.1 (expr_tree c a h.1 (left (sign.StaticElement p n i) a b z))
  place_tree c (Node (sign.Field p i) a b) h z =
      field_place p i a b z.neat.1 (expr_tree c a h.0 (left (sign.Field p i) a b z))
  place_tree c (Node (sign.Element p n i) a b) h z =
      element_place p n i a b (expr_tree c a h.0 (left (sign.Element p n i) a b z))
      (expr_tree c b h.2 (right (sign.Element p n i) a b z))
  place_tree c t h z = absurd h

  args_tree : (c : Context) (t : Term) → AreTerms c t → Sized t → Trees t
  args_tree c Absent h z = no_args
  args_tree c (Node sign.More t rest) h z =
      more_args t rest (expr_tree c t h.0 (left sign.More t rest z)) (args_tree c rest h.1 (right sign.More t rest z))
  args_tree c t h z = absurd h
