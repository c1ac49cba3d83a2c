-- What operators, choices and stores come to is neat, and of how many nodes.
use Rattle.std.proofs.Common.{◌≤◌, ℕ, suc, ◌+◌, Bool, ◌&&◌, IfSome, Option, Some, None, refl, arith}
use Rattle.sed_value.specs.declared.slot_type.Primitive.{Primitive}
use Rattle.sed_value.specs.declared.slot_type.Primitive.TheVariants as prim
use Rattle.sed_typed.specs.declared.kind.Kind.{Kind}
use Rattle.sed_typed.specs.declared.kind.Kind.TheVariants as kind
use Rattle.sed_typed.specs.declared.operators.Arithmetic.{Arithmetic}
use Rattle.sed_typed.specs.declared.operators.Binary.{Binary}
use Rattle.sed_typed.specs.declared.operators.Comparison.{Comparison}
use Rattle.sed_typed.specs.declared.operators.Gives.{Gives}
use Rattle.sed_typed.specs.declared.operators.Unary.{Unary}
use Rattle.sed_typed.specs.declared.operators.Unary.TheVariants as unary
use Rattle.sed_typed.specs.declared.operators.Update.{Update}
use Rattle.sed_typed.specs.declared.operators.Width.{Width}
use Rattle.sed_typed.specs.declared.operators.Width.TheVariants as width
use Rattle.sed_terms.specs.declared.judged.Judged.{Judged}
use Rattle.sed_terms.specs.declared.sign.Sign.TheVariants as sign
use Rattle.sed_terms.specs.declared.sort.Sort.{Sort}
use Rattle.sed_terms.specs.declared.sort.Sort.TheVariants.{Of, Nothing}
use Rattle.sed_terms.specs.Faults.{Marks, IfSound, broken}
use Rattle.sed_terms.specs.Forms.{indexed, stored, updated, has_elements}
use Rattle.sed_terms.specs.Ones.{one_in}
use Rattle.sed_terms.specs.Sorts.{term_kind, sort_of, is_value, is_place}
use Rattle.sed_terms.specs.Term.{Term, Absent, Node}
use Rattle.sed_body_rules.specs.Choices.{equal_branches, branches, branched, chosen}
use Rattle.sed_body_rules.specs.Conversions.{is_number, is_int, is_bool, is_reference, is_operand, same_kind, width_of, meeting, lengthened, in_width, null_in, or_itself, beside, converted, placed_by, placed}
use Rattle.sed_body_rules.specs.Operands.{negated, opposite, flipped, cast, cast_to, Form, Numbers, Shift, Order, Equality, Both, Either, equated_pair, equated, operated, element}
use Rattle.sed_body_rules.specs.Stores.{target, going, assigned, is_target, number_target, storing, is_shift, is_no_longer, shifted, computed, compound, counted}
use Rattle.sed_body_rules.specs.Wants.{wants, as_bool, truth}
use Rattle.sed_body_laws.specs.Neat.{IsNeat, term_size}
use Rattle.sed_body_laws.proofs.Sounds.{after_sound, joined_sound, unless_sound, some_sound, any_sound, weaker, either_sound, either_some}

-- a neat term of at most so many nodes
pub record Tidy (k : ℕ) (t : Term) : Type 0 where
  pub neat : IsNeat t
  pub size : term_size t ≤ k

pub tidy_more : (k l : ℕ) (t : Term) → k ≤ l → Tidy k t → Tidy l t
tidy_more k l t p f = record { neat = f.neat; size = omega (arith, f.size, p) }

pub up : {F : Type 0} (k l : ℕ) (x : Judged Term F) → k ≤ l → IfSound x (Tidy k) → IfSound x (Tidy l)
up k l x p f = weaker (Tidy k) (Tidy l) x (λ t g. tidy_more k l t p g) f

-- ---- conversions

above : (k : ℕ) (op : Unary) (t : Term) → Tidy k t → Tidy (suc k) (Node (sign.Unary op) t Absent)
above k op t f = record { neat = (tt, refl, f.neat, tt); size = omega (arith, f.size) }

same : (k : ℕ) (t : Term) → Tidy k t → Tidy (suc k) t
same k t f = tidy_more k (suc k) t (omega arith) f

lengthened_tidy : (was : Kind) (w : Width) (k : ℕ) (t : Term) → Tidy k t → Tidy (suc k) (lengthened was w t)
lengthened_tidy kind.Int width.Long k t f = above k unary.ToLong t f
lengthened_tidy was w k t f = same k t f

pub in_width_tidy : (w : Width) (k : ℕ) (t : Term) → Tidy k t → Tidy (suc k) (in_width w t)
in_width_tidy w k t f = lengthened_tidy (term_kind t) w k t f

null_tidy : (to : Kind) (k : ℕ) (t : Term) → Tidy k t → Tidy (suc k) (or_itself (null_in to) t)
null_tidy kind.Bool k t f = record { neat = (refl, refl, tt, tt); size = omega arith }
null_tidy kind.Text k t f = record { neat = (refl, refl, tt, tt); size = omega arith }
null_tidy (kind.Object class) k t f = record { neat = (refl, refl, tt, tt); size = omega arith }
null_tidy to k t f = same k t f

pub beside_tidy : (other own : Sort) (k : ℕ) (t : Term) → Tidy k t → Tidy (suc k) (beside other own t)
beside_tidy (Of to) Nothing k t f = null_tidy to k t f
beside_tidy Nothing Nothing k t f = record { neat = (refl, refl, tt, tt); size = omega arith }
beside_tidy other own k t f = same k t f

converted_tidy : (below : ℕ → ℕ → Bool) (to from : Kind) (k : ℕ) (t : Term) → Tidy k t →
    IfSome (converted below to from t) (Tidy (suc k))
converted_tidy below kind.Long kind.Int k t f = above k unary.ToLong t f
converted_tidy below (kind.Object a) (kind.Object c) k t f =
    either_some (Tidy (suc k)) (below a.0 c.0) (Some t) None (λ e. same k t f) (λ e. tt)
converted_tidy below to from k t f =
    either_some (Tidy (suc k)) (same_kind to from) (Some t) None (λ e. same k t f) (λ e. tt)

null_placed : (to : Kind) (k : ℕ) → IfSome (null_in to) (Tidy (suc k))
null_placed kind.Bool k = record { neat = (refl, refl, tt, tt); size = omega arith }
null_placed kind.Text k = record { neat = (refl, refl, tt, tt); size = omega arith }
null_placed (kind.Object class) k = record { neat = (refl, refl, tt, tt); size = omega arith }
null_placed to k = tt

pub placed_tidy : (below : ℕ → ℕ → Bool) (to : Kind) (k : ℕ) (t : Term) → Tidy k t →
    IfSome (placed below to t) (Tidy (suc k))
placed_tidy below to k t f = by_sort (sort_of t)
  where
    by_sort : (s : Sort) → IfSome (placed_by below to s t) (Tidy (suc k))
    by_sort (Of from) = converted_tidy below to from k t f
    by_sort Nothing = null_placed to k
    by_sort s = tt

-- ---- what is wanted

pub wants_tidy : {F : Type 0} (m : Marks F) (test : Sort → Bool) (at k : ℕ) (x : Judged Term F) → IfSound x (Tidy k) →
    IfSound (wants m test at x) (Tidy k)
wants_tidy m test at k x f = after_sound (Tidy k) (Tidy k) x _ f
    (λ t p. unless_sound m (Tidy k) (test (sort_of t)) (broken 13 at) t (λ e. p))

pub truth_tidy : {F : Type 0} (m : Marks F) (at k : ℕ) (x : Judged Term F) → IfSound x (Tidy k) →
    IfSound (truth m at x) (Tidy (suc k))
truth_tidy m at k x f = after_sound (Tidy k) (Tidy (suc k)) x _ f
    (λ t p. unless_sound m (Tidy (suc k)) (is_bool (sort_of (as_bool t))) (broken 13 at) (as_bool t)
    (λ e. beside_tidy (Of kind.Bool) (sort_of t) k t p))

-- ---- one operand

pub negated_tidy : {F : Type 0} (m : Marks F) (at k : ℕ) (x : Judged Term F) → IfSound x (Tidy k) →
    IfSound (negated m at x) (Tidy (suc (suc k)))
negated_tidy m at k x f = after_sound (Tidy (suc k)) (Tidy (suc (suc k))) (truth m at x) _ (truth_tidy m at k x f)
    (λ t p. above (suc k) unary.Not t p)

pub opposite_tidy : {F : Type 0} (m : Marks F) (at k : ℕ) (x : Judged Term F) → IfSound x (Tidy k) →
    IfSound (opposite m at x) (Tidy (suc k))
opposite_tidy m at k x f = after_sound (Tidy k) (Tidy (suc k)) (wants m is_number at x) _
    (wants_tidy m is_number at k x f) (λ t p. above k (unary.Negate (width_of t)) t p)

pub flipped_tidy : {F : Type 0} (m : Marks F) (at k : ℕ) (x : Judged Term F) → IfSound x (Tidy k) →
    IfSound (flipped m at x) (Tidy (suc k))
flipped_tidy m at k x f = after_sound (Tidy k) (Tidy (suc k)) (wants m is_number at x) _
    (wants_tidy m is_number at k x f) (λ t p. above k (unary.Flip (width_of t)) t p)

cast_to_tidy : (p : Primitive) (w : Width) (k : ℕ) (t : Term) → Tidy k t → Tidy (suc k) (cast_to p w t)
cast_to_tidy prim.Byte w k t f = above k (unary.LowByte w) t f
cast_to_tidy prim.Short w k t f = above k (unary.LowShort w) t f
cast_to_tidy prim.Int width.Long k t f = above k unary.ToInt t f
cast_to_tidy prim.Long width.Int k t f = above k unary.ToLong t f
cast_to_tidy p w k t f = same k t f

pub cast_tidy : {F : Type 0} (m : Marks F) (at : ℕ) (p : Primitive) (right k : ℕ) (x : Judged Term F) →
    IfSound x (Tidy k) → IfSound (cast m at p right x) (Tidy (suc k))
cast_tidy m at p right k x f =
    joined_sound m (λ _. Unit {0}) (Tidy k) (Tidy (suc k)) _ (wants m is_number right x) _ (any_sound _)
    (wants_tidy m is_number right k x f) (λ q t u v. cast_to_tidy q (width_of t) k t v)

-- ---- two operands

binary_tidy : (op : Binary) (k l : ℕ) (x y : Term) → Tidy k x → Tidy l y →
    Tidy (suc (k + l)) (Node (sign.Binary op) x y)
binary_tidy op k l x y f g = record { neat = (tt, tt, f.neat, g.neat); size = omega (arith, f.size, g.size) }

-- two numbers in one width
numbers_tidy : (op : Binary) (w : Width) (k l : ℕ) (x y : Term) → Tidy k x → Tidy l y →
    Tidy (3 + (k + l)) (Node (sign.Binary op) (in_width w x) (in_width w y))
numbers_tidy op w k l x y f g =
    tidy_more (suc (suc k + suc l)) (3 + (k + l)) _ (omega arith)
    (binary_tidy op (suc k) (suc l) (in_width w x) (in_width w y) (in_width_tidy w k x f) (in_width_tidy w l y g))

equated_tidy : (c : Comparison) (truths references : Binary) (k l : ℕ) (x y : Term) → Tidy k x → Tidy l y →
    IfSome (equated_pair c truths references x y) (Tidy (3 + (k + l)))
equated_tidy c truths references k l x y f g =
    either_some (Tidy (3 + (k + l))) (is_number (sort_of x) && is_number (sort_of y)) _ _
    (λ e. numbers_tidy (Binary.Compare c (meeting x y)) (meeting x y) k l x y f g)
    (λ _. either_some (Tidy (3 + (k + l))) (is_bool (sort_of x) && is_bool (sort_of y)) _ _
    (λ e. tidy_more (suc (k + l)) (3 + (k + l)) _ (omega arith) (binary_tidy truths k l x y f g))
    (λ _. either_some (Tidy (3 + (k + l))) (is_reference (sort_of x) && is_reference (sort_of y)) _ _
    (λ e. tidy_more (suc (k + l)) (3 + (k + l)) _ (omega arith) (binary_tidy references k l x y f g)) (λ _. tt)))

pub operated_tidy : {F : Type 0} (m : Marks F) (form : Form) (at right k l : ℕ) (x y : Judged Term F) →
    IfSound x (Tidy k) → IfSound y (Tidy l) → IfSound (operated m form at right x y) (Tidy (5 + (k + l)))
operated_tidy m (Numbers a) at right k l x y f g =
    joined_sound m (Tidy k) (Tidy l) (Tidy (5 + (k + l))) (wants m is_number at x) (wants m is_number right y) _
    (wants_tidy m is_number at k x f) (wants_tidy m is_number right l y g)
    (λ s t p q. tidy_more (3 + (k + l)) (5 + (k + l)) _ (omega arith)
    (numbers_tidy (Binary.Arithmetic a (meeting s t)) (meeting s t) k l s t p q))
operated_tidy m (Shift a) at right k l x y f g =
    joined_sound m (Tidy k) (Tidy l) (Tidy (5 + (k + l))) (wants m is_number at x) (wants m is_int right y) _
    (wants_tidy m is_number at k x f) (wants_tidy m is_int right l y g)
    (λ s t p q. tidy_more (suc (k + l)) (5 + (k + l)) _ (omega arith)
    (binary_tidy (Binary.Arithmetic a (width_of s)) k l s t p q))
operated_tidy m (Order c) at right k l x y f g =
    joined_sound m (Tidy k) (Tidy l) (Tidy (5 + (k + l))) (wants m is_number at x) (wants m is_number right y) _
    (wants_tidy m is_number at k x f) (wants_tidy m is_number right l y g)
    (λ s t p q. tidy_more (3 + (k + l)) (5 + (k + l)) _ (omega arith)
    (numbers_tidy (Binary.Compare c (meeting s t)) (meeting s t) k l s t p q))
operated_tidy m (Equality c truths references) at right k l x y f g =
    joined_sound m (Tidy k) (Tidy l) (Tidy (5 + (k + l))) x y _ f g
    (λ s t p q. some_sound m (Tidy (5 + (k + l))) (broken 13 at) (equated c truths references s t)
    (some_more (3 + (suc k + suc l)) (5 + (k + l)) _ (omega arith)
    (equated_tidy c truths references (suc k) (suc l) _ _ (beside_tidy (sort_of t) (sort_of s) k s p)
    (beside_tidy (sort_of s) (sort_of t) l t q))))
  where
    some_more : (a b : ℕ) (o : Option Term) → a ≤ b → IfSome o (Tidy a) → IfSome o (Tidy b)
    some_more a b (Some t) h u = tidy_more a b t h u
    some_more a b None h u = tt
operated_tidy m Both at right k l x y f g =
    joined_sound m (Tidy (suc k)) (Tidy (suc l)) (Tidy (5 + (k + l))) (truth m at x) (truth m right y) _
    (truth_tidy m at k x f) (truth_tidy m right l y g)
    (λ s t p q. record { neat = (tt, tt, p.neat, q.neat); size = omega (arith, p.size, q.size) })
operated_tidy m Either at right k l x y f g =
    joined_sound m (Tidy (suc k)) (Tidy (suc l)) (Tidy (5 + (k + l))) (truth m at x) (truth m right y) _
    (truth_tidy m at k x f) (truth_tidy m right l y g)
    (λ s t p q. record { neat = (tt, tt, p.neat, q.neat); size = omega (arith, p.size, q.size) })

-- ---- an index

indexed_tidy : (t i : Term) → IsNeat t → IsNeat i →
    IsNeat (indexed t i) × (term_size (indexed t i) ≤ term_size t + term_size i)
indexed_tidy (Node (sign.Array p n k) e b) i f g = ((tt, tt, f.2, g), omega arith)
indexed_tidy (Node (sign.StaticArray p n k) a b) i f g = ((tt, refl, g, tt), omega arith)
indexed_tidy (Node (sign.Bytes k) e b) i f g = ((tt, tt, f.2, g), omega arith)
indexed_tidy (Node sign.After e t) i f g =
    let r = indexed_tidy t i f.3 g in ((tt, tt, f.2, r.0), omega (arith, r.1))
indexed_tidy t i f g = (f, omega arith)

pub element_tidy : {F : Type 0} (m : Marks F) (at right k l : ℕ) (x y : Judged Term F) → IfSound x (Tidy k) →
    IfSound y (Tidy l) → IfSound (element m at right x y) (Tidy (k + l))
element_tidy m at right k l x y f g =
    joined_sound m (Tidy k) (Tidy l) (Tidy (k + l)) (wants m has_elements at x) (wants m is_int right y) _
    (wants_tidy m has_elements at k x f) (wants_tidy m is_int right l y g)
    (λ t i p q. let r = indexed_tidy t i p.neat q.neat in record {
      neat = r.0;
      size = omega (arith, r.1, p.size, q.size);
    })

-- ---- `? :`

abbrev Branch : ℕ → ℕ → Term × Term → Type 0
Branch k l p = Tidy k p.0 × Tidy l p.1

equal_tidy : (k l : ℕ) (x y : Term) → Tidy k x → Tidy l y → IfSome (equal_branches x y) (Branch (suc k) (suc l))
equal_tidy k l x y f g =
    either_some (Branch (suc k) (suc l)) (is_number (sort_of x) && is_number (sort_of y)) _ _
    (λ e. (in_width_tidy (meeting x y) k x f, in_width_tidy (meeting x y) l y g))
    (λ _. either_some (Branch (suc k) (suc l))
    (is_value x && is_value y && same_kind (term_kind x) (term_kind y)) _ _
    (λ _. (same k x f, same l y g)) (λ _. tt))

pub chosen_tidy : {F : Type 0} (m : Marks F) (at left right j k l : ℕ) (t x y : Judged Term F) →
    IfSound t (Tidy j) → IfSound x (Tidy k) → IfSound y (Tidy l) →
    IfSound (chosen m at left right t x y) (Tidy (7 + (j + (k + l))))
chosen_tidy m at left right j k l t x y f g h =
    joined_sound {B = Term × Term} m (Tidy (suc j)) (Branch (suc (suc k)) (suc (suc l))) (Tidy (7 + (j + (k + l))))
    (truth m at t) (branched m left right x y) _ (truth_tidy m at j t f)
    (joined_sound {C = Term × Term} m (Tidy k) (Tidy l) (Branch (suc (suc k)) (suc (suc l)))
    (wants m is_operand left x) (wants m is_operand right y) _
    (wants_tidy m is_operand left k x g) (wants_tidy m is_operand right l y h)
    (λ u v p q. some_sound {A = Term × Term} m (Branch (suc (suc k)) (suc (suc l))) (broken 13 right) (branches u v)
    (equal_tidy (suc k) (suc l) _ _ (beside_tidy (sort_of v) (sort_of u) k u p)
    (beside_tidy (sort_of u) (sort_of v) l v q))))
    (λ test both p b.
    let u : Tidy (suc (suc k)) both.0 = b.0 in
    let v : Tidy (suc (suc l)) both.1 = b.1 in
    record {
      neat = (tt, tt, p.neat, (tt, tt, u.neat, v.neat));
      size = omega (arith, p.size, u.size, v.size);
    })

-- ---- stores

stored_tidy : (k l : ℕ) (s v : Term) → Tidy k s → Tidy l v → Tidy (suc (k + l)) (stored s v)
stored_tidy k l s v f g =
    let r = put s v f.neat g.neat in record { neat = r.0; size = omega (arith, r.1, f.size, g.size) }
  where
    put : (s v : Term) → IsNeat s → IsNeat v →
        IsNeat (stored s v) × (term_size (stored s v) ≤ suc (term_size s + term_size v))
    put (Node sign.After e t) v f g = let r = put t v f.3 g in ((tt, tt, f.2, r.0), omega (arith, r.1))
    put t v f g = ((tt, tt, f, g), omega arith)

updated_tidy : (u : Update) (k l : ℕ) (s v : Term) → Tidy k s → Tidy l v → Tidy (suc (k + l)) (updated u s v)
updated_tidy u k l s v f g =
    let r = put s v f.neat g.neat in record { neat = r.0; size = omega (arith, r.1, f.size, g.size) }
  where
    put : (s v : Term) → IsNeat s → IsNeat v →
        IsNeat (updated u s v) × (term_size (updated u s v) ≤ suc (term_size s + term_size v))
    put (Node sign.After e t) v f g = let r = put t v f.3 g in ((tt, tt, f.2, r.0), omega (arith, r.1))
    put t v f g = ((tt, tt, f, g), omega arith)

target_tidy : {F : Type 0} (m : Marks F) (at : ℕ) (may : Bool) (k : ℕ) (x : Judged Term F) → IfSound x (Tidy k) →
    IfSound (target m at may x) (Tidy k)
target_tidy m at may k x f = after_sound (Tidy k) (Tidy k) x _ f (λ t p. unless_sound m (Tidy k)
    (may && is_place t) (broken 14 at) t (λ e. p))

pub going_tidy : {F : Type 0} (m : Marks F) (below : ℕ → ℕ → Bool) (to : Kind) (at k : ℕ) (t : Term) → Tidy k t →
    IfSound (going m below to at t) (Tidy (suc k))
going_tidy m below to at k t f = some_sound m (Tidy (suc k)) (broken 15 at) (placed below to t)
    (placed_tidy below to k t f)

pub assigned_tidy : {F : Type 0} (m : Marks F) (below : ℕ → ℕ → Bool) (at : ℕ) (may : Bool) (right k l : ℕ)
    (x y : Judged Term F) → IfSound x (Tidy k) → IfSound y (Tidy l) →
    IfSound (assigned m below at may right x y) (Tidy (2 + (k + l)))
assigned_tidy m below at may right k l x y f g =
    joined_sound m (Tidy k) (Tidy l) (Tidy (2 + (k + l))) (target m at may x) y _ (target_tidy m at may k x f) g
    (λ s t p q. after_sound (Tidy (suc l)) (Tidy (2 + (k + l))) (going m below (term_kind s) right t) _
    (going_tidy m below (term_kind s) right l t q)
    (λ v o. tidy_more (suc (k + suc l)) (2 + (k + l)) _ (omega arith) (stored_tidy k (suc l) s v p o)))

number_target_tidy : {F : Type 0} (m : Marks F) (at : ℕ) (may : Bool) (left k : ℕ) (x : Judged Term F) →
    IfSound x (Tidy k) → IfSound (number_target m at may left x) (Tidy k)
number_target_tidy m at may left k x f = after_sound (Tidy k) (Tidy k) x _ f
    (λ t p. after_sound {A = Bool} (λ _. Unit {0}) (Tidy k)
    (is_target m at left (may && is_place t) (is_number (sort_of t))) _ (any_sound _) (λ number e. p))

shifted_tidy : {F : Type 0} (m : Marks F) (a : Arithmetic) (at : ℕ) (may : Bool) (right k l : ℕ)
    (x y : Judged Term F) → IfSound x (Tidy k) → IfSound y (Tidy l) →
    IfSound (shifted m a at may right x y) (Tidy (2 + (k + l)))
shifted_tidy m a at may right k l x y f g =
    joined_sound m (Tidy k) (Tidy l) (Tidy (2 + (k + l))) (number_target m at may at x) (wants m is_int right y) _
    (number_target_tidy m at may at k x f) (wants_tidy m is_int right l y g)
    (λ s t p q. tidy_more (suc (k + l)) (2 + (k + l)) _ (omega arith)
    (updated_tidy (storing a (width_of s)) k l s t p q))

computed_tidy : {F : Type 0} (m : Marks F) (a : Arithmetic) (at : ℕ) (may : Bool) (right k l : ℕ)
    (x y : Judged Term F) → IfSound x (Tidy k) → IfSound y (Tidy l) →
    IfSound (computed m a at may right x y) (Tidy (2 + (k + l)))
computed_tidy m a at may right k l x y f g =
    joined_sound m (Tidy k) (Tidy l) (Tidy (2 + (k + l))) (number_target m at may at x) (wants m is_number right y) _
    (number_target_tidy m at may at k x f) (wants_tidy m is_number right l y g)
    (λ s t p q. either_sound (Tidy (2 + (k + l))) (is_no_longer s t) _ _
    (λ e. tidy_more (suc (k + suc l)) (2 + (k + l)) _ (omega arith)
    (updated_tidy (storing a (width_of s)) k (suc l) s (in_width (width_of s) t) p
    (in_width_tidy (width_of s) l t q)))
    (λ _. tt))

pub compound_tidy : {F : Type 0} (m : Marks F) (a : Arithmetic) (at : ℕ) (may : Bool) (right k l : ℕ)
    (x y : Judged Term F) → IfSound x (Tidy k) → IfSound y (Tidy l) →
    IfSound (compound m a at may right x y) (Tidy (2 + (k + l)))
compound_tidy m a at may right k l x y f g =
    either_sound (Tidy (2 + (k + l))) (is_shift a) _ _
    (λ e. shifted_tidy m a at may right k l x y f g) (λ e. computed_tidy m a at may right k l x y f g)

one_tidy : (w : Width) → Tidy 1 (one_in w)
one_tidy width.Int = record { neat = (refl, refl, tt, tt); size = omega arith }
one_tidy width.Long = record { neat = (refl, refl, tt, tt); size = omega arith }

pub counted_tidy : {F : Type 0} (m : Marks F) (a : Arithmetic) (gives : Gives) (at : ℕ) (may : Bool) (left k : ℕ)
    (x : Judged Term F) → IfSound x (Tidy k) → IfSound (counted m a gives at may left x) (Tidy (2 + k))
counted_tidy m a gives at may left k x f =
    after_sound (Tidy k) (Tidy (2 + k)) (number_target m at may left x) _ (number_target_tidy m at may left k x f)
    (λ s p. tidy_more (suc (k + 1)) (2 + k) _ (omega arith)
    (updated_tidy (record { arithmetic = a; width = width_of s; gives = gives }) k 1 s (one_in (width_of s)) p
    (one_tidy (width_of s))))
