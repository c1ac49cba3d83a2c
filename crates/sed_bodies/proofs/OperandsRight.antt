-- The rules on operands give typed terms, and unknown only with a fault inside.
use Rattle.std.proofs.Common.{◌≡◌, ◌<◌, ℕ, Bool, true, false, ◌&&◌, if◌then◌else◌, List, Some, None, IfSome, refl, sym, subst, ◌∙◌, arith, lit≤}
use Rattle.sed_value.specs.declared.slot_type.Primitive.{Primitive}
use Rattle.sed_value.specs.declared.slot_type.Primitive.TheVariants as prim
use Rattle.sed_units.specs.declared.operators.BinaryOp.{BinaryOp}
use Rattle.sed_units.specs.declared.operators.BinaryOp.TheVariants as op
use Rattle.sed_typed.specs.declared.kind.Kind.{Kind}
use Rattle.sed_typed.specs.declared.kind.Kind.TheVariants as kind
use Rattle.sed_typed.specs.declared.operators.Binary.{Binary}
use Rattle.sed_typed.specs.declared.operators.Comparison.{Comparison}
use Rattle.sed_typed.specs.declared.operators.Width.{Width}
use Rattle.sed_typed.specs.declared.operators.Width.TheVariants as width
use Rattle.sed_typed.specs.Kinds.{width_kind}
use Rattle.sed_typed.specs.TypedExpr.{Context, IsReference, IsKindOf, AreOperands, right_kind}
use Rattle.sed_faults.specs.declared.fault.Fault.{Fault}
use Rattle.sed_terms.specs.declared.judged.Judged.{Judged}
use Rattle.sed_terms.specs.declared.sign.Sign.TheVariants as sign
use Rattle.sed_terms.specs.declared.sort.Sort.{Sort}
use Rattle.sed_terms.specs.declared.sort.Sort.TheVariants.{Of, Nothing}
use Rattle.sed_terms.specs.Faults.{all_faults, broken, unless, Right}
use Rattle.sed_terms.specs.SortKind.{kind_in}
use Rattle.sed_terms.specs.Sorts.{sort_of, term_kind, is_kind}
use Rattle.sed_terms.specs.Term.{Term, Node}
use Rattle.sed_terms.specs.TypedTerm.{IsTerm}
use Rattle.sed_body_rules.specs.Conversions.{is_number, is_int, is_bool, is_reference, width_of, meeting, in_width, null_in, or_itself, beside}
use Rattle.sed_body_rules.specs.Operands.{negated, opposite, flipped, cast_to, is_cast, cast, Form, Numbers, Shift, Order, Equality, Both, Either, form_of, compared, equated_pair, equated, operated}
use Rattle.sed_body_rules.specs.Wants.{wants, as_bool, truth}
use Rattle.sed_bodies.specs.Inside.{IsReady, HasKinds, HasKind}
use Rattle.sed_bodies.proofs.Ready.{ready_value, kind_of_term, kind_is, int_is, bool_is, own_width, widened, meets}
use Rattle.sed_body_rules.specs.Values.{number_value, int_value, bool_value}
use Rattle.sed_bodies.proofs.Right.{after_right, joined_right, unless_right, some_right}

-- a typed term that passes a test
abbrev pub Passes : Context → (Sort → Bool) → Term → Type 0
Passes c test t = IsTerm c t × (test (sort_of t) ≡ true)

abbrev pub IsTruth : Context → Term → Type 0
IsTruth c t = HasKind c kind.Bool t

pub wants_right : (c : Context) (test : Sort → Bool) → ((s : Sort) → test s ≡ true → is_kind s ≡ true) → (at : ℕ) (x : Judged Term (List Fault)) →
    Right (IsReady c) x → Right (Passes c test) (wants all_faults test at x)
wants_right c test values at x p = after_right (IsReady c) (Passes c test) x _ p
    (λ t q. unless_right (Passes c test) (test (sort_of t)) (broken 13 at) t (λ e. (ready_value c t q (values (sort_of t) e), e)))

pub ints_right : (c : Context) (at : ℕ) (x : Judged Term (List Fault)) → Right (IsReady c) x → Right (HasKind c kind.Int) (wants all_faults is_int at x)
ints_right c at x p = after_right (IsReady c) (HasKind c kind.Int) x _ p
    (λ t q. unless_right (HasKind c kind.Int) (is_int (sort_of t)) (broken 13 at) t (λ e. (ready_value c t q (int_value (sort_of t) e), int_is t e)))

-- ---- `null` beside something

null_ready : (c : Context) (k : Kind) (t : Term) → IsKindOf c.program k → IsReady c t → IsReady c (or_itself (null_in k) t)
null_ready c kind.Bool t g h = (lit≤ tt, λ e. absurd (let k : false ≡ true = e in cc))
null_ready c kind.Text t g h = ((tt, tt), λ e. absurd (let k : false ≡ true = e in cc))
null_ready c (kind.Object class) t g h = ((tt, g), λ e. absurd (let k : false ≡ true = e in cc))
null_ready c kind.Void t g h = h
null_ready c kind.Int t g h = h
null_ready c kind.Long t g h = h

abbrev pub IsSortOf : Context → Sort → Type 0
IsSortOf c (Of k) = IsKindOf c.program k
IsSortOf c s = Unit {0}

pub positive : (n m : ℕ) → n < m → 0 < m
positive n m h = omega (arith, h)

pub beside_ready : (c : Context) → HasKinds c → (other own : Sort) (t : Term) → IsSortOf c other → IsReady c t → IsReady c (beside other own t)
beside_ready c k (Of q) Nothing t g h = null_ready c q t g h
beside_ready c k Nothing Nothing t g h = ((tt, positive c.class _ k.class), λ e. absurd (let k : false ≡ true = e in cc))
beside_ready c k other own t g h = h

pub sort_of_ready : (c : Context) → HasKinds c → (t : Term) → IsReady c t → IsSortOf c (sort_of t)
sort_of_ready c k (Node sign.Nothing a b) h = tt
sort_of_ready c k (Node (sign.Array p n i) x b) h = tt
sort_of_ready c k (Node (sign.StaticArray p n i) a b) h = tt
sort_of_ready c k (Node (sign.Buf i) x b) h = tt
sort_of_ready c k (Node (sign.Bytes i) x b) h = tt
sort_of_ready c k (Node sign.After x t) h = sort_of_ready c k t h.1
sort_of_ready c k t h = kind_of_term c k t h.0

pub truth_right : (c : Context) → HasKinds c → (at : ℕ) (x : Judged Term (List Fault)) → Right (IsReady c) x → Right (IsTruth c) (truth all_faults at x)
truth_right c k at x p = after_right (IsReady c) (IsTruth c) x _ p
    (λ t q. unless_right (IsTruth c) (is_bool (sort_of (as_bool t))) (broken 13 at) (as_bool t)
    (λ e. (ready_value c (as_bool t) (beside_ready c k (Of kind.Bool) (sort_of t) t tt q) (bool_value (sort_of (as_bool t)) e), bool_is (as_bool t) e)))

-- ---- one operand

pub negated_right : (c : Context) → HasKinds c → (at : ℕ) (x : Judged Term (List Fault)) → Right (IsReady c) x → Right (IsReady c) (negated all_faults at x)
negated_right c k at x p = after_right (IsTruth c) (IsReady c) (truth all_faults at x) _ (truth_right c k at x p) (λ t q. (q, λ e. absurd (let k : false ≡ true = e in cc)))

pub opposite_right : (c : Context) (at : ℕ) (x : Judged Term (List Fault)) → Right (IsReady c) x → Right (IsReady c) (opposite all_faults at x)
opposite_right c at x p = after_right (Passes c is_number) (IsReady c) (wants all_faults is_number at x) _ (wants_right c is_number number_value at x p)
    (λ t q. ((q.0, own_width t q.1), λ e. absurd (let k : false ≡ true = e in cc)))

pub flipped_right : (c : Context) (at : ℕ) (x : Judged Term (List Fault)) → Right (IsReady c) x → Right (IsReady c) (flipped all_faults at x)
flipped_right c at x p = after_right (Passes c is_number) (IsReady c) (wants all_faults is_number at x) _ (wants_right c is_number number_value at x p)
    (λ t q. ((q.0, own_width t q.1), λ e. absurd (let k : false ≡ true = e in cc)))

-- a value that is cast to its own kind stays what it is
cast_ready : (c : Context) (p : Primitive) (w : Width) (t : Term) → IsReady c t → IsTerm c t → term_kind t ≡ width_kind w → IsReady c (cast_to p w t)
cast_ready c prim.Bool w t r h e = r
cast_ready c prim.Byte w t r h e = ((h, e), λ e. absurd (let k : false ≡ true = e in cc))
cast_ready c prim.Short w t r h e = ((h, e), λ e. absurd (let k : false ≡ true = e in cc))
cast_ready c prim.Int width.Long t r h e = ((h, e), λ e. absurd (let k : false ≡ true = e in cc))
cast_ready c prim.Int width.Int t r h e = r
cast_ready c prim.Long width.Int t r h e = ((h, e), λ e. absurd (let k : false ≡ true = e in cc))
cast_ready c prim.Long width.Long t r h e = r

abbrev IsNumber : Context → Term → Type 0
IsNumber c t = IsReady c t × IsTerm c t × (is_number (sort_of t) ≡ true)

number_right : (c : Context) (at : ℕ) (x : Judged Term (List Fault)) → Right (IsReady c) x → Right (IsNumber c) (wants all_faults is_number at x)
number_right c at x p = after_right (IsReady c) (IsNumber c) x _ p
    (λ t q. unless_right (IsNumber c) (is_number (sort_of t)) (broken 13 at) t (λ e. (q, ready_value c t q (number_value (sort_of t) e), e)))

pub cast_right : (c : Context) (at : ℕ) (p : Primitive) (right : ℕ) (x : Judged Term (List Fault)) → Right (IsReady c) x → Right (IsReady c) (cast all_faults at p right x)
cast_right c at p right x h =
    joined_right (λ (q : Primitive). Unit {0}) (IsNumber c) (IsReady c) (unless all_faults (is_cast p) (broken 13 at) p) (wants all_faults is_number right x) _
    (unless_right (λ (q : Primitive). Unit {0}) (is_cast p) (broken 13 at) p (λ e. tt)) (λ a u. number_right c right x h)
    (λ q t u n. cast_ready c q (width_of t) t n.0 n.1 (own_width t n.2))

-- ---- two operands

-- both operands in the width in which they meet
pub in_both : (c : Context) (s t : Term) → Passes c is_number s → Passes c is_number t →
    (IsTerm c (in_width (meeting s t) s) × (term_kind (in_width (meeting s t) s) ≡ width_kind (meeting s t)))
    × (IsTerm c (in_width (meeting s t) t) × (term_kind (in_width (meeting s t) t) ≡ width_kind (meeting s t)))
in_both c s t p q =
    let m = meets s t p.1 q.1 in (widened c (meeting s t) s p.0 m.0, widened c (meeting s t) t q.0 m.1)

compared_ready : (c : Context) (o : Comparison) (s t : Term) → Passes c is_number s → Passes c is_number t → IsReady c (compared o (meeting s t) s t)
compared_ready c o s t p q = let b = in_both c s t p q in ((b.0.0, b.1.0, (b.0.1, b.1.1)), λ e. absurd (let k : false ≡ true = e in cc))

reference_is : (t : Term) → is_reference (sort_of t) ≡ true → IsReference (term_kind t)
reference_is t h = subst (λ (k : Kind). IsReference k) (kind_is t) (at (sort_of t) h)
  where
    at : (s : Sort) → is_reference s ≡ true → IsReference (kind_in s)
    at (Of kind.Text) h = tt
    at (Of (kind.Object class)) h = tt
    at s h = absurd (let k : false ≡ true = h in cc)

reference_value : (s : Sort) → is_reference s ≡ true → is_kind s ≡ true
reference_value (Of k) h = refl
reference_value s h = absurd (let k : false ≡ true = h in cc)

-- what an operator of bools or of references asks of its operands
abbrev pub Equates : Form → Type 0
Equates (Equality o truths references) =
    ((x y : Kind) → x ≡ kind.Bool → y ≡ kind.Bool → AreOperands truths x y) × ((x y : Kind) → IsReference x → IsReference y → AreOperands references x y)
Equates (Numbers a) = (w : Width) → right_kind a w ≡ width_kind w
Equates (Shift a) = (w : Width) → right_kind a w ≡ kind.Int
Equates f = Unit {0}

pub forms_equate : (o : BinaryOp) → Equates (form_of o)
forms_equate op.Or = tt
forms_equate op.And = tt
forms_equate op.Equal = (λ x y e f. (e, f), λ x y e f. (e, f))
forms_equate op.NotEqual = (λ x y e f. (e, f), λ x y e f. (e, f))
forms_equate op.Less = tt
forms_equate op.LessOrEqual = tt
forms_equate op.Greater = tt
forms_equate op.GreaterOrEqual = tt
forms_equate op.BitOr = λ w. refl
forms_equate op.BitXor = λ w. refl
forms_equate op.BitAnd = λ w. refl
forms_equate op.ShiftLeft = λ w. refl
forms_equate op.ShiftRight = λ w. refl
forms_equate op.Add = λ w. refl
forms_equate op.Subtract = λ w. refl
forms_equate op.Multiply = λ w. refl
forms_equate op.Divide = λ w. refl
forms_equate op.Remainder = λ w. refl

equated_ready : (c : Context) (o : Comparison) (truths references : Binary) (s t : Term) → Equates (Equality o truths references) →
    IsReady c s → IsReady c t → IfSome (equated_pair o truths references s t) (IsReady c)
equated_ready c o truths references s t operands p q = numbers (is_number (sort_of s)) (is_number (sort_of t)) refl refl
  where
    refs : (x y : Bool) → is_reference (sort_of s) ≡ x → is_reference (sort_of t) ≡ y →
        IfSome (if x && y then Some (Node (sign.Binary references) s t) else None) (IsReady c)
    refs true true e f = (
      (ready_value c s p (reference_value (sort_of s) e), ready_value c t q (reference_value (sort_of t) f), operands.1 _ _ (reference_is s e) (reference_is t f)),
      λ e. absurd (let k : false ≡ true = e in cc),
    )
    refs true false e f = tt
    refs false y e f = tt

    bools : (x y : Bool) → is_bool (sort_of s) ≡ x → is_bool (sort_of t) ≡ y →
        IfSome (if x && y then Some (Node (sign.Binary truths) s t)
        else if is_reference (sort_of s) && is_reference (sort_of t) then Some (Node (sign.Binary references) s t) else None) (IsReady c)
    bools true true e f = (
      (ready_value c s p (bool_value (sort_of s) e), ready_value c t q (bool_value (sort_of t) f), operands.0 _ _ (bool_is s e) (bool_is t f)),
      λ e. absurd (let k : false ≡ true = e in cc),
    )
    bools true false e f = refs (is_reference (sort_of s)) (is_reference (sort_of t)) refl refl
    bools false y e f = refs (is_reference (sort_of s)) (is_reference (sort_of t)) refl refl

    numbers : (x y : Bool) → is_number (sort_of s) ≡ x → is_number (sort_of t) ≡ y →
        IfSome (if x && y then Some (compared o (meeting s t) s t)
        else if is_bool (sort_of s) && is_bool (sort_of t) then Some (Node (sign.Binary truths) s t)
        else if is_reference (sort_of s) && is_reference (sort_of t) then Some (Node (sign.Binary references) s t) else None) (IsReady c)
    numbers true true e f =
        compared_ready c o s t (ready_value c s p (number_value (sort_of s) e), e) (ready_value c t q (number_value (sort_of t) f), f)
    numbers true false e f = bools (is_bool (sort_of s)) (is_bool (sort_of t)) refl refl
    numbers false y e f = bools (is_bool (sort_of s)) (is_bool (sort_of t)) refl refl

pub operated_right : (c : Context) → HasKinds c → (f : Form) → Equates f → (at right : ℕ) (x y : Judged Term (List Fault)) →
    Right (IsReady c) x → Right (IsReady c) y → Right (IsReady c) (operated all_faults f at right x y)
operated_right c k (Numbers a) wide at right x y p q =
    joined_right (Passes c is_number) (Passes c is_number) (IsReady c) (wants all_faults is_number at x) (wants all_faults is_number right y) _
    (wants_right c is_number number_value at x p) (λ a h. wants_right c is_number number_value right y q)
    (λ s t h g. let b = in_both c s t h g in ((b.0.0, b.1.0, (b.0.1, b.1.1 ∙ sym (wide (meeting s t)))), λ e. absurd (let k : false ≡ true = e in cc)))
operated_right c k (Shift a) wide at right x y p q =
    joined_right (Passes c is_number) (Passes c is_int) (IsReady c) (wants all_faults is_number at x) (wants all_faults is_int right y) _
    (wants_right c is_number number_value at x p) (λ a h. wants_right c is_int int_value right y q)
    (λ s t h g. ((h.0, g.0, (own_width s h.1, int_is t g.1 ∙ sym (wide (width_of s)))), λ e. absurd (let k : false ≡ true = e in cc)))
operated_right c k (Order o) wide at right x y p q =
    joined_right (Passes c is_number) (Passes c is_number) (IsReady c) (wants all_faults is_number at x) (wants all_faults is_number right y) _
    (wants_right c is_number number_value at x p) (λ a h. wants_right c is_number number_value right y q)
    (λ s t h g. compared_ready c o s t h g)
operated_right c k (Equality o truths references) wide at right x y p q =
    joined_right (IsReady c) (IsReady c) (IsReady c) x y _ p (λ a h. q)
    (λ s t h g. some_right (IsReady c) (broken 13 at) (equated o truths references s t)
    (equated_ready c o truths references (beside (sort_of t) (sort_of s) s) (beside (sort_of s) (sort_of t) t) wide
    (beside_ready c k (sort_of t) (sort_of s) s (sort_of_ready c k t g) h) (beside_ready c k (sort_of s) (sort_of t) t (sort_of_ready c k s h) g)))
operated_right c k Both wide at right x y p q =
    joined_right (IsTruth c) (IsTruth c) (IsReady c) (truth all_faults at x) (truth all_faults right y) _
    (truth_right c k at x p) (λ a h. truth_right c k right y q)
    (λ s t h g. ((h.0, g.0, h.1, g.1), λ e. absurd (let k : false ≡ true = e in cc)))
operated_right c k Either wide at right x y p q =
    joined_right (IsTruth c) (IsTruth c) (IsReady c) (truth all_faults at x) (truth all_faults right y) _
    (truth_right c k at x p) (λ a h. truth_right c k right y q)
    (λ s t h g. ((h.0, g.0, h.1, g.1), λ e. absurd (let k : false ≡ true = e in cc)))
