-- The rules on stores give typed terms, and unknown only with a fault inside.
use Rattle.std.proofs.Common.{◌<◌, ◌≡◌, ℕ, Bool, true, false, ◌&&◌, ◌||◌, ◌==◌, not, if◌then◌else◌, List, [], ◌∷◌, Some, None, length, IfSome, refl, sym, ap, subst, ◌∙◌, arith, lit≤}
use Rattle.std.proofs.lemmas.Bool.Decides.{Decides-eqb}
use Rattle.sed_typed.specs.declared.kind.Kind.{Kind}
use Rattle.sed_typed.specs.declared.kind.Kind.TheVariants as kind
use Rattle.sed_typed.specs.declared.operators.Arithmetic.{Arithmetic}
use Rattle.sed_typed.specs.declared.operators.Arithmetic.TheVariants as arithmetic
use Rattle.sed_typed.specs.declared.operators.Gives.{Gives}
use Rattle.sed_typed.specs.declared.operators.Update.{Update}
use Rattle.sed_typed.specs.declared.operators.Width.{Width}
use Rattle.sed_typed.specs.declared.operators.Width.TheVariants as width
use Rattle.sed_typed.specs.declared.program.Program.{Program}
use Rattle.sed_typed.specs.Kinds.{width_kind}
use Rattle.sed_typed.specs.TypedExpr.{Context, GoesTo, IsKindOf, right_kind}
use Rattle.sed_typed.specs.declared.schema.ClassInfo.{ClassInfo}
use Rattle.sed_typed.specs.TypedSchema.{is_below}
use Rattle.sed_faults.specs.declared.fault.Fault.{Fault}
use Rattle.sed_terms.specs.declared.judged.Judged.{Judged}
use Rattle.sed_terms.specs.declared.judged.Judged.TheVariants.{Sound, Unknown}
use Rattle.sed_terms.specs.declared.sign.Sign.TheVariants as sign
use Rattle.sed_terms.specs.declared.sort.Sort.{Sort}
use Rattle.sed_terms.specs.declared.sort.Sort.TheVariants.{Of, Nothing}
use Rattle.sed_terms.specs.Faults.{all_faults, broken, after, joined, Right}
use Rattle.sed_terms.specs.Forms.{stored, updated}
use Rattle.sed_terms.specs.Ones.{one_in}
use Rattle.sed_terms.specs.SortKind.{kind_in}
use Rattle.sed_terms.specs.Sorts.{sort_of, term_kind, is_kind, is_place}
use Rattle.sed_terms.specs.Term.{Term, Node}
use Rattle.sed_terms.specs.TypedTerm.{IsTerm, IsTermPlace, TermMayGive}
use Rattle.sed_body_rules.specs.Conversions.{is_number, is_int, is_long, width_of, in_width, null_in, converted, placed_by, placed}
use Rattle.sed_body_rules.specs.Wants.{wants}
use Rattle.sed_body_rules.specs.Stores.{target, going, assigned, is_target, number_target, storing, is_shift, is_no_longer, lengthened, compound, counted}
use Rattle.sed_bodies.proofs.OperandsRight.{Passes, wants_right, positive}
use Rattle.sed_bodies.specs.Inside.{IsReady, HasKinds, AreBelow, Goes}
use Rattle.sed_bodies.proofs.Ready.{ready_value, place_kind_of, kind_is, int_is, own_width, Fits, widened}
use Rattle.sed_body_rules.specs.Values.{number_value, int_value}
use Rattle.sed_bodies.proofs.Right.{one_right, after_right, joined_right, unless_right, some_right}

-- ---- what is assigned to

-- a place, behind what is evaluated before it
abbrev IsTarget : Context → Term → Type 0
IsTarget c (Node sign.After e t) = IsTerm c e × IsTarget c t
IsTarget c t = IsTermPlace c t

ready_target : (c : Context) (t : Term) → IsReady c t → is_place t ≡ true → IsTarget c t
ready_target c (Node sign.After e t) h v = (h.0, ready_target c t h.1 v)
ready_target c (Node sign.Nothing a b) h v = absurd (let k : false ≡ true = v in cc)
ready_target c (Node (sign.Array p n i) x b) h v = absurd (let k : false ≡ true = v in cc)
ready_target c (Node (sign.StaticArray p n i) a b) h v = absurd (let k : false ≡ true = v in cc)
ready_target c (Node (sign.Buf i) x b) h v = absurd (let k : false ≡ true = v in cc)
ready_target c (Node (sign.Bytes i) x b) h v = absurd (let k : false ≡ true = v in cc)
ready_target c t h v = h.1 v

stored_ready : (c : Context) (t v : Term) → IsTarget c t → IsTerm c v → GoesTo c.program (term_kind v) (term_kind t) → IsReady c (stored t v)
stored_ready c (Node sign.After e t) v h g q = (h.0, stored_ready c t v h.1 g q)
stored_ready c t v h g q = ((h, g, q), λ e. absurd (let k : false ≡ true = e in cc))

updated_ready : (c : Context) (u : Update) (t v : Term) → IsTarget c t → IsTerm c v → term_kind t ≡ width_kind u.width →
    term_kind v ≡ right_kind u.arithmetic u.width → TermMayGive u.gives u.arithmetic u.width v → IsReady c (updated u t v)
updated_ready c u (Node sign.After e t) v h g q r m = (h.0, updated_ready c u t v h.1 g q r m)
updated_ready c u t v h g q r m = ((h, g, q, r, m), λ e. absurd (let k : false ≡ true = e in cc))

and_right : (a b : Bool) → a && b ≡ true → b ≡ true
and_right true b h = h
and_right false b h = absurd (let k : false ≡ true = h in cc)

target_right : (c : Context) (at : ℕ) (may : Bool) (x : Judged Term (List Fault)) → Right (IsReady c) x → Right (IsTarget c) (target all_faults at may x)
target_right c at may x p = after_right (IsReady c) (IsTarget c) x _ p
    (λ t h. unless_right (IsTarget c) (may && is_place t) (broken 14 at) t (λ e. ready_target c t h (and_right may (is_place t) e)))

-- ---- what goes to a place

goes_if : (p : Program) (k x : Kind) → x ≡ k → GoesTo p k k → GoesTo p x k
goes_if p k x e h = subst (λ (y : Kind). GoesTo p y k) (sym e) h

converted_goes : (c : Context) (below : ℕ → ℕ → Bool) → AreBelow c below → (to from : Kind) (t : Term) → term_kind t ≡ from → IsTerm c t →
    IfSome (converted below to from t) (Goes c to)
converted_goes c below same kind.Long kind.Int t e h = ((h, e), refl)
converted_goes c below same (kind.Object a) (kind.Object d) t e h = by_test (below a.0 d.0) refl
  where
    by_test : (x : Bool) → below a.0 d.0 ≡ x → IfSome (if x then Some t else None) (Goes c (kind.Object a))
    by_test true q = (h, subst (λ (k : Kind). GoesTo c.program k (kind.Object a)) (sym e) (sym (same a.0 d.0) ∙ q))
    by_test false q = tt
converted_goes c below same kind.Void kind.Void t e h = (h, goes_if c.program kind.Void (term_kind t) e refl)
converted_goes c below same kind.Bool kind.Bool t e h = (h, goes_if c.program kind.Bool (term_kind t) e refl)
converted_goes c below same kind.Int kind.Int t e h = (h, goes_if c.program kind.Int (term_kind t) e refl)
converted_goes c below same kind.Long kind.Long t e h = (h, goes_if c.program kind.Long (term_kind t) e refl)
converted_goes c below same kind.Text kind.Text t e h = (h, goes_if c.program kind.Text (term_kind t) e refl)
converted_goes c below same to from t e h = tt

-- a class is at or below itself
below_itself : (classes : List ClassInfo) (d : ℕ) → 0 < length classes → is_below classes d d ≡ true
below_itself [] d h = absurd (omega (arith, h))
below_itself (x ∷ xs) d h = let same : (d == d) ≡ true = (Decides-eqb d d).1 refl in rw same refl

null_goes : (c : Context) → HasKinds c → (to : Kind) → IsKindOf c.program to → IfSome (null_in to) (Goes c to)
null_goes c k kind.Bool g = (lit≤ tt, refl)
null_goes c k kind.Text g = ((tt, tt), refl)
null_goes c k (kind.Object class) g = ((tt, g), below_itself c.program.schema.classes class.0 (positive c.class _ k.class))
null_goes c k kind.Void g = tt
null_goes c k kind.Int g = tt
null_goes c k kind.Long g = tt

pub placed_goes : (c : Context) → HasKinds c → (below : ℕ → ℕ → Bool) → AreBelow c below → (to : Kind) → IsKindOf c.program to → (t : Term) →
    IsReady c t → IfSome (placed below to t) (Goes c to)
placed_goes c k below same to g t h = at (sort_of t) refl
  where
    at : (s : Sort) → sort_of t ≡ s → IfSome (placed_by below to s t) (Goes c to)
    at (Of from) e =
        converted_goes c below same to from t (sym (kind_is t) ∙ ap kind_in e) (ready_value c t h (ap is_kind e))
    at Nothing e = null_goes c k to g
    at s e = tt

pub going_right : (c : Context) → HasKinds c → (below : ℕ → ℕ → Bool) → AreBelow c below → (to : Kind) → IsKindOf c.program to → (at : ℕ) (t : Term) →
    IsReady c t → Right (Goes c to) (going all_faults below to at t)
going_right c k below same to g at t h = some_right (Goes c to) (broken 15 at) (placed below to t) (placed_goes c k below same to g t h)

-- the kind of a target is one of the program's
target_kind : (c : Context) → HasKinds c → (t : Term) → IsTarget c t → IsKindOf c.program (term_kind t)
target_kind c k (Node sign.After e t) h = target_kind c k t h.1
target_kind c k t h = place_kind_of c k t h

pub assigned_right : (c : Context) → HasKinds c → (below : ℕ → ℕ → Bool) → AreBelow c below → (at : ℕ) (may : Bool) (right : ℕ)
    (x y : Judged Term (List Fault)) → Right (IsReady c) x → Right (IsReady c) y → Right (IsReady c) (assigned all_faults below at may right x y)
assigned_right c k below same at may right x y p q =
    joined_right (IsTarget c) (IsReady c) (IsReady c) (target all_faults at may x) y _ (target_right c at may x p) (λ a h. q)
    (λ s t h g. after_right (Goes c (term_kind s)) (IsReady c) (going all_faults below (term_kind s) right t) _
    (going_right c k below same (term_kind s) (target_kind c k s h) right t g) (λ v r. stored_ready c s v h r.0 r.1))

-- ---- what is read and stored again

abbrev IsNumberTarget : Context → Term → Type 0
IsNumberTarget c t = IsTarget c t × (is_number (sort_of t) ≡ true)

number_target_right : (c : Context) (at : ℕ) (may : Bool) (left : ℕ) (x : Judged Term (List Fault)) → Right (IsReady c) x →
    Right (IsNumberTarget c) (number_target all_faults at may left x)
number_target_right c at may left x p = after_right (IsReady c) (IsNumberTarget c) x _ p both
  where
    tests : (a b : Bool) → Right (λ (v : Bool). (a ≡ true) × (b ≡ true)) (is_target all_faults at left a b)
    tests true true = (refl, refl)
    tests true false = one_right (λ (v : Bool). (true ≡ true) × (false ≡ true)) (broken 13 left)
    tests false true = one_right (λ (v : Bool). (false ≡ true) × (true ≡ true)) (broken 14 at)
    tests false false = λ e. cc

    both : (t : Term) → IsReady c t →
        Right (IsNumberTarget c) (after {A = Bool} (is_target all_faults at left (may && is_place t) (is_number (sort_of t))) (λ number. Sound t))
    both t h = after_right (λ (v : Bool). (may && is_place t ≡ true) × (is_number (sort_of t) ≡ true)) (IsNumberTarget c)
        (is_target all_faults at left (may && is_place t) (is_number (sort_of t))) _ (tests (may && is_place t) (is_number (sort_of t)))
        (λ v g. (ready_target c t h (and_right may (is_place t) g.0), g.1))

-- a shift's count is an int, and another operand has the width of what it is stored in
shift_kind : (a : Arithmetic) (w : Width) → is_shift a ≡ true → right_kind a w ≡ kind.Int
shift_kind arithmetic.ShiftLeft w h = refl
shift_kind arithmetic.ShiftRight w h = refl
shift_kind a w h = absurd (let k : false ≡ true = h in cc)

other_kind : (a : Arithmetic) (w : Width) → is_shift a ≡ false → right_kind a w ≡ width_kind w
other_kind arithmetic.ShiftLeft w h = absurd (let k : true ≡ false = h in cc)
other_kind arithmetic.ShiftRight w h = absurd (let k : true ≡ false = h in cc)
other_kind a w h = refl

longer_fits : (s t : Term) → is_no_longer s t ≡ true → is_number (sort_of t) ≡ true → Fits (term_kind t) (width_of s)
longer_fits s t h g = subst (λ (k : Kind). Fits k (width_of s)) (kind_is t) (at (is_long (sort_of s)) (sort_of t) h g)
  where
    at : (x : Bool) (r : Sort) → x || not (is_long r) ≡ true → is_number r ≡ true → Fits (kind_in r) (if x then width.Long else width.Int)
    at true (Of kind.Int) h g = tt
    at true (Of kind.Long) h g = tt
    at false (Of kind.Int) h g = tt
    at false (Of kind.Long) h g = absurd (let k : false ≡ true = h in cc)
    at x r h g = absurd (let k : false ≡ true = g in cc)

lengthened_right : (c : Context) (a : Arithmetic) (right : ℕ) → is_shift a ≡ false → (s t : Term) → IsNumberTarget c s → Passes c is_number t →
    Right (IsReady c) (lengthened all_faults a right s t)
lengthened_right c a right e s t h g = by_test (is_no_longer s t) refl
  where
    by_test : (x : Bool) → is_no_longer s t ≡ x →
        Right (IsReady c) (if x then Sound (updated (storing a (width_of s)) s (in_width (width_of s) t)) else Unknown (broken 15 right ∷ []))
    by_test true q =
        let v = widened c (width_of s) t g.0 (longer_fits s t q g.1) in
        updated_ready c (storing a (width_of s)) s (in_width (width_of s) t) h.0 v.0 (own_width s h.1) (v.1 ∙ sym (other_kind a (width_of s) e)) tt
    by_test false q = one_right (IsReady c) (broken 15 right)

pub compound_right : (c : Context) (a : Arithmetic) (at : ℕ) (may : Bool) (right : ℕ) (x y : Judged Term (List Fault)) → Right (IsReady c) x →
    Right (IsReady c) y → Right (IsReady c) (compound all_faults a at may right x y)
compound_right c a at may right x y p q = by_shift (is_shift a) refl
  where
    by_shift : (b : Bool) → is_shift a ≡ b → Right (IsReady c) (if b
        then joined all_faults (number_target all_faults at may at x) (wants all_faults is_int right y) (λ s t. Sound (updated (storing a (width_of s)) s t))
        else joined all_faults (number_target all_faults at may at x) (wants all_faults is_number right y) (λ s t. lengthened all_faults a right s t))
    by_shift true e =
        joined_right (IsNumberTarget c) (Passes c is_int) (IsReady c) (number_target all_faults at may at x) (wants all_faults is_int right y) _
        (number_target_right c at may at x p) (λ u h. wants_right c is_int int_value right y q)
        (λ s t h g. updated_ready c (storing a (width_of s)) s t h.0 g.0 (own_width s h.1) (int_is t g.1 ∙ sym (shift_kind a (width_of s) e)) tt)
    by_shift false e =
        joined_right (IsNumberTarget c) (Passes c is_number) (IsReady c) (number_target all_faults at may at x) (wants all_faults is_number right y) _
        (number_target_right c at may at x p) (λ u h. wants_right c is_number number_value right y q)
        (λ s t h g. lengthened_right c a right e s t h g)

-- ---- `++` and `--`

-- what may be counted by: 1 is added or taken off
abbrev pub Counts : Gives → Arithmetic → Type 0
Counts gives a = ((w : Width) → TermMayGive gives a w (one_in w)) × ((w : Width) → right_kind a w ≡ width_kind w)

one_ready : (c : Context) (w : Width) → IsTerm c (one_in w) × (term_kind (one_in w) ≡ width_kind w)
one_ready c width.Int = (refl, refl)
one_ready c width.Long = (refl, refl)

pub counted_right : (c : Context) (a : Arithmetic) (gives : Gives) → Counts gives a → (at : ℕ) (may : Bool) (left : ℕ) (x : Judged Term (List Fault)) →
    Right (IsReady c) x → Right (IsReady c) (counted all_faults a gives at may left x)
counted_right c a gives counts at may left x p =
    after_right (IsNumberTarget c) (IsReady c) (number_target all_faults at may left x) _ (number_target_right c at may left x p)
    (λ s h. let w = width_of s in
    updated_ready c (record { arithmetic = a; width = w; gives = gives }) s (one_in w) h.0 (one_ready c w).0 (own_width s h.1)
    ((one_ready c w).1 ∙ sym (counts.1 w)) (counts.0 w))
