-- What operators come to is so deep and so high.
use Rattle.std.proofs.Common.{◌≡◌, ◌≤◌, ℕ, suc, ◌+◌, max, Bool, true, false, ◌&&◌, IfSome, refl, sym, arith}
use Rattle.sed_value.specs.declared.slot_type.Primitive.{Primitive}
use Rattle.sed_value.specs.declared.slot_type.Primitive.TheVariants as prim
use Rattle.sed_typed.specs.declared.kind.Kind.TheVariants as kind
use Rattle.sed_typed.specs.declared.operators.Arithmetic.{Arithmetic}
use Rattle.sed_typed.specs.declared.operators.Binary.{Binary}
use Rattle.sed_typed.specs.declared.operators.Comparison.{Comparison}
use Rattle.sed_typed.specs.declared.operators.Unary.{Unary}
use Rattle.sed_typed.specs.declared.operators.Unary.TheVariants as unary
use Rattle.sed_typed.specs.declared.operators.Width.{Width}
use Rattle.sed_typed.specs.declared.operators.Width.TheVariants as width
use Rattle.sed_typed.specs.Kinds.{width_kind}
use Rattle.sed_terms.specs.declared.judged.Judged.{Judged}
use Rattle.sed_terms.specs.declared.sign.Sign.TheVariants as sign
use Rattle.sed_terms.specs.declared.sort.Sort.{Sort}
use Rattle.sed_terms.specs.declared.sort.Sort.TheVariants.{Of, Array, Bytes}
use Rattle.sed_terms.specs.Faults.{Marks, IfSound, broken}
use Rattle.sed_terms.specs.Forms.{has_elements, indexed, is_alone}
use Rattle.sed_terms.specs.Sorts.{term_kind, sort_of, is_value}
use Rattle.sed_terms.specs.Term.{Term, Absent, Node}
use Rattle.sed_terms.specs.TermDepth.{term_depth}
use Rattle.sed_typed.specs.Depth.{unary_depth}
use Rattle.sed_body_rules.specs.Conversions.{is_number, is_int, is_bool, is_reference, is_operand, same_kind, width_of, meeting}
use Rattle.sed_body_rules.specs.Wants.{wants, as_bool, truth}
use Rattle.sed_body_rules.specs.Operands.{negated, opposite, flipped, cast, cast_to, Form, Numbers, Shift, Order, Equality, Both, Either, calculated, compared, equated_pair, equated, operated, element}
use Rattle.sed_body_rules.specs.Choices.{equal_branches, branches, branched, chosen}
use Rattle.sed_body_laws.specs.TermHeight.{term_height, run_height}
use Rattle.sed_body_laws.proofs.Sounds.{after_sound, joined_sound, unless_sound, some_sound, any_sound, either_some}
use Rattle.sed_body_laws.proofs.Terms.{slack, slack_most, single, deep, deep_above, Fits, Runs}
use Rattle.sed_body_laws.proofs.Widths.{width_slack, IsNumber, IsInt, IsLong, number_is, run_in_width, fit_in_width, meeting_first, meeting_second, beside_fits, beside_runs}
pub use Rattle.std.proofs.lemmas.Bool.{and_parts as and_true}

-- ---- what is wanted of an operand

-- of which a test holds too
abbrev pub Tested : (Term → Type 0) → (Sort → Bool) → Term → Type 0
Tested P test t = P t × (test (sort_of t) ≡ true)

pub wants_sound : {F : Type 0} (m : Marks F) (P : Term → Type 0) (test : Sort → Bool) (at : ℕ) (x : Judged Term F) →
    IfSound x P
    → IfSound (wants m test at x) (Tested P test)
wants_sound m P test at x h = after_sound P (Tested P test) x _ h
    (λ t p. unless_sound m (Tested P test) (test (sort_of t)) (broken 13 at) t (λ e. (p, e)))

pub truth_fits : {F : Type 0} (m : Marks F) (n h at : ℕ) (x : Judged Term F) → IfSound x (Fits n h) →
    IfSound (truth m at x) (Fits n h)
truth_fits m n h at x f = after_sound (Fits n h) (Fits n h) x _ f
    (λ t p. unless_sound m (Fits n h) (is_bool (sort_of (as_bool t))) (broken 13 at) (as_bool t) (λ e. beside_fits n h
    (Of kind.Bool) (sort_of t) t p))

truth_runs : {F : Type 0} (m : Marks F) (n h at : ℕ) (x : Judged Term F) → IfSound x (Runs n h) →
    IfSound (truth m at x) (Runs n h)
truth_runs m n h at x f = after_sound (Runs n h) (Runs n h) x _ f
    (λ t p. unless_sound m (Runs n h) (is_bool (sort_of (as_bool t))) (broken 13 at) (as_bool t) (λ e. beside_runs n h
    (Of kind.Bool) (sort_of t) t p))

-- ---- one operand, which nests

unary_above : (op : Unary) (d : ℕ) → unary_depth op d ≤ suc d
unary_above unary.ToLong d = omega arith
unary_above op d = omega arith

unary_fits : (op : Unary) (n h : ℕ) (t : Term) → Fits n h t → Fits (suc n) (3 + h) (Node (sign.Unary op) t Absent)
unary_fits op n h t f =
    let d = unary_above op (term_depth t) in
    let s = slack_most (sort_of (Node (sign.Unary op) t Absent)) in
    record {
      depth = omega (arith, d, f.depth);
      opened = omega (arith, d, f.depth);
      height = omega
          (arith, s, f.height);
      single = refl;
      big = omega arith;
    }

pub negated_fits : {F : Type 0} (m : Marks F) (n h at : ℕ) (x : Judged Term F) → IfSound x (Fits n h) →
    IfSound (negated m at x) (Fits (suc n) (3 + h))
negated_fits m n h at x f = after_sound (Fits n h) (Fits (suc n) (3 + h)) (truth m at x) _ (truth_fits m n h at x f)
    (λ t p. unary_fits unary.Not n h t p)

pub opposite_fits : {F : Type 0} (m : Marks F) (n h at : ℕ) (x : Judged Term F) → IfSound x (Fits n h) →
    IfSound (opposite m at x) (Fits (suc n) (3 + h))
opposite_fits m n h at x f = after_sound (Tested (Fits n h) is_number) (Fits (suc n) (3 + h))
    (wants m is_number at x) _ (wants_sound m (Fits n h) is_number at x f)
    (λ t p. unary_fits (unary.Negate (width_of t)) n h t p.0)

pub flipped_fits : {F : Type 0} (m : Marks F) (n h at : ℕ) (x : Judged Term F) → IfSound x (Fits n h) →
    IfSound (flipped m at x) (Fits (suc n) (3 + h))
flipped_fits m n h at x f = after_sound (Tested (Fits n h) is_number) (Fits (suc n) (3 + h)) (wants m is_number at x) _
    (wants_sound m (Fits n h) is_number at x f)
    (λ t p. unary_fits (unary.Flip (width_of t)) n h t p.0)

itself_fits : (n h : ℕ) (t : Term) → Fits n h t → Fits (suc n) (3 + h) t
itself_fits n h t f = record {
  depth = omega (arith, f.depth);
  opened = omega (arith, f.opened);
  height = omega
      (arith, f.height);
  single = f.single;
  big = omega arith;
}

cast_to_fits : (p : Primitive) (w : Width) (n h : ℕ) (t : Term) → Fits n h t → Fits (suc n) (3 + h) (cast_to p w t)
cast_to_fits prim.Byte w n h t f = unary_fits (unary.LowByte w) n h t f
cast_to_fits prim.Short w n h t f = unary_fits (unary.LowShort w) n h t f
cast_to_fits prim.Int width.Long n h t f = unary_fits unary.ToInt n h t f
cast_to_fits prim.Long width.Int n h t f = unary_fits unary.ToLong n h t f
cast_to_fits p w n h t f = itself_fits n h t f

pub cast_fits : {F : Type 0} (m : Marks F) (n h at : ℕ) (p : Primitive) (right : ℕ) (x : Judged Term F) →
    IfSound x (Fits n h)
    → IfSound (cast m at p right x) (Fits (suc n) (3 + h))
cast_fits m n h at p right x f =
    joined_sound m (λ _. Unit {0}) (Tested (Fits n h) is_number) (Fits (suc n) (3 + h)) _ (wants m is_number right x) _
    (any_sound _) (wants_sound m (Fits n h) is_number right x f)
    (λ q t u v. cast_to_fits q (width_of t) n h t v.0)

-- ---- two operands, beside one another

-- parts of a link, from left and right
pub binary_runs : (op : Binary) (n h : ℕ) (x y : Term) → term_depth x ≤ n → term_depth y ≤ n
    → run_height x + slack (sort_of (Node (sign.Binary op) x y)) ≤ h →
    term_height y + slack (sort_of (Node (sign.Binary op) x y)) ≤ h → 3 ≤ h
    → Runs n h (Node (sign.Binary op) x y)
binary_runs op n h x y a b c d big = record {
  depth = omega (arith, a, b);
  opened = omega (arith, a, b);
  run = omega
      (arith, c, d);
  single = refl;
  big = big;
}

slack_of_width : (w : Width) → slack (Of (width_kind w)) ≡ width_slack w
slack_of_width width.Int = refl
slack_of_width width.Long = refl

calculated_runs : (a : Arithmetic) (n h : ℕ) (x y : Term) → is_number (sort_of x) ≡ true →
    is_number (sort_of y) ≡ true → Runs n h x → Fits n h y
    → Runs n h (calculated a (meeting x y) x y)
calculated_runs a n h x y p q r f =
    let w = meeting x y in
    let u = run_in_width w n h x (number_is x p) (meeting_first x y) r in
    let v = fit_in_width w n h y (number_is y q) (meeting_second x y) f in
    let s = slack_of_width w in
    record {
      depth = omega (arith, u.0, v.0);
      opened = omega (arith, u.0, v.0);
      run = omega
          (arith, u.1, v.1, s);
      single = refl;
      big = r.big;
    }

compared_runs : (c : Comparison) (n h : ℕ) (x y : Term) → is_number (sort_of x) ≡ true → is_number (sort_of y) ≡ true →
    Runs n h x → Fits n h y
    → Runs n h (compared c (meeting x y) x y)
compared_runs c n h x y p q r f =
    let w = meeting x y in
    let u = run_in_width w n h x (number_is x p) (meeting_first x y) r in
    let v = fit_in_width w n h y (number_is y q) (meeting_second x y) f in
    record {
      depth = omega (arith, u.0, v.0);
      opened = omega (arith, u.0, v.0);
      run = omega
          (arith, u.1, v.1);
      single = refl;
      big = r.big;
    }

plain_runs : (op : Binary) (n h : ℕ) (x y : Term) → slack (sort_of (Node (sign.Binary op) x y)) ≡ 0 → Runs n h x →
    Fits n h y → Runs n h (Node (sign.Binary op) x y)
plain_runs op n h x y e r f = record {
  depth = omega (arith, r.depth, f.depth);
  opened = omega
      (arith, r.depth, f.depth);
  run = omega (arith, e, r.run, f.height);
  single = refl;
  big = r.big;
}

-- operators of two bools or of two references
abbrev IsTest : Binary → Type 0
IsTest op = (x y : Term) → slack (sort_of (Node (sign.Binary op) x y)) ≡ 0

equated_runs : (c : Comparison) (truths references : Binary) (n h : ℕ) (x y : Term) → IsTest truths →
    IsTest references → Runs n h x → Fits n h y
    → IfSome (equated_pair c truths references x y) (Runs n h)
equated_runs c truths references n h x y p q r f =
    either_some (Runs n h) (is_number (sort_of x) && is_number (sort_of y)) _ _
    (λ e. let b = and_true (is_number (sort_of x)) (is_number (sort_of y)) e in compared_runs c n h x y b.0 b.1 r f)
    (λ _. either_some (Runs n h) (is_bool (sort_of x) && is_bool (sort_of y)) _ _
    (λ e. plain_runs truths n h x y (p x y) r f)
    (λ _. either_some (Runs n h) (is_reference (sort_of x) && is_reference (sort_of y)) _ _
    (λ e. plain_runs references n h x y (q x y) r f) (λ _. tt)))

pub width_sort : (t : Term) → IsNumber t → width_slack (width_of t) ≡ slack (sort_of t)
width_sort t (IsInt l k s) = rw l (sym s)
width_sort t (IsLong l k s) = rw l (sym s)

pub int_slack : (t : Term) → is_int (sort_of t) ≡ true → slack (sort_of t) ≡ 2
int_slack t h = at (sort_of t) h
  where
    at : (s : Sort) → is_int s ≡ true → slack s ≡ 2
    at (Of kind.Int) h = refl
    at s h = absurd (let k : false ≡ true = h in cc)

shifted_runs : (a : Arithmetic) (n h : ℕ) (x y : Term) → is_number (sort_of x) ≡ true → is_int (sort_of y) ≡ true →
    Runs n h x → Fits n h y
    → Runs n h (Node (sign.Binary (Binary.Arithmetic a (width_of x))) x y)
shifted_runs a n h x y p q r f =
    let s = slack_of_width (width_of x) in
    let e = width_sort x (number_is x p) in
    let i = int_slack y q in
    let most = slack_most (sort_of x) in
    record {
      depth = omega (arith, r.depth, f.depth);
      opened = omega (arith, r.depth, f.depth);
      run = omega
          (arith, s, e, i, most, r.run, f.height);
      single = refl;
      big = r.big;
    }

-- which of the operators there are
pub data IsForm : Form → Type 0 where
  OfNumbers : (a : Arithmetic) → IsForm (Numbers a)
  OfShift : (a : Arithmetic) → IsForm (Shift a)
  OfOrder : (c : Comparison) → IsForm (Order c)
  OfEquality : (c : Comparison) (t r : Binary) → IsTest t → IsTest r → IsForm (Equality c t r)
  OfBoth : IsForm Both
  OfEither : IsForm Either

pub operated_runs : {F : Type 0} (m : Marks F) (form : Form) → IsForm form → (n h at right : ℕ) (x y : Judged Term F) →
    IfSound x (Runs n h) → IfSound y (Fits n h)
    → IfSound (operated m form at right x y) (Runs n h)
operated_runs m (Numbers a) is n h at right x y r f =
    joined_sound m (Tested (Runs n h) is_number) (Tested (Fits n h) is_number) (Runs n h) (wants m is_number at x)
    (wants m is_number right y) _
    (wants_sound m (Runs n h) is_number at x r) (wants_sound m (Fits n h) is_number right y f)
    (λ s t p q. calculated_runs a n h s t p.1 q.1 p.0 q.0)
operated_runs m (Shift a) is n h at right x y r f =
    joined_sound m (Tested (Runs n h) is_number) (Tested (Fits n h) is_int) (Runs n h) (wants m is_number at x)
    (wants m is_int right y) _
    (wants_sound m (Runs n h) is_number at x r) (wants_sound m (Fits n h) is_int right y f)
    (λ s t p q. shifted_runs a n h s t p.1 q.1 p.0 q.0)
operated_runs m (Order c) is n h at right x y r f =
    joined_sound m (Tested (Runs n h) is_number) (Tested (Fits n h) is_number) (Runs n h) (wants m is_number at x)
    (wants m is_number right y) _
    (wants_sound m (Runs n h) is_number at x r) (wants_sound m (Fits n h) is_number right y f)
    (λ s t p q. compared_runs c n h s t p.1 q.1 p.0 q.0)
operated_runs m (Equality c t r) (OfEquality d u v p q) n h at right x y a b =
    joined_sound m (Runs n h) (Fits n h) (Runs n h) x y _ a b
    (λ u v j k. some_sound m (Runs n h) (broken 13 at) (equated c t r u v)
    (equated_runs c t r n h _ _ p q (beside_runs n h (sort_of v) (sort_of u) u j) (beside_fits n h (sort_of u)
    (sort_of v) v k)))
operated_runs m Both is n h at right x y r f =
    joined_sound m (Runs n h) (Fits n h) (Runs n h) (truth m at x) (truth m right y) _ (truth_runs m n h at x r)
    (truth_fits m n h right y f)
    (λ s t p q. record {
      depth = omega (arith, p.depth, q.depth);
      opened = omega (arith, p.depth, q.depth);
      run = omega
          (arith, p.run, q.height);
      single = refl;
      big = p.big;
    })
operated_runs m Either is n h at right x y r f =
    joined_sound m (Runs n h) (Fits n h) (Runs n h) (truth m at x) (truth m right y) _ (truth_runs m n h at x r)
    (truth_fits m n h right y f)
    (λ s t p q. record {
      depth = omega (arith, p.depth, q.depth);
      opened = omega (arith, p.depth, q.depth);
      run = omega
          (arith, p.run, q.height);
      single = refl;
      big = p.big;
    })

-- ---- an index

indexed_deep : (t i : Term) → deep (indexed t i) ≤ max (deep t) (suc (term_depth i))
indexed_deep (Node (sign.Array p n k) e b) i = omega arith
indexed_deep (Node (sign.StaticArray p n k) a b) i = omega arith
indexed_deep (Node (sign.Bytes k) e b) i = omega arith
indexed_deep (Node sign.After e t) i = let r = indexed_deep t i in omega (arith, r)
indexed_deep t i = omega arith

indexed_alone : (t i : Term) → is_alone t ≡ true → (term_height (indexed t i) ≤ max (term_height t) (suc
    (term_height i))) × (is_alone (indexed t i) ≡ true)
indexed_alone (Node (sign.Array p n k) e b) i h = (omega arith, refl)
indexed_alone (Node (sign.StaticArray p n k) a b) i h = (omega arith, refl)
indexed_alone (Node (sign.Bytes k) e b) i h = (omega arith, refl)
indexed_alone (Node sign.After e t) i h = absurd (let k : false ≡ true = h in cc)
indexed_alone t i h = (omega arith, h)

indexed_run : (t i : Term) → single t ≡ true → (run_height (indexed t i) ≤ max (run_height t) (suc (term_height i)))
    × (single (indexed t i) ≡ true)
indexed_run (Node (sign.Array p n k) e b) i h = (omega arith, refl)
indexed_run (Node (sign.StaticArray p n k) a b) i h = (omega arith, refl)
indexed_run (Node (sign.Bytes k) e b) i h = (omega arith, refl)
indexed_run (Node sign.After e t) i h = let r = indexed_alone t i h in (omega (arith, r.0), r.1)
indexed_run t i h = (omega arith, h)

elements_slack : (s : Sort) → has_elements s ≡ true → slack s ≡ 2
elements_slack (Array p) h = refl
elements_slack Bytes h = refl
elements_slack s h = absurd (let k : false ≡ true = h in cc)

pub element_runs : {F : Type 0} (m : Marks F) (n h k g at right : ℕ) (x y : Judged Term F) → suc k ≤ n → 3 + g ≤ h →
    IfSound x (Runs n h) → IfSound y (Fits k g)
    → IfSound (element m at right x y) (Runs n h)
element_runs m n h k g at right x y nests high r f =
    joined_sound m (Tested (Runs n h) has_elements) (Tested (Fits k g) is_int) (Runs n h) (wants m has_elements at x)
    (wants m is_int right y) _
    (wants_sound m (Runs n h) has_elements at x r) (wants_sound m (Fits k g) is_int right y f)
    (λ t i p q.
    let o = indexed_deep t i in
    let d = deep_above (indexed t i) in
    let a = indexed_run t i p.0.single in
    let s = elements_slack (sort_of t) p.1 in
    let most = slack_most (sort_of (indexed t i)) in
    let l : run_height t + slack (sort_of t) ≤ h = p.0.run in
    let j : term_height i + slack (sort_of i) ≤ g = q.0.height in
    let td : deep t ≤ n = p.0.opened in
    let id : term_depth i ≤ k = q.0.depth in
    record {
      depth = omega (arith, d, o, td, id, nests);
      opened = omega (arith, o, td, id, nests);
      run = omega
          (arith, a.0, s, most, l, j, high);
      single = a.1;
      big = p.0.big;
    })

-- ---- `? :`

-- two branches
abbrev Branch : ℕ → ℕ → Term × Term → Type 0
Branch n h p = (term_depth p.0 ≤ n) × (term_height p.0 ≤ h) × (term_depth p.1 ≤ n) × (term_height p.1 ≤ h)

equal_fit : (n h : ℕ) (x y : Term) → Fits n h x → Fits n h y → IfSome (equal_branches x y) (Branch n h)
equal_fit n h x y f g =
    either_some (Branch n h) (is_number (sort_of x) && is_number (sort_of y)) _ _
    (λ e. let b = and_true (is_number (sort_of x)) (is_number (sort_of y)) e in
    let w = meeting x y in
    let u = fit_in_width w n h x (number_is x b.0) (meeting_first x y) f in
    let v = fit_in_width w n h y (number_is y b.1) (meeting_second x y) g in
    (u.0, omega (arith, u.1), v.0, omega (arith, v.1)))
    (λ _. either_some (Branch n h) (is_value x && is_value y && same_kind (term_kind x) (term_kind y)) _ _
    (λ _. (f.depth, omega (arith, f.height), g.depth, omega (arith, g.height))) (λ _. tt))

pub chosen_fits : {F : Type 0} (m : Marks F) (n h at left right : ℕ) (t x y : Judged Term F) (k : ℕ) → suc k ≤ n →
    IfSound t (Fits n h) → IfSound x (Fits k h) → IfSound y (Fits k h)
    → IfSound (chosen m at left right t x y) (Fits n (3 + h))
chosen_fits m n h at left right t x y k nests f g j =
    joined_sound {B = Term × Term} m (Fits n h) (Branch k h) (Fits n (3 + h)) (truth m at t)
    (branched m left right x y) _ (truth_fits m n h at t f)
    (joined_sound {C = Term × Term} m (Tested (Fits k h) is_operand) (Tested (Fits k h) is_operand) (Branch k h)
    (wants m is_operand left x) (wants m is_operand right y) _
    (wants_sound m (Fits k h) is_operand left x g) (wants_sound m (Fits k h) is_operand right y j)
    (λ u v p q. some_sound {A = Term × Term} m (Branch k h) (broken 13 right) (branches u v)
    (equal_fit k h _ _ (beside_fits k h (sort_of v) (sort_of u) u p.0) (beside_fits k h (sort_of u)
    (sort_of v) v q.0))))
    (λ test both p b.
    let s = slack_most (sort_of (Node sign.Choose test (Node sign.Pair both.0 both.1))) in
    let d0 : term_depth both.0 ≤ k = b.0 in
    let h0 : term_height both.0 ≤ h = b.1 in
    let d1 : term_depth both.1 ≤ k = b.2 in
    let h1 : term_height both.1 ≤ h = b.3 in
    record { depth = omega (arith, p.depth, d0, d1, nests); opened = omega (arith, p.depth, d0, d1, nests); height = omega (arith, s, p.height, h0, h1); single = refl; big = omega arith })
