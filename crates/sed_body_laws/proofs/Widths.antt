-- Numbers in a width, `null` beside a value, and values in places.
use Rattle.std.proofs.Common.{◌∙◌, ◌≡◌, ◌≤◌, ℕ, ◌+◌, Bool, true, false, ◌||◌, if◌then◌else◌, IfSome, Some, None, refl, sym, subst, arith, ap}
use Rattle.sed_typed.specs.declared.kind.Kind.{Kind}
use Rattle.sed_typed.specs.declared.kind.Kind.TheVariants as kind
use Rattle.sed_typed.specs.declared.operators.Width.{Width}
use Rattle.sed_typed.specs.declared.operators.Width.TheVariants as width
use Rattle.sed_terms.specs.declared.sign.Sign.TheVariants as sign
use Rattle.sed_terms.specs.declared.sort.Sort.{Sort}
use Rattle.sed_terms.specs.declared.sort.Sort.TheVariants.{Of, Nothing}
use Rattle.sed_terms.specs.Sorts.{term_kind, sort_of}
use Rattle.sed_terms.specs.Term.{Term, Node}
use Rattle.sed_terms.specs.TermDepth.{term_depth}
use Rattle.sed_body_rules.specs.Conversions.{is_number, is_long, same_kind, meeting, in_width, null_in, or_itself, beside, converted, placed_by, placed}
use Rattle.sed_body_laws.specs.TermHeight.{term_height, run_height}
use Rattle.sed_body_laws.proofs.Sounds.{either_some}
use Rattle.sed_body_laws.proofs.Terms.{slack, Fits, Runs, run_near}

-- ---- widths

abbrev pub width_slack : Width → ℕ
width_slack width.Int = 2
width_slack width.Long = 0

-- a number is an int or a long
pub data IsNumber (t : Term) : Type 0 where
  IsInt : is_long (sort_of t) ≡ false → term_kind t ≡ kind.Int → slack (sort_of t) ≡ 2 → IsNumber t
  IsLong : is_long (sort_of t) ≡ true → term_kind t ≡ kind.Long → slack (sort_of t) ≡ 0 → IsNumber t

abbrev kind_in : Sort → Kind
kind_in (Of k) = k
kind_in s = kind.Void

kind_is : (t : Term) → kind_in (sort_of t) ≡ term_kind t
kind_is (Node sign.After a b) = kind_is b
kind_is t = refl

pub number_is : (t : Term) → is_number (sort_of t) ≡ true → IsNumber t
number_is t h = at (sort_of t) refl h
  where
    at : (s : Sort) → sort_of t ≡ s → is_number s ≡ true → IsNumber t
    at (Of kind.Int) e h = IsInt (ap is_long e) (sym (kind_is t) ∙ ap kind_in e) (ap slack e)
    at (Of kind.Long) e h = IsLong (ap is_long e) (sym (kind_is t) ∙ ap kind_in e) (ap slack e)
    at s e h = absurd (let k : false ≡ true = h in cc)

-- a left operand in a width that is long where it is
pub run_in_width : (w : Width) (n h : ℕ) (t : Term) → IsNumber t → (w ≡ width.Int → is_long (sort_of t) ≡ false) →
    Runs n h t
    → (term_depth (in_width w t) ≤ n) × (run_height (in_width w t) + width_slack w ≤ h)
run_in_width width.Int n h t (IsInt l k s) short r =
    let a : run_height t + 2 ≤ h = subst (λ z. run_height t + z ≤ h) s r.run in
    rw k (r.depth, a)
run_in_width width.Int n h t (IsLong l k s) short r = absurd (let a : true ≡ false = sym l ∙ short refl in cc)
run_in_width width.Long n h t (IsInt l k s) short r =
    let a : run_height t + 2 ≤ h = subst (λ z. run_height t + z ≤ h) s r.run in
    let b = run_near t in
    rw k (r.depth, omega (arith, a, b))
run_in_width width.Long n h t (IsLong l k s) short r =
    let a : run_height t + 0 ≤ h = subst (λ z. run_height t + z ≤ h) s r.run in
    rw k (r.depth, omega (arith, a))

-- and a right one
pub fit_in_width : (w : Width) (n h : ℕ) (t : Term) → IsNumber t → (w ≡ width.Int → is_long (sort_of t) ≡ false) →
    Fits n h t
    → (term_depth (in_width w t) ≤ n) × (term_height (in_width w t) + width_slack w ≤ h)
fit_in_width width.Int n h t (IsInt l k s) short r =
    let a : term_height t + 2 ≤ h = subst (λ z. term_height t + z ≤ h) s r.height in
    rw k (r.depth, a)
fit_in_width width.Int n h t (IsLong l k s) short r = absurd (let a : true ≡ false = sym l ∙ short refl in cc)
fit_in_width width.Long n h t (IsInt l k s) short r =
    let a : term_height t + 2 ≤ h = subst (λ z. term_height t + z ≤ h) s r.height in
    rw k (r.depth, omega (arith, a))
fit_in_width width.Long n h t (IsLong l k s) short r =
    let a : term_height t + 0 ≤ h = subst (λ z. term_height t + z ≤ h) s r.height in
    rw k (r.depth, omega (arith, a))

-- the width in which two numbers meet is long where one of them is
pub meeting_first : (x y : Term) → meeting x y ≡ width.Int → is_long (sort_of x) ≡ false
meeting_first x y e = at (is_long (sort_of x)) (is_long (sort_of y)) e
  where
    at : (a b : Bool) → (if a || b then width.Long else width.Int) ≡ width.Int → a ≡ false
    at true b e = absurd (let k : width.Long ≡ width.Int = e in cc)
    at false b e = refl

pub meeting_second : (x y : Term) → meeting x y ≡ width.Int → is_long (sort_of y) ≡ false
meeting_second x y e = at (is_long (sort_of x)) (is_long (sort_of y)) e
  where
    at : (a b : Bool) → (if a || b then width.Long else width.Int) ≡ width.Int → b ≡ false
    at true true e = absurd (let k : width.Long ≡ width.Int = e in cc)
    at true false e = refl
    at false true e = absurd (let k : width.Long ≡ width.Int = e in cc)
    at false false e = refl

-- ---- `null`

null_fits : (n h : ℕ) (k : Kind) (t : Term) → 3 ≤ h → Fits n h t → Fits n h (or_itself (null_in k) t)
null_fits n h kind.Bool t big f = record {
  depth = omega arith;
  opened = omega arith;
  height = omega
      (arith, big);
  single = refl;
  big = big;
}
null_fits n h kind.Text t big f = record {
  depth = omega arith;
  opened = omega arith;
  height = omega
      (arith, big);
  single = refl;
  big = big;
}
null_fits n h (kind.Object class) t big f = record {
  depth = omega arith;
  opened = omega arith;
  height = omega
      (arith, big);
  single = refl;
  big = big;
}
null_fits n h k t big f = f

pub beside_fits : (n h : ℕ) (other own : Sort) (t : Term) → Fits n h t → Fits n h (beside other own t)
beside_fits n h (Of k) Nothing t f = null_fits n h k t f.big f
beside_fits n h Nothing Nothing t f = record {
  depth = omega arith;
  opened = omega arith;
  height = omega
      (arith, f.big);
  single = refl;
  big = f.big;
}
beside_fits n h other own t f = f

null_runs : (n h : ℕ) (k : Kind) (t : Term) → 3 ≤ h → Runs n h t → Runs n h (or_itself (null_in k) t)
null_runs n h kind.Bool t big f = record {
  depth = omega arith;
  opened = omega arith;
  run = omega
      (arith, big);
  single = refl;
  big = big;
}
null_runs n h kind.Text t big f = record {
  depth = omega arith;
  opened = omega arith;
  run = omega
      (arith, big);
  single = refl;
  big = big;
}
null_runs n h (kind.Object class) t big f = record {
  depth = omega arith;
  opened = omega arith;
  run = omega
      (arith, big);
  single = refl;
  big = big;
}
null_runs n h k t big f = f

pub beside_runs : (n h : ℕ) (other own : Sort) (t : Term) → Runs n h t → Runs n h (beside other own t)
beside_runs n h (Of k) Nothing t f = null_runs n h k t f.big f
beside_runs n h Nothing Nothing t f = record {
  depth = omega arith;
  opened = omega arith;
  run = omega
      (arith, f.big);
  single = refl;
  big = f.big;
}
beside_runs n h other own t f = f

-- ---- places

-- a value in a place of a kind
pub record Goes (n h : ℕ) (to : Kind) (t : Term) : Type 0 where
  pub depth : term_depth t ≤ n
  pub height : term_height t + slack (Of to) ≤ h

same_slack : (a b : Kind) → same_kind a b ≡ true → slack (Of a) ≡ slack (Of b)
same_slack kind.Void kind.Void h = refl
same_slack kind.Bool kind.Bool h = refl
same_slack kind.Int kind.Int h = refl
same_slack kind.Long kind.Long h = refl
same_slack kind.Text kind.Text h = refl
same_slack (kind.Object c) (kind.Object d) h = refl
same_slack a b h = absurd (let k : false ≡ true = h in cc)

converted_goes : (below : ℕ → ℕ → Bool) (n h : ℕ) (to from : Kind) (t : Term) → term_depth t ≤ n →
    term_height t + slack (Of from) ≤ h
    → IfSome (converted below to from t) (Goes n h to)
converted_goes below n h kind.Long kind.Int t d l = record { depth = d; height = omega (arith, l) }
converted_goes below n h (kind.Object above) (kind.Object class) t d l =
    either_some (Goes n h (kind.Object above)) (below above.0 class.0) (Some t) None
    (λ e. record { depth = d; height = l }) (λ e. tt)
converted_goes below n h to from t d l =
    either_some (Goes n h to) (same_kind to from) (Some t) None
    (λ e. record { depth = d; height = subst (λ z. term_height t + z ≤ h) (sym (same_slack to from e)) l }) (λ e. tt)

null_goes : (n h : ℕ) (to : Kind) → 3 ≤ h → IfSome (null_in to) (Goes n h to)
null_goes n h kind.Bool big = record { depth = omega arith; height = omega (arith, big) }
null_goes n h kind.Text big = record { depth = omega arith; height = omega (arith, big) }
null_goes n h (kind.Object class) big = record { depth = omega arith; height = omega (arith, big) }
null_goes n h k big = tt

pub placed_goes : (below : ℕ → ℕ → Bool) (n h : ℕ) (to : Kind) (t : Term) → Fits n h t →
    IfSome (placed below to t) (Goes n h to)
placed_goes below n h to t f = at (sort_of t) f.height
  where
    at : (s : Sort) → term_height t + slack s ≤ h → IfSome (placed_by below to s t) (Goes n h to)
    at (Of from) l = converted_goes below n h to from t f.depth l
    at Nothing l = null_goes n h to f.big
    at s l = tt
