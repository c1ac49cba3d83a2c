-- What stores come to is so nests and so high.
use Rattle.std.proofs.Common.{◌≡◌, ◌≤◌, ℕ, suc, ◌+◌, max, Bool, true, false, not, ◌&&◌, ◌||◌, if◌then◌else◌, refl, arith}
use Rattle.sed_typed.specs.declared.kind.Kind.{Kind}
use Rattle.sed_typed.specs.declared.operators.Arithmetic.{Arithmetic}
use Rattle.sed_typed.specs.declared.operators.Gives.{Gives}
use Rattle.sed_typed.specs.declared.operators.Update.{Update}
use Rattle.sed_typed.specs.declared.operators.Width.{Width}
use Rattle.sed_typed.specs.declared.operators.Width.TheVariants as width
use Rattle.sed_typed.specs.Depth.{value_depth}
use Rattle.sed_terms.specs.declared.judged.Judged.{Judged}
use Rattle.sed_terms.specs.declared.sign.Sign.TheVariants as sign
use Rattle.sed_terms.specs.Faults.{Marks, IfSound, broken}
use Rattle.sed_terms.specs.Forms.{stored, updated, is_alone}
use Rattle.sed_terms.specs.Ones.{one_in}
use Rattle.sed_terms.specs.Sorts.{term_kind, sort_of, is_place}
use Rattle.sed_terms.specs.Term.{Term, Node}
use Rattle.sed_terms.specs.TermDepth.{term_depth}
use Rattle.sed_body_rules.specs.Conversions.{is_number, is_int, is_long, width_of, in_width, placed}
use Rattle.sed_body_rules.specs.Wants.{wants}
use Rattle.sed_body_rules.specs.Stores.{target, going, assigned, is_target, number_target, storing, is_shift, is_no_longer, shifted, computed, compound, counted}
use Rattle.sed_body_laws.specs.TermHeight.{term_height}
use Rattle.sed_body_laws.proofs.Sounds.{after_sound, joined_sound, unless_sound, some_sound, any_sound, either_sound}
use Rattle.sed_body_laws.proofs.Terms.{slack, slack_most, slack_of_kind, Fits}
use Rattle.sed_body_laws.proofs.Widths.{IsNumber, number_is, fit_in_width, Goes, placed_goes}
use Rattle.sed_body_laws.proofs.Operands.{Tested, wants_sound, width_sort, int_slack}

-- ---- a store behind an instance stays behind it

stored_alone : (t v : Term) → is_alone t ≡ true → stored t v ≡ Node sign.Set t v
stored_alone (Node sign.After a b) v h = absurd (let k : false ≡ true = h in cc)
stored_alone t v h = refl

updated_alone : (u : Update) (t v : Term) → is_alone t ≡ true → updated u t v ≡ Node (sign.Update u) t v
updated_alone u (Node sign.After a b) v h = absurd (let k : false ≡ true = h in cc)
updated_alone u t v h = refl

-- what is stored, with the slack of its place
pub record Operand (n h s : ℕ) (t : Term) : Type 0 where
  pub depth : term_depth t ≤ n
  pub height : term_height t + s ≤ h

set_fits : (n h g k : ℕ) (s v : Term) → suc k ≤ n → is_alone s ≡ true → Fits n h s →
    Operand k g (slack (sort_of s)) v → Fits n (suc (max h (suc g))) (Node sign.Set s v)
set_fits n h g k s v nests alone f o =
    let e = slack_of_kind s in
    record {
      depth = omega (arith, nests, f.depth, o.depth);
      opened = omega
          (arith, nests, f.depth, o.depth);
      height = omega (arith, e, f.height, o.height);
      single = refl;
      big = omega
          (arith, f.big);
    }

set_behind : (n h g k : ℕ) (e t v : Term) → suc k ≤ n → is_alone t ≡ true → Fits n h (Node sign.After e t) →
    Operand k g (slack (sort_of t)) v
    → Fits n (suc (max h (suc g))) (Node sign.After e (Node sign.Set t v))
set_behind n h g k e t v nests alone f o =
    let q = slack_of_kind t in
    record {
      depth = omega (arith, nests, f.depth, o.depth);
      opened = omega
          (arith, nests, f.depth, o.depth);
      height = omega (arith, q, f.height, o.height);
      single = refl;
      big = omega
          (arith, f.big);
    }

pub stored_fits : (n h g k : ℕ) (s v : Term) → suc k ≤ n → Fits n h s → Operand k g (slack (sort_of s)) v →
    Fits n (suc (max h (suc g))) (stored s v)
stored_fits n h g k (Node sign.After e t) v nests f o = rw (stored_alone t v f.single)
    (set_behind n h g k e t v nests f.single f o)
stored_fits n h g k t v nests f o = set_fits n h g k t v nests refl f o

update_fits : (u : Update) (n h g : ℕ) (s v : Term) → value_depth u.gives (term_depth v) ≤ n → is_alone s ≡ true →
    Fits n h s → term_height v + slack (sort_of s) ≤ g
    → Fits n (suc (max h (suc g))) (Node (sign.Update u) s v)
update_fits u n h g s v nests alone f o =
    let e = slack_of_kind s in
    record {
      depth = omega (arith, nests, f.depth);
      opened = omega (arith, nests, f.depth);
      height = omega
          (arith, e, f.height, o);
      single = refl;
      big = omega (arith, f.big);
    }

update_behind : (u : Update) (n h g : ℕ) (e t v : Term) → value_depth u.gives (term_depth v) ≤ n → is_alone t ≡ true →
    Fits n h (Node sign.After e t) → term_height v + slack (sort_of t) ≤ g
    → Fits n (suc (max h (suc g))) (Node sign.After e (Node (sign.Update u) t v))
update_behind u n h g e t v nests alone f o =
    let q = slack_of_kind t in
    record {
      depth = omega (arith, nests, f.depth);
      opened = omega (arith, nests, f.depth);
      height = omega
          (arith, q, f.height, o);
      single = refl;
      big = omega (arith, f.big);
    }

pub updated_fits : (u : Update) (n h g : ℕ) (s v : Term) → value_depth u.gives (term_depth v) ≤ n → Fits n h s →
    term_height v + slack (sort_of s) ≤ g
    → Fits n (suc (max h (suc g))) (updated u s v)
updated_fits u n h g (Node sign.After e t) v nests f o = rw (updated_alone u t v f.single)
    (update_behind u n h g e t v nests f.single f o)
updated_fits u n h g t v nests f o = update_fits u n h g t v nests refl f o

-- ---- the rules

pub target_fits : {F : Type 0} (m : Marks F) (n h at : ℕ) (may : Bool) (x : Judged Term F) → IfSound x (Fits n h) →
    IfSound (target m at may x) (Fits n h)
target_fits m n h at may x f = after_sound (Fits n h) (Fits n h) x _ f (λ t p. unless_sound m (Fits n h)
    (may && is_place t) (broken 14 at) t (λ e. p))

pub going_goes : {F : Type 0} (m : Marks F) (below : ℕ → ℕ → Bool) (n h : ℕ) (to : Kind) (at : ℕ) (t : Term) →
    Fits n h t → IfSound (going m below to at t) (Goes n h to)
going_goes m below n h to at t f = some_sound m (Goes n h to) (broken 15 at) (placed below to t)
    (placed_goes below n h to t f)

pub assigned_fits : {F : Type 0} (m : Marks F) (below : ℕ → ℕ →
    Bool) (n h g k at : ℕ) (may : Bool) (right : ℕ) (x y : Judged Term F) → suc k ≤ n → IfSound x (Fits n h) →
    IfSound y (Fits k g)
    → IfSound (assigned m below at may right x y) (Fits n (suc (max h (suc g))))
assigned_fits m below n h g k at may right x y nests f j =
    joined_sound m (Fits n h) (Fits k g) (Fits n (suc (max h (suc g)))) (target m at may x) y _
    (target_fits m n h at may x f) j
    (λ s t p q. after_sound (Goes k g (term_kind s)) (Fits n (suc (max h (suc g)))) (going m below
    (term_kind s) right t) _ (going_goes m below k g (term_kind s) right t q)
    (λ v o. stored_fits n h g k s v nests p (let e = slack_of_kind s in record {
      depth = o.depth;
      height = omega
          (arith, e, o.height);
    })))

pub number_target_fits : {F : Type 0} (m : Marks F) (n h at : ℕ) (may : Bool) (left : ℕ) (x : Judged Term F) →
    IfSound x (Fits n h)
    → IfSound (number_target m at may left x) (Tested (Fits n h) is_number)
number_target_fits m n h at may left x f = after_sound (Fits n h) (Tested (Fits n h) is_number) x _ f
    (λ t p. after_sound {A = Bool} (λ _. is_number (sort_of t)
    ≡ true) (Tested (Fits n h) is_number) (is_target m at left (may && is_place t) (is_number (sort_of t))) _
    (joined_sound m (λ _. Unit {0}) (λ _. is_number (sort_of t) ≡ true) (λ _. is_number (sort_of t)
    ≡ true) _ _ _ (any_sound _)
    (unless_sound m (λ _. is_number (sort_of t) ≡ true) (is_number (sort_of t)) (broken 13 left) (is_number
    (sort_of t)) (λ e. e)) (λ a b u v. v))
    (λ number e. (p, e)))

shifted_fits : {F : Type 0} (m : Marks F) (a : Arithmetic) (n h g k at : ℕ) (may : Bool) (right : ℕ)
    (x y : Judged Term F) → suc k ≤ n → IfSound x (Fits n h) → IfSound y (Fits k g)
    → IfSound (shifted m a at may right x y) (Fits n (suc (max h (suc g))))
shifted_fits m a n h g k at may right x y nests f j =
    joined_sound m (Tested (Fits n h) is_number) (Tested (Fits k g) is_int) (Fits n (suc (max h (suc g))))
    (number_target m at may at x) (wants m is_int right y) _
    (number_target_fits m n h at may at x f) (wants_sound m (Fits k g) is_int right y j)
    (λ s t p q.
    let i = int_slack t q.1 in
    let most = slack_most (sort_of s) in
    let d : term_depth t ≤ k = q.0.depth in
    let l : term_height t + slack (sort_of t) ≤ g = q.0.height in
    updated_fits (storing a (width_of s)) n h g s t (omega (arith, d, nests)) p.0 (omega (arith, i, most, l)))

-- an operand in the width of its place
no_longer : (s t : Term) (n h g k : ℕ) → IsNumber s → IsNumber t → is_no_longer s t ≡ true → Fits k g t
    → (term_depth (in_width (width_of s) t) ≤ k) × (term_height (in_width (width_of s) t) + slack (sort_of s) ≤ g)
no_longer s t n h g k a b e f =
    let w = fit_in_width (width_of s) k g t b (short a) f in
    let q = width_sort s a in
    (w.0, omega (arith, w.1, q))
  where
    short : IsNumber s → width_of s ≡ width.Int → is_long (sort_of t) ≡ false
    short a w = at (is_long (sort_of s)) (is_long (sort_of t)) w e
      where
        at : (x y : Bool) → (if x then width.Long else width.Int) ≡ width.Int → (x || not y) ≡ true → y ≡ false
        at true y w e = absurd (let k : width.Long ≡ width.Int = w in cc)
        at false true w e = absurd (let k : false ≡ true = e in cc)
        at false false w e = refl

computed_fits : {F : Type 0} (m : Marks F) (a : Arithmetic) (n h g k at : ℕ) (may : Bool) (right : ℕ)
    (x y : Judged Term F) → suc k ≤ n → IfSound x (Fits n h) → IfSound y (Fits k g)
    → IfSound (computed m a at may right x y) (Fits n (suc (max h (suc g))))
computed_fits m a n h g k at may right x y nests f j =
    joined_sound m (Tested (Fits n h) is_number) (Tested (Fits k g) is_number) (Fits n (suc (max h (suc g))))
    (number_target m at may at x) (wants m is_number right y) _
    (number_target_fits m n h at may at x f) (wants_sound m (Fits k g) is_number right y j)
    (λ s t p q. either_sound (Fits n (suc (max h (suc g)))) (is_no_longer s t) _ _
    (λ e. let w = no_longer s t n h g k (number_is s p.1) (number_is t q.1) e q.0 in
    updated_fits (storing a (width_of s)) n h g s (in_width (width_of s) t) (omega (arith, w.0, nests)) p.0 w.1)
    (λ _. tt))

pub compound_fits : {F : Type 0} (m : Marks F) (a : Arithmetic) (n h g k at : ℕ) (may : Bool) (right : ℕ)
    (x y : Judged Term F) → suc k ≤ n → IfSound x (Fits n h) → IfSound y (Fits k g)
    → IfSound (compound m a at may right x y) (Fits n (suc (max h (suc g))))
compound_fits m a n h g k at may right x y nests f j =
    either_sound (Fits n (suc (max h (suc g)))) (is_shift a) _ _
    (λ e. shifted_fits m a n h g k at may right x y nests f j)
    (λ e. computed_fits m a n h g k at may right x y nests f j)

one_depth : (w : Width) → (term_depth (one_in w) ≡ 0) × (term_height (one_in w) ≡ 1)
one_depth width.Int = (refl, refl)
one_depth width.Long = (refl, refl)

-- ++ and -- in front nest
pub counted_fits : {F : Type 0} (m : Marks F) (a : Arithmetic) (gives : Gives) (n h at : ℕ) (may : Bool) (left : ℕ)
    (x : Judged Term F) → value_depth gives 0 ≤ n → IfSound x (Fits n h)
    → IfSound (counted m a gives at may left x) (Fits n (2 + h))
counted_fits m a gives n h at may left x nests f =
    after_sound (Tested (Fits n h) is_number) (Fits n (2 + h)) (number_target m at may left x) _
    (number_target_fits m n h at may left x f)
    (λ s p.
    let o = one_depth (width_of s) in
    let most = slack_most (sort_of s) in
    let big : 3 ≤ h = p.0.big in
    let d : value_depth gives (term_depth (one_in (width_of s))) ≤ n = rw (o.0) nests in
    let r : Fits n (suc (max h (suc h))) (updated (record { arithmetic = a; width = width_of s; gives = gives }) s
    (one_in (width_of s))) =
    updated_fits (record { arithmetic = a; width = width_of s; gives = gives }) n h h s (one_in (width_of s)) d p.0
    (omega (arith, o.1, most, big)) in
    record {
      depth = r.depth;
      opened = r.opened;
      height = omega (arith, r.height);
      single = r.single;
      big = omega
          (arith, r.big);
    })
