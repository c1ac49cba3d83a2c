-- The locals of a frame of the machine agree with those of the source.
use Rattle.std.proofs.Common.{◌≡◌, ℕ, zero, suc, ◌+◌, ◌<◌, ◌≤◌, Bool, false, List, [], ◌∷◌, length, Some, slice_get, slice_set, refl, ap, ◌∙◌, arith}
use Rattle.sed_typed.specs.declared.kind.Kind.{Kind}
use Rattle.sed_typed.specs.declared.kind.Kind.TheVariants as kind
use Rattle.sed_engine.specs.Values.{Val, Nothing, Truth, Int, Long, Null, At, Literal, Spot, begun}
use Rattle.sed_engine.proofs.Below.{absent}
use Rattle.scode_code.specs.Machine.{Frame, pushed}

-- a frame that runs: its method, whether that is static, the kinds of its own locals, and the frames below
pub record Running : Type 0 where
  pub method : ℕ
  pub static : Bool
  pub kinds : List Kind
  pub below : List Frame

-- each local of the source as it is once it is begun, and four of the compiler's behind them
abbrev pub AgreeOn : List Kind → List Val → List Val → Type 0
AgreeOn [] vs ms = length ms ≡ 4
AgreeOn (k ∷ ks) [] ms = ⊥
AgreeOn (k ∷ ks) (v ∷ vs) [] = ⊥
AgreeOn (k ∷ ks) (v ∷ vs) (m ∷ ms) = (begun k v ≡ m) × AgreeOn ks vs ms

-- the receiver is an object
pub record Agree (x : Running) (vs ms : List Val) : Type 0 where
  pub each : AgreeOn x.kinds vs ms
  pub this : x.static ≡ false → (spot : Spot) × (slice_get vs 0 ≡ Some (At spot))

-- ---- values that have a cell

abbrev pub IsCell : Val → Type 0
IsCell Nothing = ⊥
IsCell v = Unit {0}

pub pushed_is : (v : Val) (stack : List Val) → IsCell v → pushed v stack ≡ v ∷ stack
pushed_is Nothing stack c = absurd c
pushed_is (Truth t) stack c = refl
pushed_is (Int n) stack c = refl
pushed_is (Long n) stack c = refl
pushed_is Null stack c = refl
pushed_is (At spot) stack c = refl
pushed_is (Literal n) stack c = refl

pub begun_is : (k : Kind) (v : Val) → IsCell v → begun k v ≡ v
begun_is k Nothing c = absurd c
begun_is k (Truth t) c = refl
begun_is k (Int n) c = refl
begun_is k (Long n) c = refl
begun_is k Null c = refl
begun_is k (At spot) c = refl
begun_is k (Literal n) c = refl

abbrev pub IsSolid : Kind → Type 0
IsSolid kind.Void = ⊥
IsSolid k = Unit {0}

pub begun_cell : (k : Kind) (v : Val) → IsSolid k → IsCell (begun k v)
begun_cell kind.Void Nothing s = absurd s
begun_cell kind.Bool Nothing s = tt
begun_cell kind.Int Nothing s = tt
begun_cell kind.Long Nothing s = tt
begun_cell kind.Text Nothing s = tt
begun_cell (kind.Object d) Nothing s = tt
begun_cell k (Truth t) s = tt
begun_cell k (Int n) s = tt
begun_cell k (Long n) s = tt
begun_cell k Null s = tt
begun_cell k (At spot) s = tt
begun_cell k (Literal n) s = tt

-- ---- reads and writes

pub get_agrees : (ks : List Kind) (vs ms : List Val) → AgreeOn ks vs ms → (i : ℕ) (k : Kind) → slice_get ks i ≡ Some k → (v : Val) → slice_get vs i ≡ Some v → slice_get ms i ≡ Some (begun k v)
get_agrees [] vs ms a i k h v g = absent k h
get_agrees (j ∷ ks) [] ms a i k h v g = absurd a
get_agrees (j ∷ ks) (u ∷ vs) [] a i k h v g = absurd a
get_agrees (j ∷ ks) (u ∷ vs) (m ∷ ms) a zero k h v g = cc
get_agrees (j ∷ ks) (u ∷ vs) (m ∷ ms) a (suc i) k h v g = get_agrees ks vs ms a.1 i k h v g

pub set_agrees : (ks : List Kind) (vs ms : List Val) → AgreeOn ks vs ms → (i : ℕ) (k : Kind) → slice_get ks i ≡ Some k → (v : Val) → IsCell v → AgreeOn ks (slice_set vs i v) (slice_set ms i v)
set_agrees [] vs ms a i k h v c = absent k h
set_agrees (j ∷ ks) [] ms a i k h v c = absurd a
set_agrees (j ∷ ks) (u ∷ vs) [] a i k h v c = absurd a
set_agrees (j ∷ ks) (u ∷ vs) (m ∷ ms) a zero k h v c = (begun_is j v c, a.1)
set_agrees (j ∷ ks) (u ∷ vs) (m ∷ ms) a (suc i) k h v c = (a.0, set_agrees ks vs ms a.1 i k h v c)

pub set_length : (ms : List Val) (i : ℕ) (v : Val) → length (slice_set ms i v) ≡ length ms
set_length [] i v = refl
set_length (m ∷ ms) zero v = refl
set_length (m ∷ ms) (suc i) v = ap suc (set_length ms i v)

-- a local of the compiler's is not among the source's
pub wait_agrees : (ks : List Kind) (vs ms : List Val) → AgreeOn ks vs ms → (i : ℕ) → length ks ≤ i → (v : Val) → AgreeOn ks vs (slice_set ms i v)
wait_agrees [] vs ms a i le v = set_length ms i v ∙ a
wait_agrees (j ∷ ks) [] ms a i le v = absurd a
wait_agrees (j ∷ ks) (u ∷ vs) [] a i le v = absurd a
wait_agrees (j ∷ ks) (u ∷ vs) (m ∷ ms) a zero le v = absurd (omega (arith, le))
wait_agrees (j ∷ ks) (u ∷ vs) (m ∷ ms) a (suc i) le v = (a.0, wait_agrees ks vs ms a.1 i (omega (arith, le)) v)

pub agree_length : (ks : List Kind) (vs ms : List Val) → AgreeOn ks vs ms → length ms ≡ length ks + 4
agree_length [] vs ms a = a
agree_length (j ∷ ks) [] ms a = absurd a
agree_length (j ∷ ks) (u ∷ vs) [] a = absurd a
agree_length (j ∷ ks) (u ∷ vs) (m ∷ ms) a = let e = agree_length ks vs ms a.1 in omega (arith, e)

pub there_is : {X : Type 0} (ms : List X) (i : ℕ) → i < length ms → (v : X) × (slice_get ms i ≡ Some v)
there_is [] i lt = absurd (omega (arith, lt))
there_is (m ∷ ms) zero lt = (m, refl)
there_is (m ∷ ms) (suc i) lt = there_is ms i (omega (arith, lt))

pub get_set : (ms : List Val) (i : ℕ) (v : Val) → i < length ms → slice_get (slice_set ms i v) i ≡ Some v
get_set [] i v lt = absurd (omega (arith, lt))
get_set (m ∷ ms) zero v lt = refl
get_set (m ∷ ms) (suc i) v lt = get_set ms i v (omega (arith, lt))

pub get_other : (ms : List Val) (i j : ℕ) (v : Val) → (i ≡ j → ⊥) → slice_get (slice_set ms i v) j ≡ slice_get ms j
get_other [] i j v other = refl
get_other (m ∷ ms) zero zero v other = absurd (other refl)
get_other (m ∷ ms) zero (suc j) v other = refl
get_other (m ∷ ms) (suc i) zero v other = refl
get_other (m ∷ ms) (suc i) (suc j) v other = get_other ms i j v (λ e. other (ap suc e))
