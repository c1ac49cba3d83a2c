-- What is stored, as a read gives it: the value of an assignment.
use Rattle.std.proofs.Common.{◌≡◌, ℕ, ℤ, Ok, refl, sym, ap, ◌∙◌}
use Rattle.std.specs.Prelude.{pos}
use Rattle.std.specs.Int.{w8, w16}
use Rattle.sed_value.specs.Wrap.{low_bits}
use Rattle.sed_value.specs.declared.slot_type.Primitive.{Primitive}
use Rattle.sed_value.specs.declared.slot_type.Primitive.TheVariants as prim
use Rattle.sed_value.specs.declared.value.Value.{Value}
use Rattle.sed_value.specs.declared.value.Value.TheVariants as kept
use Rattle.sed_value.proofs.WrapLemmas.{low_bits-only, low_bits-below}
use Rattle.sed_typed.specs.declared.kind.Kind.{Kind}
use Rattle.sed_typed.specs.declared.kind.Kind.TheVariants as kind
use Rattle.sed_typed.specs.Kinds.{read_kind, width_kind}
use Rattle.sed_typed.specs.declared.program.Program.{Program}
use Rattle.sed_engine.specs.State.{State, End, gives, answers, then_do}
use Rattle.sed_engine.specs.Steps.{store, write_spot}
use Rattle.sed_engine.specs.Values.{Val, Nothing, Truth, Int, Long, Null, At, Literal, Spot, stored_as, read_as}
use Rattle.sed_engine.proofs.Kinded.{HasKind}
use Rattle.scode_sim.proofs.Frames.{IsCell, IsSolid}
use Rattle.scode_sim.proofs.Operations.{IsFor, then_assoc, then_same}
use Rattle.sed_typed.specs.declared.operators.Width.{Width}
use Rattle.sed_typed.specs.declared.operators.Width.TheVariants as width

low_twice : (width : _) (n : ℤ) → low_bits width (pos (low_bits width n)) ≡ low_bits width n
low_twice width n = sym (low_bits-only width (pos (low_bits width n)) (low_bits width n) (low_bits-below width n) (0, 0, refl))

-- a value as a read gives it once it is stored
abbrev pub narrowed : Primitive → Val → Val
narrowed prim.Byte (Int n) = Int (pos (low_bits w8 n))
narrowed prim.Short (Int n) = Int (pos (low_bits w16 n))
narrowed p v = v

-- what is kept of a value, and that it is what is kept of the narrowed one
pub record Stored (p : Primitive) (v : Val) : Type 0 where
  pub new : Value
  pub kept_as : stored_as p v ≡ Ok new
  pub again : stored_as p (narrowed p v) ≡ Ok new
  pub read : read_as new ≡ Ok (narrowed p v)
  pub fits : IsFor p (narrowed p v)
  pub cell : IsCell (narrowed p v)

pub stored : (p : Primitive) (v : Val) → IsFor p v → Stored p v
stored prim.Bool (Truth t) h = record { new = kept.Bool t; kept_as = refl; again = refl; read = refl; fits = tt; cell = tt }
stored prim.Byte (Int n) h = record {
  new = kept.Byte (low_bits w8 n);
  kept_as = refl;
  again = ap (λ m. Ok (kept.Byte m)) (low_twice w8 n);
  read = refl;
  fits = tt;
  cell = tt;
}
stored prim.Short (Int n) h = record {
  new = kept.Short (low_bits w16 n);
  kept_as = refl;
  again = ap (λ m. Ok (kept.Short m)) (low_twice w16 n);
  read = refl;
  fits = tt;
  cell = tt;
}
stored prim.Int (Int n) h = record { new = kept.Int n; kept_as = refl; again = refl; read = refl; fits = tt; cell = tt }
stored prim.Long (Long n) h = record { new = kept.Long n; kept_as = refl; again = refl; read = refl; fits = tt; cell = tt }
stored prim.Bool v h = absurd h
stored prim.Byte v h = absurd h
stored prim.Short v h = absurd h
stored prim.Int v h = absurd h
stored prim.Long v h = absurd h

written : (p : Primitive) (spot : Spot) (v u : Val) (new : Value) (s : State) → stored_as p v ≡ Ok new → read_as new ≡ Ok u →
    write_spot p spot v s ≡ then_do (store spot new s) (λ _ s2. gives u s2)
written p spot v u new s k r =
    ap (λ o. then_do (answers o s) (λ x s1. then_do (store spot x s1) (λ _ s2. answers (read_as x) s2))) k
    ∙ ap (λ o. then_do (store spot new s) (λ _ s2. answers o s2)) r

-- a value is stored at the place that a step finds
abbrev pub stores : (State → End Spot) → Value → State → End (Unit {0})
stores spot_at new s = then_do (spot_at s) (λ spot s1. store spot new s1)

abbrev pub writes : Primitive → (State → End Spot) → Val → State → End Val
writes p spot_at v s = then_do (spot_at s) (λ spot s1. write_spot p spot v s1)

writes_as : (p : Primitive) (spot_at : State → End Spot) (v u : Val) (new : Value) → stored_as p v ≡ Ok new → read_as new ≡ Ok u → (s : State) →
    writes p spot_at v s ≡ then_do (stores spot_at new s) (λ _ s2. gives u s2)
writes_as p spot_at v u new k r s =
    then_same (spot_at s) (λ spot s1. write_spot p spot v s1) (λ spot s1. then_do (store spot new s1) (λ _ s2. gives u s2)) (λ spot s1. written p spot v u new s1 k r)
    ∙ sym (then_assoc (spot_at s) (λ spot s1. store spot new s1) (λ _ s2. gives u s2))

-- the write of a value and that of the narrowed one are the same, and give the narrowed one
pub writes_is : (p : Primitive) (spot_at : State → End Spot) (v : Val) (h : IsFor p v) (s : State) →
    writes p spot_at v s ≡ then_do (stores spot_at (stored p v h).new s) (λ _ s2. gives (narrowed p v) s2)
writes_is p spot_at v h s = let k = stored p v h in writes_as p spot_at v (narrowed p v) k.new k.kept_as k.read s

pub writes_again : (p : Primitive) (spot_at : State → End Spot) (v : Val) (h : IsFor p v) (s : State) →
    writes p spot_at (narrowed p v) s ≡ then_do (stores spot_at (stored p v h).new s) (λ _ s2. gives (narrowed p v) s2)
writes_again p spot_at v h s = let k = stored p v h in writes_as p spot_at (narrowed p v) (narrowed p v) k.new k.again k.read s

-- ---- values of kinds

pub for_kind : (program : Program) (class : ℕ) (p : Primitive) (v : Val) → HasKind program class (read_kind p) v → IsFor p v
for_kind program class prim.Bool (Truth t) h = tt
for_kind program class prim.Byte (Int n) h = tt
for_kind program class prim.Short (Int n) h = tt
for_kind program class prim.Int (Int n) h = tt
for_kind program class prim.Long (Long n) h = tt
for_kind program class prim.Bool v h = absurd h
for_kind program class prim.Byte v h = absurd h
for_kind program class prim.Short v h = absurd h
for_kind program class prim.Int v h = absurd h
for_kind program class prim.Long v h = absurd h

pub read_solid : (p : Primitive) → IsSolid (read_kind p)
read_solid prim.Bool = tt
read_solid prim.Byte = tt
read_solid prim.Short = tt
read_solid prim.Int = tt
read_solid prim.Long = tt

-- a value of a kind that is not void has a cell
pub cell_of_kind : (program : Program) (class : ℕ) (k : Kind) (v : Val) → IsSolid k → HasKind program class k v → IsCell v
cell_of_kind program class kind.Void v s h = absurd s
cell_of_kind program class kind.Bool Nothing s h = h
cell_of_kind program class kind.Int Nothing s h = h
cell_of_kind program class kind.Long Nothing s h = h
cell_of_kind program class kind.Text Nothing s h = h
cell_of_kind program class (kind.Object d) Nothing s h = h
cell_of_kind program class k (Truth t) s h = tt
cell_of_kind program class k (Int n) s h = tt
cell_of_kind program class k (Long n) s h = tt
cell_of_kind program class k Null s h = tt
cell_of_kind program class k (At spot) s h = tt
cell_of_kind program class k (Literal n) s h = tt

pub width_solid : (k : Width) → IsSolid (width_kind k)
width_solid width.Int = tt
width_solid width.Long = tt
