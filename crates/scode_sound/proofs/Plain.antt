-- Numbers and truth values: cells of an image's kinds are the language's values, and its operators make such of them.
use Rattle.std.proofs.Common.{◌≡◌, ◌≤◌, ◌&&◌, Bool, true, false, if◌then◌else◌, [], Result, Ok, Err, refl, arith}
use Rattle.sed_value.specs.declared.slot_type.Primitive.{Primitive}
use Rattle.sed_value.specs.declared.slot_type.Primitive.TheVariants as prim
use Rattle.sed_typed.specs.declared.kind.Kind.{Kind}
use Rattle.sed_typed.specs.declared.kind.Kind.TheVariants as kind
use Rattle.sed_typed.specs.declared.program.Program.{Program}
use Rattle.sed_typed.specs.Kinds.{read_kind}
use Rattle.sed_engine.specs.Stops.{Stop, Traps, Untyped, map_ok}
use Rattle.sed_engine.specs.Values.{Val, Nothing, Truth, Int, Long, Null, At, Literal, Spot, are_same, is_reference, same_reference, truth}
use Rattle.sed_engine.proofs.Kinded as language
use Rattle.sed_engine.proofs.Ranges.{Sound}
use Rattle.scode_image.specs.declared.image.ImageKind.{ImageKind}
use Rattle.scode_code.specs.Effect.{cell_for}
use Rattle.scode_code.specs.Fields.{Setting}
use Rattle.scode_code.specs.Kinds.{void, bool, int, long}
use Rattle.scode_sound.specs.Cells.{Block, HasKind, LeadsTo, Object, Text}
use Rattle.scode_whole.proofs.Truths.{no_truth}

-- what is said of numbers and truth values is said of each program alike, also of this one
abbrev pub nothing : Program
nothing = record {
  schema = record { kits = []; classes = [] };
  methods = [];
  fields = [];
  statics = [];
  texts = [];
}

-- a value of the language's kind
abbrev pub IsOf : Kind → Val → Type 0
IsOf k v = language.HasKind nothing 0 k v

abbrev pub IsPlain : Kind → Type 0
IsPlain kind.Void = ⊥
IsPlain kind.Bool = Unit {0}
IsPlain kind.Int = Unit {0}
IsPlain kind.Long = Unit {0}
IsPlain kind.Text = ⊥
IsPlain (kind.Object class) = ⊥

abbrev pub image_kind : Kind → ImageKind
image_kind kind.Void = void
image_kind kind.Bool = bool
image_kind kind.Int = int
image_kind kind.Long = long
image_kind kind.Text = void
image_kind (kind.Object class) = void

pub leads_high : (w : Setting) (k : ImageKind) (spot : Spot) → LeadsTo w k spot → 4 ≤ k.kind
leads_high w k spot (Text e n f) = omega (arith, e)
leads_high w k spot (Block e c s) = omega (arith, e)
leads_high w k spot (Object e at c d b) = omega (arith, e)

module _ (w : Setting) where
  pub to_bool : (k : ImageKind) (v : Val) → k.kind ≡ 1 → HasKind w k v → IsOf kind.Bool v
  to_bool k Nothing e h = absurd h
  to_bool k (Truth n) e h = h.1
  to_bool k (Int n) e h = absurd (omega (arith, e, h.0))
  to_bool k (Long n) e h = absurd (omega (arith, e, h.0))
  to_bool k Null e h = absurd (omega (arith, e, h.0))
  to_bool k (At spot) e h = let high = leads_high w k spot h in absurd (omega (arith, e, high))
  to_bool k (Literal n) e h = absurd (omega (arith, e, h.0))

  pub to_int : (k : ImageKind) (v : Val) → k.kind ≡ 2 → HasKind w k v → IsOf kind.Int v
  to_int k Nothing e h = absurd h
  to_int k (Int n) e h = h.1
  to_int k (Truth n) e h = absurd (omega (arith, e, h.0))
  to_int k (Long n) e h = absurd (omega (arith, e, h.0))
  to_int k Null e h = absurd (omega (arith, e, h.0))
  to_int k (At spot) e h = let high = leads_high w k spot h in absurd (omega (arith, e, high))
  to_int k (Literal n) e h = absurd (omega (arith, e, h.0))

  pub to_long : (k : ImageKind) (v : Val) → k.kind ≡ 3 → HasKind w k v → IsOf kind.Long v
  to_long k Nothing e h = absurd h
  to_long k (Long n) e h = h.1
  to_long k (Truth n) e h = absurd (omega (arith, e, h.0))
  to_long k (Int n) e h = absurd (omega (arith, e, h.0))
  to_long k Null e h = absurd (omega (arith, e, h.0))
  to_long k (At spot) e h = let high = leads_high w k spot h in absurd (omega (arith, e, high))
  to_long k (Literal n) e h = absurd (omega (arith, e, h.0))

  pub to_plain : (k : Kind) (v : Val) → IsPlain k → HasKind w (image_kind k) v → IsOf k v
  to_plain kind.Void v p h = absurd p
  to_plain kind.Bool v p h = to_bool bool v refl h
  to_plain kind.Int v p h = to_int int v refl h
  to_plain kind.Long v p h = to_long long v refl h
  to_plain kind.Text v p h = absurd p
  to_plain (kind.Object class) v p h = absurd p

  pub from_plain : (k : Kind) (v : Val) → IsPlain k → IsOf k v → HasKind w (image_kind k) v
  from_plain kind.Void v p h = absurd p
  from_plain kind.Bool (Truth t) p h = (refl, h)
  from_plain kind.Bool v p h = absurd h
  from_plain kind.Int (Int n) p h = (refl, h)
  from_plain kind.Int v p h = absurd h
  from_plain kind.Long (Long n) p h = (refl, h)
  from_plain kind.Long v p h = absurd h
  from_plain kind.Text v p h = absurd p
  from_plain (kind.Object class) v p h = absurd p

  pub sound_from : (k : Kind) (r : Result Val Stop) → IsPlain k → Sound (IsOf k) r → Sound (HasKind w (image_kind k)) r
  sound_from k (Ok v) p h = from_plain k v p h
  sound_from k (Err (Traps trap)) p h = tt
  sound_from k (Err Untyped) p h = h

  -- ---- references

  pub reference_is : (k : ImageKind) (v : Val) → 4 ≤ k.kind → HasKind w k v → is_reference v ≡ true
  reference_is k Nothing e h = absurd h
  reference_is k (Truth t) e h = absurd (omega (arith, e, h.0))
  reference_is k (Int n) e h = absurd (omega (arith, e, h.0))
  reference_is k (Long n) e h = absurd (omega (arith, e, h.0))
  reference_is k Null e h = refl
  reference_is k (At spot) e h = refl
  reference_is k (Literal n) e h = refl

  pub compared_is : (f : Bool → Val) → ((b : Bool) → HasKind w bool (f b)) → (a b : Val) → is_reference a ≡ true
      → is_reference b ≡ true → Sound (HasKind w bool) (map_ok f (same_reference a b))
  compared_is f each a b x y = go (is_reference a) (is_reference b) x y
    where
      go : (x y : Bool) → x ≡ true → y ≡ true
          → Sound (HasKind w bool) (map_ok f (if x && y then Ok (are_same a b) else Err Untyped))
      go true true d e = each (are_same a b)
      go true false d e = no_truth e
      go false y d e = no_truth d

  pub truth_is : (b : Bool) → HasKind w bool (truth b)
  truth_is true = (refl, refl)
  truth_is false = (refl, refl)

-- ---- a cell for a field

pub plain_read : (p : Primitive) → IsPlain (read_kind p)
plain_read prim.Bool = tt
plain_read prim.Byte = tt
plain_read prim.Short = tt
plain_read prim.Int = tt
plain_read prim.Long = tt

pub cell_is : (p : Primitive) (v : Val) → IsOf (read_kind p) v → Sound (IsOf (read_kind p)) (cell_for p v)
cell_is prim.Bool (Truth t) h = h
cell_is prim.Byte (Int n) h = h
cell_is prim.Short (Int n) h = h
cell_is prim.Int (Int n) h = h
cell_is prim.Long (Long n) h = h
cell_is prim.Bool v h = absurd h
cell_is prim.Byte v h = absurd h
cell_is prim.Short v h = absurd h
cell_is prim.Int v h = absurd h
cell_is prim.Long v h = absurd h
