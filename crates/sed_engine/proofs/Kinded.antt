-- What a value of a kind is, and what the operators make of such values.
use Rattle.std.proofs.Common.{◌≡◌, ◌<◌, ℕ, Bool, true, false, not, ◌&&◌, if◌then◌else◌, length, map, Option, Some, Result, Ok, Err, refl, subst, ℤ, pos, negsuc}
use Rattle.std.specs.Prelude.{nat_le, nat_lt}
use Rattle.std.specs.Int.{w32, w64}
use Rattle.sed_value.specs.Value.{is_signed, is_of_type}
use Rattle.sed_value.specs.declared.value.Value.{Value}
use Rattle.sed_value.specs.declared.value.Value.TheVariants as kept
use Rattle.sed_value.specs.declared.slot_type.Primitive.{Primitive}
use Rattle.sed_value.specs.declared.slot_type.Primitive.TheVariants as prim
use Rattle.sed_value.specs.declared.slot_type.SlotType.TheVariants as slot
use Rattle.sed_typed.specs.declared.kind.Kind.{Kind}
use Rattle.sed_typed.specs.declared.kind.Kind.TheVariants as kind
use Rattle.sed_typed.specs.declared.operators.Arithmetic.{Arithmetic}
use Rattle.sed_typed.specs.declared.operators.Arithmetic.TheVariants as arithmetic
use Rattle.sed_typed.specs.declared.operators.Binary.{Binary}
use Rattle.sed_typed.specs.declared.operators.Binary.TheVariants as binary
use Rattle.sed_typed.specs.declared.operators.Unary.{Unary}
use Rattle.sed_typed.specs.declared.operators.Unary.TheVariants as unary
use Rattle.sed_typed.specs.declared.operators.Width.{Width}
use Rattle.sed_typed.specs.declared.operators.Width.TheVariants as width
use Rattle.sed_typed.specs.declared.program.FieldForm.{FieldForm}
use Rattle.sed_typed.specs.declared.program.FieldForm.TheVariants as form
use Rattle.sed_typed.specs.declared.program.Program.{Program}
use Rattle.sed_typed.specs.Contents.{Path}
use Rattle.sed_typed.specs.Kinds.{read_kind, width_kind, unary_kind, binary_kind}
use Rattle.sed_typed.specs.TypedExpr.{GoesTo, IsReference, AreOperands, operand_kind, right_kind}
use Rattle.sed_engine.specs.declared.trap.Trap.TheVariants.{OutOfRange}
use Rattle.sed_engine.specs.Stops.{Stop, Traps, Untyped, map_ok, and_then}
use Rattle.sed_engine.specs.Values.{Val, Nothing, Truth, Int, Long, Null, At, Literal, Base, Component, Statics, Spot, truth, whole, truth_of, is_met, is_reference, are_same, same_reference, read_as, stored_as, zero_of, begun}
use Rattle.sed_engine.specs.Texts.{index_of}
use Rattle.sed_engine.specs.Operators.{bits_of, right_width, number, computed, arithmetic_of, binary_of, unary_of}
use Rattle.sed_engine.specs.Fits.{form_of}
use Rattle.sed_engine.specs.Program.{shape_of}
use Rattle.sed_engine.specs.Expressions.{class_from}
use Rattle.sed_engine.proofs.Below.{Below, below_of, below_then, no}
use Rattle.sed_engine.proofs.FirstPaths.{shapes_of}
use Rattle.sed_engine.proofs.Ranges.{Sound, IsRight, wrapped, computed_is, flipped, low_byte, low_short, small_short, small_byte, long_of_int}

-- the form at a place, in a root call on a component of this class
abbrev pub form_from : Program → ℕ → Base → Path → Option FieldForm
form_from program class Component path = form_of (shapes_of program) (shapes_of program class) path
form_from program class Statics path = form_of (shapes_of program) (map shape_of program.statics) path

-- an object of a class or of one below it
pub record IsObject (program : Program) (class above : ℕ) (spot : Spot) : Type 0 where
  pub at : ℕ
  pub is : class_from program class spot.base spot.path ≡ Some at
  pub below : Below program.schema.classes above at

abbrev pub HasKind : Program → ℕ → Kind → Val → Type 0
HasKind program class kind.Void v = Unit {0}
HasKind program class kind.Bool (Truth t) = nat_le t 2 ≡ true
HasKind program class kind.Int (Int n) = is_signed w32 n ≡ true
HasKind program class kind.Long (Long n) = is_signed w64 n ≡ true
HasKind program class kind.Text Null = Unit {0}
HasKind program class kind.Text (Literal n) = n < length program.texts
HasKind program class kind.Text (At spot) = (n : ℕ) × (form_from program class spot.base spot.path ≡ Some (form.Str n))
HasKind program class (kind.Object d) Null = Unit {0}
HasKind program class (kind.Object d) (At spot) = IsObject program class d.0 spot
HasKind program class k v = ⊥

module _ (program : Program) (class : ℕ) where
  abbrev pub Has : Kind → Val → Type 0
  Has k v = HasKind program class k v

  -- a value of a kind goes to places of the kinds to which the kind goes
  pub goes : (from to : Kind) (v : Val) → GoesTo program from to → Has from v → Has to v
  goes (kind.Object c) (kind.Object d) Null g h = tt
  goes (kind.Object c) (kind.Object d) (At spot) g h = record { at = h.at; is = h.is; below = below_then (below_of program.schema.classes d.0 c.0 g) h.below }
  goes (kind.Object c) (kind.Object d) v g h = absurd h
  goes (kind.Object c) to v g h = subst (λ k. Has k v) g h
  goes from to v g h = subst (λ k. Has k v) g h

  -- ---- numbers, truth values and references

  pub whole_int : (v : Val) → Has kind.Int v → Sound (λ n. is_signed w32 n ≡ true) (whole width.Int v)
  whole_int (Int n) h = h
  whole_int v h = absurd h

  pub met_of : (v : Val) → Has kind.Bool v → Sound (λ b. Unit {0}) (is_met v)
  met_of (Truth t) h = tt
  met_of v h = absurd h

  pub truth_is : (b : Bool) → Has kind.Bool (truth b)
  truth_is true = refl
  truth_is false = refl

  -- a number of a width
  number_is : (w : Width) (n : ℤ) → is_signed (bits_of w) n ≡ true → Has (width_kind w) (number w n)
  number_is width.Int n h = h
  number_is width.Long n h = h

  numbers : (w : Width) (r : Result ℤ Stop) → Sound (λ n. is_signed (bits_of w) n ≡ true) r → Sound (Has (width_kind w)) (map_ok (number w) r)
  numbers w (Ok n) h = number_is w n h
  numbers w (Err (Traps t)) h = tt
  numbers w (Err Untyped) h = h

  -- a whole number of a width, and what follows of it
  of_width : {A : Type 0} (P : A → Type 0) (w : Width) (v : Val) (f : ℤ → Result A Stop) → Has (width_kind w) v → ((n : ℤ) → is_signed (bits_of w) n ≡ true → Sound P (f n)) → Sound P (and_then (whole w v) f)
  of_width P width.Int (Int n) f h k = k n h
  of_width P width.Int v f h k = absurd h
  of_width P width.Long (Long n) f h k = k n h
  of_width P width.Long v f h k = absurd h

  of_right : {A : Type 0} (P : A → Type 0) (op : Arithmetic) (w : Width) (v : Val) (f : ℤ → Result A Stop) → Has (right_kind op w) v → ((n : ℤ) → IsRight op (bits_of w) n → Sound P (f n)) → Sound P (and_then (whole (right_width op w) v) f)
  of_right P arithmetic.ShiftLeft w v f h k = of_width P width.Int v f h (λ n _. k n tt)
  of_right P arithmetic.ShiftRight w v f h k = of_width P width.Int v f h (λ n _. k n tt)
  of_right P arithmetic.Add w v f h k = of_width P w v f h k
  of_right P arithmetic.Subtract w v f h k = of_width P w v f h k
  of_right P arithmetic.Multiply w v f h k = of_width P w v f h k
  of_right P arithmetic.Divide w v f h k = of_width P w v f h k
  of_right P arithmetic.Remainder w v f h k = of_width P w v f h k
  of_right P arithmetic.BitAnd w v f h k = of_width P w v f h k
  of_right P arithmetic.BitOr w v f h k = of_width P w v f h k
  of_right P arithmetic.BitXor w v f h k = of_width P w v f h k

  pub arithmetic_is : (op : Arithmetic) (w : Width) (a b : Val) → Has (width_kind w) a → Has (right_kind op w) b → Sound (Has (width_kind w)) (arithmetic_of op w a b)
  arithmetic_is op w a b h k =
      of_width (Has (width_kind w)) w a _ h (λ x in_x. of_right (Has (width_kind w)) op w b _ k (λ y in_y. numbers w (computed op (bits_of w) x y) (computed_is op (bits_of w) x y in_x in_y)))

  reference_is : (k : Kind) (v : Val) → IsReference k → Has k v → is_reference v ≡ true
  reference_is kind.Text Null r h = refl
  reference_is kind.Text (At s) r h = refl
  reference_is kind.Text (Literal n) r h = refl
  reference_is (kind.Object d) Null r h = refl
  reference_is (kind.Object d) (At s) r h = refl
  reference_is kind.Text v r h = absurd h
  reference_is (kind.Object d) v r h = absurd h
  reference_is k v r h = absurd r

  compared_is : (f : Bool → Val) → ((b : Bool) → Has kind.Bool (f b)) → (j k : Kind) (a b : Val) → IsReference j → IsReference k → Has j a → Has k b → Sound (Has kind.Bool) (map_ok f (same_reference a b))
  compared_is f each j k a b r q h g = go (is_reference a) (is_reference b) (reference_is j a r h) (reference_is k b q g)
    where
      go : (x y : Bool) → x ≡ true → y ≡ true → Sound (Has kind.Bool) (map_ok f (if x && y then Ok (are_same a b) else Err Untyped))
      go true true d e = each (are_same a b)
      go true false d e = no e
      go false y d e = no d

  of_truth : {A : Type 0} (P : A → Type 0) (v : Val) (f : ℕ → Result A Stop) → Has kind.Bool v → ((n : ℕ) → Sound P (f n)) → Sound P (and_then (truth_of v) f)
  of_truth P (Truth t) f h k = k t
  of_truth P v f h k = absurd h

  pub binary_is : (op : Binary) (j k : Kind) (a b : Val) → AreOperands op j k → Has j a → Has k b → Sound (Has (binary_kind op)) (binary_of op a b)
  binary_is (binary.Arithmetic op w) j k a b o h g = arithmetic_is op w a b (subst (λ x. Has x a) o.0 h) (subst (λ x. Has x b) o.1 g)
  binary_is (binary.Compare op w) j k a b o h g =
      of_width (Has kind.Bool) w a _ (subst (λ x. Has x a) o.0 h) (λ x _. of_width (Has kind.Bool) w b _ (subst (λ x. Has x b) o.1 g) (λ y _. truth_is _))
  binary_is binary.SameTruth j k a b o h g =
      of_truth (Has kind.Bool) a _ (subst (λ x. Has x a) o.0 h) (λ x. of_truth (Has kind.Bool) b _ (subst (λ x. Has x b) o.1 g) (λ y. truth_is _))
  binary_is binary.OtherTruth j k a b o h g =
      of_truth (Has kind.Bool) a _ (subst (λ x. Has x a) o.0 h) (λ x. of_truth (Has kind.Bool) b _ (subst (λ x. Has x b) o.1 g) (λ y. truth_is _))
  binary_is binary.SameReference j k a b o h g = compared_is truth truth_is j k a b o.0 o.1 h g
  binary_is binary.OtherReference j k a b o h g = compared_is (λ same. truth (not same)) (λ x. truth_is (not x)) j k a b o.0 o.1 h g

  pub unary_is : (op : Unary) (v : Val) → Has (operand_kind op) v → Sound (Has (unary_kind op)) (unary_of op v)
  unary_is unary.Not (Truth t) h = truth_is _
  unary_is unary.Not v h = absurd h
  unary_is (unary.Negate width.Int) (Int n) h = wrapped w32 _
  unary_is (unary.Negate width.Int) v h = absurd h
  unary_is (unary.Negate width.Long) (Long n) h = wrapped w64 _
  unary_is (unary.Negate width.Long) v h = absurd h
  unary_is (unary.Flip width.Int) (Int n) h = flipped w32 n
  unary_is (unary.Flip width.Int) v h = absurd h
  unary_is (unary.Flip width.Long) (Long n) h = flipped w64 n
  unary_is (unary.Flip width.Long) v h = absurd h
  unary_is unary.ToLong (Int n) h = long_of_int n h
  unary_is unary.ToLong v h = absurd h
  unary_is unary.ToInt (Long n) h = wrapped w32 n
  unary_is unary.ToInt v h = absurd h
  unary_is (unary.LowByte width.Int) (Int n) h = small_byte _ (low_byte n)
  unary_is (unary.LowByte width.Int) v h = absurd h
  unary_is (unary.LowByte width.Long) (Long n) h = small_byte _ (low_byte n)
  unary_is (unary.LowByte width.Long) v h = absurd h
  unary_is (unary.LowShort width.Int) (Int n) h = small_short _ (low_short n)
  unary_is (unary.LowShort width.Int) v h = absurd h
  unary_is (unary.LowShort width.Long) (Long n) h = small_short _ (low_short n)
  unary_is (unary.LowShort width.Long) v h = absurd h

  pub truth_of_met : (v : Val) → Has kind.Bool v → Sound (Has kind.Bool) (map_ok truth (is_met v))
  truth_of_met (Truth t) h = truth_is _
  truth_of_met v h = absurd h

  -- ---- indexes

  within_is : (len i : ℕ) (b : Bool) → nat_lt i len ≡ b → Sound (λ j. nat_lt j len ≡ true) (if b then Ok i else Err (Traps OutOfRange))
  within_is len i true e = e
  within_is len i false e = tt

  pub index_is : (len : ℕ) (v : Val) → Has kind.Int v → Sound (λ j. nat_lt j len ≡ true) (index_of len v)
  index_is len (Int (pos i)) h = within_is len i (nat_lt i len) refl
  index_is len (Int (negsuc i)) h = tt
  index_is len v h = absurd h

  -- ---- what is kept

  pub read_is : (p : Primitive) (v : Value) → is_of_type (slot.Prim p) v ≡ true → Sound (Has (read_kind p)) (read_as v)
  read_is prim.Bool (kept.Bool t) h = h
  read_is prim.Byte (kept.Byte n) h = small_byte n h
  read_is prim.Short (kept.Short n) h = small_short n h
  read_is prim.Int (kept.Int n) h = h
  read_is prim.Long (kept.Long n) h = h
  read_is p v h = no h

  pub stored_is : (p : Primitive) (v : Val) → Has (read_kind p) v → Sound (λ x. is_of_type (slot.Prim p) x ≡ true) (stored_as p v)
  stored_is prim.Bool (Truth t) h = h
  stored_is prim.Byte (Int n) h = low_byte n
  stored_is prim.Short (Int n) h = low_short n
  stored_is prim.Int (Int n) h = h
  stored_is prim.Long (Long n) h = h
  stored_is prim.Bool v h = absurd h
  stored_is prim.Byte v h = absurd h
  stored_is prim.Short v h = absurd h
  stored_is prim.Int v h = absurd h
  stored_is prim.Long v h = absurd h

  -- ---- locals

  -- what a local of a kind holds: a value of the kind, or it is not begun
  abbrev pub Held : Kind → Val → Type 0
  Held k v = Has k (begun k v)

  pub zero_is : (k : Kind) → Has k (zero_of k)
  zero_is kind.Void = tt
  zero_is kind.Bool = refl
  zero_is kind.Int = refl
  zero_is kind.Long = refl
  zero_is kind.Text = tt
  zero_is (kind.Object d) = tt

  pub held : (k : Kind) (v : Val) → Has k v → Held k v
  held k Nothing h = zero_is k
  held k (Truth t) h = h
  held k (Int n) h = h
  held k (Long n) h = h
  held k Null h = h
  held k (At spot) h = h
  held k (Literal n) h = h
