-- What the instructions do that stand for operators, fields and places.
use Rattle.std.proofs.Common.{◌≡◌, ℕ, ℤ, List, ◌∷◌, Result, Ok, Err, refl, sym, ap, ◌∙◌}
use Rattle.sed_value.specs.declared.slot_type.Primitive.{Primitive}
use Rattle.sed_value.specs.declared.slot_type.Primitive.TheVariants as prim
use Rattle.sed_typed.specs.declared.operators.Arithmetic.{Arithmetic}
use Rattle.sed_typed.specs.declared.operators.Arithmetic.TheVariants as arithmetic
use Rattle.sed_typed.specs.declared.operators.Binary.{Binary}
use Rattle.sed_typed.specs.declared.operators.Binary.TheVariants as binary
use Rattle.sed_typed.specs.declared.operators.Comparison.{Comparison}
use Rattle.sed_typed.specs.declared.operators.Comparison.TheVariants as comparison
use Rattle.sed_typed.specs.declared.operators.Width.{Width}
use Rattle.sed_typed.specs.declared.operators.Width.TheVariants as width
use Rattle.sed_engine.specs.Places.{element_spot}
use Rattle.sed_engine.specs.State.{State, End, gives, after, then_do}
use Rattle.sed_engine.specs.Steps.{read_spot, write_spot}
use Rattle.sed_engine.specs.Stops.{Stop}
use Rattle.sed_engine.specs.Values.{Val, Truth, Int, Long, Spot}
use Rattle.scode_code.specs.Effect.{push, no_push, of_two, get, put, array_get, array_put, form_number, array_number}
use Rattle.scode_code.specs.Fields.{Setting, field_at}
use Rattle.scode_code.specs.Machine.{Onward, pushed}
use Rattle.scode_code.specs.Steps.{effect}
use Rattle.scode_emit.specs.Instructions.{arithmetic_op, comparison_op, binary_op, get_op, put_op, get_element_op, put_element_op}

-- ---- steps that follow one another

after_assoc : {A B C : Type 0} (r : Result A Stop) (t : State) (g : A → State → End B) (h : B → State → End C) →
    then_do (after r t g) h ≡ after r t (λ a s. then_do (g a s) h)
after_assoc (Ok v) t g h = refl
after_assoc (Err stop) t g h = refl

pub then_assoc : {A B C : Type 0} (e : End A) (g : A → State → End B) (h : B → State → End C) →
    then_do (then_do e g) h ≡ then_do e (λ a s. then_do (g a s) h)
then_assoc e g h = after_assoc e.result e.state g h

after_same : {A B : Type 0} (g h : A → State → End B) → ((a : A) (s : State) → g a s ≡ h a s) → (r : Result A Stop) (t : State) → after r t g ≡ after r t h
after_same g h same (Ok v) t = same v t
after_same g h same (Err stop) t = refl

pub then_same : {A B : Type 0} (e : End A) (g h : A → State → End B) → ((a : A) (s : State) → g a s ≡ h a s) → then_do e g ≡ then_do e h
then_same e g h same = after_same g h same e.result e.state

pub push_then : {A : Type 0} (rest : List Val) (e : End A) (g : A → State → End Val) → then_do e (λ a s. push rest (g a s)) ≡ push rest (then_do e g)
push_then rest e g = sym (then_assoc e g (λ v s. gives (Onward (pushed v rest)) s))

pub store_then : {A : Type 0} (rest : List Val) (e : End A) (g : A → State → End Val) → then_do e (λ a s. no_push rest (g a s)) ≡ no_push rest (then_do e g)
store_then rest e g = sym (then_assoc e g (λ v s. gives (Onward rest) s))

-- a value that a field of this type takes
abbrev pub IsFor : Primitive → Val → Type 0
IsFor prim.Bool (Truth t) = Unit {0}
IsFor prim.Byte (Int n) = Unit {0}
IsFor prim.Short (Int n) = Unit {0}
IsFor prim.Int (Int n) = Unit {0}
IsFor prim.Long (Long n) = Unit {0}
IsFor p v = ⊥

-- the element of an array in a field
abbrev pub element_of : ℕ → ℤ → (State → End Spot) → State → End Spot
element_of n i base s = then_do (base s) (λ array s1. element_spot n array (Int i) s1)

module _ (w : Setting) where
  -- ---- operators

  pub arithmetic_effect : (a : Arithmetic) (k : Width) (stack : List Val) (s : State) → effect w (arithmetic_op a k) stack s ≡ of_two (binary.Arithmetic a k) stack s
  arithmetic_effect arithmetic.Add width.Int stack s = refl
  arithmetic_effect arithmetic.Subtract width.Int stack s = refl
  arithmetic_effect arithmetic.Multiply width.Int stack s = refl
  arithmetic_effect arithmetic.Divide width.Int stack s = refl
  arithmetic_effect arithmetic.Remainder width.Int stack s = refl
  arithmetic_effect arithmetic.BitAnd width.Int stack s = refl
  arithmetic_effect arithmetic.BitOr width.Int stack s = refl
  arithmetic_effect arithmetic.BitXor width.Int stack s = refl
  arithmetic_effect arithmetic.ShiftLeft width.Int stack s = refl
  arithmetic_effect arithmetic.ShiftRight width.Int stack s = refl
  arithmetic_effect arithmetic.Add width.Long stack s = refl
  arithmetic_effect arithmetic.Subtract width.Long stack s = refl
  arithmetic_effect arithmetic.Multiply width.Long stack s = refl
  arithmetic_effect arithmetic.Divide width.Long stack s = refl
  arithmetic_effect arithmetic.Remainder width.Long stack s = refl
  arithmetic_effect arithmetic.BitAnd width.Long stack s = refl
  arithmetic_effect arithmetic.BitOr width.Long stack s = refl
  arithmetic_effect arithmetic.BitXor width.Long stack s = refl
  arithmetic_effect arithmetic.ShiftLeft width.Long stack s = refl
  arithmetic_effect arithmetic.ShiftRight width.Long stack s = refl

  comparison_effect : (c : Comparison) (k : Width) (stack : List Val) (s : State) → effect w (comparison_op c k) stack s ≡ of_two (binary.Compare c k) stack s
  comparison_effect comparison.Equal width.Int stack s = refl
  comparison_effect comparison.NotEqual width.Int stack s = refl
  comparison_effect comparison.Less width.Int stack s = refl
  comparison_effect comparison.LessOrEqual width.Int stack s = refl
  comparison_effect comparison.Greater width.Int stack s = refl
  comparison_effect comparison.GreaterOrEqual width.Int stack s = refl
  comparison_effect comparison.Equal width.Long stack s = refl
  comparison_effect comparison.NotEqual width.Long stack s = refl
  comparison_effect comparison.Less width.Long stack s = refl
  comparison_effect comparison.LessOrEqual width.Long stack s = refl
  comparison_effect comparison.Greater width.Long stack s = refl
  comparison_effect comparison.GreaterOrEqual width.Long stack s = refl

  pub binary_effect : (b : Binary) (stack : List Val) (s : State) → effect w (binary_op b) stack s ≡ of_two b stack s
  binary_effect (binary.Arithmetic a k) stack s = arithmetic_effect a k stack s
  binary_effect (binary.Compare c k) stack s = comparison_effect c k stack s
  binary_effect binary.SameTruth stack s = refl
  binary_effect binary.OtherTruth stack s = refl
  binary_effect binary.SameReference stack s = refl
  binary_effect binary.OtherReference stack s = refl

  -- ---- fields

  -- the field of this form, offset and n of an object is where the language finds it
  pub record IsField (o : Val) (form offset n : ℕ) (base : State → End Spot) : Type 0 where
    pub is : (s : State) → field_at w o form offset n s ≡ base s

  get_is : (p : Primitive) (offset : ℕ) (stack : List Val) (s : State) → effect w (get_op p offset) stack s ≡ get w p offset stack s
  get_is prim.Bool offset stack s = refl
  get_is prim.Byte offset stack s = refl
  get_is prim.Short offset stack s = refl
  get_is prim.Int offset stack s = refl
  get_is prim.Long offset stack s = refl

  put_is : (p : Primitive) (offset : ℕ) (stack : List Val) (s : State) → effect w (put_op p offset) stack s ≡ put w p offset stack s
  put_is prim.Bool offset stack s = refl
  put_is prim.Byte offset stack s = refl
  put_is prim.Short offset stack s = refl
  put_is prim.Int offset stack s = refl
  put_is prim.Long offset stack s = refl

  array_get_is : (p : Primitive) (offset n : ℕ) (stack : List Val) (s : State) → effect w (get_element_op p offset n) stack s ≡ array_get w p offset n stack s
  array_get_is prim.Bool offset n stack s = refl
  array_get_is prim.Byte offset n stack s = refl
  array_get_is prim.Short offset n stack s = refl
  array_get_is prim.Int offset n stack s = refl
  array_get_is prim.Long offset n stack s = refl

  array_put_is : (p : Primitive) (offset n : ℕ) (stack : List Val) (s : State) → effect w (put_element_op p offset n) stack s ≡ array_put w p offset n stack s
  array_put_is prim.Bool offset n stack s = refl
  array_put_is prim.Byte offset n stack s = refl
  array_put_is prim.Short offset n stack s = refl
  array_put_is prim.Int offset n stack s = refl
  array_put_is prim.Long offset n stack s = refl

  pub get_effect : (p : Primitive) (offset : ℕ) (o : Val) (base : State → End Spot) → IsField o (form_number p) offset 0 base → (rest : List Val) (s : State) →
      effect w (get_op p offset) (o ∷ rest) s ≡ push rest (then_do (base s) (λ spot s1. read_spot spot s1))
  get_effect p offset o base f rest s =
      get_is p offset (o ∷ rest) s ∙ ap (λ e. then_do e (λ spot s2. push rest (read_spot spot s2))) (f.is s) ∙ push_then rest (base s) (λ spot s1. read_spot spot s1)

  put_cell : (p : Primitive) (offset : ℕ) (o v : Val) (rest : List Val) (s : State) → IsFor p v →
      put w p offset (v ∷ o ∷ rest) s ≡ then_do (field_at w o (form_number p) offset 0 s) (λ spot s3. no_push rest (write_spot p spot v s3))
  put_cell prim.Bool offset o (Truth t) rest s h = refl
  put_cell prim.Byte offset o (Int n) rest s h = refl
  put_cell prim.Short offset o (Int n) rest s h = refl
  put_cell prim.Int offset o (Int n) rest s h = refl
  put_cell prim.Long offset o (Long n) rest s h = refl
  put_cell prim.Bool offset o v rest s h = absurd h
  put_cell prim.Byte offset o v rest s h = absurd h
  put_cell prim.Short offset o v rest s h = absurd h
  put_cell prim.Int offset o v rest s h = absurd h
  put_cell prim.Long offset o v rest s h = absurd h

  pub put_effect : (p : Primitive) (offset : ℕ) (o v : Val) (base : State → End Spot) → IsField o (form_number p) offset 0 base → IsFor p v → (rest : List Val) (s : State) →
      effect w (put_op p offset) (v ∷ o ∷ rest) s ≡ no_push rest (then_do (base s) (λ spot s1. write_spot p spot v s1))
  put_effect p offset o v base f h rest s =
      put_is p offset (v ∷ o ∷ rest) s ∙ put_cell p offset o v rest s h
      ∙ ap (λ e. then_do e (λ spot s3. no_push rest (write_spot p spot v s3))) (f.is s) ∙ store_then rest (base s) (λ spot s1. write_spot p spot v s1)

  pub array_get_effect : (p : Primitive) (offset n : ℕ) (o : Val) (i : ℤ) (base : State → End Spot) → IsField o (array_number p) offset n base → (rest : List Val) (s : State) →
      effect w (get_element_op p offset n) (Int i ∷ o ∷ rest) s ≡ push rest (then_do (element_of n i base s) (λ spot s1. read_spot spot s1))
  array_get_effect p offset n o i base f rest s =
      array_get_is p offset n (Int i ∷ o ∷ rest) s
      ∙ ap (λ e. then_do e (λ array s3. then_do (element_spot n array (Int i) s3) (λ spot s4. push rest (read_spot spot s4)))) (f.is s)
      ∙ sym (then_assoc (base s) (λ array s1. element_spot n array (Int i) s1) (λ spot s4. push rest (read_spot spot s4)))
      ∙ push_then rest (element_of n i base s) (λ spot s1. read_spot spot s1)

  array_put_cell : (p : Primitive) (offset n : ℕ) (o v : Val) (i : ℤ) (rest : List Val) (s : State) → IsFor p v →
      array_put w p offset n (v ∷ Int i ∷ o ∷ rest) s
      ≡ then_do (field_at w o (array_number p) offset n s) (λ array s4. then_do (element_spot n array (Int i) s4) (λ spot s5. no_push rest (write_spot p spot v s5)))
  array_put_cell prim.Bool offset n o (Truth t) i rest s h = refl
  array_put_cell prim.Byte offset n o (Int m) i rest s h = refl
  array_put_cell prim.Short offset n o (Int m) i rest s h = refl
  array_put_cell prim.Int offset n o (Int m) i rest s h = refl
  array_put_cell prim.Long offset n o (Long m) i rest s h = refl
  array_put_cell prim.Bool offset n o v i rest s h = absurd h
  array_put_cell prim.Byte offset n o v i rest s h = absurd h
  array_put_cell prim.Short offset n o v i rest s h = absurd h
  array_put_cell prim.Int offset n o v i rest s h = absurd h
  array_put_cell prim.Long offset n o v i rest s h = absurd h

  pub array_put_effect : (p : Primitive) (offset n : ℕ) (o v : Val) (i : ℤ) (base : State → End Spot) → IsField o (array_number p) offset n base → IsFor p v → (rest : List Val) (s : State) →
      effect w (put_element_op p offset n) (v ∷ Int i ∷ o ∷ rest) s ≡ no_push rest (then_do (element_of n i base s) (λ spot s1. write_spot p spot v s1))
  array_put_effect p offset n o v i base f h rest s =
      array_put_is p offset n (v ∷ Int i ∷ o ∷ rest) s ∙ array_put_cell p offset n o v i rest s h
      ∙ ap (λ e. then_do e (λ array s4. then_do (element_spot n array (Int i) s4) (λ spot s5. no_push rest (write_spot p spot v s5)))) (f.is s)
      ∙ sym (then_assoc (base s) (λ array s1. element_spot n array (Int i) s1) (λ spot s5. no_push rest (write_spot p spot v s5)))
      ∙ store_then rest (element_of n i base s) (λ spot s1. write_spot p spot v s1)
