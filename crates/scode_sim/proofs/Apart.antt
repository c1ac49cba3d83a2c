-- Steps that neither read nor write locals: they do the same in the frame of the source and in that of the machine.
use Rattle.std.proofs.Common.{◌≡◌, ℕ, ◌≤◌, Bool, true, false, if◌then◌else◌, List, Result, Ok, Err, refl, ap, ◌∙◌, arith}
use Rattle.sed_value.specs.declared.slot_type.Primitive.{Primitive}
use Rattle.sed_value.specs.declared.value.Value.{Value}
use Rattle.sed_value.specs.declared.value.Value.TheVariants as kept
use Rattle.sed_typed.specs.declared.operators.TextCall.{TextCall}
use Rattle.sed_typed.specs.declared.operators.TextCall.TheVariants as text
use Rattle.sed_typed.specs.declared.operators.Width.TheVariants as width
use Rattle.sed_engine.specs.Expressions.{text_bytes, changeable, operand, text_call, buf_bytes, buf_size, buf_byte}
use Rattle.sed_engine.specs.Places.{Target, OfLocal, OfStatic, OfField, OfElement, OfStaticElement, static_spot, field_spot, element_spot, field_element, fetch, put}
use Rattle.sed_engine.specs.State.{Shared, State, End, gives, answers, after, then_do}
use Rattle.sed_engine.specs.Steps.{inside, load, store, replace, written_at, read_spot, write_spot, read_bytes, write_bytes, read_moment}
use Rattle.sed_engine.specs.Stops.{Stop}
use Rattle.sed_engine.specs.Texts.{index_of, with_character}
use Rattle.sed_engine.specs.Values.{Val, Nothing, Int, At, Literal, Truth, Long, Null, Base, Component, Statics, Spot, spot_of, read_as, stored_as, bytes_of, is_alike, whole}

abbrev pub with_locals : {A : Type 0} → List Val → End A → End A
with_locals ms e = record { result = e.result; state = record { shared = e.state.shared; locals = ms } }

abbrev pub state : Shared → List Val → State
state shared locals = record { shared = shared; locals = locals }

-- whatever locals stand beside it, a step does the same to what is shared, and takes no turns from nothing
pub record Apart (A : Type 0) (f : State → End A) : Type 0 where
  pub alike : (shared : Shared) (vs ms : List Val) → f (state shared ms) ≡ with_locals ms (f (state shared vs))
  pub turns : (s : State) → (f s).state.shared.turns ≤ s.shared.turns

pub answers_apart : {A : Type 0} (r : Result A Stop) → Apart A (answers r)
answers_apart r = record { alike = λ shared vs ms. refl; turns = λ s. omega arith }

pub gives_apart : {A : Type 0} (v : A) → Apart A (gives v)
gives_apart v = record { alike = λ shared vs ms. refl; turns = λ s. omega arith }

after_alike : {A B : Type 0} (h : A → State → End B) → ((a : A) → Apart B (h a)) → (r : Result A Stop) (shared : Shared) (vs ms : List Val) →
    after r (state shared ms) h ≡ with_locals ms (after r (state shared vs) h)
after_alike h each (Ok v) shared vs ms = (each v).alike shared vs ms
after_alike h each (Err stop) shared vs ms = refl

after_turns : {A B : Type 0} (h : A → State → End B) → ((a : A) → Apart B (h a)) → (r : Result A Stop) (s : State) → (after r s h).state.shared.turns ≤ s.shared.turns
after_turns h each (Ok v) s = (each v).turns s
after_turns h each (Err stop) s = omega arith

-- the locals stay
pub stays : {A : Type 0} {f : State → End A} → Apart A f → (s : State) → (f s).state.locals ≡ s.locals
stays {f = f} a s = ap (λ e. e.state.locals) (a.alike s.shared s.locals s.locals)

pub apart_then : {A B : Type 0} {f : State → End A} {h : A → State → End B} → Apart A f → ((a : A) → Apart B (h a)) → Apart B (λ s. then_do (f s) h)
apart_then {f = f} {h = h} a each = record {
  alike = λ shared vs ms.
      let e = f (state shared vs) in
      let same = stays a (state shared vs) in
      ap (λ x. then_do x h) (a.alike shared vs ms)
      ∙ after_alike h each e.result e.state.shared e.state.locals ms;
  turns = λ s. let one = a.turns s in let two = after_turns h each (f s).result (f s).state in omega (arith, one, two);
}

pick : {A : Type 0} {f g : State → End A} (b : Bool) → Apart A f → Apart A g → Apart A (if b then f else g)
pick true a b = a
pick false a b = b

pub load_apart : (spot : Spot) → Apart Value (load spot)
load_apart spot = record { alike = λ shared vs ms. refl; turns = λ s. omega arith }

written_turns : (base : Base) (path : List ℕ) (v : Value) (s : Shared) → (written_at base path v s).turns ≡ s.turns
written_turns Component path v s = refl
written_turns Statics path v s = refl

pub replace_apart : (spot : Spot) (v : Value) → Apart (Unit {0}) (replace spot v)
replace_apart spot v = record { alike = λ shared vs ms. refl; turns = λ s. let e = written_turns spot.base spot.path v s.shared in omega (arith, e) }

pub store_apart : (spot : Spot) (v : Value) → Apart (Unit {0}) (store spot v)
store_apart spot v = apart_then (load_apart spot) (λ old. pick (is_alike old v) (replace_apart spot v) (answers_apart _))

pub read_apart : (spot : Spot) → Apart Val (read_spot spot)
read_apart spot = apart_then (load_apart spot) (λ v. answers_apart (read_as v))

pub write_apart : (p : Primitive) (spot : Spot) (v : Val) → Apart Val (write_spot p spot v)
write_apart p spot v = apart_then (answers_apart (stored_as p v)) (λ new. apart_then (store_apart spot new) (λ _. answers_apart (read_as new)))

pub read_bytes_apart : (spot : Spot) → Apart (List ℕ) (read_bytes spot)
read_bytes_apart spot = apart_then (load_apart spot) (λ v. answers_apart (bytes_of v))

pub write_bytes_apart : (spot : Spot) (bytes : List ℕ) → Apart Val (write_bytes spot bytes)
write_bytes_apart spot bytes = apart_then (store_apart spot (kept.Buf bytes)) (λ _. gives_apart Nothing)

pub field_apart : (v : Val) (i : ℕ) → Apart Spot (field_spot v i)
field_apart v i = apart_then (answers_apart (spot_of v)) (λ spot. gives_apart (inside spot i))

pub element_apart : (count : ℕ) (array : Spot) (index : Val) → Apart Spot (element_spot count array index)
element_apart count array index = apart_then (answers_apart (index_of count index)) (λ i. gives_apart (inside array i))

pub field_element_apart : (count : ℕ) (v : Val) (i : ℕ) (index : Val) → Apart Spot (field_element count v i index)
field_element_apart count v i index = apart_then (field_apart v i) (λ array. element_apart count array index)

pub moment_apart : Apart Val read_moment
moment_apart = record { alike = λ shared vs ms. refl; turns = λ s. omega arith }

pub buf_bytes_apart : (v : Val) (i : ℕ) → Apart (List ℕ) (buf_bytes v i)
buf_bytes_apart v i = apart_then (field_apart v i) read_bytes_apart

pub buf_size_apart : (v : Val) (i : ℕ) → Apart Val (buf_size v i)
buf_size_apart v i = apart_then (buf_bytes_apart v i) (λ bytes. gives_apart _)

pub buf_byte_apart : (v : Val) (i : ℕ) (index : Val) → Apart Val (buf_byte v i index)
buf_byte_apart v i index = apart_then (buf_bytes_apart v i) (λ bytes. apart_then (answers_apart _) (λ at. gives_apart _))

-- a target that is no local
abbrev pub IsFar : Target → Type 0
IsFar (OfLocal kind i) = ⊥
IsFar t = Unit {0}

pub fetch_apart : (t : Target) → IsFar t → Apart Val (fetch t)
fetch_apart (OfLocal kind i) far = absurd far
fetch_apart (OfStatic p i) far = read_apart (static_spot i)
fetch_apart (OfField p v i) far = apart_then (field_apart v i) read_apart
fetch_apart (OfElement p n v i index) far = apart_then (field_element_apart n v i index) read_apart
fetch_apart (OfStaticElement p n i index) far = apart_then (element_apart n (static_spot i) index) read_apart

pub put_apart : (t : Target) (v : Val) → IsFar t → Apart Val (put t v)
put_apart (OfLocal kind i) v far = absurd far
put_apart (OfStatic p i) v far = write_apart p (static_spot i) v
put_apart (OfField p o i) v far = apart_then (field_apart o i) (λ spot. write_apart p spot v)
put_apart (OfElement p n o i index) v far = apart_then (field_element_apart n o i index) (λ spot. write_apart p spot v)
put_apart (OfStaticElement p n i index) v far = apart_then (element_apart n (static_spot i) index) (λ spot. write_apart p spot v)

-- ---- Strs

pub text_bytes_apart : (texts : List (List ℕ)) (v : Val) → Apart (List ℕ) (text_bytes texts v)
text_bytes_apart texts Nothing = apart_then (answers_apart (spot_of Nothing)) read_bytes_apart
text_bytes_apart texts (Truth t) = apart_then (answers_apart (spot_of (Truth t))) read_bytes_apart
text_bytes_apart texts (Int n) = apart_then (answers_apart (spot_of (Int n))) read_bytes_apart
text_bytes_apart texts (Long n) = apart_then (answers_apart (spot_of (Long n))) read_bytes_apart
text_bytes_apart texts Null = apart_then (answers_apart (spot_of Null)) read_bytes_apart
text_bytes_apart texts (At spot) = apart_then (answers_apart (spot_of (At spot))) read_bytes_apart
text_bytes_apart texts (Literal n) = answers_apart _

pub text_apart : (texts : List (List ℕ)) (op : TextCall) (v : Val) (args : List Val) → Apart Val (text_call texts op v args)
text_apart texts text.Length v args = apart_then (text_bytes_apart texts v) (λ bytes. gives_apart _)
text_apart texts text.Get v args = apart_then (text_bytes_apart texts v) (λ bytes. apart_then (answers_apart _) (λ i. gives_apart _))
text_apart texts text.Set v args =
    apart_then (answers_apart (changeable v)) (λ spot. apart_then (read_bytes_apart spot) (λ bytes. apart_then {A = ℕ} (answers_apart _) (λ i. apart_then (answers_apart (whole width.Int (operand args 1))) (λ n. write_bytes_apart spot (with_character bytes i n)))))
text_apart texts text.Equals v args =
    apart_then (text_bytes_apart texts v) (λ a. apart_then (text_bytes_apart texts (operand args 0)) (λ b. gives_apart _))
text_apart texts text.Copy v args =
    apart_then (text_bytes_apart texts v) (λ old. apart_then (text_bytes_apart texts (operand args 0)) (λ new. apart_then (answers_apart (changeable v)) (λ spot. write_bytes_apart spot _)))
