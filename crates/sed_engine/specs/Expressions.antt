-- What expressions mean.
use Rattle.std.specs.Prelude.{ℕ, ◌+◌, ◌-◌, pos, true, false, List, [], ◌∷◌, length, replicate, slice_get, slice_index}
use Rattle.std.specs.Prelude.{slice_index_or, slice_set, Option, Result, Err}
use Rattle.std.specs.Option.{option_and_then}
use Rattle.std.specs.Str.{bytes_eq}
use Rattle.sed_typed.specs.declared.kind.Kind.{Kind}
use Rattle.sed_typed.specs.declared.kind.Kind.TheVariants as kind
use Rattle.sed_typed.specs.declared.operators.TextCall.{TextCall as TextCall-type}
use Rattle.sed_typed.specs.declared.operators.TextCall.TheVariants as text
use Rattle.sed_typed.specs.declared.operators.Width.TheVariants as width
use Rattle.sed_typed.specs.declared.program.Program.{Program}
use Rattle.sed_typed.specs.declared.tree.Place.{Place}
use Rattle.sed_typed.specs.declared.tree.Place.TheVariants as place
use Rattle.sed_typed.specs.declared.tree.Expr.{Expr, Row_of-Expr, end_of-Expr, more_of-Expr, Row_of-Link, end_of-Link}
use Rattle.sed_typed.specs.declared.tree.Expr.{more_of-Link}
use Rattle.sed_typed.specs.declared.tree.Expr.TheVariants as expr
use Rattle.sed_typed.specs.declared.tree.Link.{Link}
use Rattle.sed_typed.specs.declared.tree.Link.TheVariants as link
use Rattle.sed_typed.specs.Classes.{find}
use Rattle.sed_typed.specs.Objects.{class_at, static_class_at}
use Rattle.sed_engine.specs.declared.trap.Trap.TheVariants.{OutOfRange}
use Rattle.sed_engine.specs.Stops.{Stop, Traps, Untyped, there, map_ok}
use Rattle.sed_engine.specs.Values.{Val, Nothing, Truth, Int, Long, Null, At, Literal, Base, Component, Statics, Spot}
use Rattle.sed_engine.specs.Values.{whole, truth, is_met, spot_of}
use Rattle.sed_engine.specs.Operators.{arithmetic_of, binary_of, unary_of, given}
use Rattle.sed_engine.specs.State.{Shared, State, End, gives, answers, then_do}
use Rattle.sed_engine.specs.Steps.{choose, read_spot, read_bytes, write_bytes, with_local, read_local, read_this}
use Rattle.sed_engine.specs.Steps.{read_moment, take_turn}
use Rattle.sed_engine.specs.Places.{Target, OfLocal, OfStatic, OfField, OfElement, OfStaticElement, static_spot}
use Rattle.sed_engine.specs.Places.{field_spot, element_spot, field_element, fetch, put}
use Rattle.sed_engine.specs.Texts.{index_of, characters, literal_bytes, with_character, filled}

-- what a call comes to
pub record Called : Type 0 where
  pub result : Result Val Stop
  pub shared : Shared

-- of a method by its number, from the locals of its frame
abbrev pub Calls : Type 0
Calls = ℕ → List Val → Shared → Called

-- what an evaluation stands in: the program, the class of the component, and what calls come to
pub record Setting : Type 0 where
  pub program : Program
  pub class : ℕ
  pub calls : Calls

-- the operands from left to right, each put into the next local of a frame
abbrev pub put_all : ℕ → List (State → End Val) → List Val → State → End (List Val)
put_all i [] frame s = gives frame s
put_all i (e ∷ es) frame s =
    then_do (e s) (λ v s1. then_do (answers (with_local frame i v) s1) (λ more s2. put_all (i + 1) es more s2))

-- room for a receiver and 64 locals
abbrev pub new_frame : List Val
new_frame = replicate 65 Nothing

abbrev pub frame_of : Val → List Val
frame_of receiver = slice_set new_frame 0 receiver

abbrev pub back : Called → List Val → End Val
back c locals = record { result = c.result; state = record { shared = c.shared; locals = locals } }

-- takes a turn, and then runs the method; the frames are counted by the calls
abbrev pub call : Setting → ℕ → List Val → State → End Val
call w method frame s = then_do (take_turn s) (λ _ s1. back (w.calls method frame s1.shared) s1.locals)

-- of a static method
abbrev pub call_static : Setting → ℕ → List (State → End Val) → State → End Val
call_static w method args s = then_do (put_all 0 args new_frame s) (λ frame s1. call w method frame s1)

-- of the method that is named, on the receiver of the frame
abbrev pub call_super : Setting → ℕ → List (State → End Val) → State → End Val
call_super w method args s =
    then_do (read_this s) (λ this s1. then_do (put_all 1 args (frame_of this) s1) (λ frame s2. call w method frame s2))

-- the class of the object at a place, in a root call on a component of this class
abbrev pub class_from : Program → ℕ → Base → List ℕ → Option ℕ
class_from program class Component path = class_at program path class
class_from program class Statics path = static_class_at program path

abbrev pub class_of : Setting → Spot → Option ℕ
class_of w spot = class_from w.program w.class spot.base spot.path

-- an inline object or Str, which stands at the place
abbrev pub part_at : Setting → Kind → Spot → State → End Val
part_at w kind.Text spot s = then_do (read_bytes spot s) (λ _ s1. gives (At spot) s1)
part_at w (kind.Object class) spot s = then_do (answers (there (class_of w spot)) s) (λ _ s1. gives (At spot) s1)
part_at w k spot s = answers (Err Untyped) s

-- the method of this name that is nearest at or above the class of the object
abbrev pub method_for : Setting → Spot → ℕ → Result ℕ Stop
method_for w spot method =
    there (option_and_then (λ class.
    option_and_then (λ m. find w.program class m.name) (slice_get w.program.methods method)) (class_of w spot))

-- the arguments, then the test for null, then the turn
abbrev pub invoke : Setting → Val → ℕ → List (State → End Val) → State → End Val
invoke w receiver method args s =
    then_do (put_all 1 args (frame_of receiver) s) (λ frame s1.
    then_do (answers (spot_of receiver) s1) (λ spot s2.
    then_do (answers (method_for w spot method) s2) (λ m s3. call w m frame s3)))

-- the bytes of a Str, or of one of these text literals as a Str; null traps
abbrev pub text_bytes : List (List ℕ) → Val → State → End (List ℕ)
text_bytes texts (Literal n) s = answers (map_ok literal_bytes (there (slice_get texts n))) s
text_bytes texts v s = then_do (answers (spot_of v) s) (λ spot s1. read_bytes spot s1)

-- a Str that may be changed, which a text literal is not
abbrev pub changeable : Val → Result Spot Stop
changeable (Literal n) = Err (Traps OutOfRange)
changeable v = spot_of v

abbrev pub operand : List Val → ℕ → Val
operand args i = slice_index_or args i Nothing

abbrev pub text_call : List (List ℕ) → TextCall-type → Val → List Val → State → End Val
text_call texts text.Length v args s =
    then_do (text_bytes texts v s) (λ bytes s1. gives (Int (pos (length (characters bytes)))) s1)
text_call texts text.Get v args s =
    then_do (text_bytes texts v s) (λ bytes s1.
    then_do (answers (index_of (length bytes) (operand args 0)) s1)
    (λ i s2. gives (Int (pos (slice_index bytes i))) s2))
text_call texts text.Set v args s =
    then_do (answers (changeable v) s) (λ spot s1.
    then_do (read_bytes spot s1) (λ bytes s2.
    then_do (answers (index_of (length bytes - 1) (operand args 0)) s2)
    (λ i s3. then_do (answers (whole width.Int (operand args 1)) s3)
    (λ c s4. write_bytes spot (with_character bytes i c) s4))))
text_call texts text.Equals v args s =
    then_do (text_bytes texts v s) (λ a s1.
    then_do (text_bytes texts (operand args 0) s1) (λ b s2.
    gives (truth (bytes_eq (characters a) (characters b))) s2))
text_call texts text.Copy v args s =
    then_do (text_bytes texts v s) (λ old s1.
    then_do (text_bytes texts (operand args 0) s1) (λ new s2.
    then_do (answers (changeable v) s2) (λ spot s3. write_bytes spot (filled (length old) (characters new)) s3)))

-- `size` and `bytes[i]` of the Buf in a field of an object: null is tested, then the index
abbrev pub buf_bytes : Val → ℕ → State → End (List ℕ)
buf_bytes object i s = then_do (field_spot object i s) (λ spot s1. read_bytes spot s1)

abbrev pub buf_size : Val → ℕ → State → End Val
buf_size object i s = then_do (buf_bytes object i s) (λ bytes s1. gives (Int (pos (length bytes))) s1)

abbrev pub buf_byte : Val → ℕ → Val → State → End Val
buf_byte object i index s =
    then_do (buf_bytes object i s) (λ bytes s1.
    then_do (answers (index_of (length bytes) index) s1) (λ at s2. gives (Int (pos (slice_index bytes at))) s2))

-- what follows an operand, one link after the other
abbrev pub in_chain : List (Val → State → End Val) → Val → State → End Val
in_chain [] v s = gives v s
in_chain (l ∷ ls) v s = then_do (l v s) (λ x s1. in_chain ls x s1)

abbrev mutual
  pub eval : Setting → Expr → State → End Val
  eval w (expr.Int n) s = gives (Int n) s
  eval w (expr.Long n) s = gives (Long n) s
  eval w (expr.Bool t) s = gives (Truth t) s
  eval w (expr.Null kind) s = gives Null s
  eval w (expr.Text n) s = gives (Literal n) s
  eval w (expr.This class) s = read_this s
  eval w (expr.Local kind i) s = read_local kind i s
  eval w (expr.Static p i) s = read_spot (static_spot i) s
  eval w (expr.StaticPart kind i) s = part_at w kind (static_spot i) s
  eval w (expr.StaticElement' p count i q e) s =
      then_do (eval w e s) (λ index s1.
      then_do (element_spot count (static_spot i) index s1) (λ spot s2. read_spot spot s2))
  eval w expr.Ticks s = read_moment s
  eval w (expr.Unary' op p e) s = then_do (eval w e s) (λ v s1. answers (unary_of op v) s1)
  eval w (expr.Choose' p c q a r b) s = then_do (eval w c s) (λ v s1. choose v (eval w a) (eval w b) s1)
  eval w (expr.Set' place p e) s =
      then_do (locate w place s) (λ target s1. then_do (eval w e s1) (λ v s2. put target v s2))
  eval w (expr.Update' u place p e) s =
      then_do (locate w place s) (λ target s1.
      then_do (fetch target s1) (λ old s2.
      then_do (eval w e s2) (λ x s3. then_do (answers (arithmetic_of u.arithmetic u.width old x) s3)
      (λ v s4. then_do (put target v s4) (λ new s5. gives (given u.gives old new) s5)))))
  eval w (expr.Call' kind m shape args) s = call_static w m (evals w args) s
  eval w (expr.Super' kind m shape args) s = call_super w m (evals w args) s
  eval w (expr.Chain' p e shape links) s = then_do (eval w e s) (λ v s1. in_chain (meanings w links) v s1)

  -- the object, then the index
  pub locate : Setting → Place → State → End Target
  locate w (place.Local kind i) s = gives (OfLocal kind i) s
  locate w (place.Static p i) s = gives (OfStatic p i) s
  locate w (place.Field' p q e i) s = then_do (eval w e s) (λ object s1. gives (OfField p object i) s1)
  locate w (place.Element' p count q e f r i) s =
      then_do (eval w e s) (λ object s1.
      then_do (eval w i s1) (λ index s2. gives (OfElement p count object f index) s2))
  locate w (place.StaticElement' p count i q e) s =
      then_do (eval w e s) (λ index s1. gives (OfStaticElement p count i index) s1)

  -- what is done with the value on the left
  pub meaning : Setting → Link → Val → State → End Val
  meaning w (link.Binary op e) v s = then_do (eval w e s) (λ x s1. answers (binary_of op v x) s1)
  meaning w (link.And e) v s =
      choose v (λ s1. then_do (eval w e s1) (λ x s2. answers (map_ok truth (is_met x)) s2)) (gives (truth false)) s
  meaning w (link.Or e) v s =
      choose v (gives (truth true)) (λ s1. then_do (eval w e s1) (λ x s2. answers (map_ok truth (is_met x)) s2)) s
  meaning w (link.Field p i) v s = then_do (field_spot v i s) (λ spot s1. read_spot spot s1)
  meaning w (link.Part kind i) v s = then_do (field_spot v i s) (λ spot s1. part_at w kind spot s1)
  meaning w (link.Element p count i e) v s =
      then_do (eval w e s) (λ index s1. then_do (field_element count v i index s1) (λ spot s2. read_spot spot s2))
  meaning w (link.Size i) v s = buf_size v i s
  meaning w (link.Byte i e) v s = then_do (eval w e s) (λ index s1. buf_byte v i index s1)
  meaning w (link.Invoke' kind m shape args) v s = invoke w v m (evals w args) s
  meaning w (link.TextCall' op shape args) v s =
      then_do (put_all 0 (evals w args) (replicate 2 Nothing) s) (λ xs s1. text_call w.program.texts op v xs s1)
  meaning w (link.After e) v s = eval w e s

  pub evals : {n : _} → Setting → Row_of-Expr n → List (State → End Val)
  evals w end_of-Expr = []
  evals w (more_of-Expr e es) = eval w e ∷ evals w es

  pub meanings : {n : _} → Setting → Row_of-Link n → List (Val → State → End Val)
  meanings w end_of-Link = []
  meanings w (more_of-Link l ls) = meaning w l ∷ meanings w ls
