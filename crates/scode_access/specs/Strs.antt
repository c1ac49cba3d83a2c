-- What calls on Strs and texts come to: the bytes that a reference reads as, and what they answer.
use Rattle.std.specs.Prelude.{ℕ, ℤ, ◌≡◌, List, Result}
use Rattle.sed_typed.specs.declared.operators.TextCall.{TextCall}
use Rattle.sed_engine.specs.declared.call.Place.{Place}
use Rattle.sed_engine.specs.declared.trap.Trap.{Trap}
use Rattle.sed_engine.specs.Expressions.{text_bytes}
use Rattle.sed_engine.specs.State.{State, End, answers}
use Rattle.sed_engine.specs.Stops.{Stop, and_then, map_ok, there}
use Rattle.sed_engine.specs.Texts.{literal_bytes}
use Rattle.sed_engine.specs.Values.{Val}
use Rattle.scode_image.specs.declared.image.Image.{Image}
use Rattle.scode_code.specs.Calls.{text_call}
use Rattle.scode_code.specs.Fields.{Setting}
use Rattle.scode_mem.specs.Blocks.{Held}
use Rattle.scode_cells.specs.declared.cell.Cell.{Cell}
use Rattle.scode_cells.specs.declared.cell.Cell.TheVariants as cell
use Rattle.scode_state.specs.Cells.{plain_of}
use Rattle.scode_vm.specs.Seen.{shared_seen, val_of, vals}
use Rattle.scode_vm.specs.Doings.{EndsTyped, as_stop}
use Rattle.scode_access.specs.Within.{IsGround, setting}

-- ---- what is asked of a state

abbrev pub state_in : Image → ℕ → Place → Held → ℕ → ℤ → List Val → State
state_in image class place h turns moment locals =
    record { shared = shared_seen (setting image class) place h turns moment; locals = locals }

abbrev pub Asked : Type 0 → Type 0
Asked A = Setting → Place → State → End A

-- in some root call on this image, with these blocks, it comes to a value or a trap
pub record MayAsk (A : Type 0) (f : Asked A) (image : Image) (h : Held) : Type 0 where
  pub class : ℕ
  pub place : Place
  pub turns : ℕ
  pub moment : ℤ
  pub locals : List Val
  pub ground : IsGround (setting image class) place h
  pub typed : EndsTyped (f (setting image class) place (state_in image class place h turns moment locals)).result

-- in each in which it does, it comes to this and leaves the state as it was
abbrev pub ComesTo : (A : Type 0) → Asked A → Image → Held → Result A Stop → Type 0
ComesTo A f image h r = (class : ℕ) (place : Place) (turns : ℕ) (moment : ℤ) (locals : List Val)
    → IsGround (setting image class) place h
    → EndsTyped (f (setting image class) place (state_in image class place h turns moment locals)).result
    → f (setting image class) place (state_in image class place h turns moment locals)
    ≡ answers r (state_in image class place h turns moment locals)

-- ---- the bytes of what a cell refers to

-- a text reads as a Str of its characters and a 0
abbrev pub as_text : Cell → List ℕ → List ℕ
as_text (cell.Text n) text = literal_bytes text
as_text c text = text

abbrev pub reading : Cell → Asked (List ℕ)
reading v = λ w place s. text_bytes w.image.texts (val_of w place v) s

abbrev pub MayRead : Image → Cell → Held → Type 0
MayRead image v h = MayAsk (List ℕ) (reading v) image h

abbrev pub Reads : Image → Cell → Held → Result (List ℕ) Trap → Type 0
Reads image v h result = ComesTo (List ℕ) (reading v) image h (map_ok (as_text v) (as_stop result))

-- ---- the answer of a call on it, which is no reference to a block

abbrev pub calling : TextCall → Cell → List Cell → Asked Val
calling which v args = λ w place s. text_call w which (val_of w place v) (vals w place args) s

abbrev pub answer_of : Result Cell Trap → Result Val Stop
answer_of result = and_then (as_stop result) (λ c. there (plain_of c))

abbrev pub MayCall : TextCall → Cell → List Cell → Image → Held → Type 0
MayCall which v args image h = MayAsk Val (calling which v args) image h

abbrev pub Calls : TextCall → Cell → List Cell → Image → Held → Result Cell Trap → Type 0
Calls which v args image h result = ComesTo Val (calling which v args) image h (answer_of result)
