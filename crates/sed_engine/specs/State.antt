-- The state of a call, and steps on it.
use Rattle.std.specs.Prelude.{ℕ, ℤ, List, Result, Ok, Err}
use Rattle.sed_typed.specs.Contents.{Contents}
use Rattle.sed_engine.specs.Stops.{Stop}
use Rattle.sed_engine.specs.Values.{Val}

-- what the frames of a root call share: the component's contents, the statics, the turns left, and the moment
pub record Shared : Type 0 where
  pub contents : Contents
  pub statics : Contents
  pub turns : ℕ
  pub moment : ℤ

-- what a step sees: what is shared, and the locals of the frame that is running
pub record State : Type 0 where
  pub shared : Shared
  pub locals : List Val

-- how a step ends, by a value or a stop, and the state then: what was written before a stop stands
pub record End (A : Type 0) : Type 0 where
  pub result : Result A Stop
  pub state : State

abbrev pub gives : {A : Type 0} → A → State → End A
gives v s = record { result = Ok v; state = s }

abbrev pub answers : {A : Type 0} → Result A Stop → State → End A
answers r s = record { result = r; state = s }

abbrev pub after : {A B : Type 0} → Result A Stop → State → (A → State → End B) → End B
after (Ok v) s next = next v s
after (Err stop) s next = record { result = Err stop; state = s }

-- first the one, then what follows from its value, in the state that it leaves; a stop ends both
abbrev pub then_do : {A B : Type 0} → End A → (A → State → End B) → End B
then_do e next = after e.result e.state next
