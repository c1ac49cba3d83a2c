-- What a call comes to that puts text into a sink.
use Rattle.std.specs.Prelude.{◌≡◌, List, ℕ, Result, OnOk, OnErr, IsErr}
use Rattle.sed_outside.specs.Cause.{HasCause}
use Rattle.sed_outside.specs.Sink.{PutsFront, with_text}
use Rattle.sed_outside.specs.declared.sink.Sink.{Ghosts}
use Rattle.sed_outside.specs.declared.sink.SinkFault.{SinkFault}

-- Done, the text stands behind what the sink had, where that is told; after a fault a front of it stands there. The
-- sink counts its fault, and counts nothing where there is none.
pub record Puts {O : Type 0} (g : Ghosts O) (before now : O) (text : List ℕ) (result : Result (Unit {0}) SinkFault)
    : Type 0 where
  pub done : OnOk result (g.text now ≡ with_text (g.text before) text)
  pub front : OnErr result (PutsFront (g.text before) (g.text now) text)
  pub cause : HasCause (g.faults before) (g.faults now) (IsErr result)
