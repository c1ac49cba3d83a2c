-- What a put that may fail did.
use Rattle.std.proofs.Common.{◌≡◌, ℕ, List, length, Option, Result, Ok, Err, OnOk, OnErr, IsErr, refl, sym, ap, ◌∙◌}
use Rattle.std.proofs.Math.Seq.{take-length}
use Rattle.sed_outside.specs.declared.sink.SinkFault.{SinkFault}
use Rattle.sed_outside.specs.Cause.{HasCause, Rose}
use Rattle.sed_outside.specs.Sink.{with_text, PutsFront}
use Rattle.sedona_cli.specs.Puts.{Puts}

-- a whole text is a front of itself
pub whole_front : (before after : Option (List ℕ)) (text : List ℕ) → after ≡ with_text before text → PutsFront before after text
whole_front before after text whole = (length text, whole ∙ ap (with_text before) (sym (take-length text)))

pub puts : (before after : Option (List ℕ)) (faults_before faults_after : ℕ) (text : List ℕ) (r : Result (Unit {0}) SinkFault)
    → OnOk r (after ≡ with_text before text) → OnErr r (PutsFront before after text) → HasCause faults_before faults_after (IsErr r)
    → Puts before after faults_before faults_after text
puts before after fb fa text (Ok u) ok err cause = record { front = whole_front before after text ok; whole = λ steady. ok }
puts before after fb fa text (Err e) ok err cause = record { front = err; whole = λ steady. absurd (steady (cause.failed refl)) }

-- what a put that was done did to the sink's count, and one that failed
pub put_steady : (faults_before faults_after : ℕ) (r : Result (Unit {0}) SinkFault) (u : Unit {0}) → r ≡ Ok u → HasCause faults_before faults_after (IsErr r) → faults_after ≡ faults_before
put_steady fb fa (Ok v) u is cause = cause.steady (λ (failed : IsErr {T = Unit {0}} {E = SinkFault} (Ok v)). cc)
put_steady fb fa (Err e) u is cause = absurd (cc)

pub put_rose : (faults_before faults_after : ℕ) (r : Result (Unit {0}) SinkFault) (e : SinkFault) → r ≡ Err e → HasCause faults_before faults_after (IsErr r) → Rose faults_before faults_after
put_rose fb fa (Ok v) e is cause = absurd (cc)
put_rose fb fa (Err f) e is cause = cause.failed refl
