-- What contracts see of a sink over a writer.
use Rattle.std.specs.Prelude.{ℕ, List, Option, None}
use Rattle.sed_outside.specs.declared.out_sink.OutSink.{OutSink}

-- The writer under it.
abbrev pub writer_of : {W : Type 0} → OutSink W → W
writer_of sink = sink.out

-- It tells nothing of what was put.
abbrev pub text_of : {W : Type 0} → OutSink W → Option (List ℕ)
text_of sink = None

-- How many puts failed.
abbrev pub faults_of : {W : Type 0} → OutSink W → ℕ
faults_of sink = sink.faults
