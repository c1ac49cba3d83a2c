-- What contracts see of a sink that collects its text.
use Rattle.std.specs.Prelude.{ℕ, List}
use Rattle.printed_app.specs.declared.collected.Collected.{Collected}

-- What was put.
abbrev pub text_of : Collected → List ℕ
text_of sink = sink.bytes.items

-- How many puts failed.
abbrev pub faults_of : Collected → ℕ
faults_of sink = sink.faults
